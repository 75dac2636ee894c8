use Rattle.std.proofs.Common.{◌≡◌, ℕ, List, refl, ap, ◌∙◌}
use Rattle.pyr_bundletext.specs.declared.keyword.Keyword.{Keyword}
use Rattle.pyr_bundletext.specs.declared.keyword.Keyword.TheVariants.{Pyrros, Processors, Task, Reads, Writes, Push, Load, Store, Frame, Get, Put, Bin, Sel, Loop, Done, End, Print, Channel, Processor, Recv, Exec, Send, Stop}
use Rattle.pyr_bundletext.specs.Reading.{with_numbers, line_with}
use Rattle.pyr_bundletext.proofs.line_reading.line_with.Goals as goal

-- a keyword of which any number of numbers may follow is one of two
counted : (k : Keyword) (ns : List ℕ) → (k ≡ Reads → ⊥) → (k ≡ Writes → ⊥) → with_numbers k ns ≡ line_with k ns
counted Pyrros ns reads writes = refl
counted Processors ns reads writes = refl
counted Task ns reads writes = refl
counted Reads ns reads writes = absurd (reads refl)
counted Writes ns reads writes = absurd (writes refl)
counted Push ns reads writes = refl
counted Load ns reads writes = refl
counted Store ns reads writes = refl
counted Frame ns reads writes = refl
counted Get ns reads writes = refl
counted Put ns reads writes = refl
counted (Bin operator) ns reads writes = refl
counted Sel ns reads writes = refl
counted Loop ns reads writes = refl
counted Done ns reads writes = refl
counted End ns reads writes = refl
counted Print ns reads writes = refl
counted Channel ns reads writes = refl
counted Processor ns reads writes = refl
counted Recv ns reads writes = refl
counted Exec ns reads writes = refl
counted Send ns reads writes = refl
counted Stop ns reads writes = refl

pub returns-in_default : goal.returns-in_default
returns-in_default c =
    c.with_numbers.ensures ∙ ap (with_numbers c.args.keyword) c.as_slice.ensures
    ∙ counted c.args.keyword c.args.numbers c.in_default.not-Reads c.in_default.not-Writes

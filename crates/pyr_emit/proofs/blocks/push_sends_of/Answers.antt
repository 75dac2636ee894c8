use Rattle.std.proofs.Common.{ℕ, ◌&&◌, ◌∷◌, ◌++◌, Bool, not, List, [], sym, ap, ◌∙◌}
use Rattle.std.specs.Prelude.{nat_eq}
use Rattle.std.proofs.lemmas.List.{get_or_read}
use Rattle.pyr_bundle.specs.declared.raw_instr.RawInstr.{RawInstr}
use Rattle.pyr_bundle.specs.declared.raw_instr.RawInstr.TheVariants.{Send}
use Rattle.pyr_emit.specs.Marks.{is_marked, marks_of}
use Rattle.pyr_emit.proofs.Ranges.{made_yes, made_no}
use Rattle.pyr_emit.proofs.blocks.push_sends_of.Goals as goal
use Rattle.pyr_emit.proofs.blocks.push_sends_of.Goals.{then-is_destination+in_ok-push, else-is_destination}

abbrev sent : ℕ → ℕ → RawInstr
sent d q = Send q d

abbrev goes_to : List (List Bool) → ℕ → ℕ → ℕ → Bool
goes_to readers home d q = not (nat_eq q home) && is_marked (marks_of readers q) d

pub loop-to-preserved : goal.loop-to-preserved
loop-to-preserved c =
    let home : ℕ = c.args.home in
    let d : ℕ = c.args.datum in
    let row = get_or_read c.args.readers.now c.loop-to.to c.index-readers-to.result c.loop-to-test.true c.index-readers-to.is [] in
    let test = c.is_destination.ensures ∙ ap (λ (marks : List Bool). not (nat_eq c.loop-to.to home) && is_marked marks d) row in
    elim c.if-is_destination.branch [
      | then-is_destination+in_ok-push w ↦ made_yes (sent d) (goes_to c.args.readers.now home d) c.loop-to.to c.if-is_destination.code.items c.loop-to.code.items c.args.code.now.items
          (sym test ∙ w.if-is_destination.true) c.loop-to.invariant (rw w.code-is (w.in_ok-push.ensures.items ∙ ap (λ n. c.loop-to.code.items ++ Send c.loop-to.to n ∷ []) w.from.ensures))
      | else-is_destination w ↦ rw w.code-is (made_no (sent d) (goes_to c.args.readers.now home d) c.loop-to.to c.loop-to.code.items c.args.code.now.items
          (sym test ∙ w.if-is_destination.false) c.loop-to.invariant)
    ]

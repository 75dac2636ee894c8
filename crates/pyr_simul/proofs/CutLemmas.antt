-- An input cut at its first line `durations`.
use Rattle.std.proofs.Common.{◌≡◌, ℕ, ◌+◌, ◌-◌, ◌≤◌, ◌<◌, true, false, List, [], ◌∷◌, length, take, drop, arith, refl, sym, ap, ◌∙◌, length-drop}
use Rattle.std.specs.Prelude.{bytes_eq, codes}
use Rattle.std.proofs.lemmas.List.{take_all, drop_all, drop-drop}
use Rattle.std.proofs.lemmas.Slice.Eq.{bytes_eq-Decides}
use Rattle.pyr_graphtext.specs.Lines.{lines}
use Rattle.pyr_simul.specs.Input.{bytes_before, lines_before, graph_text, later_text, later_line}

-- the lines before what is left are no lines `durations`
pub record HasPassed (input : List ℕ) (number : ℕ) (rest : List ℕ) : Type 0 where
  pub taken : ℕ
  pub left : rest ≡ drop taken input
  pub bytes : bytes_before (lines input) ≡ taken + bytes_before (lines rest)
  pub count : lines_before (lines input) + 1 ≡ number + lines_before (lines rest)
  pub within : number + length rest ≤ length input + 1

pub HasPassed-start : (input : List ℕ) → HasPassed input 1 input
HasPassed-start input = record {
  taken = 0;
  left = refl;
  bytes = omega arith;
  count = omega arith;
  within = omega arith;
}

bytes_pass : (l : List ℕ) (ls : List (List ℕ)) → bytes_eq l (codes "durations") ≡ false → bytes_before (l ∷ ls) ≡ length l + 1 + bytes_before ls
unfolding bytes_before
bytes_pass l ls other = rw other refl

lines_pass : (l : List ℕ) (ls : List (List ℕ)) → bytes_eq l (codes "durations") ≡ false → lines_before (l ∷ ls) ≡ lines_before ls + 1
unfolding lines_before
lines_pass l ls other = rw other refl

bytes_stop : (l : List ℕ) (ls : List (List ℕ)) → bytes_eq l (codes "durations") ≡ true → bytes_before (l ∷ ls) ≡ 0
unfolding bytes_before
bytes_stop l ls here = rw here refl

lines_stop : (l : List ℕ) (ls : List (List ℕ)) → bytes_eq l (codes "durations") ≡ true → lines_before (l ∷ ls) ≡ 0
unfolding lines_before
lines_stop l ls here = rw here refl

bytes_end : (rest : List ℕ) → length rest ≡ 0 → bytes_before (lines rest) ≡ 0
unfolding bytes_before lines
bytes_end [] e = refl
bytes_end (b ∷ bs) e = absurd (omega (arith, e))

lines_end : (rest : List ℕ) → length rest ≡ 0 → lines_before (lines rest) ≡ 0
unfolding lines_before lines
lines_end [] e = refl
lines_end (b ∷ bs) e = absurd (omega (arith, e))

module _ (input : List ℕ) (number : ℕ) (rest : List ℕ) (passed : HasPassed input number rest) where
  -- one line more that isn't this one
  pub HasPassed-step : (line behind : List ℕ) → lines rest ≡ line ∷ lines behind → behind ≡ drop (length line + 1) rest → length behind < length rest
      → bytes_eq line (codes "durations") ≡ false → HasPassed input (number + 1) behind
  HasPassed-step line behind cut tail shorter other =
      let bytes : bytes_before (lines rest) ≡ length line + 1 + bytes_before (lines behind) = ap bytes_before cut ∙ bytes_pass line (lines behind) other in
      let count : lines_before (lines rest) ≡ lines_before (lines behind) + 1 = ap lines_before cut ∙ lines_pass line (lines behind) other in
      record {
        taken = passed.taken + (length line + 1);
        left = tail ∙ ap (drop (length line + 1)) passed.left ∙ drop-drop (length line + 1) passed.taken input;
        bytes = omega (arith, bytes, passed.bytes);
        count = omega (arith, count, passed.count);
        within = omega (arith, passed.within, shorter);
      }

  -- the bytes taken, where something is left
  taken-is : 0 < length rest → passed.taken ≡ length input - length rest
  taken-is some = omega (arith, some, ap length passed.left, length-drop passed.taken input)

  module _ (line behind : List ℕ) (cut : lines rest ≡ line ∷ lines behind) (tail : behind ≡ drop (length line + 1) rest) (some : 0 < length rest)
      (here : bytes_eq line (codes "durations") ≡ true) where
    before : bytes_before (lines input) ≡ passed.taken
    before = omega (arith, passed.bytes, ap bytes_before cut ∙ bytes_stop line (lines behind) here)

    pub graph-here : take (length input - length rest) input ≡ graph_text input
    graph-here = ap (λ (n : ℕ). take n input) (sym (before ∙ taken-is some))

    nine : length line ≡ 9
    nine = ap length ((bytes_eq-Decides line (codes "durations")).0 here)

    pub later-here : behind ≡ later_text input
    later-here =
        tail ∙ ap (drop (length line + 1)) passed.left ∙ drop-drop (length line + 1) passed.taken input
        ∙ ap (λ (n : ℕ). drop n input) (omega (arith, nine, before))

    pub line-here : number + 1 ≡ later_line input
    line-here = omega (arith, passed.count, ap lines_before cut ∙ lines_stop line (lines behind) here)

  module _ (done : length rest ≡ 0) where
    all : length input ≤ bytes_before (lines input)
    all = omega (arith, passed.bytes, ap length passed.left, length-drop passed.taken input)

    pub graph-whole : input ≡ graph_text input
    graph-whole = sym (take_all (bytes_before (lines input)) input all)

    pub later-none : [] ≡ later_text input
    later-none = sym (drop_all (bytes_before (lines input) + 10) input (omega (arith, all)))

    pub line-none : number + 1 ≡ later_line input
    line-none = omega (arith, passed.count, lines_end rest done)

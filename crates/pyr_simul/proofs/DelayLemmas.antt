-- The delays of the data that one task writes and another reads, summed up datum by datum.
use Rattle.std.proofs.Common.{◌≡◌, ℕ, zero, suc, ◌+◌, ◌*◌, ◌<◌, ◌≤◌, Bool, true, false, cond, inl, inr, List, [], ◌∷◌, length, take, arith, refl, ap, sym, ◌∙◌, eqb-true}
use Rattle.std.specs.Prelude.{slice_index, nat_eq, filter, sum_by}
use Rattle.std.specs.List.{list_any}
use Rattle.std.proofs.lemmas.Bool.{cases_Bool}
use Rattle.std.proofs.lemmas.List.Elements.{filter_more}
use Rattle.std.proofs.lemmas.List.Sums.{sum_by-append}
use Rattle.std.proofs.Math.Seq.{take-length}
use Rattle.pyr_graph.specs.System.{System, task_count, datum_count, reads_of, writes_of, writer_of}
use Rattle.pyr_graph.specs.WholeGraph.{IsGraph}
use Rattle.pyr_graph.proofs.ListLemmas.{Contains-tested, tested-Contains, nat_eq-same}
use Rattle.pyr_simul.specs.declared.durations.Durations.{Durations}
use Rattle.pyr_num.specs.declared.limits.TheConstants.Limits.{DELAY}
use Rattle.pyr_simul.specs.Durations.{delay_of}
use Rattle.pyr_simul.specs.Simulated.{delay_between}

-- a task writes a datum exactly where it is the writer
pub writes-tested : (s : System) → IsGraph s → (a x : ℕ) → a < task_count s → x < datum_count s → list_any (nat_eq x) (writes_of s a) ≡ nat_eq (writer_of s x) a
writes-tested s graph a x a_in x_in = elim (cases_Bool (nat_eq (writer_of s x) a)) [
  | inl is ↦
      let same : writer_of s x ≡ a = eqb-true (writer_of s x) a is in
      let held = tested-Contains x (writes_of s (writer_of s x)) (graph.some_writer x x_in).1 in
      rw same at held ∙ sym is
  | inr isn't ↦ elim (cases_Bool (list_any (nat_eq x) (writes_of s a))) [
    | inl held ↦
        let only : a ≡ writer_of s x = graph.one_writer x a (a_in, Contains-tested x (writes_of s a) held) in
        let is = nat_eq-same (writer_of s x) a (sym only) in
        absurd (cc (is, isn't))
    | inr none ↦ none ∙ sym isn't
  ]
]

module _ (s : System) (d : Durations) (a : ℕ) where
  -- the delays of those among these data that a writes
  abbrev pub delays_among : List ℕ → ℕ
  delays_among xs = sum_by (delay_of d) (filter (λ x. list_any (nat_eq x) (writes_of s a)) xs)

  pub delays-more : (xs : List ℕ) (i : ℕ) → i < length xs
      → delays_among (take (i + 1) xs) ≡ delays_among (take i xs) + cond (list_any (nat_eq (slice_index xs i)) (writes_of s a)) (delay_of d (slice_index xs i)) 0
  delays-more xs i inside =
      let test = λ (x : ℕ). list_any (nat_eq x) (writes_of s a) in
      ap (sum_by (delay_of d)) (filter_more test xs i 0 inside)
      ∙ (sum_by-append (delay_of d) (filter test (take i xs)) (cond (test (slice_index xs i)) (slice_index xs i ∷ []) [])
      ∙ ap (λ (n : ℕ). delays_among (take i xs) + n) (one (test (slice_index xs i))))
    where
      one : (b : Bool) → sum_by (delay_of d) (cond b (slice_index xs i ∷ []) []) ≡ cond b (delay_of d (slice_index xs i)) 0
      one true = omega arith
      one false = refl

  pub delays-low : ((x : ℕ) → delay_of d x ≤ DELAY) → (xs : List ℕ) (i : ℕ) → i ≤ length xs → delays_among (take i xs) ≤ i * DELAY
  delays-low low xs zero within = omega arith
  delays-low low xs (suc i) within =
      let before = delays-low low xs i (omega arith) in
      let more = delays-more xs i (omega arith) in
      let here = bounded (list_any (nat_eq (slice_index xs i)) (writes_of s a)) (slice_index xs i) in
      let next : suc i ≡ i + 1 = omega arith in
      rw next (omega (arith, before, more, here))
    where
      bounded : (b : Bool) (x : ℕ) → cond b (delay_of d x) 0 ≤ DELAY
      bounded true x = low x
      bounded false x = omega arith

  -- all together
  pub delay_between-low : ((x : ℕ) → delay_of d x ≤ DELAY) → (b n : ℕ) → length (reads_of s b) ≤ n → delay_between s d a b ≤ n * DELAY
  delay_between-low low b n few =
      let most : delay_between s d a b ≤ length (reads_of s b) * DELAY = rw (take-length (reads_of s b)) at (delays-low low (reads_of s b) (length (reads_of s b)) (omega arith)) in
      omega (arith, most, few)

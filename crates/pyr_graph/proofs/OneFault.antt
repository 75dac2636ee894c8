-- One fault is told at most: each fault asks for what the faults before it deny.
use Rattle.std.proofs.Common.{◌≡◌, ◌≢◌, ℕ, zero, suc, ◌<◌, ◌≤◌, inl, inr, List, [], ◌∷◌, Some, None, arith, refl, ap, sym, ◌∙◌}
use Rattle.std.specs.Prelude.{reverse}
use Rattle.std.proofs.lemmas.Bool.{cases_order, cases_eq}
use Rattle.pyr_num.specs.declared.ids.TaskId.{TaskId}
use Rattle.pyr_graph.specs.declared.fault.GraphFault.{GraphFault}
use Rattle.pyr_graph.specs.declared.fault.GraphFault.TheVariants.{NoTask, Limit, Duplicate, TwoWriters, NoWriter, Cycle, Memory}
use Rattle.pyr_graph.specs.System.{System, task_count, task_numbers, IsEdge}
use Rattle.pyr_graph.specs.Removal.{IsLeft}
use Rattle.pyr_graph.specs.Faults.{IsWrittenTwice, IsUnwritten, IsWithin, IsDistinct, IsSingle, IsWritten, IsSound, IsFault}
use Rattle.pyr_graph.proofs.OneCycle.{IsLeast-one, IsFoundCycle-one}

-- the place of a fault in the order in which they are told
abbrev stage : GraphFault → ℕ
stage NoTask = 0
stage (Limit which) = 1
stage (Duplicate datum) = 2
stage (TwoWriters datum) = 3
stage (NoWriter datum) = 4
stage (Cycle tasks) = 5
stage Memory = 6

same_ids : (tasks others : List TaskId) → task_numbers tasks ≡ task_numbers others → tasks ≡ others
same_ids [] [] same = refl
same_ids [] (u ∷ others) same = absurd (cc)
same_ids (t ∷ tasks) [] same = absurd (cc)
same_ids (t ∷ tasks) (u ∷ others) same =
    let head : t.0 ≡ u.0 = cc in
    let tail : task_numbers tasks ≡ task_numbers others = cc in
    let id : t ≡ u = ap (λ (n : ℕ). let id : TaskId = record { 0 = n } in id) head in
    ap (λ (id : TaskId). id ∷ tasks) id ∙ ap (λ (ids : List TaskId). u ∷ ids) (same_ids tasks others tail)

module _ (s : System) where
  -- the tests before the n-th fault are passed
  abbrev Clear : ℕ → Type 0
  Clear zero = Unit {0}
  Clear (suc zero) = 0 < task_count s
  Clear (suc (suc zero)) = IsWithin s
  Clear (suc (suc (suc zero))) = IsDistinct s
  Clear (suc (suc (suc (suc zero)))) = IsSingle s
  Clear (suc (suc (suc (suc (suc zero))))) = IsWritten s
  Clear (suc (suc (suc (suc (suc (suc n)))))) = IsSound s

  down : (n : ℕ) → Clear (suc n) → Clear n
  down zero clear = tt
  down (suc zero) clear = clear.some_task
  down (suc (suc zero)) clear = clear.within
  down (suc (suc (suc zero))) clear = clear.distinct
  down (suc (suc (suc (suc zero)))) clear = clear.single
  down (suc (suc (suc (suc (suc zero))))) clear = clear.written
  down (suc (suc (suc (suc (suc (suc n)))))) clear = clear

  lower : (n m : ℕ) → m ≤ n → Clear n → Clear m
  lower zero m le clear = let same : m ≡ 0 = omega arith in rw same tt
  lower (suc n) m le clear = elim (cases_eq m (suc n)) [
    | inl same ↦ rw same clear
    | inr apart ↦ lower n m (omega arith) (down n clear)
  ]

  -- a fault asks that the tests before it are passed
  before : (fault : GraphFault) → fault ≢ Memory → IsFault s fault → Clear (stage fault)
  before NoTask other is = tt
  before (Limit which) other is = is.0
  before (Duplicate datum) other is = is.0
  before (TwoWriters datum) other is = is.0
  before (NoWriter datum) other is = is.0
  before (Cycle tasks) other is = is.0
  before Memory other is = absurd (other refl)

  -- and denies its own
  denied : (fault : GraphFault) → fault ≢ Memory → IsFault s fault → Clear (suc (stage fault)) → ⊥
  denied NoTask other is clear = omega (arith, is, clear)
  denied (Limit which) other is clear = let both : Some which ≡ None = sym is.1 ∙ clear.limits in cc
  denied (Duplicate datum) other is clear = let both : Some datum.0 ≡ None = sym is.1 ∙ clear.once in cc
  denied (TwoWriters datum) other is clear = clear.one_writer datum.0 is.1.has
  denied (NoWriter datum) other is clear = clear.some_writer datum.0 is.1.has
  denied (Cycle tasks) other is clear = clear.acyclic (reverse (task_numbers tasks), is.2)
  denied Memory other is clear = other refl

  same_stage : (one two : GraphFault) → one ≢ Memory → two ≢ Memory → IsFault s one → IsFault s two → stage one ≡ stage two
  same_stage one two not_one not_two is_one is_two = elim (cases_order (stage one) (stage two)) [
    | inl same ↦ same
    | inr (inl less) ↦ absurd (denied one not_one is_one (lower (stage two) (suc (stage one)) (omega (arith, less)) (before two not_two is_two)))
    | inr (inr more) ↦ absurd (denied two not_two is_two (lower (stage one) (suc (stage two)) (omega (arith, more)) (before one not_one is_one)))
  ]

  -- two faults of one stage are the same
  same_fault : (one two : GraphFault) → stage one ≡ stage two → IsFault s one → IsFault s two → one ≡ two
  same_fault NoTask NoTask same is_one is_two = refl
  same_fault (Limit which) (Limit other) same is_one is_two = let both : Some which ≡ Some other = sym is_one.1 ∙ is_two.1 in cc
  same_fault (Duplicate datum) (Duplicate other) same is_one is_two =
      let both : Some datum.0 ≡ Some other.0 = sym is_one.1 ∙ is_two.1 in
      let number : datum.0 ≡ other.0 = cc in
      ap (λ (n : ℕ). Duplicate (record { 0 = n })) number
  same_fault (TwoWriters datum) (TwoWriters other) same is_one is_two =
      ap (λ (n : ℕ). TwoWriters (record { 0 = n })) (IsLeast-one (IsWrittenTwice s) datum.0 other.0 is_one.1 is_two.1)
  same_fault (NoWriter datum) (NoWriter other) same is_one is_two =
      ap (λ (n : ℕ). NoWriter (record { 0 = n })) (IsLeast-one (IsUnwritten s) datum.0 other.0 is_one.1 is_two.1)
  same_fault (Cycle tasks) (Cycle others) same is_one is_two =
      ap (λ (ids : List TaskId). Cycle ids) (same_ids tasks others
      (IsFoundCycle-one (IsLeft (task_count s) (IsEdge s)) (IsEdge s) (task_numbers tasks) (task_numbers others) is_one.1 is_two.1))
  same_fault Memory Memory same is_one is_two = refl
  same_fault one two same is_one is_two = absurd (omega (arith, same))

  pub IsFault-one : (one two : GraphFault) → one ≢ Memory → two ≢ Memory → IsFault s one → IsFault s two → one ≡ two
  IsFault-one one two not_one not_two is_one is_two = same_fault one two (same_stage one two not_one not_two is_one is_two) is_one is_two

  -- where all tests are passed, no fault is there
  pub none_where_sound : IsSound s → (fault : GraphFault) → fault ≢ Memory → IsFault s fault → ⊥
  none_where_sound sound fault other is = denied fault other is (lower 6 (suc (stage fault)) (most fault other) sound)
    where
      most : (fault : GraphFault) → fault ≢ Memory → suc (stage fault) ≤ 6
      most Memory other = absurd (other refl)
      most fault other = omega arith

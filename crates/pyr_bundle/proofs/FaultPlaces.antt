-- Where the first fault of code can stand, and what that says of the row of its task.
use Rattle.std.proofs.Common.{◌≡◌, ℕ, ◌+◌, ◌<◌, ◌≤◌, ◌==◌, Bool, true, false, not, List, [], ◌∷◌, ◌++◌, map, ◌⊎◌, inl, inr, refl, sym, ap, ◌∙◌, subst, arith}
use Rattle.std.specs.Prelude.{Option, Some, None, if◌then◌else◌}
use Rattle.std.specs.Option.{option_or, option_map}
use Rattle.std.proofs.lemmas.Bool.{eq-eqb, ne_eqb}
use Rattle.std.proofs.lemmas.Option.{none-some, same_Some}
use Rattle.pyr_code.specs.declared.op.Op.{Op as OpValue}
use Rattle.pyr_code.specs.Seen.{code_of}
use Rattle.pyr_code.specs.Verified.{ShapedCode}
use Rattle.pyr_code.specs.declared.shape.Shape.{Shape}
use Rattle.pyr_code.specs.declared.code_fault.CodeFault.TheVariants.{BadCode}
use Rattle.pyr_code.specs.declared.code_fault.BadKind.{BadKind}
use Rattle.pyr_code.specs.declared.code_fault.BadKind.TheVariants.{Height}
use Rattle.pyr_code.specs.Tree.{Op, Push, Load, Store, Frame, Get, Put, Bin, Sel, Loop, Code, End, Then}
use Rattle.pyr_code.specs.Size.{op_nodes, code_nodes}
use Rattle.pyr_code.specs.Height.{height_after, height_after_op}
use Rattle.pyr_code.specs.Fault.{Visit, Before, EndOf, op_visits, code_visits, visits, kind_before, fault_at, first_among, first_fault}
use Rattle.pyr_bundle.specs.declared.raw_bundle.RawBundle.{RawBundle}
use Rattle.pyr_bundle.specs.declared.raw_task.RawTask.{RawTask}
use Rattle.pyr_bundle.specs.declared.bundle_fault.BundleFault.{BundleFault}
use Rattle.pyr_bundle.specs.declared.bundle_fault.BundleFault.TheVariants.{Law as LawFault, Memory}
use Rattle.pyr_bundle.specs.Tables.{IsCodeFault}
use Rattle.pyr_bundle.specs.Law.{IsKeptBefore, IsFirstBreach}
use Rattle.pyr_bundle.specs.Raw.{task_count, task_in, shape_of, tree_of}
use Rattle.pyr_bundle.specs.Parts.{datum_id, verified_code_of, bundle_task_of}
use Rattle.pyr_num.specs.declared.ids.DatumId.{DatumId}
use Rattle.pyr_bundle.specs.Faults.{IsBroken}
use Rattle.pyr_bundle.specs.Laws.{is_fault_at, code_fault_of, codes}
use Rattle.pyr_bundle.proofs.Scans.{before_row, before_upto}

-- the number that a fault at a visit is told with
abbrev place_of : Visit → ℕ
place_of (Before op place h) = place
place_of (EndOf place h wanted) = place

abbrev AreWithin : ℕ → ℕ → List Visit → Type 0
AreWithin low high [] = Unit {0}
AreWithin low high (v ∷ vs) = (low ≤ place_of v) × (place_of v < high) × AreWithin low high vs

wider : (low high low' high' : ℕ) (vs : List Visit) → low' ≤ low → high ≤ high' → AreWithin low high vs → AreWithin low' high' vs
wider low high low' high' [] l m h = tt
wider low high low' high' (v ∷ vs) l m h =
    let a = h.0 in let b = h.1 in (omega arith, omega arith, wider low high low' high' vs l m h.2)

joined : (low high : ℕ) (vs ws : List Visit) → AreWithin low high vs → AreWithin low high ws → AreWithin low high (vs ++ ws)
joined low high [] ws h k = k
joined low high (v ∷ vs) ws h k = (h.0, h.1, joined low high vs ws h.2 k)

one : (op : Op) (place h : ℕ) → AreWithin place (place + 1) (Before op place h ∷ [])
one op place h = (omega arith, omega arith, tt)

mutual
  op_within : (op : Op) (place h : ℕ) → AreWithin place (place + op_nodes op) (op_visits op place h)
  op_within (Push word) place h = one (Push word) place h
  op_within (Load l) place h = one (Load l) place h
  op_within (Store l) place h = one (Store l) place h
  op_within Frame place h = one Frame place h
  op_within (Get slot) place h = one (Get slot) place h
  op_within (Put output) place h = one (Put output) place h
  op_within (Bin operator) place h = one (Bin operator) place h
  op_within Sel place h = one Sel place h
  op_within (Loop l count turn) place h = (
    omega arith,
    omega arith,
    joined place (place + (1 + code_nodes turn)) (code_visits turn (place + 1) h) (EndOf place (height_after turn h) h ∷ [])
        (wider (place + 1) (place + 1 + code_nodes turn) place (place + (1 + code_nodes turn)) (code_visits turn (place + 1) h) (omega arith) (omega arith) (code_within turn (place + 1) h))
        (omega arith, omega arith, tt),
  )

  code_within : (code : Code) (place h : ℕ) → AreWithin place (place + code_nodes code) (code_visits code place h)
  code_within End place h = tt
  code_within (Then op rest) place h =
      joined place (place + (op_nodes op + code_nodes rest)) (op_visits op place h) (code_visits rest (place + op_nodes op) (height_after_op op h))
      (wider place (place + op_nodes op) place (place + (op_nodes op + code_nodes rest)) (op_visits op place h) (omega arith) (omega arith) (op_within op place h))
      (wider (place + op_nodes op) (place + op_nodes op + code_nodes rest) place (place + (op_nodes op + code_nodes rest)) (code_visits rest (place + op_nodes op) (height_after_op op h)) (omega arith) (omega arith) (code_within rest (place + op_nodes op) (height_after_op op h)))

at_op : (place k : ℕ) (kind : BadKind) (o : Option BadKind) → option_map (BadCode place) o ≡ Some (BadCode k kind) → place ≡ k
at_op place k kind None e = absurd (none-some (BadCode k kind) e)
at_op place k kind (Some x) e = let f = same_Some (BadCode place x) (BadCode k kind) e in cc

at_end : (place k : ℕ) (kind : BadKind) (b : Bool) → (if b then None else Some (BadCode place Height)) ≡ Some (BadCode k kind) → place ≡ k
at_end place k kind true e = absurd (none-some (BadCode k kind) e)
at_end place k kind false e = let f = same_Some (BadCode place Height) (BadCode k kind) e in cc

fault_place : (shape : Shape) (v : Visit) (k : ℕ) (kind : BadKind) → fault_at shape v ≡ Some (BadCode k kind) → place_of v ≡ k
fault_place shape (Before op place h) k kind e = at_op place k kind (kind_before shape op h) e
fault_place shape (EndOf place h wanted) k kind e = at_end place k kind (h == wanted) e

either : {X : Type 0} (o r : Option X) (x : X) → option_or o r ≡ Some x → (o ≡ Some x) ⊎ (r ≡ Some x)
either None r x e = inr e
either (Some y) r x e = inl e

found_within : (shape : Shape) (low high : ℕ) (vs : List Visit) (k : ℕ) (kind : BadKind) → AreWithin low high vs → first_among shape vs ≡ Some (BadCode k kind) → k < high
found_within shape low high [] k kind h e = absurd (none-some (BadCode k kind) e)
found_within shape low high (v ∷ vs) k kind h e =
    at (found_within shape low high vs k kind h.2) (either (fault_at shape v) (first_among shape vs) (BadCode k kind) e)
  where
    at : (first_among shape vs ≡ Some (BadCode k kind) → k < high) → (fault_at shape v ≡ Some (BadCode k kind)) ⊎ (first_among shape vs ≡ Some (BadCode k kind)) → k < high
    at later (inl f) = let g = fault_place shape v k kind f in let l = h.1 in omega arith
    at later (inr f) = later f

-- the first fault stands at an op, or at the end
pub fault_within : (shape : Shape) (code : Code) (k : ℕ) (kind : BadKind) → first_fault shape code ≡ Some (BadCode k kind) → k < code_nodes code + 1
fault_within shape code k kind e =
    found_within shape 0 (code_nodes code + 1) (visits code) k kind
    (joined 0 (code_nodes code + 1) (code_visits code 0 0) (EndOf (code_nodes code) (height_after code 0) 0 ∷ [])
    (wider 0 (0 + code_nodes code) 0 (code_nodes code + 1) (code_visits code 0 0) (omega arith) (omega arith) (code_within code 0 0)) (omega arith, omega arith, tt)) e

module _ (raw : RawBundle) (t : ℕ) (known : t < task_count raw) (task : RawTask) (is : task_in raw.tasks t ≡ task) (before : IsKeptBefore (codes raw) t 0) where
  -- a task without a fault
  pub code_kept : code_fault_of task ≡ None → IsKeptBefore (codes raw) (t + 1) 0
  unfolding codes
  code_kept e =
      let none : code_fault_of (task_in raw.tasks t) ≡ None = ap code_fault_of is ∙ e in
      before_row (codes raw) t (code_nodes (tree_of (task_in raw.tasks t)) + 1) (omega arith)
      (before_upto (codes raw) t (code_nodes (tree_of (task_in raw.tasks t)) + 1) before (λ b l. ap (λ o. not (is_fault_at b o)) none))

  -- a task with one
  pub code_breach : (k : ℕ) (kind : BadKind) → code_fault_of task ≡ Some (BadCode k kind) → IsFirstBreach (codes raw) t k
  unfolding codes
  code_breach k kind e =
      let here : code_fault_of (task_in raw.tasks t) ≡ Some (BadCode k kind) = ap code_fault_of is ∙ e in
      record {
        row = known;
        column = fault_within _ (tree_of (task_in raw.tasks t)) k kind here;
        broken = ap (λ o. not (is_fault_at k o)) here ∙ ap not (eq-eqb k k refl);
        earlier = before_upto (codes raw) t k before (λ b l. ap (λ o. not (is_fault_at b o)) here ∙ ap not (ne_eqb k b (λ f. absurd (omega arith))));
      }

-- the fault that the check finds in a copy of a task's code
pub fault_is : (task : RawTask) (shape : Shape) (ops lent : List OpValue) → shape ≡ shape_of task → ops ≡ lent → lent ≡ task.code → first_fault shape (code_of ops) ≡ code_fault_of task
fault_is task shape ops lent s o l =
    ap (λ (x : Shape). first_fault x (code_of ops)) s ∙ ap (λ (x : List OpValue). first_fault (shape_of task) (code_of x)) (o ∙ l)

-- the code that was checked is that of the task
pub code_is : (task : RawTask) (code : ShapedCode) (shape : Shape) (ops lent : List OpValue) → shape ≡ shape_of task → ops ≡ lent → lent ≡ task.code → code ≡ record { ops = ops; shape = shape } → code ≡ verified_code_of task
code_is task code shape ops lent s o l e =
    e ∙ ap (λ (x : Shape). record { ops = ops; shape = x }) s ∙ ap (λ (x : List OpValue). record { ops = x; shape = shape_of task }) (o ∙ l)

-- why a copy of a task's code is refused
pub code_refused : (t k : ℕ) (kind : BadKind) (task : RawTask) (e : BundleFault) → e ≡ LawFault 4 t k → code_fault_of task ≡ Some (BadCode k kind) → IsCodeFault t task e
code_refused t k kind task e is fault = subst (IsCodeFault t task) (sym is) (refl, refl, kind, fault)

-- a checked task
pub task_made : (task : RawTask) (reads writes : List DatumId) (code : ShapedCode) (rs ws : List ℕ) → reads ≡ map datum_id rs → rs ≡ task.reads → writes ≡ map datum_id ws → ws ≡ task.writes → code ≡ verified_code_of task →
    record { reads = reads; writes = writes; code = code } ≡ bundle_task_of task
task_made task reads writes code rs ws r r' w w' c =
    ap (λ (x : List DatumId). record { reads = x; writes = writes; code = code }) (r ∙ ap (map datum_id) r')
    ∙ ap (λ (x : List DatumId). record { reads = map datum_id task.reads; writes = x; code = code }) (w ∙ ap (map datum_id) w')
    ∙ ap (λ (x : ShapedCode). record { reads = map datum_id task.reads; writes = map datum_id task.writes; code = x }) c

-- the fault of a task breaks law 4 first at that task, where those before it have none
pub task_broken : (raw : RawBundle) (t : ℕ) → t < task_count raw → (task : RawTask) → task_in raw.tasks t ≡ task → IsKeptBefore (codes raw) t 0 → (e : BundleFault) → IsCodeFault t task e → IsBroken 4 (codes raw) e
task_broken raw t known task is before (LawFault number a b) h =
    (h.0, subst (λ x. IsFirstBreach (codes raw) x b) (sym h.1) (code_breach raw t known task is before b h.2 h.3))
task_broken raw t known task is before Memory h = tt

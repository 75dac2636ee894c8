-- The homes of data, one after another.
use Rattle.std.proofs.Common.{◌≡◌, ◌≢◌, ℕ, ◌+◌, ◌<◌, ◌≤◌, ◌==◌, true, false, List, length, take, drop, ◌++◌, get_or, Some, slice_get, sym, ap, subst, ◌∙◌, arith, inl, inr, ◌⊎◌}
use Rattle.std.specs.Prelude.{slice_set, Contains}
use Rattle.std.proofs.lemmas.Bool.Decides.{eqb_tells}
use Rattle.std.proofs.lemmas.List.{take_all, take-append-le, length-map, get_or-map, get_or-set_same, get_or-set_other}
use Rattle.std.proofs.lemmas.List.Elements.{Contains-get_or}
use Rattle.std.proofs.lemmas.Option.{slice_get_within, get_or_from_slice_get, slice_get-get_or, same_Some}
use Rattle.pyr_num.specs.declared.ids.DatumId.{DatumId}
use Rattle.pyr_num.specs.declared.ids.TaskId.{TaskId}
use Rattle.pyr_num.specs.declared.ids.ProcId.{ProcId}
use Rattle.pyr_bundle.specs.declared.instr.Instr.{Instr}
use Rattle.pyr_bundle.specs.declared.instr.Instr.TheVariants.{Recv, Exec, Send}
use Rattle.pyr_bundle.specs.Parts.{Parts, task_count, datum_count, processor_count, datum_id, task_id, proc_id, task_at, code_at}
use Rattle.pyr_bundle.specs.WellFormed.{IsWellFormed, StandsAt}
use Rattle.pyr_machine.specs.State.{IsExec, Writes, numbers}
use Rattle.pyr_machine.proofs.Output.{stands_within}
use Rattle.pyr_team.specs.Homes.{IsHome, home_of, AreHomes, KeepsHomes, HasHomes, HaveHomes}

pub below_or_last : (k n : ℕ) → k < n + 1 → (k < n) ⊎ (k ≡ n)
below_or_last k n l = grind arith

-- a datum that stands in the writes of a task is written by it
pub written_at : (b : Parts) (t k : ℕ) (x : DatumId) → t < task_count b → slice_get (task_at b t).writes k ≡ Some x → Writes b t x.0
written_at b t k x known at =
    let ds = (task_at b t).writes in
    let l = slice_get_within ds k x at in
    let m : k < length (numbers ds) = let e = length-map ds (λ (d : DatumId). d.0) in omega arith in
    let e : get_or (numbers ds) k 0 ≡ x.0 = get_or-map (λ (d : DatumId). d.0) ds k x 0 l ∙ ap (λ (d : DatumId). d.0) (get_or_from_slice_get ds k x x at) in (
      known,
      subst (Contains (numbers ds)) e (Contains-get_or (numbers ds) k 0 m),
    )

-- and what a task writes stands there
pub place_of : (ds : List DatumId) (d : ℕ) → Contains (numbers ds) d → (k : ℕ) × (x : DatumId) × (slice_get ds k ≡ Some x) × (x.0 ≡ d)
place_of ds d (k, l, e) =
    let m : k < length ds = let n = length-map ds (λ (x : DatumId). x.0) in omega arith in (
      k,
      get_or ds k (datum_id d),
      slice_get-get_or ds k (datum_id d) m,
      sym (get_or-map (λ (x : DatumId). x.0) ds k (datum_id d) d m) ∙ e,
    )

-- a home that is right in place of another
pub set_keeps : (b : Parts) (homes : List ProcId) (d : ℕ) (p : ProcId) → d < length homes → IsHome b d p → KeepsHomes b homes (slice_set homes d p)
set_keeps b homes d p l home e old = at (eqb_tells e d)
  where
    at : (((e == d) ≡ true) × (e ≡ d)) ⊎ (((e == d) ≡ false) × (e ≢ d)) → IsHome b e (home_of (slice_set homes d p) e)
    at (inl i) = subst (λ n. IsHome b n (home_of (slice_set homes d p) n)) (sym i.1) (subst (IsHome b d) (sym (get_or-set_same homes d p (proc_id 0) l)) home)
    at (inr i) = subst (IsHome b e) (sym (get_or-set_other homes d e p (proc_id 0) i.1)) old

-- the first of these data have their homes, and what had its home has it still
pub record Settles (b : Parts) (ds : List DatumId) (n : ℕ) (old new : List ProcId) : Type 0 where
  pub count : length new ≡ length old
  pub kept : KeepsHomes b old new
  pub each : (k : ℕ) (x : DatumId) → k < n → slice_get ds k ≡ Some x → IsHome b x.0 (home_of new x.0)

pub settles_none : (b : Parts) (ds : List DatumId) (homes : List ProcId) → Settles b ds 0 homes homes
settles_none b ds homes = record { count = λ j. length homes; kept = λ d h. h; each = λ k x l. absurd (omega arith) }

pub settles_more : (b : Parts) (ds : List DatumId) (n : ℕ) (x : DatumId) (p : ProcId) (old homes new : List ProcId) → Settles b ds n old homes → slice_get ds n ≡ Some x → x.0 < length homes → IsHome b x.0 p → length new ≡ length homes → new ≡ slice_set homes x.0 p → Settles b ds (n + 1) old new
settles_more b ds n x p old homes new h at l home same is = record {
  count = same ∙ h.count;
  kept = λ d old_home. keeps d (h.kept d old_home);
  each = λ k y m at'. more k y at' (below_or_last k n m);
}
  where
    keeps : KeepsHomes b homes new
    keeps = subst (KeepsHomes b homes) (sym is) (set_keeps b homes x.0 p l home)

    more : (k : ℕ) (y : DatumId) → slice_get ds k ≡ Some y → (k < n) ⊎ (k ≡ n) → IsHome b y.0 (home_of new y.0)
    more k y at' (inl m) = keeps y.0 (h.each k y m at')
    more k y at' (inr e) =
        let same : x ≡ y = same_Some _ _ (sym at ∙ ap (slice_get ds) (sym e) ∙ at') in
        subst (λ (z : DatumId). IsHome b z.0 (home_of new z.0)) same (subst (λ v. IsHome b x.0 (home_of v x.0)) (sym is) (subst (IsHome b x.0) (sym (get_or-set_same homes x.0 p (proc_id 0) l)) home))

-- all that the task writes has its home
pub settles_all : (b : Parts) (t n : ℕ) (ds : List DatumId) (old new : List ProcId) → ds ≡ (task_at b t).writes → length ds ≤ n → Settles b ds n old new → HasHomes b t new
settles_all b t n ds old new e m h d w =
    let (k, x, at, is) = place_of (task_at b t).writes d w.1 in
    let at' : slice_get ds k ≡ Some x = ap (λ v. slice_get v k) e ∙ at in
    let l : k < n = let low = slice_get_within ds k x at' in omega arith in
    subst (λ m. IsHome b m (home_of new m)) is (h.each k x l at')

-- what a task writes has its home where the task is executed
pub write_home : (b : Parts) (t k : ℕ) (p : ProcId) (ds : List DatumId) (x : DatumId) → ds ≡ (task_at b t).writes → t < task_count b → (i : ℕ) × IsExec b p.0 i t → slice_get ds k ≡ Some x → IsHome b x.0 p
write_home b t k p ds x e known here at = (here.0, t, here.1, written_at b t k x known (ap (λ v. slice_get v k) (sym e) ∙ at))

-- an instruction that executes no task
pub no_exec : (b : Parts) (p i t : ℕ) (it : Instr) → StandsAt b p i it → ((u : TaskId) → it ≡ Exec u → ⊥) → IsExec b p i t → ⊥
no_exec b p i t it at none exec = none (task_id t) (same_Some _ _ (sym at ∙ exec))

-- what the tasks write that p executes before a place has its home, and what had its home has it still
pub record Covers (b : Parts) (p n : ℕ) (old new : List ProcId) : Type 0 where
  pub count : length new ≡ datum_count b
  pub kept : KeepsHomes b old new
  pub have : HaveHomes b p n new

pub covers_none : (b : Parts) (p : ℕ) (homes : List ProcId) → length homes ≡ datum_count b → Covers b p 0 homes homes
covers_none b p homes count = record { count = count; kept = λ d h. h; have = λ i t l. absurd (omega arith) }

-- an instruction of the code
pub stands : (b : Parts) (p i : ℕ) (code : List Instr) (d it : Instr) → code ≡ code_at b p → i < length code → get_or code i d ≡ it → StandsAt b p i it
stands b p i code d it e l is = ap (λ v. slice_get v i) (sym e) ∙ slice_get-get_or code i d l ∙ ap Some is

-- one instruction more, which executes this task
pub covers_more : (b : Parts) (p n : ℕ) (u : TaskId) (old homes new : List ProcId) → Covers b p n old homes → StandsAt b p n (Exec u) → length new ≡ length homes → KeepsHomes b homes new → HasHomes b u.0 new → Covers b p (n + 1) old new
covers_more b p n u old homes new h at same keeps has = record {
  count = same ∙ h.count;
  kept = λ d home. keeps d (h.kept d home);
  have = λ i t l exec d w. go i t exec d w (below_or_last i n l);
}
  where
    task_of : Instr → ℕ
    task_of (Recv from x) = 0
    task_of (Exec v) = v.0
    task_of (Send to x) = 0

    go : (i t : ℕ) → IsExec b p i t → (d : ℕ) → Writes b t d → (i < n) ⊎ (i ≡ n) → IsHome b d (home_of new d)
    go i t exec d w (inl m) = keeps d (h.have i t m exec d w)
    go i t exec d w (inr e) =
        let same_task : u.0 ≡ t = ap task_of (same_Some _ _ (sym at ∙ subst (λ k. IsExec b p k t) e exec)) in
        has d (subst (λ m. Writes b m d) (sym same_task) w)

-- one more, which executes none
pub covers_still : (b : Parts) (p n : ℕ) (it : Instr) (old homes : List ProcId) → Covers b p n old homes → StandsAt b p n it → ((u : TaskId) → it ≡ Exec u → ⊥) → Covers b p (n + 1) old homes
covers_still b p n it old homes h at none = record {
  count = h.count;
  kept = h.kept;
  have = λ i t l exec d w. go i t exec d w (below_or_last i n l);
}
  where
    go : (i t : ℕ) → IsExec b p i t → (d : ℕ) → Writes b t d → (i < n) ⊎ (i ≡ n) → IsHome b d (home_of homes d)
    go i t exec d w (inl m) = h.have i t m exec d w
    go i t exec d w (inr e) = absurd (no_exec b p n t it at none (subst (λ k. IsExec b p k t) e exec))

-- the processors below p have the homes of all that they write
pub record AreSettled (b : Parts) (p : ℕ) (homes : List ProcId) : Type 0 where
  pub count : length homes ≡ datum_count b
  pub each : (q : ℕ) → q < p → HaveHomes b q (length (code_at b q)) homes

pub settled_more : (b : Parts) (p : ℕ) (homes new : List ProcId) → AreSettled b p homes → length new ≡ length homes → KeepsHomes b homes new → HaveHomes b p (length (code_at b p)) new → AreSettled b (p + 1) new
settled_more b p homes new h same keeps have = record {
  count = same ∙ h.count;
  each = λ q l. go q (below_or_last q p l);
}
  where
    go : (q : ℕ) → (q < p) ⊎ (q ≡ p) → HaveHomes b q (length (code_at b q)) new
    go q (inl m) = λ i t l exec d w. keeps d (h.each q m i t l exec d w)
    go q (inr e) = subst (λ k. HaveHomes b k (length (code_at b k)) new) (sym e) have

-- a list that was written back whole
pub written_back : {X : Type 0} (n : ℕ) (new items : List X) → length new ≡ length items → length items ≡ n → take n (new ++ drop (length new) items) ≡ new
written_back n new items e f = take-append-le n new (drop (length new) items) (omega arith) ∙ take_all n new (omega arith)

pub all_settled : (b : Parts) (n : ℕ) (homes : List ProcId) → IsWellFormed b → processor_count b ≤ n → AreSettled b n homes → AreHomes b homes
all_settled b n homes well m h = record { count = h.count; each = each }
  where
    each : (d : ℕ) → d < datum_count b → IsHome b d (home_of homes d)
    each d l =
        let (t, lt, wr) = well.some_writer d l in
        let (p, i, st) = well.some_exec t lt in
        let q : p < n = let low = stands_within b p i (Exec (task_id t)) st in omega arith in
        h.each p q i t (slice_get_within (code_at b p) i (Exec (task_id t)) st) st d (lt, wr)

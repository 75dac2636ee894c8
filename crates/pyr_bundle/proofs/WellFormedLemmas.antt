-- A bundle is well-formed: what each law says of its typed parts.
use Rattle.std.proofs.Common.{◌≡◌, ℕ, zero, suc, ◌<◌, ◌≤◌, ◌==◌, ◌&&◌, Bool, true, false, not, cond, List, [], ◌∷◌, map, length, get_or, take, All, Contains, count_by, sum_by, ◌⊎◌, inl, inr, refl, sym, ap, ◌∙◌, subst, arith}
use Rattle.std.specs.Prelude.{Option, Some, None, nat_eq, nat_lt, nat_le, slice_get}
use Rattle.std.specs.Option.{option_map}
use Rattle.std.specs.List.{list_any}
use Rattle.std.proofs.lemmas.Bool.{and_parts, leb-true, ltb-true, eqb-true, eq-eqb, not-true, or_parts, cases_order, cases_lt, false≢true}
use Rattle.std.proofs.lemmas.Bool.Decides.{Decides-eqb}
use Rattle.std.proofs.lemmas.List.{length-map, length-take, get_or-take, get_or_default, get_or_past}
use Rattle.std.proofs.lemmas.List.Folds.{list_any_at}
use Rattle.std.proofs.lemmas.Map.Made.{is_member-Decides}
use Rattle.std.proofs.lemmas.Option.{slice_get-map, slice_get-get_or, slice_get_within, get_or_from_slice_get, same_Some, none-some}
use Rattle.pyr_num.specs.declared.limits.TheConstants.Limits.{READS, WRITES}
use Rattle.pyr_num.specs.declared.ids.DatumId.{DatumId}
use Rattle.pyr_num.specs.declared.ids.TaskId.{TaskId}
use Rattle.pyr_num.specs.declared.ids.ProcId.{ProcId}
use Rattle.pyr_bundle.specs.declared.raw_bundle.RawBundle.{RawBundle}
use Rattle.pyr_bundle.specs.declared.raw_task.RawTask.{RawTask}
use Rattle.pyr_bundle.specs.declared.raw_instr.RawInstr.{RawInstr}
use Rattle.pyr_bundle.specs.declared.raw_instr.RawInstr.TheVariants.{Recv as RawRecv, Exec as RawExec, Send as RawSend}
use Rattle.pyr_bundle.specs.declared.instr.Instr.{Instr}
use Rattle.pyr_bundle.specs.declared.instr.Instr.TheVariants.{Recv, Exec, Send}
use Rattle.pyr_bundle.specs.Law.{IsKept}
use Rattle.pyr_bundle.specs.Raw.{task_in, code_in, shape_of}
use Rattle.pyr_bundle.specs.Laws.{fresh, is_written_by, is_exec, is_send, is_new_send, is_receive, is_new_receive, send_count, is_fine_capacity, fits, writers, executions, sends, receives, capacities}
use Rattle.pyr_bundle.specs.Parts.{Parts, IsBundle, raw_of, raw_task_of, raw_channel_of, raw_instr_of, proc_id, datum_id, no_task, no_channel, processor_count, task_count, datum_count, task_at, code_at, channel_at}
use Rattle.pyr_bundle.specs.WellFormed.{reads_of, writes_of, StandsAt, Fits, is_send_of, IsFineCapacity, AreDistinct, IsWellFormed}
use Rattle.pyr_bundle.proofs.Stamps.{fresh_at}
use Rattle.pyr_bundle.proofs.AccessLemmas.{reads_fresh, writes_fresh}
use Rattle.pyr_bundle.proofs.CountLemmas.{fits_at_place, code_part}
use Rattle.pyr_bundle.proofs.Sums.{term_le, one_place, some_place, at_most_one, one_if, if_one, at_most}

-- an element of a list mapped, also past the end
mapped : {X Y : Type 0} (f : X → Y) (xs : List X) (i : ℕ) (d : X) → get_or (map f xs) i (f d) ≡ f (get_or xs i d)
mapped f [] i d = refl
mapped f (x ∷ xs) zero d = refl
mapped f (x ∷ xs) (suc i) d = mapped f xs i d

-- a place of a list mapped
unmapped : {X Y : Type 0} (f : X → Y) (o : Option X) (y : Y) → option_map f o ≡ Some y → (x : X) × (o ≡ Some x) × (f x ≡ y)
unmapped f None y e = absurd (none-some y e)
unmapped f (Some x) y e = (x, refl, same_Some (f x) y e)

-- a number that stands earlier
not_earlier : (xs : List ℕ) (i j : ℕ) → i < j → j < length xs → list_any (nat_eq (get_or xs j 0)) (take j xs) ≡ false → get_or xs i 0 ≡ get_or xs j 0 → ⊥
not_earlier xs i j l k h e =
    let n = length-take j xs in
    let found = list_any_at (nat_eq (get_or xs j 0)) (take j xs) i 0 (omega arith) (eq-eqb (get_or xs j 0) (get_or (take j xs) i 0) (sym e ∙ sym (get_or-take j xs i 0 l))) in
    false≢true (sym h ∙ found)

fresh_distinct : (count : ℕ) (xs : List ℕ) → IsKept (fresh count xs) → AreDistinct xs
fresh_distinct count xs kept i j l k e = at (cases_order i j)
  where
    at : (i ≡ j) ⊎ ((i < j) ⊎ (j < i)) → i ≡ j
    at (inl f) = f
    at (inr (inl f)) = absurd (not_earlier xs i j f k (fresh_at count xs j kept k).1 e)
    at (inr (inr f)) = absurd (not_earlier xs j i f l (fresh_at count xs i kept l).1 (sym e))

fresh_below : (count : ℕ) (xs : List ℕ) → IsKept (fresh count xs) → All (λ x. x < count) xs
fresh_below count xs kept k d l =
    let h = (fresh_at count xs k kept l).0 in let e = get_or_default xs k d 0 l in omega arith

-- a test that holds of an element of a row
row_any : {X : Type 0} (f : X → Bool) (xs : List X) (i n : ℕ) (x : X) → slice_get xs i ≡ Some x → f x ≡ true → i < n → list_any f (take n xs) ≡ true
row_any f xs i n x e t l =
    let w = slice_get_within xs i x e in
    let m = length-take n xs in
    list_any_at f (take n xs) i x (omega arith) (ap f (get_or-take n xs i x l ∙ get_or_from_slice_get xs i x x e) ∙ t)

capacity_kept : (raw : RawBundle) (i : ℕ) → i < length raw.channels → IsKept (capacities raw) → is_fine_capacity raw.code (slice_get raw.channels i) ≡ true
unfolding capacities
capacity_kept raw i l kept = kept.kept i 0 l (omega arith)

module _ (b : Parts) (is : IsBundle b) where
  -- the raw parts
  abbrev raw : RawBundle
  raw = raw_of b

  code_seen : (p : ℕ) → code_in raw.code p ≡ map raw_instr_of (code_at b p)
  code_seen p = mapped (map raw_instr_of) b.code p []

  task_seen : (t : ℕ) → task_in raw.tasks t ≡ raw_task_of (task_at b t)
  task_seen t = mapped raw_task_of b.tasks t no_task

  same_tasks : length raw.tasks ≡ task_count b
  same_tasks = length-map b.tasks raw_task_of

  same_code : length raw.code ≡ processor_count b
  same_code = length-map b.code (map raw_instr_of)

  reads_kept : (t : ℕ) → t < task_count b → IsKept (fresh (datum_count b) (reads_of b t))
  reads_kept t l =
      let n = same_tasks in
      subst (λ (x : RawTask). IsKept (fresh (datum_count b) x.reads)) (task_seen t) (reads_fresh raw t is.lawful.accesses (omega arith))

  writes_kept : (t : ℕ) → t < task_count b → IsKept (fresh (datum_count b) (writes_of b t))
  writes_kept t l =
      let n = same_tasks in
      subst (λ (x : RawTask). IsKept (fresh (datum_count b) x.writes)) (task_seen t) (writes_fresh raw t is.lawful.accesses (omega arith))

  -- the instruction among the raw ones, and its processor
  stands_raw : (p i : ℕ) (instr : Instr) → StandsAt b p i instr → slice_get (code_in raw.code p) i ≡ Some (raw_instr_of instr)
  stands_raw p i instr e =
      ap (λ (x : List RawInstr). slice_get x i) (code_seen p) ∙ slice_get-map raw_instr_of (code_at b p) i ∙ ap (option_map raw_instr_of) e

  known : (p i : ℕ) (instr : Instr) → StandsAt b p i instr → p < length raw.code
  known p i instr e = at (cases_lt p (processor_count b))
    where
      at : (p < processor_count b) ⊎ (processor_count b ≤ p) → p < length raw.code
      at (inl l) = let n = same_code in omega arith
      at (inr l) =
          absurd (none-some instr (ap (λ (x : List Instr). slice_get x i) (sym (get_or_past b.code p [] l)) ∙ e))

  fits_raw : (p i : ℕ) (instr : Instr) → StandsAt b p i instr → fits raw p (raw_instr_of instr) ≡ true
  fits_raw p i instr e =
      let s = stands_raw p i instr e in
      fits_at_place raw p i is.lawful.operands (known p i instr e) (raw_instr_of instr) (slice_get_within (code_in raw.code p) i (raw_instr_of instr) s) s

  other : (p q : ℕ) → (nat_lt q (length raw.code) && not (q == p)) ≡ true → (q < processor_count b) × (q ≡ p → ⊥)
  other p q e =
      let parts = and_parts (nat_lt q (length raw.code)) (not (q == p)) e in
      let l = ltb-true q (length raw.code) parts.0 in
      let n = same_code in
      (omega arith, λ f. false≢true (sym (not-true (q == p) parts.1) ∙ eq-eqb q p f))

  fits_of : (p : ℕ) (instr : Instr) → fits raw p (raw_instr_of instr) ≡ true → Fits b p instr
  fits_of p (Recv from d) e =
      let parts = and_parts (nat_lt from.0 (length raw.code) && not (from.0 == p)) (nat_lt d.0 (datum_count b)) e in
      (other p from.0 parts.0, ltb-true d.0 (datum_count b) parts.1)
  fits_of p (Exec t) e =
      let l = ltb-true t.0 (length raw.tasks) e in let n = same_tasks in omega arith
  fits_of p (Send to d) e =
      let parts = and_parts (nat_lt to.0 (length raw.code) && not (to.0 == p)) (nat_lt d.0 (datum_count b)) e in
      (other p to.0 parts.0, ltb-true d.0 (datum_count b) parts.1)

  -- the writers of a datum
  count_writers : (d : ℕ) → d < datum_count b → count_by (is_written_by d) raw.tasks ≡ 1
  unfolding writers
  count_writers d l =
      eqb-true (count_by (is_written_by d) raw.tasks) 1 (is.lawful.writers.kept d 0 l (omega arith))

  written : (t d : ℕ) → Contains (writes_of b t) d → is_written_by d (task_in raw.tasks t) ≡ true
  written t d h =
      ap (is_written_by d) (task_seen t) ∙ (is_member-Decides Decides-eqb (writes_of b t) d).1 h

  some_writer : (d : ℕ) → d < datum_count b → (t : ℕ) × (t < task_count b) × Contains (writes_of b t) d
  some_writer d l =
      let c = count_writers d l in
      let r = some_place (λ (x : RawTask). cond (is_written_by d x) 1 0) raw.tasks (omega arith) in
      let w = slice_get_within raw.tasks r.0 r.1 r.2 in
      let n = same_tasks in
      let e : raw_task_of (task_at b r.0) ≡ r.1 = sym (task_seen r.0) ∙ get_or_from_slice_get raw.tasks r.0 r.1 _ r.2 in
      (r.0, omega arith, (is_member-Decides Decides-eqb (writes_of b r.0) d).0 (ap (is_written_by d) e ∙ if_one (is_written_by d r.1) r.3))

  one_writer : (t u d : ℕ) → t < task_count b → u < task_count b → Contains (writes_of b t) d → Contains (writes_of b u) d → t ≡ u
  one_writer t u d l m h k =
      let below = All_at (writes_of b t) d (fresh_below (datum_count b) (writes_of b t) (writes_kept t l)) h in
      let c = count_writers d below in
      let n = same_tasks in
      one_place (λ (x : RawTask). cond (is_written_by d x) 1 0) raw.tasks t u (task_in raw.tasks t) (task_in raw.tasks u)
      (slice_get-get_or raw.tasks t _ (omega arith)) (one_if _ (written t d h)) (slice_get-get_or raw.tasks u _ (omega arith)) (one_if _ (written u d k)) (omega arith)
    where
      All_at : (xs : List ℕ) (d : ℕ) → All (λ x. x < datum_count b) xs → Contains xs d → d < datum_count b
      All_at xs d all has = subst (λ x. x < datum_count b) has.2 (all has.0 d has.1)

  -- the executions of a task
  count_execs : (t : ℕ) → t < task_count b → sum_by (count_by (is_exec t)) raw.code ≡ 1
  unfolding executions
  count_execs t l =
      eqb-true (sum_by (count_by (is_exec t)) raw.code) 1 (is.lawful.executions.kept t 0 (let n = same_tasks in omega arith) (omega arith))

  exec_only : (t : ℕ) (instr : Instr) → is_exec t (raw_instr_of instr) ≡ true → instr ≡ Exec (record { 0 = t })
  exec_only t (Exec u) e = ap (λ n. Exec (record { 0 = n })) (eqb-true u.0 t e)
  exec_only t (Recv from d) e = absurd (false≢true e)
  exec_only t (Send to d) e = absurd (false≢true e)

  some_exec : (t : ℕ) → t < task_count b → (p : ℕ) × (i : ℕ) × StandsAt b p i (Exec (record { 0 = t }))
  some_exec t l =
      let c = count_execs t l in
      let r = some_place (count_by (is_exec t)) raw.code (omega arith) in
      let row : r.1 ≡ map raw_instr_of (code_at b r.0) = sym (get_or_from_slice_get raw.code r.0 r.1 [] r.2) ∙ code_seen r.0 in
      let s = some_place (λ (x : RawInstr). cond (is_exec t x) 1 0) r.1 r.3 in
      let u = unmapped raw_instr_of (slice_get (code_at b r.0) s.0) s.1 (sym (slice_get-map raw_instr_of (code_at b r.0) s.0) ∙ sym (ap (λ (x : List RawInstr). slice_get x s.0) row) ∙ s.2) in
      (r.0, s.0, u.1 ∙ ap Some (exec_only t u.0 (ap (is_exec t) u.2 ∙ if_one (is_exec t s.1) s.3)))

  -- a row with an execution
  exec_row : (p i : ℕ) (t : TaskId) → StandsAt b p i (Exec t) → 1 ≤ count_by (is_exec t.0) (code_in raw.code p)
  exec_row p i t e =
      let h = term_le (λ (x : RawInstr). cond (is_exec t.0 x) 1 0) (code_in raw.code p) i (RawExec t.0) (stands_raw p i (Exec t) e) in
      let k = one_if (t.0 == t.0) (eq-eqb t.0 t.0 refl) in
      omega arith

  one_exec : (p i q j : ℕ) (t : TaskId) → StandsAt b p i (Exec t) → StandsAt b q j (Exec t) → (p ≡ q) × (i ≡ j)
  one_exec p i q j t e f =
      let c = count_execs t.0 (fits_of p (Exec t) (fits_raw p i (Exec t) e)) in
      let same : p ≡ q = one_place (count_by (is_exec t.0)) raw.code p q (code_in raw.code p) (code_in raw.code q) (slice_get-get_or raw.code p [] (known p i (Exec t) e)) (exec_row p i t e) (slice_get-get_or raw.code q [] (known q j (Exec t) f)) (exec_row q j t f) (omega arith) in
      let row = term_le (count_by (is_exec t.0)) raw.code p (code_in raw.code p) (slice_get-get_or raw.code p [] (known p i (Exec t) e)) in
      let here = one_if (t.0 == t.0) (eq-eqb t.0 t.0 refl) in
      (same, one_place (λ (x : RawInstr). cond (is_exec t.0 x) 1 0) (code_in raw.code p) i j (RawExec t.0) (RawExec t.0) (stands_raw p i (Exec t) e) here (subst (λ n. slice_get (code_in raw.code n) j ≡ Some (RawExec t.0)) (sym same) (stands_raw q j (Exec t) f)) here (omega arith))

  -- a send and what stands before it
  before_send : (p i : ℕ) (to : ProcId) (d : DatumId) → StandsAt b p i (Send to d) →
      (list_any (list_any (is_send to.0 d.0)) (take p raw.code) ≡ false) × (list_any (is_send to.0 d.0) (take i (code_in raw.code p)) ≡ false)
  unfolding sends
  before_send p i to d e =
      let s = stands_raw p i (Send to d) e in
      let h = ap (is_new_send raw.code p i) (sym s) ∙ is.lawful.sends.kept p i (known p i (Send to d) e) (slice_get_within (code_in raw.code p) i (RawSend to.0 d.0) s) in
      or_parts (list_any (list_any (is_send to.0 d.0)) (take p raw.code)) (list_any (is_send to.0 d.0) (take i (code_in raw.code p))) (not-true _ h)

  is_sent : (to : ProcId) (d : DatumId) → is_send to.0 d.0 (RawSend to.0 d.0) ≡ true
  is_sent to d = both (to.0 == to.0) (d.0 == d.0) (eq-eqb to.0 to.0 refl) (eq-eqb d.0 d.0 refl)
    where
      both : (x y : Bool) → x ≡ true → y ≡ true → (x && y) ≡ true
      both x y e f = ap (λ z. z && y) e ∙ f

  -- no send stands before an equal one
  not_before_row : (p i q j : ℕ) (to : ProcId) (d : DatumId) → StandsAt b p i (Send to d) → StandsAt b q j (Send to d) → p < q → ⊥
  not_before_row p i q j to d e f l =
      let row : list_any (is_send to.0 d.0) (code_in raw.code p) ≡ true = list_any_at (is_send to.0 d.0) (code_in raw.code p) i (RawSend to.0 d.0) (slice_get_within (code_in raw.code p) i (RawSend to.0 d.0) (stands_raw p i (Send to d) e)) (ap (is_send to.0 d.0) (get_or_from_slice_get (code_in raw.code p) i (RawSend to.0 d.0) (RawSend to.0 d.0) (stands_raw p i (Send to d) e)) ∙ is_sent to d) in
      false≢true (sym (before_send q j to d f).0 ∙ row_any (list_any (is_send to.0 d.0)) raw.code p q (code_in raw.code p) (slice_get-get_or raw.code p [] (known p i (Send to d) e)) row l)

  not_before_place : (p i j : ℕ) (to : ProcId) (d : DatumId) → StandsAt b p i (Send to d) → StandsAt b p j (Send to d) → i < j → ⊥
  not_before_place p i j to d e f l =
      false≢true (sym (before_send p j to d f).1 ∙ row_any (is_send to.0 d.0) (code_in raw.code p) i j (RawSend to.0 d.0) (stands_raw p i (Send to d) e) (is_sent to d) l)

  one_send : (p i q j : ℕ) (to : ProcId) (d : DatumId) → StandsAt b p i (Send to d) → StandsAt b q j (Send to d) → (p ≡ q) × (i ≡ j)
  one_send p i q j to d e f = at (cases_order p q)
    where
      within : (j' : ℕ) → StandsAt b p j' (Send to d) → (i ≡ j') ⊎ ((i < j') ⊎ (j' < i)) → i ≡ j'
      within j' g (inl h) = h
      within j' g (inr (inl h)) = absurd (not_before_place p i j' to d e g h)
      within j' g (inr (inr h)) = absurd (not_before_place p j' i to d g e h)

      at : (p ≡ q) ⊎ ((p < q) ⊎ (q < p)) → (p ≡ q) × (i ≡ j)
      at (inl h) = (h, within j (subst (λ n. StandsAt b n j (Send to d)) (sym h) f) (cases_order i j))
      at (inr (inl h)) = absurd (not_before_row p i q j to d e f h)
      at (inr (inr h)) = absurd (not_before_row q j p i to d f e h)

  send_only : (q d : ℕ) (instr : Instr) → is_send_of q d instr ≡ true → instr ≡ Send (proc_id q) (datum_id d)
  send_only q d (Send to e) h =
      let parts = and_parts (to.0 == q) (e.0 == d) h in
      ap (λ n. Send (record { 0 = n }) e) (eqb-true to.0 q parts.0) ∙ ap (λ n. Send (proc_id q) (record { 0 = n })) (eqb-true e.0 d parts.1)
  send_only q d (Recv from e) h = absurd (false≢true h)
  send_only q d (Exec t) h = absurd (false≢true h)

  -- where a row has a send
  sent_in : (q d p : ℕ) (row : List Instr) → slice_get b.code p ≡ Some row → (i : ℕ) (instr : Instr) → slice_get row i ≡ Some instr → 1 ≤ cond (is_send_of q d instr) 1 0 → StandsAt b p i (Send (proc_id q) (datum_id d))
  sent_in q d p row e i instr f h =
      ap (λ (x : List Instr). slice_get x i) (get_or_from_slice_get b.code p row [] e) ∙ f ∙ ap Some (send_only q d instr (if_one (is_send_of q d instr) h))

  sends_once : (q d : ℕ) → sum_by (count_by (is_send_of q d)) b.code ≤ 1
  sends_once q d =
      at_most_one (count_by (is_send_of q d)) b.code
      (λ p row e. at_most_one (λ (x : Instr). cond (is_send_of q d x) 1 0) row (λ i instr f. at_most (is_send_of q d instr))
      (λ i j x y f g h k. (one_send p i p j (proc_id q) (datum_id d) (sent_in q d p row e i x f g) (sent_in q d p row e j y h k)).1))
      (λ p r row line e f g h.
      let s = some_place (λ (x : Instr). cond (is_send_of q d x) 1 0) row f in
      let t = some_place (λ (x : Instr). cond (is_send_of q d x) 1 0) line h in
      (one_send p s.0 r t.0 (proc_id q) (datum_id d) (sent_in q d p row e s.0 s.1 s.2 s.3) (sent_in q d r line g t.0 t.1 t.2 t.3)).0)

  -- a receive and what stands before it
  before_receive : (p i : ℕ) (from : ProcId) (d : DatumId) → StandsAt b p i (Recv from d) → list_any (is_receive d.0) (take i (code_in raw.code p)) ≡ false
  unfolding receives
  before_receive p i from d e =
      let s = stands_raw p i (Recv from d) e in
      not-true _ (ap (is_new_receive raw.code p i) (sym s) ∙ is.lawful.receives.kept p i (known p i (Recv from d) e) (slice_get_within (code_in raw.code p) i (RawRecv from.0 d.0) s))

  not_before : (p i j : ℕ) (from from' : ProcId) (d : DatumId) → StandsAt b p i (Recv from d) → StandsAt b p j (Recv from' d) → i < j → ⊥
  not_before p i j from from' d e f l =
      false≢true (sym (before_receive p j from' d f) ∙ row_any (is_receive d.0) (code_in raw.code p) i j (RawRecv from.0 d.0) (stands_raw p i (Recv from d) e) (eq-eqb d.0 d.0 refl) l)

  one_receive : (p i j : ℕ) (from from' : ProcId) (d : DatumId) → StandsAt b p i (Recv from d) → StandsAt b p j (Recv from' d) → i ≡ j
  one_receive p i j from from' d e f = at (cases_order i j)
    where
      at : (i ≡ j) ⊎ ((i < j) ⊎ (j < i)) → i ≡ j
      at (inl h) = h
      at (inr (inl h)) = absurd (not_before p i j from from' d e f h)
      at (inr (inr h)) = absurd (not_before p j i from' from d f e h)

  shape_is : (t : ℕ) → t < task_count b → (task_at b t).code.shape ≡ shape_of (raw_task_of (task_at b t))
  shape_is t l = is.shapes t no_task l

  short : (p : ℕ) → length (code_at b p) ≤ sum_by length raw.code
  short p = at (cases_lt p (processor_count b))
    where
      at : (p < processor_count b) ⊎ (processor_count b ≤ p) → length (code_at b p) ≤ sum_by length raw.code
      at (inl l) =
          let n = same_code in
          let m = code_part raw.code p (omega arith) in
          let e = ap length (code_seen p) ∙ length-map (code_at b p) raw_instr_of in
          omega arith
      at (inr l) = let e = ap length (get_or_past b.code p [] l) in omega arith

  fine_capacity : (i : ℕ) → i < length b.channels → IsFineCapacity b (channel_at b i)
  fine_capacity i l =
      let n = length-map b.channels raw_channel_of in
      let c = channel_at b i in
      let at : slice_get raw.channels i ≡ Some (raw_channel_of c) =
      slice_get-get_or raw.channels i (raw_channel_of no_channel) (omega arith) ∙ ap Some (mapped raw_channel_of b.channels i no_channel) in
      let parts = and_parts (nat_le 1 c.capacity) (nat_le c.capacity (send_count raw.code c.from.0 c.to.0)) (ap (is_fine_capacity raw.code) (sym at) ∙ capacity_kept raw i (omega arith) is.lawful.capacities) in
      (leb-true 1 c.capacity parts.0, leb-true c.capacity (send_count raw.code c.from.0 c.to.0) parts.1)

  pub well_formed : IsWellFormed b
  well_formed = record {
    some_processor = let n = same_code in let h = is.limits.least_processors in omega arith;
    few_processors = let n = same_code in let h = is.limits.processors in omega arith;
    few_tasks = let n = same_tasks in let h = is.limits.tasks in omega arith;
    few_datums = is.limits.datums;
    short = λ p. let h = short p in let k = is.limits.instructions in omega arith;
    lengths = λ d l. is.limits.lengths d (record { name = []; length = 0 }) l;
    few_reads = λ t l. subst (λ (x : RawTask). length x.reads ≤ READS) (task_seen t) (is.limits.each_task t _ (let n = same_tasks in omega arith)).reads;
    few_writes = λ t l. subst (λ (x : RawTask). length x.writes ≤ WRITES) (task_seen t) (is.limits.each_task t _ (let n = same_tasks in omega arith)).writes;
    shape_reads = λ t l. ap (λ s. s.reads) (shape_is t l) ∙ length-map (task_at b t).reads (λ (d : DatumId). d.0);
    shape_writes = λ t l. ap (λ s. s.writes) (shape_is t l) ∙ length-map (task_at b t).writes (λ (d : DatumId). d.0);
    reads = λ t l. fresh_below (datum_count b) (reads_of b t) (reads_kept t l);
    writes = λ t l. fresh_below (datum_count b) (writes_of b t) (writes_kept t l);
    reads_once = λ t l. fresh_distinct (datum_count b) (reads_of b t) (reads_kept t l);
    writes_once = λ t l. fresh_distinct (datum_count b) (writes_of b t) (writes_kept t l);
    some_writer = some_writer;
    one_writer = one_writer;
    instrs = λ p i instr e. fits_of p instr (fits_raw p i instr e);
    some_exec = some_exec;
    one_exec = one_exec;
    one_send = one_send;
    sends_once = sends_once;
    one_receive = one_receive;
    capacities = fine_capacity;
  }

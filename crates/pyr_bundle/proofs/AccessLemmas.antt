-- The reads and the writes of a task as one row of places.
use Rattle.std.proofs.Common.{◌≡◌, ℕ, ◌+◌, ◌-◌, ◌<◌, ◌≤◌, true, cond, List, length, get_or, ◌⊎◌, inl, inr, sym, ap, ◌∙◌, arith}
use Rattle.std.proofs.lemmas.Bool.{lt-ltb, le-ltb, cases_lt}
use Rattle.std.proofs.lemmas.List.{get_or_read}
use Rattle.pyr_bundle.specs.declared.raw_bundle.RawBundle.{RawBundle}
use Rattle.pyr_bundle.specs.declared.raw_task.RawTask.{RawTask}
use Rattle.pyr_bundle.specs.Law.{IsKept, IsKeptBefore, IsFirstBreach}
use Rattle.pyr_bundle.specs.Raw.{datum_count, task_count, task_in}
use Rattle.pyr_bundle.specs.Laws.{is_new, fresh, is_new_access, accesses}
use Rattle.pyr_bundle.proofs.Scans.{before_row, before_upto, single_before}

-- the task that a loop came to
pub task_is : (tasks items : List RawTask) (t : ℕ) (task : RawTask) → items ≡ tasks → t < length items → task ≡ get_or items t task → (t < length tasks) × (task_in tasks t ≡ task)
task_is tasks items t task e l r =
    let n = ap length e in
    (omega arith, sym (get_or_read items t task l r (record { locals = 0; reads = _; writes = _; code = _ }) ∙ ap (λ (x : List RawTask). task_in x t) e))

access-read : (count : ℕ) (task : RawTask) (i : ℕ) → i < length task.reads → is_new_access count task i ≡ is_new count task.reads i
access-read count task i l =
    ap (λ b. cond b (is_new count task.reads i) (is_new count task.writes (i - length task.reads))) (lt-ltb i (length task.reads) l)

access-write : (count : ℕ) (task : RawTask) (i : ℕ) → is_new_access count task (length task.reads + i) ≡ is_new count task.writes i
access-write count task i =
    ap (λ b. cond b (is_new count task.reads (length task.reads + i)) (is_new count task.writes (length task.reads + i - length task.reads))) (le-ltb (length task.reads + i) (length task.reads) (omega arith))
    ∙ ap (is_new count task.writes) (omega arith)

module _ (raw : RawBundle) (t : ℕ) (known : t < task_count raw) (before : IsKeptBefore (accesses raw) t 0) where
  pub reads_breach : (i : ℕ) → IsFirstBreach (fresh (datum_count raw) (task_in raw.tasks t).reads) i 0 → IsFirstBreach (accesses raw) t i
  unfolding accesses
  reads_breach i h = record {
    row = known;
    column = let l = h.row in omega arith;
    broken = access-read (datum_count raw) (task_in raw.tasks t) i h.row ∙ h.broken;
    earlier = before_upto (accesses raw) t i before (λ b l. access-read (datum_count raw) (task_in raw.tasks t) b (let k = h.row in omega arith) ∙ single_before _ (is_new (datum_count raw) (task_in raw.tasks t).reads) i b h.earlier l (let k = h.row in omega arith));
  }

  -- the places of the writes, behind those of the reads
  places : (n : ℕ) → IsKept (fresh (datum_count raw) (task_in raw.tasks t).reads) → ((i : ℕ) → i < n → is_new (datum_count raw) (task_in raw.tasks t).writes i ≡ true) → (b : ℕ) → b < length (task_in raw.tasks t).reads + n → is_new_access (datum_count raw) (task_in raw.tasks t) b ≡ true
  places n reads writes b l = at (cases_lt b (length (task_in raw.tasks t).reads))
    where
      at : (b < length (task_in raw.tasks t).reads) ⊎ (length (task_in raw.tasks t).reads ≤ b) → is_new_access (datum_count raw) (task_in raw.tasks t) b ≡ true
      at (inl k) = access-read (datum_count raw) (task_in raw.tasks t) b k ∙ reads.kept b 0 k (omega arith)
      at (inr k) =
          let i : ℕ = b - length (task_in raw.tasks t).reads in
          let e : b ≡ length (task_in raw.tasks t).reads + i = omega arith in
          ap (is_new_access (datum_count raw) (task_in raw.tasks t)) e ∙ access-write (datum_count raw) (task_in raw.tasks t) i ∙ writes i (omega arith)

  pub writes_breach : (i : ℕ) → IsKept (fresh (datum_count raw) (task_in raw.tasks t).reads) → IsFirstBreach (fresh (datum_count raw) (task_in raw.tasks t).writes) i 0 → IsFirstBreach (accesses raw) t (length (task_in raw.tasks t).reads + i)
  unfolding accesses
  writes_breach i reads h = record {
    row = known;
    column = let l = h.row in omega arith;
    broken = access-write (datum_count raw) (task_in raw.tasks t) i ∙ h.broken;
    earlier = before_upto (accesses raw) t (length (task_in raw.tasks t).reads + i) before
        (places i reads (λ b l. single_before _ (is_new (datum_count raw) (task_in raw.tasks t).writes) i b h.earlier l (let k = h.row in omega arith)));
  }

  pub lists_kept : IsKept (fresh (datum_count raw) (task_in raw.tasks t).reads) → IsKept (fresh (datum_count raw) (task_in raw.tasks t).writes) → IsKeptBefore (accesses raw) (t + 1) 0
  unfolding accesses
  lists_kept reads writes =
      before_row (accesses raw) t (length (task_in raw.tasks t).reads + length (task_in raw.tasks t).writes) (omega arith)
      (before_upto (accesses raw) t (length (task_in raw.tasks t).reads + length (task_in raw.tasks t).writes) before
      (places (length (task_in raw.tasks t).writes) reads (λ b l. writes.kept b 0 l (omega arith))))

-- the lists of a task, where the law is kept
pub writes_fresh : (raw : RawBundle) (t : ℕ) → IsKept (accesses raw) → t < task_count raw → IsKept (fresh (datum_count raw) (task_in raw.tasks t).writes)
unfolding accesses
writes_fresh raw t h l = record {
  kept = λ a b r k. sym (access-write (datum_count raw) (task_in raw.tasks t) a) ∙ h.kept t (length (task_in raw.tasks t).reads + a) l (omega arith);
}

pub reads_fresh : (raw : RawBundle) (t : ℕ) → IsKept (accesses raw) → t < task_count raw → IsKept (fresh (datum_count raw) (task_in raw.tasks t).reads)
unfolding accesses
reads_fresh raw t h l = record {
  kept = λ a b r k. sym (access-read (datum_count raw) (task_in raw.tasks t) a r) ∙ h.kept t a l (omega arith);
}

-- What the two queues of a clustering hold, and what one step changes in them. No public clause
-- cites this.
use Rattle.std.specs.Prelude.{◌≡◌, ℕ, Bool, true, false, ◌&&◌, ◌||◌, if◌then◌else◌, Option, Some, None, List, nat_eq, nat_lt}
use Rattle.std.specs.List.{list_all}
use Rattle.pyr_graph.specs.System.{task_count, IsEdge}
use Rattle.pyr_graph.specs.Numbers.{holds}
use Rattle.pyr_lists.specs.Queue.{Queue, priority_of}
use Rattle.pyr_dsc.specs.State.{State, predecessors, finish, is_examined, is_free, is_partly_free, priority, partial_priority}
use Rattle.pyr_dsc.specs.Run.{state}

-- the key of a number below n that passes the test
abbrev pub entry_of : (ℕ → Bool) → (ℕ → ℕ) → ℕ → ℕ → Option ℕ
entry_of is key n t = if nat_lt t n && is t then Some (key t) else None

-- the queue holds the numbers below n that pass the test, each with its key
abbrev pub IsQueueOf : (ℕ → Bool) → (ℕ → ℕ) → ℕ → Queue → Type 0
IsQueueOf is key n q = (t : ℕ) → priority_of q t ≡ entry_of is key n t

-- what the queue of free tasks has of a task, and that of the partly free ones
abbrev pub free_entry : State → ℕ → Option ℕ
free_entry z t = entry_of (is_free z) (priority z) (task_count z.system) t

abbrev pub partly_free_entry : State → ℕ → Option ℕ
partly_free_entry z t = entry_of (is_partly_free z) (partial_priority z) (task_count z.system) t

abbrev pub IsFreeQueue : State → Queue → Type 0
IsFreeQueue z q = IsQueueOf (is_free z) (priority z) (task_count z.system) q

abbrev pub IsPartlyFreeQueue : State → Queue → Type 0
IsPartlyFreeQueue z q = IsQueueOf (is_partly_free z) (partial_priority z) (task_count z.system) q

-- Task x was examined, and no other. What tasks that aren't examined then read from ends when it did:
-- so it is along a step, and also along moves, since nobody but x reads from what is moved.
pub record IsAfter (z : State) (x : ℕ) (clusters : List (List ℕ)) (tlevels : List ℕ) : Type 0 where
  pub examined : (t : ℕ)
      → is_examined (state z.system z.blevels clusters tlevels) t ≡ (is_examined z t || nat_eq t x)
  pub finishes : (u t : ℕ) → is_examined z u ≡ true → IsEdge z.system u t
      → is_examined (state z.system z.blevels clusters tlevels) t ≡ false
      → finish (state z.system z.blevels clusters tlevels) u ≡ finish z u

-- the queue has the new entries of these tasks, and the old ones of all others
abbrev pub IsBetween : (ℕ → Option ℕ) → (ℕ → Option ℕ) → List ℕ → Queue → Type 0
IsBetween old new done q = (t : ℕ) → priority_of q t ≡ (if holds done t then new t else old t)

-- the entries of a queue without one task
abbrev pub entry_without : ℕ → (ℕ → Option ℕ) → ℕ → Option ℕ
entry_without x entry t = if nat_eq t x then None else entry t

-- The entries of a task that reads from x, after x was examined: it is free where all are examined
-- that it reads from, else partly free, and its priority is that of a partly free task.
abbrev pub free_then : State → ℕ → Option ℕ
free_then z t = if list_all (is_examined z) (predecessors z t) then Some (partial_priority z t) else None

abbrev pub partly_free_then : State → ℕ → Option ℕ
partly_free_then z t = if list_all (is_examined z) (predecessors z t) then None else Some (partial_priority z t)

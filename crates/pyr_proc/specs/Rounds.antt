-- The value of each datum, told without an order of the tasks.
use Rattle.std.specs.Prelude.{ℕ, zero, suc, if◌then◌else◌, None, List, [], nat_eq, unwrap_or}
use Rattle.std.specs.List.{list_any}
use Rattle.pyr_seq.specs.Sequential.{Tasks, Store, inputs_of, entry_at}

-- what the first n tasks make of this store, each by itself. No two of them write one datum
abbrev pub made_at_once : Tasks → ℕ → Store → Store
made_at_once tasks zero store d = None
made_at_once tasks (suc t) store d =
    if list_any (nat_eq d) (tasks.writes t)
    then entry_at (tasks.writes t) (tasks.outputs t (inputs_of tasks store t)) d
    else made_at_once tasks t store d

-- in each round, all tasks make at once what they make of what the round before left
abbrev pub after_rounds : Tasks → ℕ → Store
after_rounds tasks zero d = None
after_rounds tasks (suc n) d = made_at_once tasks tasks.count (after_rounds tasks n) d

-- the words of a datum after as many rounds as there are tasks
abbrev pub settled : Tasks → ℕ → List ℕ
settled tasks d = unwrap_or (after_rounds tasks tasks.count d) []

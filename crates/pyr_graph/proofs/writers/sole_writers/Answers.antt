use Rattle.pyr_graph.proofs.WriterLemmas.{least_twice, least_unwritten, none_twice, are_sole}
use Rattle.pyr_graph.proofs.writers.sole_writers.Goals as goal

pub first_with-requires : goal.first_with-requires
first_with-requires c = rw (c.deref.ensures.value, c.in_ok-table.ensures.full) c.requires.count

pub first_with-requires-2 : goal.first_with-requires-2
first_with-requires-2 c = rw (c.deref-2.ensures.value, c.in_ok-table.ensures.full) c.requires.count

pub only_writers-requires : goal.only_writers-requires
only_writers-requires c = record {
  some = rw c.deref-3.ensures.value (rw c.deref-2.ensures.value at c.in_default-first_with.ensures.none);
  one = rw c.deref-3.ensures.value (rw c.deref.ensures.value at c.in_default.ensures.none);
}

pub returns-in-Some : goal.returns-in-Some
returns-in-Some c =
    let found = rw c.deref.ensures.value at c.in-Some.ensures.found in
    let least = rw c.deref.ensures.value at c.in-Some.ensures.least in
    record {
      sole = tt;
      cause = least_twice _ _ _ c.in_ok-table.ensures.full c.in_ok-table.ensures.described c.in-Some.datum.0 found.0 found.1 least;
    }

pub returns-in-Some-first_with : goal.returns-in-Some-first_with
returns-in-Some-first_with c =
    let no_several = rw c.deref.ensures.value at c.in_default.ensures.none in
    let found = rw c.deref-2.ensures.value at c.in-Some-first_with.ensures.found in
    let least = rw c.deref-2.ensures.value at c.in-Some-first_with.ensures.least in
    let table = c.in_ok-table.ensures in
    record {
      sole = tt;
      cause = (
        none_twice _ _ _ table.full table.described c.requires.holds no_several,
        least_unwritten _ _ _ table.full table.described c.in-Some-first_with.datum.0 found.0 found.1 least,
      );
    }

pub returns : goal.returns
returns c =
    let table = c.in_ok-table.ensures in
    let full = rw c.deref-3.ensures.value at c.in_ok-only_writers.ensures.full in
    let only = rw c.deref-3.ensures.value at c.in_ok-only_writers.ensures.only in
    record { sole = are_sole _ _ _ table.full table.described _ full only; cause = tt }

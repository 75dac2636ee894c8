use Rattle.std.proofs.Common.{refl, ◌∙◌}
use Rattle.std.proofs.lemmas.List.{length-map}
use Rattle.std.proofs.lemmas.Result.{err_from_is_err_and}
use Rattle.pyr_num.specs.declared.ids.TaskId.{TaskId}
use Rattle.pyr_graph.specs.System.{system_of}
use Rattle.pyr_graph.proofs.BuildLemmas.{HasWriters, HasRows, HasTurned, few_tasks, few_datums, limits_of, IsFault-writer_cause, forth_rows, back_rows, opposite, IsFault-cause, index_of, graph_of, sound_of}
use Rattle.pyr_graph.proofs.index.Index.build.Goals as goal
use Rattle.pyr_graph.proofs.index.Index.build.Goals.{In_ok-check_parts, After-as_slice, After-deref, After-deref-3}

pub returns-in_err-check_parts : goal.returns-in_err-check_parts
returns-in_err-check_parts c =
    let p = err_from_is_err_and c.from_residual.result c.from_residual.ensures.1 in
    rw (p.1, p.2) (record { index = tt; graph = tt; sound = tt; fault = c.in_err-check_parts.ensures.fault })

pub sole_writers-requires : goal.sole_writers-requires
sole_writers-requires c =
    let s = system_of c.args.tasks.now c.args.datums.now c.args.prints.now in
    record {
      few = few_tasks s c.in_ok-check_parts.ensures.distinct;
      count = few_datums s c.in_ok-check_parts.ensures.distinct;
      holds = c.requires.writes;
    }

pub returns-in_err-writers : goal.returns-in_err-writers
returns-in_err-writers c =
    let p = err_from_is_err_and c.from_residual-in_err-writers.result c.from_residual-in_err-writers.ensures.1 in
    let fault = IsFault-writer_cause (system_of c.args.tasks.now c.args.datums.now c.args.prints.now) c.in_ok-check_parts.ensures.distinct _ c.in_err-writers.ensures.cause in
    rw (p.1, p.2) (record { index = tt; graph = tt; sound = tt; fault = fault })

-- the writer of each datum
written : (c : After-as_slice) → HasWriters (system_of c.args.tasks.now c.args.datums.now c.args.prints.now) c.in_ok-writers.writers
written c = record { holds = c.requires; distinct = c.in_ok-check_parts.ensures.distinct; sole = c.in_ok-writers.ensures.sole }

pub successors_of-requires : goal.successors_of-requires
successors_of-requires c =
    let s = system_of c.args.tasks.now c.args.datums.now c.args.prints.now in
    let limits = limits_of s c.in_ok-check_parts.ensures.distinct in
    let sole = c.in_ok-writers.ensures.sole in
    record {
      few = few_tasks s c.in_ok-check_parts.ensures.distinct;
      same = rw c.as_slice.ensures sole.full;
      reads = c.requires.reads;
      writers = rw c.as_slice.ensures (λ d d_in. (sole.writes d d_in).0);
      short = limits.reads;
      light = limits.comms;
    }

-- the edges out of each task
rowed : (c : After-deref) → HasRows (system_of c.args.tasks.now c.args.datums.now c.args.prints.now) c.in_ok-writers.writers c.in_ok-successors.successors.items
rowed c = record {
  wrote = record { holds = c.requires; distinct = c.in_ok-check_parts.ensures.distinct; sole = c.in_ok-writers.ensures.sole };
  full = c.in_ok-successors.ensures.full;
  rows = rw c.as_slice.ensures at c.in_ok-successors.ensures.rows;
}

pub turned_rows-requires : goal.turned_rows-requires
turned_rows-requires c =
    let is = rowed c in
    rw (c.deref.ensures.value, is.full) (record { few = few_tasks _ c.in_ok-check_parts.ensures.distinct; rows = forth_rows _ _ _ is })

-- and into each task
turned : (c : After-deref-3) → HasTurned (system_of c.args.tasks.now c.args.datums.now c.args.prints.now) c.in_ok-writers.writers c.in_ok-successors.successors.items c.in_ok-predecessors.predecessors.items
turned c =
    let rows = rowed (goal.at.order_of-requires c).After-deref in
    record {
      rowed = rows;
      full = (rw c.deref.ensures.value at c.in_ok-predecessors.ensures.full) ∙ rows.full;
      turned = λ t t_in. (rw c.deref.ensures.value at c.in_ok-predecessors.ensures.turned) t (rw rows.full t_in);
    }

pub order_of-requires : goal.order_of-requires
order_of-requires c =
    let is = turned c in
    rw (c.deref-2.ensures.value, c.deref-3.ensures.value, is.full)
    (record { few = few_tasks _ c.in_ok-check_parts.ensures.distinct; rows = back_rows _ _ _ _ is; back = forth_rows _ _ _ is.rowed; opposite = opposite _ _ _ _ is })

pub returns-in_err-order : goal.returns-in_err-order
returns-in_err-order c =
    let is = turned (goal.at.returns-in_err-order c).After-deref-3 in
    let cause = rw (c.deref-2.ensures.value, is.full) at c.in_err-order.ensures.cause in
    let p = err_from_is_err_and c.from_residual-in_err-order.result c.from_residual-in_err-order.ensures.1 in
    rw (p.1, p.2) (record { index = tt; graph = tt; sound = tt; fault = IsFault-cause _ _ _ _ is _ cause })

pub returns : goal.returns
returns c =
    let is = turned (goal.at.returns c).After-deref-3 in
    let many = length-map c.in_ok-order.order (λ (t : TaskId). t.0) ∙ (rw (c.deref-2.ensures.value, is.full) at c.in_ok-order.ensures.full) in
    let first = rw (c.deref-2.ensures.value, is.full) at c.in_ok-order.ensures.first in
    record {
      index = index_of _ _ _ _ is c.in_ok-order.order many first _ refl c.from_vec.ensures c.from_vec-2.ensures refl;
      graph = graph_of _ _ _ _ is c.in_ok-order.order many first;
      sound = sound_of _ _ _ _ is c.in_ok-order.order many first;
      fault = tt;
    }

use Rattle.std.proofs.Common.{refl}
use Rattle.std.proofs.lemmas.Result.{err_from_is_err_and}
use Rattle.pyr_graph.proofs.graph.Graph.build.Goals as goal

pub build-requires : goal.build-requires
build-requires c = rw (c.deref.ensures.value, c.deref-2.ensures.value, c.deref-3.ensures.value) c.requires

pub returns-in_err-index : goal.returns-in_err-index
returns-in_err-index c =
    let p = err_from_is_err_and c.from_residual.result c.from_residual.ensures.1 in
    let fault = rw (c.deref.ensures.value, c.deref-2.ensures.value, c.deref-3.ensures.value) at c.in_err-index.ensures.fault in
    rw (p.1, p.2) (record { ok = tt; sound = tt; fault = fault })

pub returns : goal.returns
returns c = record {
  ok = rw (c.from_vec.ensures, c.from_vec-2.ensures, c.from_vec-3.ensures) refl;
  sound = rw (c.deref.ensures.value, c.deref-2.ensures.value, c.deref-3.ensures.value) at c.in_ok-index.ensures.sound;
  fault = tt;
}

pub invariant_of-result : goal.invariant_of-result
invariant_of-result c =
    rw (c.from_vec.ensures, c.from_vec-2.ensures, c.from_vec-3.ensures) (
      rw (c.deref.ensures.value, c.deref-2.ensures.value, c.deref-3.ensures.value) at c.in_ok-index.ensures.graph,
      rw (c.deref.ensures.value, c.deref-2.ensures.value, c.deref-3.ensures.value) at c.in_ok-index.ensures.index,
    )

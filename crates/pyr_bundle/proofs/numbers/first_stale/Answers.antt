use Rattle.std.proofs.Common.{◌≡◌, ℕ, true, not, length, get_or, refl, sym, ap, ◌∙◌, arith}
use Rattle.std.proofs.lemmas.Bool.{ne_eqb}
use Rattle.pyr_bundle.specs.Laws.{is_new}
use Rattle.pyr_bundle.proofs.Scans.{before_all, single_more}
use Rattle.pyr_bundle.proofs.Stamps.{stamped_more, new_here}
use Rattle.pyr_bundle.proofs.numbers.first_stale.Goals as goal

pub loop-i-preserved : goal.loop-i-preserved
loop-i-preserved c =
    let x : ℕ = get_or c.args.list.now c.loop-i.i 0 in
    let n : length c.loop-i.named ≡ length c.args.named.now = c.loop-i.auto.named in
    let new : is_new (length c.args.named.now) c.args.list.now c.loop-i.i ≡ true =
    ap (λ k. is_new k c.args.list.now c.loop-i.i) (sym n) ∙ new_here c.loop-i.named c.args.list.now c.args.round c.loop-i.i x refl c.if-datum-named.false c.loop-i.invariant.stamped ∙ ap not (ne_eqb (get_or c.loop-i.named x 0) c.args.round c.if-named-datum.false) in
    record {
      before = single_more _ (is_new (length c.args.named.now) c.args.list.now) _ c.loop-i.invariant.before new;
      stamped = stamped_more c.loop-i.named c.args.list.now c.args.round c.loop-i.i x c.loop-i-test.true refl c.if-datum-named.false c.loop-i.invariant.stamped;
    }

pub returns-clause-found : goal.returns-clause-found
returns-clause-found c = before_all _ c.loop-i.i (omega arith) c.loop-i.invariant.before

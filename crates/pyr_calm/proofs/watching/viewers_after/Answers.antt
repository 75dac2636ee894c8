use Rattle.std.proofs.Common.{◌+◌, ◌∙◌, sym, subst, arith}
use Rattle.std.proofs.lemmas.List.{with_items_is, get_or_default}
use Rattle.pyr_calm.specs.declared.passage.Passage.TheVariants.{Send as Sends, Take as Takes}
use Rattle.pyr_calm.proofs.Passes.{IsPassed, pass_first, pass_more, pass_last, ends_in}
use Rattle.pyr_calm.proofs.watching.viewers_after.Goals as goal
use Rattle.pyr_calm.proofs.watching.viewers_after.Goals.{in-Send+in_ok-watch_send-in-Send, in-Take+in_ok-watch_take-in-Take}

pub loop-passage-init : goal.loop-passage-init
loop-passage-init c =
    pass_first c.args.processors c.args.q c.args.passages.now _ _ c.in_ok-viewers.ensures c.new-takes.ensures.items

pub watch_send-requires-clause-from : goal.watch_send-requires-clause-from
watch_send-requires-clause-from c =
    (ends_in c.args.processors c.args.passages.now c.loop-passage.passage-index (Sends 0 0) (Sends c.in-Send.from c.in-Send.to) c.loop-passage.viewers.items
    c.deref_mut.result.now c.loop-passage.takes.items c.requires c.loop-passage-test.true c.in-Send.is c.deref_mut.ensures.value c.loop-passage.invariant.seated).0

pub watch_send-requires-clause-to : goal.watch_send-requires-clause-to
watch_send-requires-clause-to c =
    (ends_in c.args.processors c.args.passages.now c.loop-passage.passage-index (Sends 0 0) (Sends c.in-Send.from c.in-Send.to) c.loop-passage.viewers.items
    c.deref_mut.result.now c.loop-passage.takes.items c.requires c.loop-passage-test.true c.in-Send.is c.deref_mut.ensures.value c.loop-passage.invariant.seated).1

pub watch_take-requires-clause-from : goal.watch_take-requires-clause-from
watch_take-requires-clause-from c =
    (ends_in c.args.processors c.args.passages.now c.loop-passage.passage-index (Sends 0 0) (Takes c.in-Take.from c.in-Take.to) c.loop-passage.viewers.items
    c.deref_mut-in-Take.result.now c.loop-passage.takes.items c.requires c.loop-passage-test.true c.in-Take.is c.deref_mut-in-Take.ensures.value c.loop-passage.invariant.seated).0

pub watch_take-requires-clause-to : goal.watch_take-requires-clause-to
watch_take-requires-clause-to c =
    (ends_in c.args.processors c.args.passages.now c.loop-passage.passage-index (Sends 0 0) (Takes c.in-Take.from c.in-Take.to) c.loop-passage.viewers.items
    c.deref_mut-in-Take.result.now c.loop-passage.takes.items c.requires c.loop-passage-test.true c.in-Take.is c.deref_mut-in-Take.ensures.value c.loop-passage.invariant.seated).1

pub loop-passage-preserved : goal.loop-passage-preserved
loop-passage-preserved c =
    let n = c.args.processors in
    let q = c.args.q in
    let xs = c.args.passages.now in
    let i = c.loop-passage.passage-index in
    let seats = c.loop-passage.viewers.items in
    let takes = c.loop-passage.takes.items in
    elim c.match-passage.branch [
      | in-Send+in_ok-watch_send-in-Send w ↦ let x = Sends w.in-Send.from w.in-Send.to in
          let e = w.in_ok-watch_send-in-Send.ensures in
          let new = w.watch_send.new.viewers in
          let h = subst (λ v. IsPassed n q xs i v w.deref.result.now) (sym w.deref_mut.ensures.value)
          (subst (IsPassed n q xs i seats) (sym w.deref.ensures.value) c.loop-passage.invariant) in
          let done : IsPassed n q xs (i + 1) new w.deref.result.now =
          pass_more n q xs i x w.deref_mut.result.now w.deref.result.now new w.deref.result.now h c.loop-passage-test.true
          (get_or_default xs i x (Sends 0 0) c.loop-passage-test.true ∙ w.in-Send.is) e.view e.seated e.few in
          rw (w.viewers-is, w.takes-is)
          (subst (λ v. IsPassed n q xs (i + 1) v takes) (sym (with_items_is c.loop-passage.viewers new (w.watch_send.auto.viewers ∙ w.deref_mut.ensures.len)))
          (subst (IsPassed n q xs (i + 1) new) w.deref.ensures.value done))
      | in-Take+in_ok-watch_take-in-Take w ↦ let x = Takes w.in-Take.from w.in-Take.to in
          let e = w.in_ok-watch_take-in-Take.ensures in
          let new = w.watch_take.new.viewers in
          let ts = w.watch_take.new.takes.items in
          let h = subst (λ v. IsPassed n q xs i v takes) (sym w.deref_mut-in-Take.ensures.value) c.loop-passage.invariant in
          let done : IsPassed n q xs (i + 1) new ts =
          pass_more n q xs i x w.deref_mut-in-Take.result.now takes new ts h c.loop-passage-test.true
          (get_or_default xs i x (Sends 0 0) c.loop-passage-test.true ∙ w.in-Take.is) e.view e.seated e.few in
          rw (w.viewers-is, w.takes-is)
          (subst (λ v. IsPassed n q xs (i + 1) v ts) (sym (with_items_is c.loop-passage.viewers new (w.watch_take.auto.viewers ∙ w.deref_mut-in-Take.ensures.len))) done)
    ]

pub returns-clause-most : goal.returns-clause-most
returns-clause-most c =
    pass_last c.args.processors c.args.q c.args.passages.now c.loop-passage.passage-index _ _ c.loop-passage.invariant
    (let e = c.loop-passage-test.false in omega (arith, e))

-- One answer stands for each text.
use Rattle.std.proofs.Common.{◌≡◌, ◌≢◌, ℕ, ◌<◌, ◌≤◌, true, List, [], ◌⊎◌, inl, inr, refl, sym, ◌∙◌, ap, subst, arith}
use Rattle.std.proofs.lemmas.Option.{same_Some}
use Rattle.pyr_num.specs.declared.ids.DatumId.{DatumId}
use Rattle.pyr_num.specs.declared.ids.ProcId.{ProcId}
use Rattle.pyr_num.specs.declared.limits.Quantity.{Quantity}
use Rattle.pyr_net.specs.Net.{World}
use Rattle.pyr_net.specs.Run.{end_of}
use Rattle.pyr_bundle.specs.declared.raw_bundle.RawBundle.{RawBundle}
use Rattle.pyr_bundle.specs.declared.instr.Instr.{Instr}
use Rattle.pyr_bundle.specs.declared.instr.Instr.TheVariants.{Recv, Exec, Send}
use Rattle.pyr_bundle.specs.declared.bundle_fault.BundleFault.TheVariants as laws
use Rattle.pyr_bundle.specs.Faults.{IsLawful, IsCause}
use Rattle.pyr_bundle.specs.Parts.{Parts, IsBundle, parts_of, processor_count}
use Rattle.pyr_bundle.specs.WellFormed.{StandsAt}
use Rattle.pyr_bundle.proofs.OneFault.{one_fault}
use Rattle.pyr_bundle.proofs.PartsLemmas.{bundle_of}
use Rattle.pyr_bundle.proofs.WellFormedLemmas.{well_formed}
use Rattle.pyr_bundletext.specs.declared.bundle_text_fault.BundleTextFault.{BundleTextFault}
use Rattle.pyr_bundletext.specs.declared.bundle_text_fault.BundleTextFault.TheVariants as texts
use Rattle.pyr_bundletext.specs.Answer.{StandsFor, IsFaultOf}
use Rattle.pyr_bundletext.proofs.OneAnswer.{one_answer as one_text_answer}
use Rattle.pyr_machine.specs.Machine.{LocalState, tags, tag_rules, start, holds, datum_tag}
use Rattle.pyr_machine.specs.Good.{Loads, IsDone}
use Rattle.pyr_machine.specs.Counts.{step_count}
use Rattle.pyr_machine.proofs.Output.{stands_within}
use Rattle.pyr_loader.specs.declared.stop.Stop.{Stop}
use Rattle.pyr_loader.specs.declared.load_fault.LoadFault.{LoadFault}
use Rattle.pyr_loader.specs.declared.load_fault.LoadFault.TheVariants.{BadText, Limit, Law, Stuck, Leftover, Memory}
use Rattle.pyr_loader.specs.Stops.{stops_of}
use Rattle.pyr_loader.specs.Leftover.{IsUnderway, IsLeft, NotAfter, IsFirstLeft}
use Rattle.pyr_loader.specs.Told.{told_text}
use Rattle.pyr_loader.specs.Answer.{IsTextOf, IsLoadOf, IsStuck, HasLeftover, IsRefusal}
use Rattle.pyr_loader.specs.Laws.{OneAnswerIsTold}
use Rattle.pyr_loader.proofs.Outcomes.{one_outcome, one_ended}

-- the bundle of a text

one_raw : (text : List ℕ) (raw other : RawBundle) → StandsFor text raw → StandsFor text other → raw ≡ other
one_raw text raw other h k = one_text_answer.one_bundle text raw other h k

one_parts : (text : List ℕ) (b c : Parts) → IsTextOf text b → IsTextOf text c → b ≡ c
one_parts text b c h k = h.parts ∙ ap parts_of (one_raw text h.raw k.raw h.stands k.stands) ∙ sym k.parts

pub is_bundle : (text : List ℕ) (b : Parts) → IsTextOf text b → IsBundle b
is_bundle text b h = subst IsBundle (sym h.parts) (bundle_of h.raw h.lawful h.stands.limits)

loads_path : (l m : Loads) → l.bundle ≡ m.bundle → l.steps ≡ m.steps → l ≡ m
loads_path l m e s = λ i. record { bundle = e i; steps = s i }

one_load : (text : List ℕ) (l m : Loads) → IsLoadOf text l → IsLoadOf text m → l ≡ m
one_load text l m h k =
    let e = one_parts text l.bundle m.bundle h.is_text k.is_text in
    loads_path l m e (h.steps ∙ ap step_count e ∙ sym k.steps)

-- the stops of a bundle that is stuck

one_stuck : (b : Parts) (stops others : List Stop) → IsStuck b stops → IsStuck b others → stops ≡ others
one_stuck b stops others h k =
    h.stops_are ∙ ap (stops_of b) (one_outcome (tag_rules b) start h.state k.state h.count k.count h.outcome k.outcome) ∙ sym k.stops_are

-- the first send whose parcel is left

not_after_both : (a b c x y z : ℕ) → NotAfter a b c x y z → NotAfter x y z a b c → (a ≡ x) × (b ≡ y) × (c ≡ z)
not_after_both a b c x y z (inl h) (inl k) = absurd (omega arith)
not_after_both a b c x y z (inl h) (inr k) = absurd (let e = k.0 in omega arith)
not_after_both a b c x y z (inr h) (inl k) = absurd (let e = h.0 in omega arith)
not_after_both a b c x y z (inr h) (inr k) = at h.1 k.1
  where
    at : ((b < y) ⊎ ((b ≡ y) × (c ≤ z))) → ((y < b) ⊎ ((y ≡ b) × (z ≤ c))) → (a ≡ x) × (b ≡ y) × (c ≡ z)
    at (inl f) (inl g) = absurd (omega arith)
    at (inl f) (inr g) = absurd (let e = g.0 in omega arith)
    at (inr f) (inl g) = absurd (let e = f.0 in omega arith)
    at (inr f) (inr g) = (h.0, f.0, (let u = f.1 in let v = g.1 in omega arith))

proc_path : (p q : ProcId) → p.0 ≡ q.0 → p ≡ q
proc_path p q e = λ i. record { 0 = e i }

send_datum : (to other : ProcId) (d e : DatumId) → Send to d ≡ Send other e → d ≡ e
send_datum to other d e h = ap datum h
  where
    datum : Instr → DatumId
    datum (Recv from x) = x
    datum (Exec t) = d
    datum (Send q x) = x

leftover_path : (from other to others : ProcId) (d e : DatumId) → from ≡ other → to ≡ others → d ≡ e → Leftover from to d ≡ Leftover other others e
leftover_path from other to others d e f g h = ap (λ x. Leftover x to d) f ∙ ap (λ x. Leftover other x d) g ∙ ap (Leftover other others) h

one_first : (b : Parts) (z : World (LocalState DatumId) DatumId) (from other to others : ProcId) (d e : DatumId) → IsFirstLeft b z from to d → IsFirstLeft b z other others e → Leftover from to d ≡ Leftover other others e
one_first b z from other to others d e h k =
    let same = not_after_both from.0 to.0 h.place other.0 others.0 k.place (h.first other others k.place e k.is_left) (k.first from to h.place d h.is_left) in
    let sends : StandsAt b from.0 h.place (Send others e) =
    subst (λ n. StandsAt b n h.place (Send others e)) (sym same.0) (subst (λ n. StandsAt b other.0 n (Send others e)) (sym same.2) k.is_left.sends) in
    leftover_path from other to others d e (proc_path from other same.0) (proc_path to others same.1)
    (send_datum to others d e (same_Some _ _ (sym h.is_left.sends ∙ sends)))

one_leftover : (b : Parts) (from other to others : ProcId) (d e : DatumId) → HasLeftover b from to d → HasLeftover b other others e → Leftover from to d ≡ Leftover other others e
one_leftover b from other to others d e h k =
    one_first b (end_of (tag_rules b) start h.run) from other to others d e h.first
    (subst (λ z. IsFirstLeft b z other others e) (sym (one_ended (tag_rules b) start h.run k.run h.is_run h.ended k.is_run k.ended)) k.first)

-- in a done state no parcel is left
done_none : (b : Parts) (z : World (LocalState DatumId) DatumId) (from to : ProcId) (place : ℕ) (d : DatumId) → IsBundle b → IsDone (tags b) b z → IsLeft b z from to place d → ⊥
done_none b z from to place d is done h = at h.left
  where
    receiver : to.0 < processor_count b
    receiver = ((well_formed b is).instrs from.0 place (Send to d) h.sends).0.0

    sender : from.0 < processor_count b
    sender = stands_within b from.0 place (Send to d) h.sends

    none : (xs : List DatumId) → xs ≡ [] → holds datum_tag d.0 xs ≡ true → ⊥
    none xs e f = let g : holds datum_tag d.0 [] ≡ true = subst (λ ys. holds datum_tag d.0 ys ≡ true) e f in cc

    at : IsUnderway z from.0 to.0 d.0 → ⊥
    at (inl f) = none (z.lists from.0 to.0) (done.complete.empty from.0 to.0 sender receiver) f
    at (inr f) = none (z.locals to.0).stash (done.stashes to.0 receiver) f

-- refusals

text_faults : (text : List ℕ) (fault other : BundleTextFault) → fault ≢ texts.Memory → other ≢ texts.Memory → IsFaultOf text fault → IsFaultOf text other → told_text fault ≡ told_text other
text_faults text fault other m n h k = ap told_text (one_text_answer.one_fault text fault other m n h k)

faulty_text : (text : List ℕ) (raw : RawBundle) (fault : BundleTextFault) → fault ≢ texts.Memory → StandsFor text raw → IsFaultOf text fault → ⊥
faulty_text text raw fault m h k = one_text_answer.not_both text raw fault m h k

no_memory_line : (line : ℕ) → texts.BadText line ≢ texts.Memory
no_memory_line line e = cc

no_memory_limit : (line : ℕ) (which : Quantity) → texts.Limit line which ≢ texts.Memory
no_memory_limit line which e = cc

law_path : (m n a b c d : ℕ) → (m ≡ n) × (a ≡ c) × (b ≡ d) → Law m a b ≡ Law n c d
law_path m n a b c d e = ap (λ x. Law x a b) e.0 ∙ ap (λ x. Law n x b) e.1 ∙ ap (Law n c) e.2

one_law : (text : List ℕ) (m n a b c d : ℕ) → IsRefusal text (Law m a b) → IsRefusal text (Law n c d) → Law m a b ≡ Law n c d
one_law text m n a b c d (raw, s, h) (other, t, k) =
    law_path m n a b c d (one_fault.one raw m a b n c d h (subst (λ r. IsCause r (laws.Law n c d)) (one_raw text other raw t s) k))

broken_law : (text : List ℕ) (m x y : ℕ) (b : Parts) → IsRefusal text (Law m x y) → IsTextOf text b → ⊥
broken_law text m x y b (raw, s, h) k =
    one_fault.none raw m x y (subst IsLawful (one_raw text k.raw raw k.stands s) k.lawful) h

stuck_or_left : (text : List ℕ) (stops : List Stop) (from to : ProcId) (d : DatumId) → IsRefusal text (Stuck stops) → IsRefusal text (Leftover from to d) → ⊥
stuck_or_left text stops from to d (b, s, h) (c, t, k) =
    let l = subst (λ x. HasLeftover x from to d) (one_parts text c b t s) k in
    h.never l.run l.is_run l.ended

one_refusal : (text : List ℕ) (fault other : LoadFault) → fault ≢ Memory → other ≢ Memory → IsRefusal text fault → IsRefusal text other → fault ≡ other
one_refusal text Memory other m n h k = absurd (m refl)
one_refusal text (BadText l) Memory m n h k = absurd (n refl)
one_refusal text (BadText l) (BadText j) m n h k = text_faults text (texts.BadText l) (texts.BadText j) (no_memory_line l) (no_memory_line j) h k
one_refusal text (BadText l) (Limit j w) m n h k = text_faults text (texts.BadText l) (texts.Limit j w) (no_memory_line l) (no_memory_limit j w) h k
one_refusal text (BadText l) (Law j x y) m n h k = absurd (faulty_text text k.0 (texts.BadText l) (no_memory_line l) k.1 h)
one_refusal text (BadText l) (Stuck s) m n h k = absurd (faulty_text text k.1.raw (texts.BadText l) (no_memory_line l) k.1.stands h)
one_refusal text (BadText l) (Leftover x y z) m n h k = absurd (faulty_text text k.1.raw (texts.BadText l) (no_memory_line l) k.1.stands h)
one_refusal text (Limit l v) Memory m n h k = absurd (n refl)
one_refusal text (Limit l v) (BadText j) m n h k = text_faults text (texts.Limit l v) (texts.BadText j) (no_memory_limit l v) (no_memory_line j) h k
one_refusal text (Limit l v) (Limit j w) m n h k = text_faults text (texts.Limit l v) (texts.Limit j w) (no_memory_limit l v) (no_memory_limit j w) h k
one_refusal text (Limit l v) (Law j x y) m n h k = absurd (faulty_text text k.0 (texts.Limit l v) (no_memory_limit l v) k.1 h)
one_refusal text (Limit l v) (Stuck s) m n h k = absurd (faulty_text text k.1.raw (texts.Limit l v) (no_memory_limit l v) k.1.stands h)
one_refusal text (Limit l v) (Leftover x y z) m n h k = absurd (faulty_text text k.1.raw (texts.Limit l v) (no_memory_limit l v) k.1.stands h)
one_refusal text (Law i x y) Memory m n h k = absurd (n refl)
one_refusal text (Law i x y) (BadText j) m n h k = absurd (faulty_text text h.0 (texts.BadText j) (no_memory_line j) h.1 k)
one_refusal text (Law i x y) (Limit j w) m n h k = absurd (faulty_text text h.0 (texts.Limit j w) (no_memory_limit j w) h.1 k)
one_refusal text (Law i x y) (Law j u v) m n h k = one_law text i j x y u v h k
one_refusal text (Law i x y) (Stuck s) m n h k = absurd (broken_law text i x y k.0 h k.1)
one_refusal text (Law i x y) (Leftover u v z) m n h k = absurd (broken_law text i x y k.0 h k.1)
one_refusal text (Stuck s) Memory m n h k = absurd (n refl)
one_refusal text (Stuck s) (BadText j) m n h k = absurd (faulty_text text h.1.raw (texts.BadText j) (no_memory_line j) h.1.stands k)
one_refusal text (Stuck s) (Limit j w) m n h k = absurd (faulty_text text h.1.raw (texts.Limit j w) (no_memory_limit j w) h.1.stands k)
one_refusal text (Stuck s) (Law j u v) m n h k = absurd (broken_law text j u v h.0 k h.1)
one_refusal text (Stuck s) (Stuck t) m n h k =
    ap Stuck (one_stuck h.0 s t h.2 (subst (λ b. IsStuck b t) (one_parts text k.0 h.0 k.1 h.1) k.2))
one_refusal text (Stuck s) (Leftover u v z) m n h k = absurd (stuck_or_left text s u v z h k)
one_refusal text (Leftover x y d) Memory m n h k = absurd (n refl)
one_refusal text (Leftover x y d) (BadText j) m n h k = absurd (faulty_text text h.1.raw (texts.BadText j) (no_memory_line j) h.1.stands k)
one_refusal text (Leftover x y d) (Limit j w) m n h k = absurd (faulty_text text h.1.raw (texts.Limit j w) (no_memory_limit j w) h.1.stands k)
one_refusal text (Leftover x y d) (Law j u v) m n h k = absurd (broken_law text j u v h.0 k h.1)
one_refusal text (Leftover x y d) (Stuck t) m n h k = absurd (stuck_or_left text t x y d k h)
one_refusal text (Leftover x y d) (Leftover u v e) m n h k =
    one_leftover h.0 x u y v d e h.2 (subst (λ b. HasLeftover b u v e) (one_parts text k.0 h.0 k.1 h.1) k.2)

not_both : (text : List ℕ) (l : Loads) (fault : LoadFault) → fault ≢ Memory → IsLoadOf text l → IsRefusal text fault → ⊥
not_both text l Memory m h k = m refl
not_both text l (BadText j) m h k = faulty_text text h.is_text.raw (texts.BadText j) (no_memory_line j) h.is_text.stands k
not_both text l (Limit j w) m h k = faulty_text text h.is_text.raw (texts.Limit j w) (no_memory_limit j w) h.is_text.stands k
not_both text l (Law j u v) m h k = broken_law text j u v l.bundle k h.is_text
not_both text l (Stuck s) m h (b, t, k) =
    let good = h.good in
    (subst (λ c. IsStuck c s) (one_parts text b l.bundle t h.is_text) k).never good.run good.is_run good.done.complete.ended
not_both text l (Leftover x y d) m h (b, t, k) =
    let good = h.good in
    let left = subst (λ c. HasLeftover c x y d) (one_parts text b l.bundle t h.is_text) k in
    let same = one_ended (tag_rules l.bundle) start good.run left.run good.is_run good.done.complete.ended left.is_run left.ended in
    done_none l.bundle (end_of (tag_rules l.bundle) start left.run) x y left.first.place d (is_bundle text l.bundle h.is_text) (subst (IsDone (tags l.bundle) l.bundle) same good.done) left.first.is_left

pub one_answer : OneAnswerIsTold
one_answer = record { one_load = one_load; one_refusal = one_refusal; not_both = not_both }

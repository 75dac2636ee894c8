-- Each kind of step keeps the rule of a wire.
use Rattle.std.proofs.Common.{◌≡◌, ℕ, zero, suc, ◌+◌, ◌<◌, ◌≤◌, List, [], ◌∷◌, ◌++◌, length, Some, slice_get, refl, sym, ap, ◌∙◌, arith, inl, inr, ◌⊎◌, ⊎_elim, set, length-append}
use mathlib.Core.Option.{some}
use lib.ListN.{get_elem?}
use Rattle.std.specs.List.{slice_range}
use Rattle.std.proofs.lemmas.Option.{slice_get_within}
use Rattle.crossbeam_channel.specs.Fifo.{Pushes, Pops, Forks}
use Rattle.pyr_num.specs.declared.parcel.Parcel.{Parcel}
use Rattle.pyr_wire.specs.declared.rule.Progress.{Progress}
use Rattle.pyr_wire.specs.declared.rule.Part.TheVariants.{Unsplit, Sends, Receives}
use Rattle.pyr_wire.specs.InOrder.{progress, unsplit, more_of, Carries, IsNew, IsInOrder, HasSent, HasReceived}
use Rattle.pyr_wire.specs.Laws.{HoldsBetween}
use Rattle.pyr_wire.proofs.Ranges.{range-snoc, range-first}

-- which of two views is at a place
at_two : (a b v : Progress) (pass : ℕ) → get_elem? (a ∷ b ∷ []) pass ≡ some v → ((pass ≡ 0) × (a ≡ v)) ⊎ ((pass ≡ 1) × (b ≡ v))
at_two a b v zero at = inl (refl, cc)
at_two a b v (suc zero) at = inr (refl, cc)
at_two a b v (suc (suc pass)) at = cc

at_one : (a v : Progress) (pass : ℕ) → get_elem? (a ∷ []) pass ≡ some v → (pass ≡ 0) × (a ≡ v)
at_one a v zero at = (refl, cc)
at_one a v (suc pass) at = cc

-- before the split there is neither a tail nor a head
not_new : (items : List Parcel) (views : List Progress) (pass : ℕ) (v : Progress) → IsNew items views → get_elem? views pass ≡ some v → v.part ≡ Unsplit
not_new items views pass v new at =
    let a = at_one unsplit v pass (ap (λ l. get_elem? l pass) (sym new.views_are) ∙ at) in
    ap (λ (k : Progress). k.part) (sym a.1)

-- a wire carries its list from the split on
pub splits : (pass : ℕ) (whole : List Parcel) (capacity : ℕ) → Forks IsInOrder pass unsplit (progress Sends whole 0 capacity) (progress Receives whole 0 capacity)
splits pass whole capacity items views holds at =
    ⊎_elim
    (λ (new : IsNew items views).
    let a = at_one unsplit unsplit pass (ap (λ l. get_elem? l pass) (sym new.views_are) ∙ at) in
    let tail : Progress = progress Sends whole 0 capacity in
    let head : Progress = progress Receives whole 0 capacity in
    inr
    (record {
      whole = whole;
      sent = 0;
      received = 0;
      capacity = capacity;
      views_are = ap (λ l. set l pass tail ++ head ∷ []) new.views_are ∙ ap (λ i. set (unsplit ∷ []) i tail ++ head ∷ []) a.0;
      in_order = omega arith;
      within = omega arith;
      between = new.empty;
      few = (let e = ap length new.empty in omega arith);
    }))
    (λ (h : Carries items views).
    let tail : Progress = progress Sends h.whole h.sent h.capacity in
    let head : Progress = progress Receives h.whole h.received h.capacity in
    let b = at_two tail head unsplit pass (ap (λ l. get_elem? l pass) (sym h.views_are) ∙ at) in
    ⊎_elim
    (λ (t : (pass ≡ 0) × (tail ≡ unsplit)). let e : Sends ≡ Unsplit = ap (λ (k : Progress). k.part) t.1 in absurd (cc))
    (λ (t : (pass ≡ 1) × (head ≡ unsplit)). let e : Receives ≡ Unsplit = ap (λ (k : Progress). k.part) t.1 in absurd (cc))
    b)
    holds

-- the rule after a send
sent_on : (n pass : ℕ) (v : Progress) (x : Parcel) → v.part ≡ Sends → n ≡ v.capacity → slice_get v.whole v.count ≡ Some x → (items : List Parcel) (views : List Progress) → length items < n → Carries items views
    → get_elem? views pass ≡ some v → Carries (items ++ x ∷ []) (set views pass (more_of v))
sent_on n pass v x is n_is next items views room h at =
    let tail : Progress = progress Sends h.whole h.sent h.capacity in
    let head : Progress = progress Receives h.whole h.received h.capacity in
    let at' : get_elem? (tail ∷ head ∷ []) pass ≡ some v = ap (λ l. get_elem? l pass) (sym h.views_are) ∙ at in
    ⊎_elim
    (λ (a : (pass ≡ 0) × (tail ≡ v)).
    let most : h.capacity ≡ v.capacity = ap (λ (k : Progress). k.capacity) a.1 in
    let next' : slice_get h.whole h.sent ≡ Some x = ap (λ (k : Progress). slice_get k.whole k.count) a.1 ∙ next in
    record {
      whole = h.whole;
      sent = h.sent + 1;
      received = h.received;
      capacity = h.capacity;
      views_are = ap (λ l. set l pass (more_of v)) h.views_are ∙ ap (λ i. set (tail ∷ head ∷ []) i (more_of v)) a.0 ∙ ap (λ k. more_of k ∷ head ∷ []) (sym a.1);
      in_order = (let l = h.in_order in omega arith);
      within = (let l : h.sent < length h.whole = slice_get_within h.whole h.sent x next' in omega arith);
      between = ap (λ l. l ++ x ∷ []) h.between ∙ range-snoc h.whole h.received h.sent x h.in_order next';
      few = (let l : length (items ++ x ∷ []) ≡ length items + 1 = length-append items (x ∷ []) in omega arith);
    })
    (λ (b : (pass ≡ 1) × (head ≡ v)). let e : Receives ≡ Sends = ap (λ (k : Progress). k.part) b.1 ∙ is in absurd (cc))
    (at_two tail head v pass at')

pub sends : (n pass : ℕ) (v : Progress) (x : Parcel) → v.part ≡ Sends → n ≡ v.capacity → slice_get v.whole v.count ≡ Some x → Pushes IsInOrder n pass v x (HasSent v x)
sends n pass v x is n_is next items views room holds at = (
  more_of v,
  ⊎_elim (λ (new : IsNew items views). let e : Unsplit ≡ Sends = sym (not_new items views pass v new at) ∙ is in absurd (cc)) (λ (h : Carries items views). inr (sent_on n pass v x is n_is next items views room h at)) holds,
  refl,
)

-- the rule after a receive
got_on : (pass : ℕ) (v : Progress) (x : Parcel) → v.part ≡ Receives → (items : List Parcel) (views : List Progress) → Carries (x ∷ items) views → get_elem? views pass ≡ some v
    → (slice_get v.whole v.count ≡ Some x) × Carries items (set views pass (more_of v))
got_on pass v x is items views h at =
    let tail : Progress = progress Sends h.whole h.sent h.capacity in
    let head : Progress = progress Receives h.whole h.received h.capacity in
    let at' : get_elem? (tail ∷ head ∷ []) pass ≡ some v = ap (λ l. get_elem? l pass) (sym h.views_are) ∙ at in
    ⊎_elim
    (λ (a : (pass ≡ 0) × (tail ≡ v)). let e : Sends ≡ Receives = ap (λ (k : Progress). k.part) a.1 ∙ is in absurd (cc))
    (λ (b : (pass ≡ 1) × (head ≡ v)).
    let f = range-first h.whole h.received h.sent x items h.within h.between in
    let low : h.received < h.sent = f.0 in (
      ap (λ (k : Progress). slice_get k.whole k.count) (sym b.1) ∙ f.1,
      record {
        whole = h.whole;
        sent = h.sent;
        received = h.received + 1;
        capacity = h.capacity;
        views_are = ap (λ l. set l pass (more_of v)) h.views_are ∙ ap (λ i. set (tail ∷ head ∷ []) i (more_of v)) b.0 ∙ ap (λ k. tail ∷ more_of k ∷ []) (sym b.1);
        in_order = omega arith;
        within = h.within;
        between = f.2;
        few = (let l : length (x ∷ items) ≤ h.capacity = h.few in omega arith);
      },
    ))
    (at_two tail head v pass at')

pub takes : (pass : ℕ) (v : Progress) → v.part ≡ Receives → Pops IsInOrder pass v (HasReceived v)
takes pass v is x items views holds at =
    ⊎_elim
    (λ (new : IsNew (x ∷ items) views). let e : x ∷ items ≡ [] = new.empty in absurd (cc))
    (λ (h : Carries (x ∷ items) views). let g = got_on pass v x is items views h at in (more_of v, inr g.1, (g.0, refl)))
    holds

-- what the rule says of the channel
pub carried : (items : List Parcel) (tail head : Progress) → IsInOrder items (tail ∷ head ∷ []) → HoldsBetween items tail head
carried items tail head holds =
    ⊎_elim
    (λ (new : IsNew items (tail ∷ head ∷ [])). let e : tail ∷ head ∷ [] ≡ unsplit ∷ [] = new.views_are in absurd (cc))
    (λ (h : Carries items (tail ∷ head ∷ [])).
    let e : tail ∷ head ∷ [] ≡ progress Sends h.whole h.sent h.capacity ∷ progress Receives h.whole h.received h.capacity ∷ [] = h.views_are in
    let t : progress Sends h.whole h.sent h.capacity ≡ tail = cc in
    let d : progress Receives h.whole h.received h.capacity ≡ head = cc in
    let sent : h.sent ≡ tail.count = ap (λ (k : Progress). k.count) t in
    let received : h.received ≡ head.count = ap (λ (k : Progress). k.count) d in
    let most : h.capacity ≡ tail.capacity = ap (λ (k : Progress). k.capacity) t in
    let long : length h.whole ≡ length tail.whole = ap (λ (k : Progress). length k.whole) t in
    record {
      one_list = ap (λ (k : Progress). k.whole) (sym d) ∙ ap (λ (k : Progress). k.whole) t;
      one_capacity = ap (λ (k : Progress). k.capacity) (sym d) ∙ most;
      in_order = (let l = h.in_order in omega arith);
      within = (let l = h.within in omega arith);
      between = h.between ∙ (λ i. slice_range (t i).whole (d i).count (t i).count);
      few = (let l = h.few in omega arith);
    })
    holds

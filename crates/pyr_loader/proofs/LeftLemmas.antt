-- In an ended state, the parcel of a send is left exactly where its datum is never received.
use Rattle.std.proofs.Common.{◌≡◌, ℕ, zero, suc, ◌+◌, ◌<◌, ◌≤◌, ◌==◌, ◌&&◌, Bool, true, false, cond, List, [], ◌∷◌, take, drop, Some, None, slice_get, inl, inr, refl, sym, ◌∙◌, ap, subst, arith}
use Rattle.std.specs.Prelude.{count_by}
use Rattle.std.specs.List.{list_any}
use Rattle.std.proofs.lemmas.List.Recursion.{is_count_by}
use Rattle.std.proofs.lemmas.Bool.{eq-eqb, eqb-true}
use Rattle.std.proofs.lemmas.Option.{none-some, same_Some}
use Rattle.pyr_num.specs.declared.ids.DatumId.{DatumId}
use Rattle.pyr_num.specs.declared.ids.ProcId.{ProcId}
use Rattle.pyr_net.specs.Net.{World}
use Rattle.pyr_net.specs.Run.{IsEnded}
use Rattle.pyr_bundle.specs.declared.instr.Instr.{Instr}
use Rattle.pyr_bundle.specs.declared.instr.Instr.TheVariants.{Recv, Exec, Send}
use Rattle.pyr_bundle.specs.Parts.{Parts, IsBundle, processor_count, code_at}
use Rattle.pyr_bundle.specs.WellFormed.{StandsAt, is_send_of, IsWellFormed}
use Rattle.pyr_machine.specs.Machine.{LocalState, tags, tag_rules, datum_tag}
use Rattle.pyr_machine.specs.Good.{IsDone}
use Rattle.pyr_machine.specs.Counts.{sum_below}
use Rattle.pyr_machine.specs.Schedule.{tally, is_receive, is_send, passed, occurs}
use Rattle.pyr_machine.proofs.Tallies.{any_cons, holds_some, some_holds, sum_some, sum_le}
use Rattle.pyr_machine.proofs.Places.{passed_within}
use Rattle.pyr_machine.proofs.Traffic.{past}
use Rattle.pyr_machine.proofs.Output.{stands_within}
use Rattle.pyr_machine.proofs.Steady.{sum_below-list}
use Rattle.pyr_loader.specs.declared.leftover.Unreceived.{Unreceived}
use Rattle.pyr_loader.specs.Leftover.{IsUnderway, IsFirstLeft}
use Rattle.pyr_loader.specs.Unreceived.{is_received, IsFirst, HasNone}
use Rattle.pyr_loader.proofs.Conserved.{IsConserved}

-- counts

tally_some : {X : Type 0} (f : X → Bool) (xs : List X) → 0 < tally f xs → (i : ℕ) × (x : X) × (slice_get xs i ≡ Some x) × (f x ≡ true)
tally_some f [] l = absurd (omega (arith, l))
tally_some f (x ∷ xs) l = at (f x) refl (λ m. tally_some f xs m)
  where
    at : (c : Bool) → f x ≡ c → (0 < tally f xs → (i : ℕ) × (y : _) × (slice_get xs i ≡ Some y) × (f y ≡ true)) → (i : ℕ) × (y : _) × (slice_get (x ∷ xs) i ≡ Some y) × (f y ≡ true)
    at true e ih = (0, x, refl, e)
    at false e ih = let (i, y, g, h) = ih (let m = subst (λ c. 0 < cond c 1 0 + tally f xs) e l in omega (arith, m)) in (suc i, y, g, h)

some_tally : {X : Type 0} (f : X → Bool) (xs : List X) (i : ℕ) (x : X) → slice_get xs i ≡ Some x → f x ≡ true → 0 < tally f xs
some_tally f [] i x e t = absurd (none-some x e)
some_tally f (y ∷ ys) zero x e t = rw (ap f (same_Some _ _ e) ∙ t) (omega arith)
some_tally f (y ∷ ys) (suc i) x e t = let l = some_tally f ys i x e t in omega (arith, l)

any_none : {X : Type 0} (f : X → Bool) (xs : List X) → list_any f xs ≡ false → tally f xs ≡ 0
any_none f [] e = refl
any_none f (x ∷ xs) e = at (f x) (sym (any_cons f x xs) ∙ e) (any_none f xs)
  where
    at : (c : Bool) → cond c true (list_any f xs) ≡ false → (list_any f xs ≡ false → tally f xs ≡ 0) → cond c 1 0 + tally f xs ≡ 0
    at true h ih = absurd (let k : true ≡ false = h in cc)
    at false h ih = let i = ih h in omega (arith, i)

any_some : {X : Type 0} (f : X → Bool) (xs : List X) → list_any f xs ≡ true → 0 < tally f xs
any_some f [] e = absurd (let k : false ≡ true = e in cc)
any_some f (x ∷ xs) e = at (f x) (sym (any_cons f x xs) ∙ e) (any_some f xs)
  where
    at : (c : Bool) → cond c true (list_any f xs) ≡ true → (list_any f xs ≡ true → 0 < tally f xs) → 0 < cond c 1 0 + tally f xs
    at true h ih = omega arith
    at false h ih = let i = ih h in omega (arith, i)

take_past : {X : Type 0} (xs : List X) (n : ℕ) → slice_get xs n ≡ None → take n xs ≡ xs
take_past [] zero e = refl
take_past [] (suc n) e = refl
take_past (x ∷ xs) zero e = absurd (none-some x (sym e))
take_past (x ∷ xs) (suc n) e = ap (λ ys. x ∷ ys) (take_past xs n e)

sum_same : (n : ℕ) (f g : ℕ → ℕ) → ((q : ℕ) → f q ≡ g q) → sum_below n f ≡ sum_below n g
sum_same zero f g h = refl
sum_same (suc n) f g h = let a = sum_same n f g h in let c = h n in omega (arith, a, c)

-- sends

send_tally : (p d : ℕ) (code : List Instr) → tally (is_send p d) code ≡ count_by (is_send_of p d) code
send_tally p d code = is_count_by (tally (is_send p d)) (is_send_of p d) refl one_more code
  where
    either : (c : Bool) (n : ℕ) → cond c 1 0 + n ≡ cond c (1 + n) n
    either true n = refl
    either false n = omega arith

    one_more : (x : Instr) (xs : List Instr) → tally (is_send p d) (x ∷ xs) ≡ cond (is_send_of p d x) (1 + tally (is_send p d) xs) (tally (is_send p d) xs)
    one_more (Recv from e) xs = either false (tally (is_send p d) xs)
    one_more (Exec t) xs = either false (tally (is_send p d) xs)
    one_more (Send to e) xs = either ((to.0 == p) && (e.0 == d)) (tally (is_send p d) xs)

-- a datum is sent to a processor once at most
sent_once : (b : Parts) (p d : ℕ) → IsWellFormed b → sum_below (processor_count b) (λ q. tally (is_send p d) (code_at b q)) ≤ 1
sent_once b p d well =
    let e = sum_same (processor_count b) (λ q. tally (is_send p d) (code_at b q)) (λ q. count_by (is_send_of p d) (code_at b q)) (λ q. send_tally p d (code_at b q)) in
    let f = sum_below-list (count_by (is_send_of p d)) b.code [] in
    let m = well.sends_once p d in
    omega (arith, e, f, m)

both_true : (c e : Bool) → (c && e) ≡ true → (c ≡ true) × (e ≡ true)
both_true true true h = (refl, refl)
both_true true false h = (refl, h)
both_true false e h = absurd (let k : false ≡ true = h in cc)

-- an instruction that sends a datum to p
send_is : (p d : ℕ) (x : Instr) → is_send p d x ≡ true → (to : ProcId) × (e : DatumId) × (x ≡ Send to e) × (to.0 ≡ p) × (e.0 ≡ d)
send_is p d (Recv from e) h = absurd (let k : false ≡ true = h in cc)
send_is p d (Exec t) h = absurd (let k : false ≡ true = h in cc)
send_is p d (Send to e) h = let c = both_true (to.0 == p) (e.0 == d) h in (to, e, refl, eqb-true to.0 p c.0, eqb-true e.0 d c.1)

is_send_here : (to : ProcId) (d : DatumId) → is_send to.0 d.0 (Send to d) ≡ true
is_send_here to d = rw (eq-eqb to.0 to.0 refl, eq-eqb d.0 d.0 refl) refl

proc_path : (p q : ProcId) → p.0 ≡ q.0 → p ≡ q
proc_path p q e = λ i. record { 0 = e i }

datum_path : (d e : DatumId) → d.0 ≡ e.0 → d ≡ e
datum_path d e h = λ i. record { 0 = h i }

-- the place of a send in p's code
find_send : (b : Parts) (p : ℕ) (to : ProcId) (d : DatumId) → 0 < tally (is_send to.0 d.0) (code_at b p) → (i : ℕ) × StandsAt b p i (Send to d)
find_send b p to d l =
    let (i, x, e, t) = tally_some (is_send to.0 d.0) (code_at b p) l in
    let (q, c, f, g, h) = send_is to.0 d.0 x t in
    (i, e ∙ ap Some (f ∙ ap (λ y. Send y c) (proc_path q to g) ∙ ap (Send to) (datum_path c d h)))

module _ (b : Parts) (is : IsBundle b) (well : IsWellFormed b) (z : World (LocalState DatumId) DatumId) (kept : IsConserved b z) (ended : IsEnded (tag_rules b) z) where
  -- all code was passed
  whole : (f : Instr → Bool) (p : ℕ) → passed f b kept.places p ≡ tally f (code_at b p)
  whole f p = ap (tally f) (take_past (code_at b p) (kept.places p) (none (drop_none (code_at b p) (z.locals p).place (past (tags b) b z ended p))))
    where
      drop_none : (code : List Instr) (n : ℕ) → drop n code ≡ [] → slice_get code n ≡ None
      drop_none [] n e = refl
      drop_none (x ∷ code) zero e = absurd (cc)
      drop_none (x ∷ code) (suc n) e = drop_none code n e

      none : slice_get (code_at b p) (z.locals p).place ≡ None → slice_get (code_at b p) (kept.places p) ≡ None
      none e = ap (slice_get (code_at b p)) (sym (kept.stands.place p)) ∙ e

  -- what was sent is in the stash, in a channel or received
  balance : (p d : ℕ) → occurs datum_tag d (z.locals p).stash + sum_below (processor_count b) (λ q. occurs datum_tag d (z.lists q p)) + tally (is_receive d) (code_at b p)
      ≡ sum_below (processor_count b) (λ q. tally (is_send p d) (code_at b q))
  balance p d =
      let e = kept.stands.parcels p d in
      let f = whole (is_receive d) p in
      let g = sum_same (processor_count b) (λ q. passed (is_send p d) b kept.places q) (λ q. tally (is_send p d) (code_at b q)) (λ q. whole (is_send p d) q) in
      at _ _ _ _ _ _ e f g
    where
      at : (x y r s r' s' : ℕ) → x + y + r ≡ s → r ≡ r' → s ≡ s' → x + y + r' ≡ s'
      at x y r s r' s' e f g = omega (arith, e, f, g)

  -- a parcel that is in a channel or a stash is never received
  left_unreceived : (p : ℕ) (to : ProcId) (d : DatumId) → p < processor_count b → IsUnderway z p to.0 d.0 → is_received b to.0 d.0 ≡ false
  left_unreceived p to d l h = at (is_received b to.0 d.0) refl h
    where
      two : (o m r s : ℕ) → o + m + r ≡ s → s ≤ 1 → 0 < r → 0 < o + m → ⊥
      two o m r s e f g k = omega (arith, e, f, g, k)

      at : (c : Bool) → is_received b to.0 d.0 ≡ c → IsUnderway z p to.0 d.0 → c ≡ false
      at false e u = refl
      at true e (inl u) =
          absurd (two _ _ _ _ (balance to.0 d.0) (sent_once b to.0 d.0 well) (any_some (is_receive d.0) (code_at b to.0) e)
          (let m = sum_le (processor_count b) p (λ q. occurs datum_tag d.0 (z.lists q to.0)) l in let n = some_holds datum_tag d.0 (z.lists p to.0) u in omega (arith, m, n)))
      at true e (inr u) =
          absurd (two _ _ _ _ (balance to.0 d.0) (sent_once b to.0 d.0 well) (any_some (is_receive d.0) (code_at b to.0) e)
          (let n = some_holds datum_tag d.0 (z.locals to.0).stash u in omega (arith, n)))

  -- a parcel in a channel was sent there
  in_channel : (p : ℕ) (to : ProcId) (d : DatumId) → 0 < occurs datum_tag d.0 (z.lists p to.0) → (i : ℕ) × StandsAt b p i (Send to d)
  in_channel p to d l =
      find_send b p to d (let m = kept.stands.senders p to.0 d.0 in let n = passed_within (is_send to.0 d.0) b kept.places p in omega (arith, l, m, n))

  -- a datum that is sent and never received is in the channel or in the stash
  unreceived_left : (p i : ℕ) (to : ProcId) (d : DatumId) → StandsAt b p i (Send to d) → is_received b to.0 d.0 ≡ false → IsUnderway z p to.0 d.0
  unreceived_left p i to d e never = at (occurs datum_tag d.0 (z.locals to.0).stash) refl
    where
      n : ℕ
      n = processor_count b

      some : 0 < sum_below (processor_count b) (λ q. tally (is_send to.0 d.0) (code_at b q))
      some =
          let l = some_tally (is_send to.0 d.0) (code_at b p) i (Send to d) e (is_send_here to d) in
          let m = sum_le (processor_count b) p (λ q. tally (is_send to.0 d.0) (code_at b q)) (stands_within b p i (Send to d) e) in
          omega (arith, l, m)

      at : (o : ℕ) → occurs datum_tag d.0 (z.locals to.0).stash ≡ o → IsUnderway z p to.0 d.0
      at (suc o) f = inr (holds_some datum_tag d.0 (z.locals to.0).stash (omega (arith, f)))
      at zero f =
          let in_lists : 0 < sum_below (processor_count b) (λ q. occurs datum_tag d.0 (z.lists q to.0)) =
          lists _ _ _ _ (balance to.0 d.0) f (any_none (is_receive d.0) (code_at b to.0) never) some in
          let (q, l, m) = sum_some (processor_count b) (λ q. occurs datum_tag d.0 (z.lists q to.0)) in_lists in
          let (j, g) = in_channel q to d m in
          let same = (well.one_send q j p i to d g e).0 in
          inl (holds_some datum_tag d.0 (z.lists p to.0) (subst (λ r. 0 < occurs datum_tag d.0 (z.lists r to.0)) same m))
        where
          lists : (x y r s : ℕ) → x + y + r ≡ s → x ≡ 0 → r ≡ 0 → 0 < s → 0 < y
          lists x y r s e1 e2 e3 l = omega (arith, e1, e2, e3, l)

  -- so the first of the one kind is the first of the other
  pub first_left : (s : Unreceived) → IsFirst b s → IsFirstLeft b z s.from s.to s.datum
  first_left s h = record {
    place = s.place;
    is_left = record { sends = h.unreceived.sends; left = unreceived_left s.from.0 s.place s.to s.datum h.unreceived.sends h.unreceived.never };
    first = λ p q i e l. h.first (record { from = p; to = q; place = i; datum = e })
        (record { sends = l.sends; never = left_unreceived p.0 q e (stands_within b p.0 i (Send q e) l.sends) l.left });
  }

  -- and where there is none, nothing is left
  none_in : (xs : List DatumId) → ((d : DatumId) → 0 < occurs datum_tag d.0 xs → ⊥) → xs ≡ []
  none_in [] h = refl
  none_in (x ∷ xs) h = absurd (h x (rw (eq-eqb x.0 x.0 refl) (omega arith)))

  pub none_left : HasNone b → IsDone (tags b) b z
  none_left none = record {
    complete = record {
      ended = ended;
      empty = λ p q l m. none_in (z.lists p q) (λ d k.
          let (i, e) = in_channel p (record { 0 = q }) d k in
          none (record { from = record { 0 = p }; to = record { 0 = q }; place = i; datum = d })
          (record { sends = e; never = left_unreceived p (record { 0 = q }) d l (inl (holds_some datum_tag d.0 (z.lists p q) k)) }));
    };
    stashes = λ p l. none_in (z.locals p).stash (λ d k.
        let some = stash_sent p d k in
        let (q, m, n) = sum_some (processor_count b) (λ r. tally (is_send p d.0) (code_at b r)) some in
        let (i, e) = find_send b q (record { 0 = p }) d n in
        none (record { from = record { 0 = q }; to = record { 0 = p }; place = i; datum = d })
        (record { sends = e; never = left_unreceived q (record { 0 = p }) d m (inr (holds_some datum_tag d.0 (z.locals p).stash k)) }));
  }
    where
      stash_sent : (p : ℕ) (d : DatumId) → 0 < occurs datum_tag d.0 (z.locals p).stash → 0 < sum_below (processor_count b) (λ r. tally (is_send p d.0) (code_at b r))
      stash_sent p d k = at _ _ _ _ (balance p d.0) k
        where
          at : (x y r s : ℕ) → x + y + r ≡ s → 0 < x → 0 < s
          at x y r s e l = omega (arith, e, l)

-- The search for the first send whose datum is never received.
use Rattle.std.proofs.Common.{◌≡◌, ◌≢◌, ℕ, zero, suc, ◌+◌, ◌<◌, ◌≤◌, ◌==◌, nat_lt, Bool, true, false, cond, List, [], ◌∷◌, ◌++◌, length, length-append, take, drop, get_or, slice_index_or, slice_set, Option, Some, None, slice_get, ◌⊎◌, inl, inr, refl, sym, ◌∙◌, ap, subst, arith}
use Rattle.std.specs.Prelude.{◌||◌}
use Rattle.std.specs.List.{list_any}
use Rattle.std.specs.Prelude.{replicate}
use Rattle.std.proofs.Math.Seq.{get_or-append_seam, take-append_seam}
use Rattle.std.proofs.lemmas.List.{take_more, get_or_append_left, get_or-set_same, get_or-set_other, length-set, get_or-replicate, length-replicate}
use Rattle.std.proofs.lemmas.List.Folds.{list_any-append}
use Rattle.std.proofs.lemmas.Bool.{ltb-true}
use Rattle.std.proofs.lemmas.Bool.Decides.{eqb_tells}
use Rattle.std.proofs.lemmas.Option.{same_Some}
use Rattle.pyr_num.specs.declared.ids.DatumId.{DatumId}
use Rattle.pyr_num.specs.declared.ids.ProcId.{ProcId}
use Rattle.pyr_bundle.specs.declared.instr.Instr.{Instr}
use Rattle.pyr_bundle.specs.declared.instr.Instr.TheVariants.{Recv, Exec, Send}
use Rattle.pyr_bundle.specs.Parts.{Parts, processor_count, datum_count, code_at}
use Rattle.pyr_bundle.specs.WellFormed.{StandsAt, IsWellFormed}
use Rattle.pyr_machine.specs.Schedule.{is_receive}
use Rattle.pyr_loader.specs.declared.leftover.Unreceived.{Unreceived}
use Rattle.pyr_loader.specs.Unreceived.{is_received, IsKnown, marked_by, AreMarks, AreReceipts, marks_at, mark_of, IsMarkable, IsUnreceived, unreceived_by, first_of, ComesFirst, IsAmong, IsFirstIn}

-- Marks.

-- for each of so many data, whether one of these instructions receives it
pub record AreMarked (n : ℕ) (code : List Instr) (marks : List Bool) : Type 0 where
  pub count : length marks ≡ n
  pub each : (d : ℕ) → d < n → slice_index_or marks d false ≡ list_any (is_receive d) code

pub get_at : {X : Type 0} (xs : List X) (i : ℕ) (d : X) → i < length xs → slice_get xs i ≡ Some (get_or xs i d)
get_at [] i d l = absurd (omega arith)
get_at (x ∷ xs) zero d l = refl
get_at (x ∷ xs) (suc i) d l = get_at xs i d (omega arith)

any_push : {X : Type 0} (f : X → Bool) (xs : List X) (i : ℕ) (d : X) → i < length xs → list_any f (take (i + 1) xs) ≡ (list_any f (take i xs) || f (get_or xs i d))
any_push f xs i d l = ap (list_any f) (take_more xs i d l) ∙ list_any-append f (take i xs) (get_or xs i d ∷ []) ∙ ap (λ c. list_any f (take i xs) || c) (last (f (get_or xs i d)))
  where
    last : (c : Bool) → (c || false) ≡ c
    last true = refl
    last false = refl

or_false : (c : Bool) → (c || false) ≡ c
or_false true = refl
or_false false = refl

or_true : (c : Bool) → (c || true) ≡ true
or_true true = refl
or_true false = refl

pub marked_more : (n : ℕ) (code : List Instr) (i : ℕ) (d : Instr) (marks new : List Bool) → i < length code → IsKnown n (get_or code i d) → new ≡ marked_by (get_or code i d) marks → AreMarked n (take i code) marks → AreMarked n (take (i + 1) code) new
marked_more n code i d marks new l known is h = subst (AreMarked n (take (i + 1) code)) (sym is) (at (get_or code i d) refl known)
  where
    kept : (x : Instr) → get_or code i d ≡ x → ((e : ℕ) → is_receive e x ≡ false) → AreMarked n (take (i + 1) code) marks
    kept x e none = record {
      count = h.count;
      each = λ c m. h.each c m ∙ sym (any_push (is_receive c) code i d l ∙ ap (λ y. list_any (is_receive c) (take i code) || is_receive c y) e
          ∙ ap (λ y. list_any (is_receive c) (take i code) || y) (none c) ∙ or_false (list_any (is_receive c) (take i code)));
    }

    at : (x : Instr) → get_or code i d ≡ x → IsKnown n x → AreMarked n (take (i + 1) code) (marked_by x marks)
    at (Exec t) e k = kept (Exec t) e (λ c. refl)
    at (Send to c) e k = kept (Send to c) e (λ y. refl)
    at (Recv q c) e k = record {
      count = length-set marks c.0 true ∙ h.count;
      each = λ y m. by y m (eqb_tells c.0 y);
    }
      where
        more : (y : ℕ) → list_any (is_receive y) (take (i + 1) code) ≡ (list_any (is_receive y) (take i code) || (c.0 == y))
        more y = any_push (is_receive y) code i d l ∙ ap (λ z. list_any (is_receive y) (take i code) || is_receive y z) e

        by : (y : ℕ) → y < n → (((c.0 == y) ≡ true) × (c.0 ≡ y)) ⊎ (((c.0 == y) ≡ false) × (c.0 ≢ y)) → get_or (slice_set marks c.0 true) y false ≡ list_any (is_receive y) (take (i + 1) code)
        by y m (inl f) =
            subst (λ z. get_or (slice_set marks c.0 true) z false ≡ true) f.1 (get_or-set_same marks c.0 true false (let g = h.count in omega (arith, g, k)))
            ∙ sym (more y ∙ ap (λ z. list_any (is_receive y) (take i code) || z) f.0 ∙ or_true (list_any (is_receive y) (take i code)))
        by y m (inr f) =
            get_or-set_other marks c.0 y true false (λ g. f.1 (sym g)) ∙ h.each y m
            ∙ sym (more y ∙ ap (λ z. list_any (is_receive y) (take i code) || z) f.0 ∙ or_false (list_any (is_receive y) (take i code)))

pub start_marked : (n : ℕ) (marks : List Bool) → marks ≡ replicate n false → AreMarked n [] marks
start_marked n marks e = record {
  count = ap length e ∙ length-replicate n false;
  each = λ d l. ap (λ xs. get_or xs d false) e ∙ get_or-replicate n d false false l;
}

pub all_marked : (b : Parts) (p i : ℕ) (code : List Instr) (marks : List Bool) → code ≡ code_at b p → length code ≤ i → AreMarked (datum_count b) (take i code) marks → AreMarks b p marks
all_marked b p i code marks e l h = record {
  count = h.count;
  each = λ d m. h.each d m ∙ ap (list_any (is_receive d)) (take_past code i l ∙ e);
}
  where
    take_past : {X : Type 0} (xs : List X) (j : ℕ) → length xs ≤ j → take j xs ≡ xs
    take_past [] zero m = refl
    take_past [] (suc j) m = refl
    take_past (x ∷ xs) zero m = absurd (omega arith)
    take_past (x ∷ xs) (suc j) m = ap (λ ys. x ∷ ys) (take_past xs j (omega arith))

-- the marks that a call has made are those of the list that they were lent from
pub lent_back : (n m : ℕ) (old lent new : List Bool) (x : Instr) → lent ≡ old → length lent ≡ n → new ≡ marked_by x lent → m ≡ length new → take n (new ++ drop m old) ≡ marked_by x old
lent_back n m old lent new x e f g h =
    ap (λ k. take k (new ++ drop m old)) (sym (ap length g ∙ kept x lent ∙ f)) ∙ take-append_seam new (drop m old) ∙ g ∙ ap (marked_by x) e
  where
    kept : (y : Instr) (marks : List Bool) → length (marked_by y marks) ≡ length marks
    kept (Recv q d) marks = length-set marks d.0 true
    kept (Exec t) marks = refl
    kept (Send to d) marks = refl

-- an instruction of a bundle receives a datum of it
pub known_instr : (b : Parts) (p : ℕ) (code : List Instr) (i n : ℕ) (d : Instr) → IsWellFormed b → code ≡ code_at b p → i < length code → n ≡ datum_count b → IsKnown n (get_or code i d)
known_instr b p code i n d well e l f = at (get_or code i d) (ap (λ xs. slice_get xs i) (sym e) ∙ get_at code i d l)
  where
    at : (x : Instr) → StandsAt b p i x → IsKnown n x
    at (Recv q c) g = rw f (well.instrs p i (Recv q c) g).1
    at (Exec t) g = tt
    at (Send to c) g = tt

-- Tables.

pub receipts_more : (b : Parts) (n : ℕ) (table new : List (List Bool)) (marks : List Bool) → AreReceipts b n table → AreMarks b n marks → new ≡ table ++ marks ∷ [] → AreReceipts b (n + 1) new
receipts_more b n table new marks h m e = subst (AreReceipts b (n + 1)) (sym e) (record {
  count = length-append table (marks ∷ []) ∙ (let c = h.count in omega arith);
  each = λ p l. at p (eqb_tells p n) l;
})
  where
    seam : get_or (table ++ marks ∷ []) n [] ≡ marks
    seam = subst (λ k. get_or (table ++ marks ∷ []) k [] ≡ marks) h.count (get_or-append_seam table marks [] [])

    at : (p : ℕ) → (((p == n) ≡ true) × (p ≡ n)) ⊎ (((p == n) ≡ false) × (p ≢ n)) → p < n + 1 → AreMarks b p (marks_at (table ++ marks ∷ []) p)
    at p (inl i) l = subst (λ k. AreMarks b k (marks_at (table ++ marks ∷ []) k)) (sym i.1) (subst (AreMarks b n) (sym seam) m)
    at p (inr i) l =
        let k : p < n = let f = i.1 in omega (arith, f, l) in
        subst (AreMarks b p) (sym (get_or_append_left table (marks ∷ []) [] p (let c = h.count in omega (arith, c, k)))) (h.each p k)

pub markable_instr : (b : Parts) (p : ℕ) (table : List (List Bool)) (code : List Instr) (i : ℕ) (d : Instr) → IsWellFormed b → AreReceipts b (processor_count b) table → code ≡ code_at b p → i < length code → IsMarkable table (get_or code i d)
markable_instr b p table code i d well h e l = at (get_or code i d) (ap (λ xs. slice_get xs i) (sym e) ∙ get_at code i d l)
  where
    at : (x : Instr) → StandsAt b p i x → IsMarkable table x
    at (Recv q c) g = tt
    at (Exec t) g = tt
    at (Send to c) g =
        let fits = well.instrs p i (Send to c) g in
        let m = (h.each to.0 fits.0.0).count in
        let n = h.count in
        let k = fits.0.0 in
        let j = fits.1 in
        (omega (arith, n, k), omega (arith, m, j))

-- The search.

-- the send at this place of p's code that is never received, if there is one
abbrev Never : Parts → ℕ → ℕ → Option Unreceived → Type 0
Never b p n None = (t : Unreceived) → IsUnreceived b t → t.from.0 ≡ p → t.place ≡ n → ⊥
Never b p n (Some s) =
    IsUnreceived b s × (s.from.0 ≡ p) × (s.place ≡ n)
    × ((t : Unreceived) → IsUnreceived b t → t.from.0 ≡ p → t.place ≡ n → t.to.0 ≡ s.to.0)

-- such a send at a place is what stands there
stands_there : (b : Parts) (p n : ℕ) (t : Unreceived) → IsUnreceived b t → t.from.0 ≡ p → t.place ≡ n → StandsAt b p n (Send t.to t.datum)
stands_there b p n t h e f = subst (λ q. StandsAt b q n (Send t.to t.datum)) e (subst (λ i. StandsAt b t.from.0 i (Send t.to t.datum)) f h.sends)

never_at : (b : Parts) (from : ProcId) (table : List (List Bool)) (n : ℕ) (x : Instr) → IsWellFormed b → AreReceipts b (processor_count b) table → StandsAt b from.0 n x → Never b from.0 n (unreceived_by table from n x)
never_at b from table n (Recv q c) well h e = (λ t u f g. let k : Recv q c ≡ Send t.to t.datum = same_Some _ _ (sym e ∙ stands_there b from.0 n t u f g) in cc)
never_at b from table n (Exec c) well h e = (λ t u f g. let k : Exec c ≡ Send t.to t.datum = same_Some _ _ (sym e ∙ stands_there b from.0 n t u f g) in cc)
never_at b from table n (Send to d) well h e = at (mark_of table to.0 d.0) refl
  where
    fits : ((to.0 < processor_count b) × (to.0 ≡ from.0 → ⊥)) × (d.0 < datum_count b)
    fits = well.instrs from.0 n (Send to d) e

    told : mark_of table to.0 d.0 ≡ is_received b to.0 d.0
    told = (h.each to.0 fits.0.0).each d.0 fits.1

    same : (t : Unreceived) → IsUnreceived b t → t.from.0 ≡ from.0 → t.place ≡ n → Send to d ≡ Send t.to t.datum
    same t u f g = same_Some _ _ (sym e ∙ stands_there b from.0 n t u f g)

    receiver : Instr → ProcId
    receiver (Recv q c) = q
    receiver (Exec c) = to
    receiver (Send q c) = q

    sent : Instr → DatumId
    sent (Recv q c) = c
    sent (Exec c) = d
    sent (Send q c) = c

    at : (c : Bool) → mark_of table to.0 d.0 ≡ c → Never b from.0 n (cond c None (Some (record { from = from; to = to; place = n; datum = d })))
    at true m = (λ t u f g.
        let i = same t u f g in
        let yes : is_received b t.to.0 t.datum.0 ≡ true =
        ap (λ y. is_received b (receiver y).0 (sent y).0) (sym i) ∙ sym told ∙ m in
        let k : true ≡ false = sym yes ∙ u.never in
        cc)
    at false m = (record { sends = e; never = sym told ∙ m }, refl, refl, λ t u f g. ap (λ y. (receiver y).0) (sym (same t u f g)))

lt_or_eq : (i n : ℕ) → i < n + 1 → (i < n) ⊎ (i ≡ n)
lt_or_eq i n l = grind arith

among_more : (b : Parts) (p n : ℕ) (t : Unreceived) → IsAmong b p n t → IsAmong b p (n + 1) t
among_more b p n t h = record { unreceived = h.unreceived; sender = h.sender; within = let l = h.within in omega (arith, l) }

first_more : (b : Parts) (p n : ℕ) (first next : Option Unreceived) → IsFirstIn b p n first → Never b p n next → IsFirstIn b p (n + 1) (first_of first next)
first_more b p n None None h k = λ t u. at t u (lt_or_eq t.place n u.within)
  where
    at : (t : Unreceived) → IsAmong b p (n + 1) t → (t.place < n) ⊎ (t.place ≡ n) → ⊥
    at t u (inl l) = h t (record { unreceived = u.unreceived; sender = u.sender; within = l })
    at t u (inr e) = k t u.unreceived u.sender e
first_more b p n None (Some s) h (u, e, f, k) = (record { unreceived = u; sender = e; within = omega (arith, f) }, λ t v. at t v (lt_or_eq t.place n v.within))
  where
    at : (t : Unreceived) → IsAmong b p (n + 1) t → (t.place < n) ⊎ (t.place ≡ n) → ComesFirst s t
    at t v (inl l) = absurd (h t (record { unreceived = v.unreceived; sender = v.sender; within = l }))
    at t v (inr g) = inr (sym (k t v.unreceived v.sender g), omega (arith, f, g))
first_more b p n (Some s) None h k = (among_more b p n s h.0, λ t v. at t v (lt_or_eq t.place n v.within))
  where
    at : (t : Unreceived) → IsAmong b p (n + 1) t → (t.place < n) ⊎ (t.place ≡ n) → ComesFirst s t
    at t v (inl l) = h.1 t (record { unreceived = v.unreceived; sender = v.sender; within = l })
    at t v (inr g) = absurd (k t v.unreceived v.sender g)
first_more b p n (Some o) (Some s) h (u, e, f, k) = by (nat_lt s.to.0 o.to.0) refl
  where
    later : (t : Unreceived) → IsAmong b p (n + 1) t → s.to.0 < o.to.0 → (t.place < n) ⊎ (t.place ≡ n) → ComesFirst s t
    later t v m (inl l) = at (h.1 t (record { unreceived = v.unreceived; sender = v.sender; within = l }))
      where
        at : ComesFirst o t → ComesFirst s t
        at (inl i) = inl (omega (arith, m, i))
        at (inr i) = inl (let j = i.0 in omega (arith, m, j))
    later t v m (inr g) = inr (sym (k t v.unreceived v.sender g), omega (arith, f, g))

    older : (t : Unreceived) → IsAmong b p (n + 1) t → o.to.0 ≤ s.to.0 → (t.place < n) ⊎ (t.place ≡ n) → ComesFirst o t
    older t v m (inl l) = h.1 t (record { unreceived = v.unreceived; sender = v.sender; within = l })
    older t v m (inr g) =
        let same = k t v.unreceived v.sender g in
        let within = h.0.within in
        at (lt_or_same o.to.0 s.to.0 m) same within
      where
        lt_or_same : (x y : ℕ) → x ≤ y → (x < y) ⊎ (x ≡ y)
        lt_or_same x y l = grind arith

        at : (o.to.0 < s.to.0) ⊎ (o.to.0 ≡ s.to.0) → t.to.0 ≡ s.to.0 → o.place < n → ComesFirst o t
        at (inl i) same within = inl (omega (arith, i, same))
        at (inr i) same within = inr (i ∙ sym same, omega (arith, within, g))

    by : (c : Bool) → nat_lt s.to.0 o.to.0 ≡ c → IsFirstIn b p (n + 1) (Some (cond c s o))
    by true m = (record { unreceived = u; sender = e; within = omega (arith, f) }, λ t v. later t v (ltb-true s.to.0 o.to.0 m) (lt_or_eq t.place n v.within))
    by false m = (among_more b p n o h.0, λ t v. older t v (not_lt s.to.0 o.to.0 m) (lt_or_eq t.place n v.within))
      where
        not_lt : (x y : ℕ) → nat_lt x y ≡ false → y ≤ x
        not_lt x y i = grind arith

-- the invariant of the search through p's code
pub search_more : (b : Parts) (from : ProcId) (table : List (List Bool)) (code : List Instr) (n : ℕ) (d : Instr) (first next result : Option Unreceived) → IsWellFormed b → AreReceipts b (processor_count b) table → code ≡ code_at b from.0 → n < length code →
    IsFirstIn b from.0 n first → next ≡ unreceived_by table from n (get_or code n d) → result ≡ first_of first next → IsFirstIn b from.0 (n + 1) result
search_more b from table code n d first next result well h e l is f g =
    subst (IsFirstIn b from.0 (n + 1)) (sym (g ∙ ap (first_of first) f))
    (first_more b from.0 n first (unreceived_by table from n (get_or code n d)) is (never_at b from table n (get_or code n d) well h (ap (λ xs. slice_get xs n) (sym e) ∙ get_at code n d l)))

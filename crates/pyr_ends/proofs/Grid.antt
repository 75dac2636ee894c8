-- The ends of all processors, while the wires of one channel after the other are put.
use Rattle.std.proofs.Common.{◌≡◌, ◌≢◌, ℕ, zero, suc, ◌<◌, ◌==◌, ◌&&◌, Bool, true, false, cond, List, [], ◌∷◌, length, map, set, get_or, Some, slice_get, refl, sym, ap, ◌∙◌, arith, inl, inr, ◌⊎◌, ⊎_elim, subst, replicate, length-set, get_or-set_same}
use Rattle.std.proofs.lemmas.List.{get_or-set_other, get_or-replicate, length-replicate, length-map, map-set, get_or-map}
use Rattle.std.proofs.Math.Seq.{map-set_same}
use Rattle.std.proofs.lemmas.Bool.Decides.{nat_tests}
use Rattle.std.proofs.lemmas.Option.{slice_get_within, get_or_from_slice_get}
use Rattle.pyr_num.specs.declared.ids.ProcId.{ProcId}
use Rattle.pyr_num.specs.declared.parcel.Parcel.{Parcel}
use Rattle.pyr_bundle.specs.Parts.{proc_id}
use Rattle.pyr_bundle.specs.declared.capacity.Capacity.{Capacity}
use Rattle.pyr_machine.specs.Machine.{capacity_in}
use Rattle.pyr_wire.specs.End.{End, end_at}
use Rattle.pyr_ends.specs.Ends.{idle, end_for}
use Rattle.pyr_ends.specs.Wired.{Covers, AreEndsOf, start_of}
use Rattle.pyr_ends.specs.declared.ends.Ends.{Ends}
use Rattle.pyr_ends.proofs.Peers.{same_or_not}

-- a row of ends for each processor
abbrev pub tails_of : List Ends → List (List End)
tails_of rows = map (λ (e : Ends). e.tails) rows

abbrev pub heads_of : List Ends → List (List End)
heads_of rows = map (λ (e : Ends). e.heads) rows

abbrev pub end_in : List (List End) → ℕ → ℕ → End
end_in grid p q = end_for (get_or grid p []) q

-- the grid has this end for each two of so many processors
pub record IsGrid (count : ℕ) (of : ℕ → ℕ → End) (grid : List (List End)) : Type 0 where
  pub rows : length grid ≡ count
  pub peers : (p : ℕ) → p < count → length (get_or grid p []) ≡ count
  pub ends : (p q : ℕ) → p < count → q < count → end_in grid p q ≡ of p q

map-replicate : {X Y : Type 0} (f : X → Y) (n : ℕ) (x : X) → map f (replicate n x) ≡ replicate n (f x)
map-replicate f zero x = refl
map-replicate f (suc n) x = ap (λ ys. f x ∷ ys) (map-replicate f n x)

-- no wires
pub unwired : (count : ℕ) → IsGrid count (λ p q. idle) (replicate count (replicate count idle))
unwired count = record {
  rows = length-replicate count (replicate count idle);
  peers = λ p low. ap length (get_or-replicate count p (replicate count idle) [] low) ∙ length-replicate count idle;
  ends = λ p q low less. ap (λ r. end_for r q) (get_or-replicate count p (replicate count idle) [] low) ∙ get_or-replicate count q idle idle less;
}

-- one end is put
module _ (count : ℕ) (of new : ℕ → ℕ → End) (grid : List (List End)) (so : IsGrid count of grid) (i j : ℕ) (low : i < count) (less : j < count) (e : End) where
  abbrev now : List (List End)
  now = set grid i (set (get_or grid i []) j e)

  inside : i < length grid
  inside = omega (arith, so.rows)

  row : j < length (get_or grid i [])
  row = omega (arith, so.peers i low)

  put_here : end_in now i j ≡ e
  put_here = ap (λ r. end_for r j) (get_or-set_same grid i (set (get_or grid i []) j e) [] inside) ∙ get_or-set_same (get_or grid i []) j e idle row

  put_else : (p q : ℕ) → (p ≢ i) ⊎ (q ≢ j) → end_in now p q ≡ end_in grid p q
  put_else p q apart =
      ⊎_elim
      (λ (same : p ≡ i).
      let other : q ≢ j = ⊎_elim (λ (n : p ≢ i). absurd (n same)) (λ n. n) apart in
      ap (λ k. end_in now k q) same
      ∙ ap (λ r. end_for r q) (get_or-set_same grid i (set (get_or grid i []) j e) [] inside)
      ∙ get_or-set_other (get_or grid i []) j q e idle other
      ∙ ap (λ k. end_in grid k q) (sym same))
      (λ (n : p ≢ i). ap (λ r. end_for r q) (get_or-set_other grid i p (set (get_or grid i []) j e) [] n))
      (same_or_not p i)

  pub put : e ≡ new i j → ((p q : ℕ) → (p ≢ i) ⊎ (q ≢ j) → of p q ≡ new p q) → IsGrid count new (set grid i (set (get_or grid i []) j e))
  put is others = record {
    rows = length-set grid i (set (get_or grid i []) j e) ∙ so.rows;
    peers = λ p under.
        ⊎_elim
        (λ (same : p ≡ i). ap (λ a. length (get_or now a [])) same ∙ ap length (get_or-set_same grid i (set (get_or grid i []) j e) [] inside) ∙ length-set (get_or grid i []) j e ∙ so.peers i low)
        (λ (n : p ≢ i). ap length (get_or-set_other grid i p (set (get_or grid i []) j e) [] n) ∙ so.peers p under)
        (same_or_not p i);
    ends = λ p q under below.
        ⊎_elim
        (λ (same : p ≡ i).
        ⊎_elim
        (λ (alike : q ≡ j). (λ k. end_in now (same k) (alike k)) ∙ put_here ∙ is ∙ (λ k. new (sym same k) (sym alike k)))
        (λ (n : q ≢ j). put_else p q (inr n) ∙ so.ends p q under below ∙ others p q (inr n))
        (same_or_not q j))
        (λ (n : p ≢ i). put_else p q (inl n) ∙ so.ends p q under below ∙ others p q (inl n))
        (same_or_not p i);
  }

-- the ends that these channels give
module _ (feed : ProcId → ProcId → List Parcel) where
  -- the end of the wire from p to q, for the first channel between them; where there is none, the idle end
  abbrev pub wired : List Capacity → ℕ → ℕ → End
  wired [] p q = idle
  wired (c ∷ cs) p q = cond ((c.from.0 == p) && (c.to.0 == q)) (end_at (feed (proc_id p) (proc_id q)) 0 c.capacity) (wired cs p q)

  wired_here : (c : Capacity) (cs : List Capacity) → end_at (feed c.from c.to) 0 c.capacity ≡ wired (c ∷ cs) c.from.0 c.to.0
  wired_here c cs =
      let one : (c.from.0 == c.from.0) ≡ true = grind (arith, nat_tests) in
      let two : (c.to.0 == c.to.0) ≡ true = grind (arith, nat_tests) in
      sym (λ k. cond (one k && two k) (end_at (feed c.from c.to) 0 c.capacity) (wired cs c.from.0 c.to.0))

  wired_else : (c : Capacity) (cs : List Capacity) (p q : ℕ) → (p ≢ c.from.0) ⊎ (q ≢ c.to.0) → wired cs p q ≡ wired (c ∷ cs) p q
  wired_else c cs p q apart =
      let e : ((c.from.0 == p) && (c.to.0 == q)) ≡ false = ⊎_elim (λ (n : p ≢ c.from.0). first n) (λ (n : q ≢ c.to.0). second (c.from.0 == p) n) apart in
      sym (ap (λ b. cond b (end_at (feed (proc_id p) (proc_id q)) 0 c.capacity) (wired cs p q)) e)
    where
      first : p ≢ c.from.0 → ((c.from.0 == p) && (c.to.0 == q)) ≡ false
      first n = let e : (c.from.0 == p) ≡ false = grind (arith, nat_tests) in ap (λ b. b && (c.to.0 == q)) e

      second : (b : Bool) → q ≢ c.to.0 → (b && (c.to.0 == q)) ≡ false
      second true n = grind (arith, nat_tests)
      second false n = refl

  -- where there is no channel, there is nothing to carry
  pub wired_all : (cs : List Capacity) (p q : ℕ) → (capacity_in cs p q ≡ 0 → feed (proc_id p) (proc_id q) ≡ []) → wired cs p q ≡ start_of feed cs p q
  wired_all [] p q covered = ap (λ l. end_at l 0 0) (sym (covered refl))
  wired_all (c ∷ cs) p q covered = at ((c.from.0 == p) && (c.to.0 == q)) covered (wired_all cs p q)
    where
      at : (b : Bool) → (cond b c.capacity (capacity_in cs p q) ≡ 0 → feed (proc_id p) (proc_id q) ≡ []) → ((capacity_in cs p q ≡ 0 → feed (proc_id p) (proc_id q) ≡ []) → wired cs p q ≡ start_of feed cs p q)
          → cond b (end_at (feed (proc_id p) (proc_id q)) 0 c.capacity) (wired cs p q) ≡ end_at (feed (proc_id p) (proc_id q)) 0 (cond b c.capacity (capacity_in cs p q))
      at true f ih = refl
      at false f ih = ih f

  -- all processors have the ends of the wires for these channels
  pub record AreWired (count : ℕ) (cs : List Capacity) (rows : List Ends) : Type 0 where
    pub tails : IsGrid count (wired cs) (tails_of rows)
    pub heads : IsGrid count (λ q p. wired cs p q) (heads_of rows)

  pub none_wired : (count : ℕ) (rows : List Ends) → rows ≡ replicate count (record { tails = replicate count idle; heads = replicate count idle }) → AreWired count [] rows
  none_wired count rows is = record {
    tails = subst (IsGrid count (λ p q. idle)) (sym (ap tails_of is ∙ map-replicate (λ (e : Ends). e.tails) count _)) (unwired count);
    heads = subst (IsGrid count (λ p q. idle)) (sym (ap heads_of is ∙ map-replicate (λ (e : Ends). e.heads) count _)) (unwired count);
  }

  module _ (count : ℕ) (cs : List Capacity) (rows : List Ends) (so : AreWired count cs rows) where
    -- the ends of a processor, as its rows in both grids have them
    abbrev IsOf : ℕ → Ends → Type 0
    IsOf i a = (get_or (tails_of rows) i [] ≡ a.tails) × (get_or (heads_of rows) i [] ≡ a.heads)

    at_row : (i : ℕ) (a : Ends) → i < count → a ≡ get_or rows i a → IsOf i a
    at_row i a low is =
        let inside : i < length rows = omega (arith, so.tails.rows, length-map rows (λ (e : Ends). e.tails)) in (
          get_or-map (λ (e : Ends). e.tails) rows i a [] inside ∙ ap (λ (e : Ends). e.tails) (sym is),
          get_or-map (λ (e : Ends). e.heads) rows i a [] inside ∙ ap (λ (e : Ends). e.heads) (sym is),
        )

    -- how many ends a processor has
    pub tails_there : (i : ℕ) (a : Ends) → i < count → a ≡ get_or rows i a → length a.tails ≡ count
    tails_there i a low is = ap length (sym (at_row i a low is).0) ∙ so.tails.peers i low

    pub heads_there : (i : ℕ) (a : Ends) → i < count → a ≡ get_or rows i a → length a.heads ≡ count
    heads_there i a low is = ap length (sym (at_row i a low is).1) ∙ so.heads.peers i low

    -- all channels have their wires
    pub all_wired : Covers count feed cs → (p : ℕ) (e : Ends) → slice_get rows p ≡ Some e → AreEndsOf count feed cs p e
    all_wired covers p e is =
        let inside : p < length rows = slice_get_within rows p e is in
        let low : p < count = omega (arith, so.tails.rows, length-map rows (λ (a : Ends). a.tails)) in
        let here : e ≡ get_or rows p e = sym (get_or_from_slice_get rows p e e is) in
        let at = at_row p e low here in
        record {
          all_tails = tails_there p e low here;
          all_heads = heads_there p e low here;
          tails = λ q less. ap (λ r. end_for r q) (sym at.0) ∙ so.tails.ends p q low less ∙ wired_all cs p q (covers p q low less);
          heads = λ q less. ap (λ r. end_for r q) (sym at.1) ∙ so.heads.ends p q low less ∙ wired_all cs q p (covers q p less low);
        }

    -- the wire of one more channel: its tail is put, and then its head
    module _ (c : Capacity) (low : c.from.0 < count) (less : c.to.0 < count) (a : Ends) (tails : List End) (a_is : a ≡ get_or rows c.from.0 a) where
      abbrev pub with_tail : List Ends
      with_tail = set rows c.from.0 (record { tails = tails; heads = a.heads })

      same_heads : heads_of with_tail ≡ heads_of rows
      same_heads = map-set_same (λ (e : Ends). e.heads) rows c.from.0 (record { tails = tails; heads = a.heads }) a (ap (λ (e : Ends). e.heads) a_is)

      pub heads_still : (b : Ends) → b ≡ get_or with_tail c.to.0 b → length b.heads ≡ count
      heads_still b b_is =
          let inside : c.to.0 < length with_tail = omega (arith, so.tails.rows, length-map rows (λ (e : Ends). e.tails), length-set rows c.from.0 (record { tails = tails; heads = a.heads })) in
          let is : get_or (heads_of with_tail) c.to.0 [] ≡ b.heads = get_or-map (λ (e : Ends). e.heads) with_tail c.to.0 b [] inside ∙ ap (λ (e : Ends). e.heads) (sym b_is) in
          ap length (sym is) ∙ ap (λ g. length (get_or g c.to.0 [])) same_heads ∙ so.heads.peers c.to.0 less

      pub one_more : (b : Ends) (heads : List End) (t h : End) → b ≡ get_or with_tail c.to.0 b → tails ≡ set a.tails c.to.0 t → heads ≡ set b.heads c.from.0 h
          → t ≡ end_at (feed c.from c.to) 0 c.capacity → h ≡ end_at (feed c.from c.to) 0 c.capacity
          → AreWired count (c ∷ cs) (set with_tail c.to.0 (record { tails = b.tails; heads = heads }))
      one_more b heads t h b_is tails_is heads_is t_is h_is =
          let i : ℕ = c.from.0 in
          let j : ℕ = c.to.0 in
          let e : End = end_at (feed c.from c.to) 0 c.capacity in
          let T : List (List End) = tails_of rows in
          let H : List (List End) = heads_of rows in
          let inside : j < length with_tail = omega (arith, so.tails.rows, length-map rows (λ (x : Ends). x.tails), length-set rows i (record { tails = tails; heads = a.heads })) in
          let new_tails : tails ≡ set (get_or T i []) j e = tails_is ∙ (λ k. set (sym (at_row i a low a_is).0 k) j (t_is k)) in
          let b_heads : get_or H j [] ≡ b.heads = ap (λ g. get_or g j []) (sym same_heads) ∙ get_or-map (λ (x : Ends). x.heads) with_tail j b [] inside ∙ ap (λ (x : Ends). x.heads) (sym b_is) in
          let new_heads : heads ≡ set (get_or H j []) i e = heads_is ∙ (λ k. set (sym b_heads k) i (h_is k)) in
          let tails_now : tails_of (set with_tail j (record { tails = b.tails; heads = heads })) ≡ set T i (set (get_or T i []) j e) =
          map-set_same (λ (x : Ends). x.tails) with_tail j (record { tails = b.tails; heads = heads }) b (ap (λ (x : Ends). x.tails) b_is)
          ∙ map-set (λ (x : Ends). x.tails) rows i (record { tails = tails; heads = a.heads })
          ∙ ap (set T i) new_tails in
          let heads_now : heads_of (set with_tail j (record { tails = b.tails; heads = heads })) ≡ set H j (set (get_or H j []) i e) =
          map-set (λ (x : Ends). x.heads) with_tail j (record { tails = b.tails; heads = heads }) ∙ (λ k. set (same_heads k) j (new_heads k)) in
          record {
            tails = subst (IsGrid count (wired (c ∷ cs))) (sym tails_now) (put count (wired cs) (wired (c ∷ cs)) T so.tails i j low less e (wired_here c cs) (wired_else c cs));
            heads = subst (IsGrid count (λ q p. wired (c ∷ cs) p q)) (sym heads_now)
                (put count (λ q p. wired cs p q) (λ q p. wired (c ∷ cs) p q) H so.heads j i less low e (wired_here c cs) (λ q p apart. wired_else c cs p q (⊎_elim (λ n. inr n) (λ n. inl n) apart)));
          }

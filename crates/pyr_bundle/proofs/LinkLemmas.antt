-- The links collected so far, by rising pair.
use Rattle.std.proofs.Common.{◌≡◌, ℕ, ◌+◌, ◌<◌, ◌≤◌, Bool, true, false, cond, List, [], ◌∷◌, ◌++◌, map, filter, length, append_assoc, sym, ap, ◌∙◌, subst, arith}
use Rattle.std.specs.Prelude.{nat_lt}
use Rattle.std.specs.List.{flat_map, range_with_len}
use Rattle.std.proofs.lemmas.Bool.{lt-ltb, le-ltb}
use Rattle.std.proofs.lemmas.List.{append-nil, map-append, map-id}
use Rattle.std.proofs.lemmas.List.Elements.{filter-append}
use Rattle.std.proofs.lemmas.List.FromFn.{map-range_with_len_more}
use Rattle.std.proofs.lemmas.Grind.{flat_map-append}
use Rattle.pyr_bundle.specs.declared.raw_instr.RawInstr.{RawInstr}
use Rattle.pyr_bundle.specs.declared.channels.Link.{Link}
use Rattle.pyr_bundle.specs.Links.{link_of}
use Rattle.pyr_bundle.specs.Laws.{send_count, pairs_from, pairs_of}

module _ (code : List (List RawInstr)) where
  -- the pairs from one processor to those below a number
  abbrev row_upto : ℕ → ℕ → List (ℕ × ℕ)
  row_upto p n =
      map (λ q. (p, q)) (filter (λ q. nat_lt 0 (send_count code p q)) (range_with_len 0 n))

  -- all pairs before (p, n)
  abbrev pairs_upto : ℕ → ℕ → List (ℕ × ℕ)
  pairs_upto p n = flat_map (pairs_from code) (range_with_len 0 p) ++ row_upto p n

  pub record AreLinks (links : List Link) (p n : ℕ) : Type 0 where
    pub are : links ≡ map (link_of code) (pairs_upto p n)

  range_more : (n : ℕ) → range_with_len 0 (n + 1) ≡ range_with_len 0 n ++ n ∷ []
  range_more n =
      sym (map-id (range_with_len 0 (n + 1))) ∙ map-range_with_len_more (λ (x : ℕ). x) 0 n n (omega arith) ∙ ap (λ (xs : List ℕ). xs ++ n ∷ []) (map-id (range_with_len 0 n))

  row_more : (p n : ℕ) → row_upto p (n + 1) ≡ row_upto p n ++ map (λ q. (p, q)) (cond (nat_lt 0 (send_count code p n)) (n ∷ []) [])
  row_more p n =
      ap (λ (xs : List ℕ). map (λ q. (p, q)) (filter (λ q. nat_lt 0 (send_count code p q)) xs)) (range_more n)
      ∙ ap (map (λ q. (p, q))) (filter-append (λ q. nat_lt 0 (send_count code p q)) (range_with_len 0 n) (n ∷ []))
      ∙ map-append (λ q. (p, q)) (filter (λ q. nat_lt 0 (send_count code p q)) (range_with_len 0 n)) (cond (nat_lt 0 (send_count code p n)) (n ∷ []) [])

  pairs_more : (p n : ℕ) (b : Bool) → nat_lt 0 (send_count code p n) ≡ b → pairs_upto p (n + 1) ≡ pairs_upto p n ++ map (λ q. (p, q)) (cond b (n ∷ []) [])
  pairs_more p n b e =
      ap (λ (xs : List (ℕ × ℕ)). flat_map (pairs_from code) (range_with_len 0 p) ++ xs) (row_more p n ∙ ap (λ c. row_upto p n ++ map (λ q. (p, q)) (cond c (n ∷ []) [])) e)
      ∙ sym (append_assoc (flat_map (pairs_from code) (range_with_len 0 p)) (row_upto p n) (map (λ q. (p, q)) (cond b (n ∷ []) [])))

  -- a pair with a send
  pub link_more : (links new : List Link) (p n sends : ℕ) → AreLinks links p n → 0 < sends → sends ≡ send_count code p n → new ≡ links ++ record { from = p; to = n; sends = sends } ∷ [] → AreLinks new p (n + 1)
  link_more links new p n sends h some is e = record {
    are = e ∙ ap (λ (xs : List Link). xs ++ record { from = p; to = n; sends = sends } ∷ []) h.are
        ∙ ap (λ k. map (link_of code) (pairs_upto p n) ++ record { from = p; to = n; sends = k } ∷ []) is
        ∙ sym (ap (map (link_of code)) (pairs_more p n true (lt-ltb 0 (send_count code p n) (subst (λ k. 0 < k) is some))) ∙ map-append (link_of code) (pairs_upto p n) ((p, n) ∷ []));
  }

  -- a pair without one
  pub link_none : (links : List Link) (p n sends : ℕ) → AreLinks links p n → sends ≤ 0 → sends ≡ send_count code p n → AreLinks links p (n + 1)
  link_none links p n sends h none is = record {
    are = h.are ∙ ap (map (link_of code)) (sym (pairs_more p n false (le-ltb 0 (send_count code p n) (subst (λ k. k ≤ 0) is none)) ∙ append-nil (pairs_upto p n)));
  }

  -- a whole row
  pub link_row : (links : List Link) (p n : ℕ) → n ≡ length code → AreLinks links p n → AreLinks links (p + 1) 0
  link_row links p n e h = record {
    are = h.are ∙ ap (λ k. map (link_of code) (pairs_upto p k)) e
        ∙ ap (map (link_of code)) (sym (append-nil (flat_map (pairs_from code) (range_with_len 0 (p + 1)))
        ∙ ap (flat_map (pairs_from code)) (range_more p) ∙ flat_map-append (pairs_from code) (range_with_len 0 p) (p ∷ [])
        ∙ ap (λ (xs : List (ℕ × ℕ)). flat_map (pairs_from code) (range_with_len 0 p) ++ xs) (append-nil (pairs_from code p))));
  }

  pub links_are : (links : List Link) (p : ℕ) → p ≡ length code → AreLinks links p 0 → links ≡ map (link_of code) (pairs_of code)
  links_are links p e h =
      h.are ∙ ap (map (link_of code)) (append-nil (flat_map (pairs_from code) (range_with_len 0 p)) ∙ ap (λ k. flat_map (pairs_from code) (range_with_len 0 k)) e)

-- The first line of a text, and the first word of a line.
use Rattle.std.proofs.Common.{◌≡◌, ℕ, suc, ◌+◌, ◌<◌, ◌≤◌, Bool, true, false, eqb, not, cond, List, [], ◌∷◌, ◌++◌, length, take, drop, None, refl, ap, subst, arith}
use Rattle.std.specs.List.{prefix_len, list_all}
use Rattle.std.proofs.lemmas.Bool.Decides.{nat_tests}
use Rattle.pyr_bundletext.specs.Reading.{lacks, split, onto_first, datum_line}

-- what a front of elements that pass is
front_all : {X : Type 0} (p : X → Bool) (xs : List X) → list_all p (take (prefix_len p xs) xs) ≡ true
front_all p [] = refl
front_all p (x ∷ xs) =
    let one : 1 + prefix_len p xs ≡ suc (prefix_len p xs) = omega arith in
    rw one (go (front_all p xs) (p x) refl)
  where
    go : list_all p (take (prefix_len p xs) xs) ≡ true → (t : Bool) → p x ≡ t
        → list_all p (take (cond t (suc (prefix_len p xs)) 0) (x ∷ xs)) ≡ true
    go ih true e = rw e ih
    go ih false e = refl

all_pass : {X : Type 0} (p : X → Bool) (xs : List X) → prefix_len p xs ≡ length xs → list_all p xs ≡ true
all_pass p [] h = refl
all_pass p (x ∷ xs) h = go (all_pass p xs) (p x) refl h
  where
    go : (prefix_len p xs ≡ length xs → list_all p xs ≡ true) → (t : Bool) → p x ≡ t
        → cond t (1 + prefix_len p xs) 0 ≡ suc (length xs) → list_all p (x ∷ xs) ≡ true
    go ih true e f = rw e (ih (omega arith))
    go ih false e f = absurd (omega arith)

abbrev pub len_before : ℕ → List ℕ → ℕ
len_before c text = prefix_len (λ b. not (eqb b c)) text

-- what stands before the first byte of this value doesn't have it
pub front_lacks : (c : ℕ) (text : List ℕ) → lacks c (take (len_before c text) text) ≡ true
front_lacks c text = front_all (λ b. not (eqb b c)) text

-- nor a text in which it doesn't come
pub whole_lacks : (c : ℕ) (text : List ℕ) → len_before c text ≡ length text → lacks c text ≡ true
whole_lacks c text = all_pass (λ b. not (eqb b c)) text

-- a text that is longer than what stands before this byte
pub short : (n c : ℕ) (text : List ℕ) → n ≡ len_before c text → n ≤ length text → (n ≡ length text → ⊥)
    → len_before c text < length text
short n c text e h other = omega (arith, e, h, other)

-- a text parts at the first byte of this value
pub parts_at : (c : ℕ) (text : List ℕ) → len_before c text < length text
    → text ≡ take (len_before c text) text ++ c ∷ drop (suc (len_before c text)) text
parts_at c [] h = absurd (omega arith)
parts_at c (b ∷ bs) h =
    let one : 1 + len_before c bs ≡ suc (len_before c bs) = omega arith in
    rw one (go (parts_at c bs) (eqb b c) refl (subst (λ (k : ℕ). cond (not (eqb b c)) k 0 < length (b ∷ bs)) one h))
  where
    go : (len_before c bs < length bs → bs ≡ take (len_before c bs) bs ++ c ∷ drop (suc (len_before c bs)) bs)
        → (t : Bool) → eqb b c ≡ t → cond (not t) (suc (len_before c bs)) 0 < length (b ∷ bs)
        → b ∷ bs ≡ take (cond (not t) (suc (len_before c bs)) 0) (b ∷ bs) ++ c ∷ drop (suc (cond (not t) (suc (len_before c bs)) 0)) (b ∷ bs)
    go ih true e f = let same : b ≡ c = grind (arith, nat_tests) in ap (λ (x : ℕ). x ∷ bs) same
    go ih false e f = ap (λ (l : List ℕ). b ∷ l) (ih (omega arith))

onto : (b n : ℕ) (bs : List ℕ) → split bs ≡ take n bs ∷ split (drop (suc n) bs)
    → onto_first b (split bs) ≡ (b ∷ take n bs) ∷ split (drop (suc n) bs)
onto b n bs h = rw h refl

-- the words of a line: the first, and those behind its space
pub first_of : (line : List ℕ) → len_before 32 line < length line
    → split line ≡ take (len_before 32 line) line ∷ split (drop (suc (len_before 32 line)) line)
unfolding split
first_of [] h = absurd (omega arith)
first_of (b ∷ bs) h =
    let one : 1 + len_before 32 bs ≡ suc (len_before 32 bs) = omega arith in
    rw one (go (first_of bs) (eqb b 32) (subst (λ (k : ℕ). cond (not (eqb b 32)) k 0 < length (b ∷ bs)) one h))
  where
    go : (len_before 32 bs < length bs → split bs ≡ take (len_before 32 bs) bs ∷ split (drop (suc (len_before 32 bs)) bs))
        → (t : Bool) → cond (not t) (suc (len_before 32 bs)) 0 < length (b ∷ bs)
        → cond t ([] ∷ split bs) (onto_first b (split bs))
        ≡ take (cond (not t) (suc (len_before 32 bs)) 0) (b ∷ bs) ∷ split (drop (suc (cond (not t) (suc (len_before 32 bs)) 0)) (b ∷ bs))
    go ih true f = refl
    go ih false f = onto b (len_before 32 bs) bs (ih (omega arith))

alone : (b : ℕ) (bs : List ℕ) → split bs ≡ bs ∷ [] → onto_first b (split bs) ≡ (b ∷ bs) ∷ []
alone b bs h = rw h refl

-- a line without a space is one word
pub one_word : (line : List ℕ) → len_before 32 line ≡ length line → split line ≡ line ∷ []
unfolding split
one_word [] h = refl
one_word (b ∷ bs) h = go (one_word bs) (eqb b 32) h
  where
    go : (len_before 32 bs ≡ length bs → split bs ≡ bs ∷ []) → (t : Bool) → cond (not t) (1 + len_before 32 bs) 0 ≡ length (b ∷ bs)
        → cond t ([] ∷ split bs) (onto_first b (split bs)) ≡ (b ∷ bs) ∷ []
    go ih true f = absurd (omega arith)
    go ih false f = alone b bs (ih (omega arith))

-- a line has a word, be it empty
pub some_word : (line : List ℕ) → (w : List ℕ) × (ws : List (List ℕ)) × (split line ≡ w ∷ ws)
unfolding split
some_word [] = ([], [], refl)
some_word (b ∷ bs) = go (some_word bs) (eqb b 32)
  where
    go : (w : List ℕ) × (ws : List (List ℕ)) × (split bs ≡ w ∷ ws) → (t : Bool)
        → (w : List ℕ) × (ws : List (List ℕ)) × (cond t ([] ∷ split bs) (onto_first b (split bs)) ≡ w ∷ ws)
    go ih true = ([], split bs, refl)
    go ih false = (b ∷ ih.0, ih.1, ap (onto_first b) ih.2)

-- more than a name and a length is no datum
pub datum_long : (name number line : List ℕ) → datum_line (name ∷ number ∷ split line) ≡ None
datum_long name number line = let some = some_word line in rw some.2 refl

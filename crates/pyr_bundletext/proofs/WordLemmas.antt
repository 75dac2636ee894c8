-- Words joined by spaces, and what they lack.
use Rattle.std.proofs.Common.{◌≡◌, ℕ, ◌<◌, ◌^◌, Bool, true, false, eqb, not, cond, ◌&&◌, List, [], ◌∷◌, ◌++◌, refl, sym, ap, subst, ◌∙◌, arith}
use Rattle.std.specs.Prelude.{decimal}
use Rattle.std.specs.Char.{digit_value}
use Rattle.std.specs.Str.Parse.{AllDigits}
use Rattle.std.specs.List.{list_all, AllByRecursion}
use Rattle.std.proofs.lemmas.Fmt.{decimal_is_IsNumeral}
use Rattle.std.proofs.lemmas.Bool.Decides.{nat_tests}
use Rattle.pyr_num.specs.Name.{is_name, is_part}
use Rattle.pyr_decimal.proofs.Choices.{both}
use Rattle.pyr_bundletext.specs.Reading.{split, onto_first, lacks}
use Rattle.pyr_bundletext.proofs.Cuts.{some_word}

-- a word and those behind it, with a space before each of these
abbrev pub joined : List ℕ → List (List ℕ) → List ℕ
joined w [] = w
joined w (v ∷ vs) = w ++ 32 ∷ joined v vs

abbrev pub LackSpaces : List (List ℕ) → Type 0
LackSpaces ws = AllByRecursion (λ w. lacks 32 w ≡ true) ws

onto : (b : ℕ) (bs w : List ℕ) (ws : List (List ℕ)) → (eqb b 32 ≡ false) → split bs ≡ w ∷ ws → split (b ∷ bs) ≡ (b ∷ w) ∷ ws
unfolding split
onto b bs w ws e h = rw (e, h) refl

-- the words of a text that begins with a word and a space
front_word : (w bs : List ℕ) → lacks 32 w ≡ true → split (w ++ 32 ∷ bs) ≡ w ∷ split bs
unfolding split
front_word [] bs h = refl
front_word (b ∷ w) bs h = go (front_word w bs) (eqb b 32) refl h
  where
    go : (lacks 32 w ≡ true → split (w ++ 32 ∷ bs) ≡ w ∷ split bs) → (t : Bool) → eqb b 32 ≡ t → (not t && lacks 32 w) ≡ true
        → split (b ∷ (w ++ 32 ∷ bs)) ≡ (b ∷ w) ∷ split bs
    go ih true e f = absurd cc
    go ih false e f = onto b (w ++ 32 ∷ bs) w (split bs) e (ih f)

lone : (w : List ℕ) → lacks 32 w ≡ true → split w ≡ w ∷ []
unfolding split
lone [] h = refl
lone (b ∷ w) h = go (lone w) (eqb b 32) refl h
  where
    go : (lacks 32 w ≡ true → split w ≡ w ∷ []) → (t : Bool) → eqb b 32 ≡ t → (not t && lacks 32 w) ≡ true
        → split (b ∷ w) ≡ (b ∷ w) ∷ []
    go ih true e f = absurd cc
    go ih false e f = onto b w w [] e (ih f)

-- joined words are split into these words
pub split_joined : (w : List ℕ) (ws : List (List ℕ)) → lacks 32 w ≡ true → LackSpaces ws → split (joined w ws) ≡ w ∷ ws
split_joined w [] h rest = lone w h
split_joined w (v ∷ vs) h rest = front_word w (joined v vs) h ∙ ap (λ (l : List (List ℕ)). w ∷ l) (split_joined v vs rest.0 rest.1)

cons_joined : (b : ℕ) (v : List ℕ) (vs : List (List ℕ)) → b ∷ joined v vs ≡ joined (b ∷ v) vs
cons_joined b v [] = refl
cons_joined b v (u ∷ us) = refl

-- the words of a line, joined, are the line
pub joined_split : (bs w : List ℕ) (ws : List (List ℕ)) → split bs ≡ w ∷ ws → bs ≡ joined w ws
unfolding split
joined_split [] w ws h =
    let first : [] ≡ w = cc in
    let none : [] ≡ ws = cc in
    subst (λ (v : List ℕ). [] ≡ joined v ws) first (subst (λ (vs : List (List ℕ)). [] ≡ joined [] vs) none refl)
joined_split (b ∷ bs) w ws h = go (joined_split bs) (some_word bs) (eqb b 32) refl h
  where
    go : ((v : List ℕ) (vs : List (List ℕ)) → split bs ≡ v ∷ vs → bs ≡ joined v vs)
        → (v : List ℕ) × (vs : List (List ℕ)) × (split bs ≡ v ∷ vs) → (t : Bool) → eqb b 32 ≡ t
        → cond t ([] ∷ split bs) (onto_first b (split bs)) ≡ w ∷ ws → b ∷ bs ≡ joined w ws
    go ih some true e f =
        let v = some.0 in
        let vs = some.1 in
        let first : [] ≡ w = cc in
        let rest : v ∷ vs ≡ ws = sym some.2 ∙ cc in
        let space : b ≡ 32 = grind (arith, nat_tests) in
        let whole : b ∷ bs ≡ 32 ∷ joined v vs = ap (λ (x : ℕ). x ∷ bs) space ∙ ap (λ (l : List ℕ). 32 ∷ l) (ih v vs some.2) in
        whole ∙ subst (λ (x : List ℕ). 32 ∷ joined v vs ≡ joined x ws) first (ap (joined []) rest)
    go ih some false e f =
        let v = some.0 in
        let vs = some.1 in
        let both : (b ∷ v) ∷ vs ≡ w ∷ ws = sym (ap (onto_first b) some.2) ∙ f in
        let first : b ∷ v ≡ w = cc in
        let rest : vs ≡ ws = cc in
        ap (λ (l : List ℕ). b ∷ l) (ih v vs some.2) ∙ cons_joined b v vs ∙ ap (λ (x : List ℕ). joined x vs) first ∙ ap (joined w) rest

-- a digit is neither a space nor a line feed
digit_is : (b : ℕ) → digit_value b < 10 → (eqb b 32 ≡ false) × (eqb b 10 ≡ false)
digit_is b h = grind (arith, nat_tests)

digits_lack : (c : ℕ) → ((b : ℕ) → digit_value b < 10 → eqb b c ≡ false) → (bs : List ℕ) → AllDigits 10 bs → lacks c bs ≡ true
digits_lack c other [] h = refl
digits_lack c other (b ∷ bs) h = rw (other b h.0) (digits_lack c other bs h.1)

pub decimal_lacks : (n : ℕ) → n < 2 ^ 64 → (lacks 32 (decimal n) ≡ true) × (lacks 10 (decimal n) ≡ true)
decimal_lacks n fits =
    let digits : AllDigits 10 (decimal n) = (decimal_is_IsNumeral n fits).0.1 in
    (digits_lack 32 (λ b h. (digit_is b h).0) (decimal n) digits, digits_lack 10 (λ b h. (digit_is b h).1) (decimal n) digits)

parts_lack : (c : ℕ) → is_part c ≡ false → (bs : List ℕ) → list_all is_part bs ≡ true → lacks c bs ≡ true
parts_lack c none [] h = refl
parts_lack c none (b ∷ bs) h =
    let split_h : (is_part b ≡ true) × (list_all is_part bs ≡ true) = both (is_part b) (list_all is_part bs) h in
    go (parts_lack c none bs split_h.1) split_h.0 (eqb b c) refl
  where
    go : lacks c bs ≡ true → is_part b ≡ true → (t : Bool) → eqb b c ≡ t → lacks c (b ∷ bs) ≡ true
    go ih part true e = absurd (let same : b ≡ c = grind (arith, nat_tests) in let other : is_part b ≡ false = ap is_part same ∙ none in cc)
    go ih part false e = rw e ih

pub name_lacks : (name : List ℕ) → is_name name ≡ true → (lacks 32 name ≡ true) × (lacks 10 name ≡ true)
name_lacks name h =
    let parts : list_all is_part name ≡ true = (both _ (list_all is_part name) (both _ _ h).0).1 in
    (parts_lack 32 refl name parts, parts_lack 10 refl name parts)

pub lacks_both : (c : ℕ) (us vs : List ℕ) → lacks c us ≡ true → lacks c vs ≡ true → lacks c (us ++ vs) ≡ true
lacks_both c [] vs h k = k
lacks_both c (a ∷ us) vs h k =
    let parts : (not (eqb a c) ≡ true) × (lacks c us ≡ true) = both (not (eqb a c)) (lacks c us) h in
    rw parts.0 (lacks_both c us vs parts.1 k)

-- a text with a line feed doesn't lack it
pub lacks_parts : (us vs : List ℕ) → lacks 10 (us ++ 10 ∷ vs) ≡ true → ⊥
lacks_parts [] vs h = absurd cc
lacks_parts (u ∷ us) vs h = lacks_parts us vs (both (not (eqb u 10)) (lacks 10 (us ++ 10 ∷ vs)) h).1

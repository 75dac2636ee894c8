-- The cycle of the walk is one: the steps back are determined, and so is where the walk repeats.
use Rattle.std.proofs.Common.{◌≡◌, ◌≢◌, ℕ, zero, suc, ◌+◌, inl, inr, List, [], ◌∷◌, ◌++◌, length, get_or, arith, refl, ap, sym, ◌∙◌, append_assoc, length-append, subst}
use Rattle.std.specs.Prelude.{AllPairs, Contains}
use Rattle.std.proofs.lemmas.List.{get_or-append-add, get_or_at}
use Rattle.std.proofs.lemmas.List.Elements.{Contains-push_cases}
use Rattle.pyr_seq.specs.Walk.{IsWalk}
use Rattle.pyr_graph.specs.Removal.{IsLeast, IsStepBack, BeginsAtLeast, IsFoundCycle}

-- two least numbers are the same
pub IsLeast-one : (P : ℕ → Type 0) (m n : ℕ) → IsLeast P m → IsLeast P n → m ≡ n
IsLeast-one P m n one other = omega (arith, one.least n other.has, other.least m one.has)

-- a list without a repeat
abbrev pub Apart : List ℕ → Type 0
Apart xs = AllPairs (λ a b. a ≢ b) xs

-- its head stands nowhere else, and its tail has no repeat either
head_apart : (x : ℕ) (xs : List ℕ) → Apart (x ∷ xs) → Contains xs x → ⊥
head_apart x xs apart (k, inside, at) = apart zero (suc k) x (omega arith) (omega arith) (sym at)

tail_apart : (x : ℕ) (xs : List ℕ) → Apart (x ∷ xs) → Apart xs
tail_apart x xs apart i j d less inside = apart (suc i) (suc j) d (omega arith) (omega arith)

in_middle : (front : List ℕ) (t : ℕ) (rest : List ℕ) → Contains (front ++ t ∷ rest) t
in_middle front t rest = (length front, rw length-append (omega arith), get_or_at front t rest t (length front) refl)

-- the first task of a walk that goes through these to t
abbrev first_of : List ℕ → ℕ → ℕ
first_of [] t = t
first_of (x ∷ front) t = x

-- a relation by which each task goes to one task at most
module _ (R : ℕ → ℕ → Type 0) (one : (t a b : ℕ) → R t a → R t b → a ≡ b) where
  step_of : (x : ℕ) (front : List ℕ) (t : ℕ) (rest : List ℕ) → IsWalk R (x ∷ (front ++ t ∷ rest)) → R x (first_of front t) × IsWalk R (front ++ t ∷ rest)
  step_of x [] t rest walk = (walk.0, walk.1)
  step_of x (y ∷ front) t rest walk = (walk.0, walk.1)

  -- a walk that doesn't come to t goes along one that does
  follows : (a : ℕ) (rest : List ℕ) (t : ℕ) (other : List ℕ) → IsWalk R (a ∷ (rest ++ t ∷ [])) → IsWalk R (a ∷ other) → (Contains other t → ⊥)
      → (more : List ℕ) × (rest ≡ other ++ more)
  follows a rest t [] walk walk' none = (rest, refl)
  follows a [] t (z ∷ other) walk walk' none = absurd (none (zero, omega arith, one a z t walk'.0 walk.0))
  follows a (r ∷ rest) t (z ∷ other) walk walk' none =
      let same : z ≡ r = one a z r walk'.0 walk.0 in
      let FromThere : ℕ → Type 0 = λ x. IsWalk R (x ∷ other) in
      let (more, is) = follows r rest t other walk.1 (subst FromThere same walk'.1) (λ (k, inside, at). none (suc k, omega arith, at)) in
      (more, ap (λ (x : ℕ). x ∷ rest) (sym same) ∙ ap (λ (xs : List ℕ). z ∷ xs) is)

  -- two walks from one task that come to t but once have the same tasks between
  same_between : (a : ℕ) (rest other : List ℕ) (t : ℕ) → IsWalk R (a ∷ (rest ++ t ∷ [])) → IsWalk R (a ∷ (other ++ t ∷ []))
      → (Contains rest t → ⊥) → (Contains other t → ⊥) → rest ≡ other
  same_between a [] [] t walk walk' none none' = refl
  same_between a [] (z ∷ other) t walk walk' none none' = absurd (none' (zero, omega arith, one a z t walk'.0 walk.0))
  same_between a (r ∷ rest) [] t walk walk' none none' = absurd (none (zero, omega arith, one a r t walk.0 walk'.0))
  same_between a (r ∷ rest) (z ∷ other) t walk walk' none none' =
      let same : z ≡ r = one a z r walk'.0 walk.0 in
      let FromThere : ℕ → Type 0 = λ x. IsWalk R (x ∷ (other ++ t ∷ [])) in
      let is = same_between r rest other t walk.1 (subst FromThere same walk'.1) (λ (k, inside, at). none (suc k, omega arith, at)) (λ (k, inside, at). none' (suc k, omega arith, at)) in
      ap (λ (x : ℕ). x ∷ rest) (sym same) ∙ ap (λ (xs : List ℕ). z ∷ xs) is

  -- a task that stands twice
  twice : (front : List ℕ) (t : ℕ) (rest more : List ℕ) → Apart ((front ++ t ∷ (rest ++ t ∷ [])) ++ more) → ⊥
  twice front t rest more apart =
      let whole : (front ++ t ∷ (rest ++ t ∷ [])) ++ more ≡ front ++ t ∷ (rest ++ t ∷ more) = simp append_assoc in
      let apart' : Apart (front ++ t ∷ (rest ++ t ∷ more)) = rw whole at apart in
      let here = get_or_at front t (rest ++ t ∷ more) 0 (length front) refl in
      let there : get_or (front ++ t ∷ (rest ++ t ∷ more)) (length front + suc (length rest)) 0 ≡ t =
      get_or-append-add front (t ∷ (rest ++ t ∷ more)) (suc (length rest)) 0 ∙ get_or_at rest t more 0 (length rest) refl in
      apart' (length front) (length front + suc (length rest)) 0 (omega arith) (simp length-append (omega arith)) (here ∙ sym there)

  -- a walk that repeats its first task doesn't repeat a later one
  not_later : (t : ℕ) (rest : List ℕ) (y : ℕ) (other : List ℕ) (u : ℕ) (more : List ℕ) → t ≡ y
      → IsWalk R (t ∷ (rest ++ t ∷ [])) → IsWalk R (y ∷ (other ++ u ∷ (more ++ u ∷ []))) → Apart (t ∷ rest) → Apart (y ∷ (other ++ u ∷ more)) → ⊥
  not_later t rest y other u more same walk walk' apart apart' =
      let FromHere : ℕ → Type 0 = λ x. IsWalk R (x ∷ (other ++ u ∷ (more ++ u ∷ []))) in
      let (tail, is) = follows t rest t (other ++ u ∷ (more ++ u ∷ [])) walk (subst FromHere (sym same) walk') none in
      twice other u more tail (rw (← is) (tail_apart t rest apart))
    where
      none_in : Contains (other ++ u ∷ more) t → ⊥
      none_in held = head_apart y (other ++ u ∷ more) apart' (rw (← same) held)

      none : Contains (other ++ u ∷ (more ++ u ∷ [])) t → ⊥
      none held =
          let whole : other ++ u ∷ (more ++ u ∷ []) ≡ (other ++ u ∷ more) ++ u ∷ [] = sym (append_assoc other (u ∷ more) (u ∷ [])) in
          elim (Contains-push_cases (other ++ u ∷ more) u t (rw whole at held)) [
            | inl before ↦ none_in before
            | inr is_u ↦ none_in (rw (← is_u) (in_middle other u more))
          ]

  -- two walks from one task repeat the same task first
  same_cycle : (front : List ℕ) (t : ℕ) (rest : List ℕ) (other : List ℕ) (u : ℕ) (more : List ℕ) → first_of front t ≡ first_of other u
      → IsWalk R (front ++ t ∷ (rest ++ t ∷ [])) → IsWalk R (other ++ u ∷ (more ++ u ∷ []))
      → Apart (front ++ t ∷ rest) → Apart (other ++ u ∷ more) → t ∷ rest ≡ u ∷ more
  same_cycle [] t rest [] u more same walk walk' apart apart' =
      let Back : ℕ → Type 0 = λ x. IsWalk R (x ∷ (more ++ x ∷ [])) in
      let Held : ℕ → Type 0 = λ x. Contains more x in
      let is = same_between t rest more t walk (subst Back (sym same) walk') (head_apart t rest apart) (λ held. head_apart u more apart' (subst Held same held)) in
      ap (λ (x : ℕ). x ∷ rest) same ∙ ap (λ (xs : List ℕ). u ∷ xs) is
  same_cycle [] t rest (y ∷ other) u more same walk walk' apart apart' = absurd (not_later t rest y other u more same walk walk' apart apart')
  same_cycle (x ∷ front) t rest [] u more same walk walk' apart apart' = absurd (not_later u more x front t rest (sym same) walk' walk apart' apart)
  same_cycle (x ∷ front) t rest (y ∷ other) u more same walk walk' apart apart' =
      let (step, walk_on) = step_of x front t (rest ++ t ∷ []) walk in
      let (step', walk_on') = step_of y other u (more ++ u ∷ []) walk' in
      let next : first_of front t ≡ first_of other u = one x (first_of front t) (first_of other u) step (rw same step') in
      same_cycle front t rest other u more next walk_on walk_on' (tail_apart x (front ++ t ∷ rest) apart) (tail_apart y (other ++ u ∷ more) apart')

-- so the rule names one cycle
pub IsFoundCycle-one : (Left : ℕ → Type 0) (IsEdge : ℕ → ℕ → Type 0) (tasks others : List ℕ) → IsFoundCycle Left IsEdge tasks → IsFoundCycle Left IsEdge others → tasks ≡ others
IsFoundCycle-one Left IsEdge [] others found found' = absurd found
IsFoundCycle-one Left IsEdge (t ∷ rest) [] found found' = absurd found'
IsFoundCycle-one Left IsEdge (t ∷ rest) (u ∷ more) (front, begins, walk, apart) (other, begins', walk', apart') =
    same_cycle (IsStepBack Left IsEdge) (λ t a b. IsLeast-one (λ b. Left b × IsEdge b t) a b) front t rest other u more
    (IsLeast-one Left (first_of front t) (first_of other u) (least front t rest begins) (least other u more begins')) walk walk' apart apart'
  where
    least : (front : List ℕ) (t : ℕ) (rest : List ℕ) → BeginsAtLeast Left (front ++ t ∷ rest) → IsLeast Left (first_of front t)
    least [] t rest is = is
    least (x ∷ front) t rest is = is

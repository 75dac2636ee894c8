-- The rule: predecessors stand in the layer before, and what a task reads rises.
use Rattle.std.proofs.Common.{◌≡◌, ◌≢◌, ℕ, ◌<◌, ◌≤◌, List, [], ◌∷◌, length, arith, refl, ap, None}
use Rattle.std.specs.Prelude.{nat_eq, nat_lt, if◌then◌else◌, All}
use Rattle.std.specs.List.{AllByRecursion}
use Rattle.std.proofs.lemmas.Bool.{cond_both, ltb-true, ltb-false, eqb-true, eqb-false}
use Rattle.std.proofs.lemmas.List.Elements.{All-from_recursion, All-map}
use Rattle.pyr_num.specs.declared.ids.DatumId.{DatumId}
use Rattle.pyr_graph.specs.System.{datum_numbers}
use Rattle.pyr_graph.specs.Faults.{first_repeated}
use Rattle.pyr_graph.proofs.ListLemmas.{nat_eq-apart}
use Rattle.pyr_make.specs.Layered.{first_predecessor, second_predecessor, in_order, layered_reads, as_datums}

pub first_below : (t : ℕ) → 64 ≤ t → first_predecessor t < t
first_below t behind = omega arith

pub second_below : (t : ℕ) → 64 ≤ t → second_predecessor t < t
second_below t behind = omega arith

-- two numbers in order, by cases
pub in_order_cases : (P : List ℕ → Type 0) (a b : ℕ) → (a ≡ b → P (a ∷ [])) → (a < b → P (a ∷ b ∷ [])) → (b < a → P (b ∷ a ∷ [])) → P (in_order a b)
in_order_cases P a b same less more =
    cond_both (nat_eq a b) (a ∷ []) (if nat_lt a b then a ∷ b ∷ [] else b ∷ a ∷ []) P (λ e. same (eqb-true a b e))
    (λ apart. cond_both (nat_lt a b) (a ∷ b ∷ []) (b ∷ a ∷ []) P (λ l. less (ltb-true a b l))
    (λ g. more (let ne : a ≢ b = eqb-false a b apart in let le : b ≤ a = ltb-false a b g in omega arith)))

-- what a task reads, by cases
pub reads_cases : (P : List ℕ → Type 0) (t : ℕ) → (t < 64 → P []) → (64 ≤ t → P (in_order (first_predecessor t) (second_predecessor t))) → P (layered_reads t)
reads_cases P t early behind =
    cond_both (nat_lt t 64) [] (in_order (first_predecessor t) (second_predecessor t)) P (λ e. early (ltb-true t 64 e)) (λ e. behind (ltb-false t 64 e))

-- a list of at most two numbers below a task, each once
pub record AreRead (t : ℕ) (xs : List ℕ) : Type 0 where
  pub below : AllByRecursion (λ d. d < t) xs
  pub once : first_repeated xs ≡ None
  pub few : length xs ≤ 2

two_read : (t a b : ℕ) → a < t → b < t → a ≢ b → AreRead t (a ∷ b ∷ [])
two_read t a b a_in b_in apart = record {
  below = (a_in, (b_in, tt));
  once = rw (nat_eq-apart a b apart) refl;
  few = omega arith;
}

pub reads_are : (t : ℕ) → AreRead t (layered_reads t)
reads_are t =
    reads_cases (AreRead t) t (λ early. record { below = tt; once = refl; few = omega arith })
    (λ behind.
    let a_in = first_below t behind in
    let b_in = second_below t behind in
    in_order_cases (AreRead t) (first_predecessor t) (second_predecessor t)
    (λ same. record { below = (a_in, tt); once = refl; few = omega arith })
    (λ less. two_read t (first_predecessor t) (second_predecessor t) a_in b_in (omega (arith, less)))
    (λ more. two_read t (second_predecessor t) (first_predecessor t) b_in a_in (omega (arith, more))))

-- numbers as those of data, and back
pub numbers-as_datums : (xs : List ℕ) → datum_numbers (as_datums xs) ≡ xs
numbers-as_datums [] = refl
numbers-as_datums (x ∷ xs) = ap (λ (rest : List ℕ). x ∷ rest) (numbers-as_datums xs)

pub datums_below : (n : ℕ) (xs : List ℕ) → AllByRecursion (λ d. d < n) xs → All (λ d. d.0 < n) (as_datums xs)
datums_below n xs all =
    All-map (λ (d : DatumId). d.0 < n) (λ (k : ℕ). record { 0 = k }) xs (All-from_recursion (λ (d : ℕ). d < n) xs all)

pub below_weaker : (m n : ℕ) (xs : List ℕ) → m ≤ n → AllByRecursion (λ d. d < m) xs → AllByRecursion (λ d. d < n) xs
below_weaker m n [] le all = tt
below_weaker m n (x ∷ xs) le all = (omega (arith, all.0), below_weaker m n xs le all.1)

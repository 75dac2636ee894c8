-- A list gone through with a table of the last round in which each number came.
use Rattle.std.proofs.Common.{◌≡◌, ℕ, ◌+◌, ◌<◌, ◌≤◌, ◌==◌, ◌&&◌, ◌||◌, Bool, true, false, not, List, length, take, get_or, set, All, ◌⊎◌, inl, inr, refl, sym, ap, ◌∙◌, subst, arith, get_or-set_same, get_or-set_other}
use Rattle.std.specs.Prelude.{nat_eq, nat_lt}
use Rattle.std.specs.List.{list_any}
use Rattle.std.proofs.lemmas.Bool.{eq-eqb, ne_eqb, lt-ltb, le-ltb, ltb-true, cases_eq, and_parts, not-true}
use Rattle.std.proofs.lemmas.List.{length-set}
use Rattle.std.proofs.lemmas.List.Elements.{All-set}
use Rattle.std.proofs.lemmas.List.Folds.{list_any_more}
use Rattle.pyr_bundle.specs.Law.{Law, IsKept}
use Rattle.pyr_bundle.specs.Laws.{is_new, fresh}

-- where the first i of the list were gone through in this round
pub record IsStamped (named list : List ℕ) (round i : ℕ) : Type 0 where
  pub stamps : (k : ℕ) → k < length named → (get_or named k 0 == round) ≡ list_any (nat_eq k) (take i list)
  pub low : All (λ n. n ≤ round) named

pub stamped_none : (named list : List ℕ) (round : ℕ) → All (λ n. n < round) named → IsStamped named list round 0
stamped_none named list round older = record {
  stamps = λ k l. ne_eqb (get_or named k 0) round (λ e. let f = older k 0 l in omega arith);
  low = λ k d l. let f = older k d l in omega arith;
}

or_true : (b : Bool) → (b || true) ≡ true
or_true true = refl
or_true false = refl

or_false : (b : Bool) → (b || false) ≡ b
or_false true = refl
or_false false = refl

pub stamped_more : (named list : List ℕ) (round i x : ℕ) → i < length list → get_or list i 0 ≡ x → x < length named → IsStamped named list round i → IsStamped (set named x round) list round (i + 1)
stamped_more named list round i x l e b h = record {
  stamps = λ k m. at k (let n = length-set named x round in omega arith) (cases_eq k x);
  low = All-set (λ n. n ≤ round) named x round (omega arith) h.low;
}
  where
    at : (k : ℕ) → k < length named → (k ≡ x) ⊎ (k ≡ x → ⊥) → (get_or (set named x round) k 0 == round) ≡ list_any (nat_eq k) (take (i + 1) list)
    at k m (inl f) =
        ap (λ n. get_or (set named x round) n 0 == round) f ∙ eq-eqb (get_or (set named x round) x 0) round (get_or-set_same named x round 0 b)
        ∙ sym (list_any_more (nat_eq k) list i 0 l ∙ ap (λ c. list_any (nat_eq k) (take i list) || c) (eq-eqb k (get_or list i 0) (f ∙ sym e)) ∙ or_true (list_any (nat_eq k) (take i list)))
    at k m (inr f) =
        ap (λ n. n == round) (get_or-set_other named x k round 0 f) ∙ h.stamps k m
        ∙ sym (list_any_more (nat_eq k) list i 0 l ∙ ap (λ c. list_any (nat_eq k) (take i list) || c) (ne_eqb k (get_or list i 0) (λ g. f (g ∙ e))) ∙ or_false (list_any (nat_eq k) (take i list)))

-- the number here is new exactly where it is below the count, and its stamp is older
pub new_here : (named list : List ℕ) (round i x : ℕ) → get_or list i 0 ≡ x → x < length named → IsStamped named list round i → is_new (length named) list i ≡ not (get_or named x 0 == round)
new_here named list round i x e b h =
    ap (λ y. nat_lt y (length named) && not (list_any (nat_eq y) (take i list))) e
    ∙ ap (λ c. c && not (list_any (nat_eq x) (take i list))) (lt-ltb x (length named) b)
    ∙ ap not (sym (h.stamps x b))

pub old_here : (count : ℕ) (list : List ℕ) (i x : ℕ) → get_or list i 0 ≡ x → count ≤ x → is_new count list i ≡ false
old_here count list i x e b =
    ap (λ y. nat_lt y count && not (list_any (nat_eq y) (take i list))) e
    ∙ ap (λ c. c && not (list_any (nat_eq x) (take i list))) (le-ltb x count b)

-- what a new number is
pub is_new-parts : (count : ℕ) (list : List ℕ) (i : ℕ) → is_new count list i ≡ true → (get_or list i 0 < count) × (list_any (nat_eq (get_or list i 0)) (take i list) ≡ false)
is_new-parts count list i e =
    let parts = and_parts (nat_lt (get_or list i 0) count) (not (list_any (nat_eq (get_or list i 0)) (take i list))) e in
    (ltb-true (get_or list i 0) count parts.0, not-true (list_any (nat_eq (get_or list i 0)) (take i list)) parts.1)

pub fresh_at : (count : ℕ) (list : List ℕ) (i : ℕ) → IsKept (fresh count list) → i < length list → (get_or list i 0 < count) × (list_any (nat_eq (get_or list i 0)) (take i list) ≡ false)
fresh_at count list i h l = is_new-parts count list i (h.kept i 0 l (omega arith))

-- a fact on the same numbers, by another name
pub moved : (P : Law → Type 0) (m n : ℕ) (xs ys : List ℕ) → m ≡ n → xs ≡ ys → P (fresh m xs) → P (fresh n ys)
moved P m n xs ys e f h = subst (λ (k : ℕ). P (fresh k ys)) e (subst (λ (x : List ℕ). P (fresh m x)) f h)

-- Counting by a table with an entry for each number.
use Rattle.std.proofs.Common.{Fits, w32, ◌^◌, ◌≡◌, ℕ, ◌+◌, ◌<◌, ◌≤◌, ◌==◌, ◌||◌, Bool, true, false, ltb, List, [], ◌∷◌, length, take, drop, get_or, set, count_by, sum_by, All, ◌⊎◌, inl, inr, refl, sym, ap, ◌∙◌, subst, arith, get_or-set_same, get_or-set_other}
use Rattle.std.specs.Prelude.{nat_eq, not, ◌&&◌, Option, Some, None, MatchOption, if◌then◌else◌, slice_get}
use Rattle.std.specs.List.{list_any}
use Rattle.std.proofs.lemmas.Bool.{eq-eqb, ne_eqb, cases_eq, ltb-true, and_parts}
use Rattle.std.proofs.lemmas.List.{take-append-drop, length-take}
use Rattle.std.proofs.lemmas.List.Folds.{list_any_more}
use Rattle.std.proofs.lemmas.List.Sums.{sum_by_more, sum_by-append, sum_by-cons, count_by-le-length, count_by_more_yes, count_by_more_no}
use Rattle.std.proofs.lemmas.Option.{slice_get-get_or}
use Rattle.pyr_bundle.specs.declared.raw_bundle.RawBundle.{RawBundle}
use Rattle.pyr_bundle.specs.declared.raw_instr.RawInstr.{RawInstr}
use Rattle.pyr_bundle.specs.declared.raw_instr.RawInstr.TheVariants.{Recv, Exec, Send}
use Rattle.pyr_bundle.specs.Law.{IsKept, IsFirstBreach, single}
use Rattle.pyr_bundle.specs.Tables.{executed, sent, IsExecBelow, IsSendBelow}
use Rattle.pyr_bundle.specs.Raw.{task_count, processor_count, code_in}
use Rattle.pyr_bundle.specs.Laws.{fresh, fits, fits_at, operands, is_exec, is_send_to}
use Rattle.pyr_bundle.proofs.Stamps.{fresh_at}

eqb_comm : (a b : ℕ) → (a == b) ≡ (b == a)
eqb_comm a b = at (cases_eq a b)
  where
    at : (a ≡ b) ⊎ (a ≡ b → ⊥) → (a == b) ≡ (b == a)
    at (inl e) = eq-eqb a b e ∙ sym (eq-eqb b a (sym e))
    at (inr e) = ne_eqb a b e ∙ sym (ne_eqb b a (λ f. e (sym f)))

-- one more at this number
pub bumped : (counts : List ℕ) (x k : ℕ) → x < length counts → get_or (set counts x (get_or counts x 0 + 1)) k 0 ≡ get_or counts k 0 + (if k == x then 1 else 0)
bumped counts x k l = at (cases_eq k x)
  where
    at : (k ≡ x) ⊎ (k ≡ x → ⊥) → get_or (set counts x (get_or counts x 0 + 1)) k 0 ≡ get_or counts k 0 + (if k == x then 1 else 0)
    at (inl e) =
        ap (λ n. get_or (set counts x (get_or counts x 0 + 1)) n 0) e ∙ get_or-set_same counts x (get_or counts x 0 + 1) 0 l
        ∙ sym (ap (λ b. get_or counts k 0 + (if b then 1 else 0)) (eq-eqb k x e) ∙ ap (λ n. get_or counts n 0 + 1) e)
    at (inr e) =
        get_or-set_other counts x k (get_or counts x 0 + 1) 0 e ∙ sym (ap (λ b. get_or counts k 0 + (if b then 1 else 0)) (ne_eqb k x e) ∙ zero (get_or counts k 0))
      where
        zero : (n : ℕ) → n + 0 ≡ n
        zero n = omega arith

-- A table of how many of the first instructions are of each number, once one instruction more was
-- looked at: one of number x, or of none.
module _ (of : ℕ → RawInstr → Bool) (code : List RawInstr) (i : ℕ) (d : RawInstr) (counts old : List ℕ) (low : i < length code)
    (so_far : (k : ℕ) → k < length counts → get_or counts k 0 ≡ get_or old k 0 + count_by (of k) (take i code)) where
  pub tally_more : (x : ℕ) → x < length counts → ((k : ℕ) → of k (get_or code i d) ≡ (x == k)) →
      (k : ℕ) → k < length counts → get_or (set counts x (get_or counts x 0 + 1)) k 0 ≡ get_or old k 0 + count_by (of k) (take (i + 1) code)
  tally_more x l is k m = at (k == x) (bumped counts x k l) (is k ∙ eqb_comm x k)
    where
      at : (b : Bool) → get_or (set counts x (get_or counts x 0 + 1)) k 0 ≡ get_or counts k 0 + (if b then 1 else 0) → of k (get_or code i d) ≡ b →
          get_or (set counts x (get_or counts x 0 + 1)) k 0 ≡ get_or old k 0 + count_by (of k) (take (i + 1) code)
      at true new e = omega (arith, so_far k m, count_by_more_yes (of k) code i d low e)
      at false new e = omega (arith, so_far k m, count_by_more_no (of k) code i d low e)

  pub tally_same : ((k : ℕ) → of k (get_or code i d) ≡ false) → (k : ℕ) → k < length counts → get_or counts k 0 ≡ get_or old k 0 + count_by (of k) (take (i + 1) code)
  tally_same is k m = omega (arith, so_far k m, count_by_more_no (of k) code i d low (is k))

  -- the number can be counted once more
  pub tally_fits : (x : ℕ) → x < length counts → get_or old x 0 + length code < 2 ^ 32 → Fits w32 (get_or counts x 0 + 1)
  tally_fits x l few = omega (arith, so_far x l, count_by-le-length (of x) (take i code), length-take i code)

pub exec_of : (instr : RawInstr) (t k : ℕ) → executed instr ≡ Some t → is_exec k instr ≡ (t == k)
exec_of (Exec u) t k e = let same : u ≡ t = cc in ap (λ n. n == k) same
exec_of (Recv from x) t k e = absurd (cc)
exec_of (Send to x) t k e = absurd (cc)

pub no_exec : (instr : RawInstr) (k : ℕ) → executed instr ≡ None → is_exec k instr ≡ false
no_exec (Exec u) k e = absurd (cc)
no_exec (Recv from x) k e = refl
no_exec (Send to x) k e = refl

pub exec_below : (instr : RawInstr) (t count : ℕ) → executed instr ≡ Some t → IsExecBelow count instr → t < count
exec_below instr t count e h = rw e at h

pub send_of : (instr : RawInstr) (pair : ℕ × ℕ) (k : ℕ) → sent instr ≡ Some pair → is_send_to k instr ≡ (pair.0 == k)
send_of (Send to x) pair k e = let same : (to, x) ≡ pair = cc in ap (λ (p : ℕ × ℕ). p.0 == k) same
send_of (Recv from x) pair k e = absurd (cc)
send_of (Exec u) pair k e = absurd (cc)

pub no_send : (instr : RawInstr) (k : ℕ) → sent instr ≡ None → is_send_to k instr ≡ false
no_send (Send to x) k e = absurd (cc)
no_send (Recv from x) k e = refl
no_send (Exec u) k e = refl

pub send_below : (instr : RawInstr) (pair : ℕ × ℕ) (count : ℕ) → sent instr ≡ Some pair → IsSendBelow count instr → pair.0 < count
send_below instr pair count e h = rw e at h

-- Each number of a list of different numbers, once more.
once : (a b : Bool) → (a ≡ true → b ≡ false) → (if a then 1 else 0) + (if b then 1 else 0) ≡ (if a || b then 1 else 0)
once true true h = cc (h refl)
once true false h = refl
once false true h = refl
once false false h = refl

pub write_more : (counts old list : List ℕ) (i : ℕ) → IsKept (fresh (length old) list) → length counts ≡ length old → i < length list →
    ((d : ℕ) → d < length counts → get_or counts d 0 ≡ get_or old d 0 + (if list_any (nat_eq d) (take i list) then 1 else 0)) →
    (d : ℕ) → d < length counts → get_or (set counts (get_or list i 0) (get_or counts (get_or list i 0) 0 + 1)) d 0 ≡ get_or old d 0 + (if list_any (nat_eq d) (take (i + 1) list) then 1 else 0)
write_more counts old list i kept full l h d k =
    let x : ℕ = get_or list i 0 in
    let new = fresh_at (length old) list i kept l in
    let apart : list_any (nat_eq d) (take i list) ≡ true → (d == x) ≡ false = λ e. ne_eqb d x (λ f. absurd (let g : list_any (nat_eq x) (take i list) ≡ true = subst (λ y. list_any (nat_eq y) (take i list) ≡ true) f e in cc (new.1))) in
    bumped counts x d (omega (arith, new.0)) ∙ ap (λ n. n + (if d == x then 1 else 0)) (h d k)
    ∙ assoc (get_or old d 0) (if list_any (nat_eq d) (take i list) then 1 else 0) (if d == x then 1 else 0)
    ∙ ap (λ n. get_or old d 0 + n) (once (list_any (nat_eq d) (take i list)) (d == x) apart)
    ∙ ap (λ b. get_or old d 0 + (if b then 1 else 0)) (sym (list_any_more (nat_eq d) list i 0 l))
  where
    assoc : (a b e : ℕ) → a + b + e ≡ a + (b + e)
    assoc a b e = omega arith

-- a number that the list didn't have yet can be counted once more
pub not_yet : (counts old list : List ℕ) (i x : ℕ) → list_any (nat_eq x) (take i list) ≡ false →
    get_or counts x 0 ≡ get_or old x 0 + (if list_any (nat_eq x) (take i list) then 1 else 0) → get_or old x 0 + 1 < 2 ^ 32 → Fits w32 (get_or counts x 0 + 1)
not_yet counts old list i x e h few =
    let z : get_or counts x 0 ≡ get_or old x 0 + 0 = h ∙ ap (λ b. get_or old x 0 + (if b then 1 else 0)) e in
    omega arith

-- the law by the table is the law by the counts
pub by_table : (count : ℕ) (counts : List ℕ) (f : ℕ → ℕ) (r : Option ℕ) → length counts ≡ count → ((d : ℕ) → d < count → get_or counts d 0 ≡ f d) →
    MatchOption r (IsKept (single (length counts) (λ k. get_or counts k 0 == 1))) (λ k. IsFirstBreach (single (length counts) (λ k. get_or counts k 0 == 1)) k 0) →
    MatchOption r (IsKept (single count (λ k. f k == 1))) (λ k. IsFirstBreach (single count (λ k. f k == 1)) k 0)
by_table count counts f None full h kept = record { kept = λ a b l k. ap (λ n. n == 1) (sym (h a l)) ∙ kept.kept a b (omega arith) k }
by_table count counts f (Some k) full h breach = record {
  row = let l = breach.row in omega arith;
  column = breach.column;
  broken = ap (λ n. n == 1) (sym (h k (let l = breach.row in omega arith))) ∙ breach.broken;
  earlier = record { kept = λ c d l m b. ap (λ n. n == 1) (sym (h c l)) ∙ breach.earlier.kept c d (omega arith) m b };
}

-- a count over all codes is no more than their instructions
pub sum_few : (f : RawInstr → Bool) (codes : List (List RawInstr)) → sum_by (count_by f) codes ≤ sum_by length codes
sum_few f [] = omega arith
sum_few f (code ∷ codes) = omega (arith, sum_by-cons (count_by f) code codes, sum_by-cons length code codes, sum_few f codes, count_by-le-length f code)

pub part_few : (codes : List (List RawInstr)) (p : ℕ) → sum_by length (take p codes) ≤ sum_by length codes
part_few codes p =
    let e = sum_by-append length (take p codes) (drop p codes) in
    let f = ap (sum_by length) (take-append-drop p codes) in
    omega arith

-- what the law on operands says of the code of a processor
pub fits_at_place : (raw : RawBundle) (p i : ℕ) → IsKept (operands raw) → p < processor_count raw → (instr : RawInstr) → i < length (code_in raw.code p) → slice_get (code_in raw.code p) i ≡ Some instr → fits raw p instr ≡ true
unfolding operands
fits_at_place raw p i h l instr k e = sym (ap (fits_at raw p i) e) ∙ h.kept p i l k

pub execs_below : (raw : RawBundle) (p : ℕ) → IsKept (operands raw) → p < processor_count raw → All (IsExecBelow (task_count raw)) (code_in raw.code p)
execs_below raw p h l k d m = at (get_or (code_in raw.code p) k d) (fits_at_place raw p k h l _ m (slice_get-get_or (code_in raw.code p) k d m))
  where
    at : (instr : RawInstr) → fits raw p instr ≡ true → IsExecBelow (task_count raw) instr
    at (Exec t) e = ltb-true t (task_count raw) e
    at (Recv from x) e = tt
    at (Send to x) e = tt

pub sends_below : (raw : RawBundle) (p : ℕ) → IsKept (operands raw) → p < processor_count raw → All (IsSendBelow (processor_count raw)) (code_in raw.code p)
sends_below raw p h l k d m = at (get_or (code_in raw.code p) k d) (fits_at_place raw p k h l _ m (slice_get-get_or (code_in raw.code p) k d m))
  where
    at : (instr : RawInstr) → fits raw p instr ≡ true → IsSendBelow (processor_count raw) instr
    at (Exec t) e = tt
    at (Recv from x) e = tt
    at (Send to x) e = ltb-true to (processor_count raw) (and_parts (ltb to (processor_count raw)) _ (and_parts (ltb to (processor_count raw) && not (to == p)) _ e).0).0

-- the first codes and the next one are no more than all
pub code_part : (codes : List (List RawInstr)) (p : ℕ) → p < length codes → sum_by length (take p codes) + length (code_in codes p) ≤ sum_by length codes
code_part codes p l = omega (arith, sum_by_more length codes p [] l, part_few codes (p + 1))

-- The rounds come to the values that an order of the tasks tells.
use Rattle.std.proofs.Common.{◌≡◌, ◌≢◌, ℕ, zero, suc, ◌<◌, ◌≤◌, Bool, true, false, cond, List, [], ◌∷◌, length, map, refl, sym, ◌∙◌, ap, subst, arith, nat_eq}
use Rattle.std.specs.Prelude.{Contains, unwrap_or, slice_index, Option}
use Rattle.std.specs.List.{list_any}
use Rattle.std.specs.Cmp.{nat_eq_equiv}
use Rattle.std.proofs.lemmas.Bool.{eqb-true}
use Rattle.std.proofs.lemmas.List.{get_or_default}
use Rattle.std.proofs.lemmas.Map.Views.{Contains-from_any, list_any-from_Contains}
use Rattle.pyr_seq.specs.Walk.{IsTopological}
use Rattle.pyr_seq.specs.Sequential.{Tasks, Store, inputs_of, entry_at, values, value_of, IsEdgeOf, HasOneWriter}
use Rattle.pyr_seq.proofs.SequentialLemmas.{values-solve}
use Rattle.pyr_proc.specs.Rounds.{made_at_once, after_rounds, settled}

-- every datum that is read is written by a task
pub record HasWriters (tasks : Tasks) : Type 0 where
  pub writer : (t d : ℕ) → t < tasks.count → Contains (tasks.reads t) d → (u : ℕ) × (u < tasks.count) × Contains (tasks.writes u) d

-- equal functions on the elements of a list
map_same : (f g : ℕ → List ℕ) (xs : List ℕ) → ((x : ℕ) → Contains xs x → f x ≡ g x) → map f xs ≡ map g xs
map_same f g [] h = refl
map_same f g (x ∷ xs) h =
    ap (λ y. y ∷ map f xs) (h x (zero, omega arith, refl))
    ∙ ap (λ ys. g x ∷ ys) (map_same f g xs (λ y c. h y (suc c.0, (let k = c.1 in omega arith), c.2)))

-- what is made at once of a datum is what its writer makes
made-written : (tasks : Tasks) (store : Store) (n t d : ℕ) → HasOneWriter tasks → n ≤ tasks.count → t < n → Contains (tasks.writes t) d →
    made_at_once tasks n store d ≡ entry_at (tasks.writes t) (tasks.outputs t (inputs_of tasks store t)) d
made-written tasks store zero t d one few l c = absurd (omega arith)
made-written tasks store (suc m) t d one few l c = at (list_any (nat_eq d) (tasks.writes m)) refl (made-written tasks store m t d one (omega arith))
  where
    at : (b : Bool) → list_any (nat_eq d) (tasks.writes m) ≡ b →
        (t < m → Contains (tasks.writes t) d → made_at_once tasks m store d ≡ entry_at (tasks.writes t) (tasks.outputs t (inputs_of tasks store t)) d) →
        cond b (entry_at (tasks.writes m) (tasks.outputs m (inputs_of tasks store m)) d) (made_at_once tasks m store d) ≡ entry_at (tasks.writes t) (tasks.outputs t (inputs_of tasks store t)) d
    at true e ih = ap (λ u. entry_at (tasks.writes u) (tasks.outputs u (inputs_of tasks store u)) d) (one m t d (omega arith) (omega arith) (Contains-from_any eqb-true d (tasks.writes m) e) c)
    at false e ih = ih (less (λ s. let f : list_any (nat_eq d) (tasks.writes m) ≡ true = list_any-from_Contains nat_eq_equiv d (tasks.writes m) (subst (λ u. Contains (tasks.writes u) d) s c) in absurd (let g : false ≡ true = sym e ∙ f in cc))) c
      where
        less : t ≢ m → t < m
        less ne = omega (arith, ne)

module _ (tasks : Tasks) (order : List ℕ) (one : HasOneWriter tasks) (top : IsTopological tasks.count (IsEdgeOf tasks) order) (has : HasWriters tasks) where
  -- the place of a task in the order
  place : (t : ℕ) → t < tasks.count → (i : ℕ) × (i < tasks.count) × (slice_index order i ≡ t)
  place t l =
      let c = top.each t l in
      let low : c.0 < length order = c.1 in
      let f = top.full in
      (c.0, omega arith, get_or_default order c.0 0 t low ∙ c.2)

  -- what is read has its value after n rounds, where all that is written before has its value then
  read_settles : (n i e : ℕ) → ((j d : ℕ) → j < n → j < tasks.count → Contains (tasks.writes (slice_index order j)) d → after_rounds tasks n d ≡ values tasks order d) →
      i < suc n → i < tasks.count → slice_index order i < tasks.count → Contains (tasks.reads (slice_index order i)) e → after_rounds tasks n e ≡ values tasks order e
  read_settles n i e ih l m known r =
      let w = has.writer (slice_index order i) e known r in
      let j = place w.0 w.1 in
      let c : Contains (tasks.writes (slice_index order j.0)) e = subst (λ u. Contains (tasks.writes u) e) (sym j.2) w.2 in
      let before = top.before j.0 i j.1 m (e, c, r) in
      ih j.0 e (omega arith) j.1 c

  -- after more rounds than tasks stand before its writer, a datum has its value
  settles : (n i d : ℕ) → i < n → i < tasks.count → Contains (tasks.writes (slice_index order i)) d → after_rounds tasks n d ≡ values tasks order d
  settles zero i d l m c = absurd (omega arith)
  settles (suc n) i d l m c =
      let known : slice_index order i < tasks.count = top.tasks i 0 (let f = top.full in omega arith) in
      made-written tasks (after_rounds tasks n) tasks.count (slice_index order i) d one (omega arith) known c
      ∙ ap (λ xs. entry_at (tasks.writes (slice_index order i)) (tasks.outputs (slice_index order i) xs) d)
      (map_same (λ e. unwrap_or (after_rounds tasks n e) []) (λ e. unwrap_or (values tasks order e) []) (tasks.reads (slice_index order i))
      (λ e r. ap (λ (o : Option (List ℕ)). unwrap_or o []) (read_settles n i e (settles n) l m known r)))
      ∙ sym (values-solve tasks order one top (slice_index order i) known d c)

  pub rounds_settle : (t d : ℕ) → t < tasks.count → Contains (tasks.writes t) d → settled tasks d ≡ value_of tasks order d
  rounds_settle t d l c =
      let i = place t l in
      ap (λ (o : Option (List ℕ)). unwrap_or o []) (settles tasks.count i.0 d i.1 i.1 (subst (λ u. Contains (tasks.writes u) d) (sym i.2) c))

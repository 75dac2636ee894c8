-- When a task may be moved, as the test of it sees it.
use Rattle.std.proofs.Common.{◌≡◌, ◌≢◌, ℕ, ◌<◌, true, false, Some, List, [], ◌∷◌, length, inl, inr, refl, arith, ap, sym, ◌∙◌, eqb-true}
use Rattle.std.specs.Prelude.{nat_eq, Contains}
use Rattle.std.specs.List.{AllWithin}
use Rattle.std.proofs.lemmas.Bool.{or_cases}
use Rattle.pyr_graph.specs.declared.edge.Edge.{Edge}
use Rattle.pyr_graph.specs.System.{System, IsEdge, AreSuccessors}
use Rattle.pyr_graph.specs.Numbers.{holds}
use Rattle.pyr_graph.proofs.IndexLemmas.{edge_in}
use Rattle.pyr_levels.specs.Partial.{cluster_tasks, examined, cluster_in, Clustered, IsExamined, IsPartialOf, CanMove}
use Rattle.pyr_levels.proofs.ClusterLemmas.{apart, holds-from_cluster_in}
use Rattle.pyr_levels.proofs.WithoutLemmas.{own-cluster}

-- a list of one that holds t
only : (xs : List ℕ) (t : ℕ) → holds xs t ≡ true → length xs ≡ 1 → xs ≡ t ∷ []
only [] t held one = absurd (omega arith)
only (x ∷ []) t held one = elim (or_cases (nat_eq t x) false held) [
  | inl is ↦ ap (λ (u : ℕ). u ∷ []) (sym (eqb-true t x is))
  | inr none ↦ absurd (cc)
]
only (x ∷ y ∷ rest) t held one = absurd (omega arith)

-- a list that isn't empty
some-in : (xs : List ℕ) → xs ≢ [] → 0 < length xs
some-in [] some = absurd (some refl)
some-in (x ∷ xs) some = omega arith

pub CanMove-from : (s : System) (c : Clustered) (t k from : ℕ) → IsPartialOf s c → cluster_in c.placed t ≡ Some from → length (cluster_tasks c.placed from) ≡ 1 → from ≢ k → k < c.opened
    → 0 < length (cluster_tasks c.placed k) → ((b : ℕ) → IsEdge s t b → IsExamined c b → ⊥) → CanMove s c t k
CanMove-from s c t k from of own alone other stands some last = record {
  from = from;
  alone = only (cluster_tasks c.placed from) t (holds-from_cluster_in c.placed from t own) alone;
  other = other;
  stands = stands;
  filled = λ none. (let empty = ap length none in omega (arith, empty, some));
  last = last;
}

-- it has the cluster in which it is alone
pub CanMove-cluster : (s : System) (c : Clustered) (t k : ℕ) → IsPartialOf s c → (may : CanMove s c t k) → cluster_in c.placed t ≡ Some may.from
CanMove-cluster s c t k of may = own-cluster t may.from c.placed (apart s c of) may.alone

pub CanMove-alone : (s : System) (c : Clustered) (t k from : ℕ) → IsPartialOf s c → cluster_in c.placed t ≡ Some from → CanMove s c t k
    → (length (cluster_tasks c.placed from) ≡ 1) × (from ≢ k) × (k < c.opened) × (0 < length (cluster_tasks c.placed k))
CanMove-alone s c t k from of own may =
    let same : from ≡ may.from = (let other = CanMove-cluster s c t k of may in cc (own, other)) in (
      rw (same, may.alone) refl,
      λ is. may.other (sym same ∙ is),
      may.stands,
      some-in (cluster_tasks c.placed k) may.filled,
    )

-- no successor is examined, once all edges are seen
pub none-read : (s : System) (c : Clustered) (t : ℕ) (edges : List Edge) (i : ℕ) → AreSuccessors s t edges → i ≡ length edges
    → AllWithin (λ e. Contains (examined c.placed) e.task.0 → ⊥) edges 0 i → (b : ℕ) → IsEdge s t b → IsExamined c b → ⊥
none-read s c t edges i are all none b edge held =
    let (k, e, inside, here, is) = are.complete b (edge_in s t b edge) edge in
    let new = rw here at (none k e (omega arith) (omega arith)) in
    new (rw is held)

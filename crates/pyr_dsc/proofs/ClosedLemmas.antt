-- All predecessors of an examined task are examined, along a run.
use Rattle.std.proofs.Common.{◌≡◌, ℕ, zero, suc, Bool, true, false, Option, Some, None, List, [], ◌∷◌, ◌++◌, ◌⊎◌, inl, inr, sym, ◌∙◌, eqb-true}
use Rattle.std.specs.Prelude.{◌&&◌, not, nat_eq}
use Rattle.std.specs.List.{list_any, list_all}
use Rattle.std.proofs.lemmas.Bool.{cases_Bool, false_from_ne_true}
use Rattle.pyr_graph.specs.declared.clustering.Step.{Step}
use Rattle.pyr_graph.specs.System.{System, task_count, IsEdge}
use Rattle.pyr_graph.specs.Numbers.{holds}
use Rattle.pyr_graph.specs.Edges.{has_edge}
use Rattle.pyr_graph.proofs.IndexLemmas.{edge_from}
use Rattle.pyr_graph.proofs.ListLemmas.{nat_eq-same}
use Rattle.pyr_graph.proofs.NumberLemmas.{number-kept, holds-list_all}
use Rattle.pyr_graph.proofs.SenderLemmas.{IsEdge-has_edge}
use Rattle.pyr_levels.specs.Scheduled.{Follows, FollowsInSome, same_cluster, cluster_at, opened, appended, clusters_with}
use Rattle.pyr_levels.proofs.ClusterLemmas.{and-true}
use Rattle.pyr_levels.proofs.FollowsLemmas.{Follows-holds}
use Rattle.pyr_dsc.specs.State.{State, is_examined, predecessors}
use Rattle.pyr_dsc.specs.Rules.{IsStep, chosen}
use Rattle.pyr_dsc.specs.Run.{state, AreSteps}
use Rattle.pyr_dsc.proofs.HeadLemmas.{next_free-free}
use Rattle.pyr_dsc.proofs.HeldLemmas.{or-cases, or-left, or-right, not-both, holds-push}

-- some cluster holds the task
abbrev pub is_in_some : List (List ℕ) → ℕ → Bool
is_in_some clusters t = list_any (λ cluster. holds cluster t) clusters

-- A task that stands in the clusters after a step stood in those before it, or is the new one.
in_some-opened : (clusters : List (List ℕ)) (x t : ℕ) → is_in_some (opened clusters x) t ≡ true → (t ≡ x) ⊎ (is_in_some clusters t ≡ true)
in_some-opened [] x t is = elim (cases_Bool (nat_eq t x)) [
  | inl here ↦ inl (eqb-true t x here)
  | inr other ↦ absurd (let e : false ≡ true = rw other at is in cc)
]
in_some-opened (c ∷ clusters) x t is = elim (or-cases (holds c t) (is_in_some (opened clusters x) t) is) [
  | inl here ↦ inr (or-left (holds c t) (is_in_some clusters t) here)
  | inr there ↦ elim (in_some-opened clusters x t there) [
    | inl new ↦ inl new
    | inr old ↦ inr (or-right (holds c t) (is_in_some clusters t) old)
  ]
]

pub in_some-appended : (clusters : List (List ℕ)) (k x t : ℕ) → is_in_some (appended clusters k x) t ≡ true → (t ≡ x) ⊎ (is_in_some clusters t ≡ true)
in_some-appended [] k x t is = absurd (let e : false ≡ true = is in cc)
in_some-appended (c ∷ clusters) zero x t is = elim (or-cases (holds (c ++ x ∷ []) t) (is_in_some clusters t) is) [
  | inl here ↦ elim (or-cases (holds c t) (nat_eq t x) (sym (holds-push c x t) ∙ here)) [
    | inl old ↦ inr (or-left (holds c t) (is_in_some clusters t) old)
    | inr new ↦ inl (eqb-true t x new)
  ]
  | inr there ↦ inr (or-right (holds c t) (is_in_some clusters t) there)
]
in_some-appended (c ∷ clusters) (suc k) x t is = elim (or-cases (holds c t) (is_in_some (appended clusters k x) t) is) [
  | inl here ↦ inr (or-left (holds c t) (is_in_some clusters t) here)
  | inr there ↦ elim (in_some-appended clusters k x t there) [
    | inl new ↦ inl new
    | inr old ↦ inr (or-right (holds c t) (is_in_some clusters t) old)
  ]
]

pub in_some-with : (clusters : List (List ℕ)) (x t : ℕ) (o : Option ℕ) → is_in_some (clusters_with clusters x o) t ≡ true → (t ≡ x) ⊎ (is_in_some clusters t ≡ true)
in_some-with clusters x t None is = in_some-opened clusters x t is
in_some-with clusters x t (Some k) is = in_some-appended clusters k x t is

-- and none is lost
opened-in_some : (clusters : List (List ℕ)) (x t : ℕ) → is_in_some clusters t ≡ true → is_in_some (opened clusters x) t ≡ true
opened-in_some [] x t is = absurd (let e : false ≡ true = is in cc)
opened-in_some (c ∷ clusters) x t is = elim (or-cases (holds c t) (is_in_some clusters t) is) [
  | inl here ↦ or-left (holds c t) (is_in_some (opened clusters x) t) here
  | inr there ↦ or-right (holds c t) (is_in_some (opened clusters x) t) (opened-in_some clusters x t there)
]

pub appended-in_some : (clusters : List (List ℕ)) (k x t : ℕ) → is_in_some clusters t ≡ true → is_in_some (appended clusters k x) t ≡ true
appended-in_some [] k x t is = absurd (let e : false ≡ true = is in cc)
appended-in_some (c ∷ clusters) zero x t is = elim (or-cases (holds c t) (is_in_some clusters t) is) [
  | inl here ↦ or-left (holds (c ++ x ∷ []) t) (is_in_some clusters t) (holds-push c x t ∙ or-left (holds c t) (nat_eq t x) here)
  | inr there ↦ or-right (holds (c ++ x ∷ []) t) (is_in_some clusters t) there
]
appended-in_some (c ∷ clusters) (suc k) x t is = elim (or-cases (holds c t) (is_in_some clusters t) is) [
  | inl here ↦ or-left (holds c t) (is_in_some (appended clusters k x) t) here
  | inr there ↦ or-right (holds c t) (is_in_some (appended clusters k x) t) (appended-in_some clusters k x t there)
]

pub with-in_some : (clusters : List (List ℕ)) (x t : ℕ) (o : Option ℕ) → is_in_some clusters t ≡ true → is_in_some (clusters_with clusters x o) t ≡ true
with-in_some clusters x t None is = opened-in_some clusters x t is
with-in_some clusters x t (Some k) is = appended-in_some clusters k x t is

-- where a task stands, all its predecessors stand too
abbrev pub IsClosed : System → List (List ℕ) → Type 0
IsClosed s clusters = (a b : ℕ) → IsEdge s a b → is_in_some clusters b ≡ true → is_in_some clusters a ≡ true

pub IsClosed-none : (s : System) → IsClosed s []
IsClosed-none s a b edge is = is

-- the predecessors of a free task are examined
pub free-before : (z : State) (a x : ℕ) → list_all (is_examined z) (predecessors z x) ≡ true → IsEdge z.system a x → is_examined z a ≡ true
free-before z a x all edge =
    holds-list_all (is_examined z) (predecessors z x) a all
    (number-kept (λ b. has_edge z.system b x) (task_count z.system) a (edge_from z.system a x edge) (IsEdge-has_edge z.system a x edge))

pub IsClosed-with : (z : State) (x : ℕ) (o : Option ℕ) → list_all (is_examined z) (predecessors z x) ≡ true → IsClosed z.system z.clusters
    → IsClosed z.system (clusters_with z.clusters x o)
IsClosed-with z x o all closed a b edge is = with-in_some z.clusters x a o (elim (in_some-with z.clusters x b o is) [
  | inl new ↦ free-before z a x all (rw new at edge)
  | inr old ↦ closed a b edge old
])

IsClosed-step : (z : State) (step : Step) (after : List (List ℕ)) → IsStep z step after → IsClosed z.system z.clusters → IsClosed z.system after
IsClosed-step z step after is closed =
    let (inside, free) = next_free-free z step.task.0 is.task in
    let all = (and-true (not (is_examined z step.task.0)) (list_all (is_examined z) (predecessors z step.task.0)) free).1 in
    rw is.clusters (IsClosed-with z step.task.0 (chosen z step.task.0) all closed)

IsClosed-steps : (s : System) (blevels : List ℕ) (clusters : List (List ℕ)) (steps : List Step) (after : List (List ℕ))
    → AreSteps s blevels clusters steps after → IsClosed s clusters → IsClosed s after
IsClosed-steps s blevels clusters [] after same closed = rw (← same) closed
IsClosed-steps s blevels clusters (step ∷ rest) after (tlevels, next, there, is, more) closed =
    IsClosed-steps s blevels next rest after more (IsClosed-step (state s blevels clusters tlevels) step next is closed)

pub IsClosed-run : (s : System) (blevels : List ℕ) (steps : List Step) (clusters : List (List ℕ)) → AreSteps s blevels [] steps clusters → IsClosed s clusters
IsClosed-run s blevels steps clusters are = IsClosed-steps s blevels [] steps clusters are (IsClosed-none s)

-- both tasks of one cluster stand in some, and so do two that follow one another
pub same_cluster-both : (clusters : List (List ℕ)) (a b : ℕ) → same_cluster clusters a b ≡ true
    → (is_in_some clusters a ≡ true) × (is_in_some clusters b ≡ true)
same_cluster-both [] a b is = absurd (let e : false ≡ true = is in cc)
same_cluster-both (c ∷ clusters) a b is = elim (or-cases (holds c a && holds c b) (same_cluster clusters a b) is) [
  | inl here ↦
      let both = and-true (holds c a) (holds c b) here in
      (or-left (holds c a) (is_in_some clusters a) both.0, or-left (holds c b) (is_in_some clusters b) both.1)
  | inr there ↦
      let both = same_cluster-both clusters a b there in
      (or-right (holds c a) (is_in_some clusters a) both.0, or-right (holds c b) (is_in_some clusters b) both.1)
]

pub Follows-first : (c : List ℕ) (a b : ℕ) → Follows c a b → holds c a ≡ true
Follows-first [] a b none = absurd none
Follows-first (x ∷ []) a b none = absurd none
Follows-first (x ∷ y ∷ rest) a b (inl here) = or-left (nat_eq a x) (holds (y ∷ rest) a) (nat_eq-same a x (sym here.0))
Follows-first (x ∷ y ∷ rest) a b (inr there) = or-right (nat_eq a x) (holds (y ∷ rest) a) (Follows-first (y ∷ rest) a b there)

pub FollowsInSome-both : (clusters : List (List ℕ)) (a b : ℕ) → FollowsInSome clusters a b
    → (is_in_some clusters a ≡ true) × (is_in_some clusters b ≡ true)
FollowsInSome-both [] a b none = absurd none
FollowsInSome-both (c ∷ clusters) a b (inl here) =
    (or-left (holds c a) (is_in_some clusters a) (Follows-first c a b here), or-left (holds c b) (is_in_some clusters b) (Follows-holds c a b here))
FollowsInSome-both (c ∷ clusters) a b (inr there) =
    let both = FollowsInSome-both clusters a b there in
    (or-right (holds c a) (is_in_some clusters a) both.0, or-right (holds c b) (is_in_some clusters b) both.1)

-- no cluster holds a task that stands in none, and the links into it are edges
pub fresh-apart : (clusters : List (List ℕ)) (a b : ℕ) → is_in_some clusters b ≡ false → same_cluster clusters a b ≡ false
fresh-apart clusters a b new = false_from_ne_true (same_cluster clusters a b) (λ is. not-both (is_in_some clusters b) new (same_cluster-both clusters a b is).1)

pub fresh-edge : (s : System) (clusters : List (List ℕ)) (a b : ℕ) → is_in_some clusters b ≡ false → IsEdge s a b ⊎ FollowsInSome clusters a b → IsEdge s a b
fresh-edge s clusters a b new (inl edge) = edge
fresh-edge s clusters a b new (inr follows) = absurd (not-both (is_in_some clusters b) new (FollowsInSome-both clusters a b follows).1)

-- a task in a cluster stands
pub in_cluster-in_some : (clusters : List (List ℕ)) (k t : ℕ) → holds (cluster_at clusters k) t ≡ true → is_in_some clusters t ≡ true
in_cluster-in_some [] k t held = held
in_cluster-in_some (c ∷ clusters) zero t held = or-left (holds c t) (is_in_some clusters t) held
in_cluster-in_some (c ∷ clusters) (suc k) t held = or-right (holds c t) (is_in_some clusters t) (in_cluster-in_some clusters k t held)

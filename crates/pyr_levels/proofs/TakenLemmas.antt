-- A partial clustering from which a task was taken that was alone in its cluster, and has no examined successor.
use Rattle.std.proofs.Common.{◌≡◌, ◌≢◌, ℕ, ◌+◌, ◌<◌, max, ◌⊎◌, List, [], ◌∷◌, ◌++◌, length, arith, inl, inr, refl, ap, sym, ◌∙◌}
use Rattle.std.specs.Prelude.{nat_eq, not, slice_index, AllPairs}
use Rattle.std.proofs.lemmas.Bool.{cases_eq}
use Rattle.std.proofs.lemmas.List.Elements.{All-filter}
use Rattle.std.proofs.lemmas.List.Kept.{AllPairs-filter}
use Rattle.pyr_graph.specs.System.{System, task_count, IsEdge}
use Rattle.pyr_graph.proofs.ListLemmas.{Contains-tested, tested-Contains, nat_eq-same}
use Rattle.pyr_levels.specs.Scheduled.{FollowsInSome, same_cluster, scheduled_graph, cluster_at, appended, relocated, last_of}
use Rattle.pyr_levels.specs.Partial.{cluster_tasks, clusters_of, clusters_from, examined, Clustered, IsExamined, IsNext, IsStart, CanMove, arrives_in, end_in, end_by}
use Rattle.pyr_graph.specs.Clusters.{filled}
use Rattle.pyr_levels.specs.Passes.{taken_out, IsStanding}
use Rattle.pyr_levels.proofs.Paths.{AgreesOn, IsTlevel-kept}
use Rattle.pyr_levels.proofs.PartialLemmas.{length-examined, clusters_of-appended}
use Rattle.pyr_levels.proofs.ClusterLemmas.{Apart, Apart-from_AllPairs, holds-examined, same_cluster-placed, cluster_in-opened, cluster_at-clusters_from}
use Rattle.pyr_levels.proofs.FollowsLemmas.{Follows-before, Follows-somewhere, somewhere-Follows}
use Rattle.pyr_levels.proofs.KeptLemmas.{once-standing, examined-task}
use Rattle.pyr_levels.proofs.WithoutLemmas.{examined-without, clusters_from-without, cluster_in-without, below-without, held-without, without-held, length-without, own-cluster, others-stay, own-empty, filled-without, filled-appended_filled}

module _ (s : System) (c : Clustered) (t k : ℕ) (of : IsStanding s c) (may : CanMove s c t k) where
  once : Apart (examined c.placed)
  once = once-standing s c of

  pub was-held : IsExamined c t
  was-held =
      Contains-tested t (examined c.placed) (holds-examined c.placed may.from t (rw (may.alone, nat_eq-same t t refl)))

  pub from-opened : may.from < c.opened
  from-opened = cluster_in-opened c.placed c.opened t may.from of.in_opened (own-cluster t may.from c.placed once may.alone)

  -- no examined task has t as a predecessor
  none-after : (u : ℕ) → IsExamined c u → IsEdge s t u → ⊥
  none-after u held edge = may.last u edge held

  once-after : AllPairs (λ a b. a ≢ b) (examined (taken_out c t).placed)
  once-after = rw (examined-without t c.placed) (AllPairs-filter (λ a b. a ≢ b) (λ u. not (nat_eq u t)) (examined c.placed) of.once)

  closed-after : (u a : ℕ) → IsExamined (taken_out c t) u → IsEdge s a u → IsExamined (taken_out c t) a
  closed-after u a held edge =
      let was = without-held t u c.placed held in
      held-without t a c.placed (of.closed u a was.0 edge) (λ same. none-after u was.0 (rw same at edge))

  -- what follows without t followed before, and the other way round
  follows-before : (a b : ℕ) → FollowsInSome (clusters_of (taken_out c t)) a b → FollowsInSome (clusters_of c) a b
  follows-before a b follows =
      let (j, low, high, there) = Follows-somewhere (taken_out c t).placed 0 c.opened a b follows in
      elim (cases_eq may.from j) [
        | inl same ↦ absurd (rw (← same, own-empty t may.from c.placed once may.alone) at there)
        | inr apart ↦ somewhere-Follows c.placed 0 c.opened a b j (omega arith) (omega (arith, high)) (rw (others-stay t may.from c.placed once may.alone j apart) at there)
      ]

  follows-after : (a b : ℕ) → FollowsInSome (clusters_of c) a b → FollowsInSome (clusters_of (taken_out c t)) a b
  follows-after a b follows =
      let (j, low, high, there) = Follows-somewhere c.placed 0 c.opened a b follows in
      elim (cases_eq may.from j) [
        | inl same ↦ absurd (rw (← same, may.alone) at there)
        | inr apart ↦ somewhere-Follows (taken_out c t).placed 0 c.opened a b j (omega arith) (omega (arith, high)) (rw (others-stay t may.from c.placed once may.alone j apart) there)
      ]

  -- both tasks of a link within a cluster are still examined
  both-held : (a b : ℕ) → FollowsInSome (clusters_of (taken_out c t)) a b → IsExamined (taken_out c t) a
  both-held a b follows =
      let (j, low, high, there) = Follows-somewhere (taken_out c t).placed 0 c.opened a b follows in
      Contains-tested a (examined (taken_out c t).placed) (holds-examined (taken_out c t).placed j a (Follows-before (cluster_tasks (taken_out c t).placed j) a b there))

  together-kept : (a b : ℕ) → a ≢ t → b ≢ t → same_cluster (clusters_of (taken_out c t)) a b ≡ same_cluster (clusters_of c) a b
  together-kept a b a_other b_other =
      rw (
        same_cluster-placed (taken_out c t).placed c.opened (Apart-from_AllPairs (examined (taken_out c t).placed) once-after) (below-without t c.opened c.placed of.in_opened) a b,
        same_cluster-placed c.placed c.opened once of.in_opened a b,
        cluster_in-without t a c.placed a_other,
        cluster_in-without t b c.placed b_other,
      )

  other : (u : ℕ) → IsExamined (taken_out c t) u → u ≢ t
  other u held = (without-held t u c.placed held).1

  agrees : AgreesOn (IsExamined (taken_out c t)) (scheduled_graph s (clusters_of c)) (scheduled_graph s (clusters_of (taken_out c t)))
  agrees = record {
    tasks = λ u is. is;
    costs = λ u. refl;
    closed = closed;
    links = links;
    weights = λ a b a_in b_in link. rw (together-kept a b (other a a_in) (other b b_in));
  }
    where
      closed : (a b : ℕ) → IsExamined (taken_out c t) b → IsEdge s a b ⊎ FollowsInSome (clusters_of c) a b → IsExamined (taken_out c t) a
      closed a b b_in (inl edge) = closed-after b a b_in edge
      closed a b b_in (inr follows) = both-held a b (follows-after a b follows)

      links : (a b : ℕ) → IsExamined (taken_out c t) a → IsExamined (taken_out c t) b → IsEdge s a b ⊎ FollowsInSome (clusters_of c) a b
          → IsEdge s a b ⊎ FollowsInSome (clusters_of (taken_out c t)) a b
      links a b a_in b_in (inl edge) = inl edge
      links a b a_in b_in (inr follows) = inr (follows-after a b follows)

  agrees-back : AgreesOn (IsExamined (taken_out c t)) (scheduled_graph s (clusters_of (taken_out c t))) (scheduled_graph s (clusters_of c))
  agrees-back = record {
    tasks = λ u is. is;
    costs = λ u. refl;
    closed = closed;
    links = links;
    weights = λ a b a_in b_in link. rw (together-kept a b (other a a_in) (other b b_in));
  }
    where
      closed : (a b : ℕ) → IsExamined (taken_out c t) b → IsEdge s a b ⊎ FollowsInSome (clusters_of (taken_out c t)) a b → IsExamined (taken_out c t) a
      closed a b b_in (inl edge) = closed-after b a b_in edge
      closed a b b_in (inr follows) = both-held a b follows

      links : (a b : ℕ) → IsExamined (taken_out c t) a → IsExamined (taken_out c t) b → IsEdge s a b ⊎ FollowsInSome (clusters_of (taken_out c t)) a b
          → IsEdge s a b ⊎ FollowsInSome (clusters_of c) a b
      links a b a_in b_in (inl edge) = inl edge
      links a b a_in b_in (inr follows) = inr (follows-before a b follows)

  pub IsStanding-taken : IsStanding s (taken_out c t)
  IsStanding-taken = record {
    room = of.room;
    tasks = rw (examined-without t c.placed) (All-filter (λ u. not (nat_eq u t)) (λ u. u < task_count s) (examined c.placed) of.tasks);
    once = once-after;
    closed = closed-after;
    in_opened = below-without t c.opened c.placed of.in_opened;
    levels_full = of.levels_full;
    finishes_full = of.finishes_full;
    starts = λ u held.
        IsTlevel-kept (IsExamined (taken_out c t)) (scheduled_graph s (clusters_of c)) (scheduled_graph s (clusters_of (taken_out c t)))
        agrees agrees-back u (slice_index c.levels u) held (of.starts u (without-held t u c.placed held).0);
    finishes = λ u held. of.finishes u (without-held t u c.placed held).0;
    small = λ u held. of.small u (without-held t u c.placed held).0;
    few = of.few;
  }

  -- it can be placed again
  pub IsNext-taken : IsNext s (taken_out c t) t
  IsNext-taken = record {
    task = examined-task s c of t was-held;
    new = λ held. (without-held t t c.placed held).1 refl;
    free = λ a edge. held-without t a c.placed (of.closed t a was-held edge) (λ same. none-after t was-held (rw same at edge));
  }

  -- its start in cluster k is the same whether it was taken out yet or not
  pub IsStart-taken : (start : ℕ) → IsStart s (taken_out c t) k t start → IsStart s c k t start
  IsStart-taken start is = record {
    behind = rw (← end-same) is.behind;
    above = λ u edge. rw (← arrives-same u edge) (is.above u edge);
    reached = elim is.reached [
      | inl same ↦ inl (same ∙ end-same)
      | inr (u, edge, same) ↦ inr (u, edge, sym (arrives-same u edge) ∙ same)
    ];
  }
    where
      end-same : end_in (taken_out c t) k ≡ end_in c k
      end-same = ap (λ (cluster : List ℕ). end_by c.finishes (last_of cluster)) (others-stay t may.from c.placed once may.alone k may.other)

      arrives-same : (u : ℕ) → IsEdge s u t → arrives_in s (taken_out c t) k t u ≡ arrives_in s c k t u
      arrives-same u edge = rw (cluster_in-without t u c.placed (λ same. none-after t was-held (rw same at edge)))

  -- one task less, and one cluster less that holds a task
  pub length-taken : length (taken_out c t).placed + 1 ≡ length c.placed
  length-taken =
      let shorter = length-without t (examined c.placed) once (tested-Contains t (examined c.placed) was-held) in
      omega (arith, shorter, ap length (examined-without t c.placed), length-examined c.placed, length-examined (taken_out c t).placed)

  pub filled-taken : filled (clusters_of (taken_out c t)) + 1 ≡ filled (clusters_of c)
  filled-taken = filled-without t may.from c.placed once may.alone 0 c.opened (omega arith) (omega (arith, from-opened))

  -- the clusters once it is placed again
  pub clusters_of-relocated : clusters_from ((taken_out c t).placed ++ (record { task = record { 0 = t }; cluster = k }) ∷ []) 0 (max c.opened (k + 1)) ≡ relocated (clusters_of c) k t
  clusters_of-relocated =
      let most : max c.opened (k + 1) ≡ c.opened = omega (arith, may.stands) in
      rw most (clusters_of-appended (taken_out c t).placed (record { task = record { 0 = t }; cluster = k }) c.opened
      ∙ ap (λ (clusters : List (List ℕ)). appended clusters k t) (clusters_from-without t c.placed 0 c.opened))

  pub filled-relocated : filled (relocated (clusters_of c) k t) + 1 ≡ filled (clusters_of c)
  filled-relocated =
      let place : 0 + k ≡ k = omega arith in
      let here : cluster_at (clusters_of (taken_out c t)) k ≡ cluster_tasks c.placed k =
      cluster_at-clusters_from (taken_out c t).placed 0 c.opened k may.stands ∙ (ap (cluster_tasks (taken_out c t).placed) place ∙ others-stay t may.from c.placed once may.alone k may.other) in
      let same = filled-appended_filled (clusters_of (taken_out c t)) k t (λ none. may.filled (sym here ∙ none)) in
      rw (← clusters_from-without t c.placed 0 c.opened) (omega (arith, same, filled-taken))

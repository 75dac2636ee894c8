-- What the examination of a task leaves: who is examined, what they finish at, and the latest exit.
use Rattle.std.proofs.Common.{◌≡◌, ℕ, zero, suc, ◌<◌, ◌≤◌, max, true, false, Option, Some, None, List, [], ◌∷◌, ◌++◌, inl, inr, refl, arith, sym, ◌∙◌, eqb-true, length}
use Rattle.std.specs.Prelude.{◌||◌, ◌&&◌, nat_eq, filter, slice_index, IfSome}
use Rattle.std.specs.List.{list_any}
use Rattle.std.proofs.lemmas.Bool.{cases_Bool}
use Rattle.pyr_graph.specs.declared.edge.Edge.{Edge}
use Rattle.pyr_graph.specs.System.{System, task_count, IsEdge, AreSuccessors}
use Rattle.pyr_graph.specs.Numbers.{holds}
use Rattle.pyr_graph.specs.Edges.{has_edge}
use Rattle.pyr_graph.proofs.IndexLemmas.{edge_in}
use Rattle.pyr_graph.proofs.ListLemmas.{nat_eq-same}
use Rattle.pyr_graph.proofs.NumberLemmas.{tests_agree, kept-number, number-kept, some-passes, passes-some, greatest-ge, greatest-low}
use Rattle.pyr_graph.proofs.SenderLemmas.{has_edge-IsEdge, IsEdge-has_edge}
use Rattle.pyr_levels.specs.Scheduled.{AreTlevels, opened, appended, clusters_with}
use Rattle.pyr_seq.specs.Walk.{IsTopological}
use Rattle.pyr_levels.specs.Partial.{Clustered, IsPartialOf, IsExamined, clusters_of}
use Rattle.pyr_levels.proofs.ClusterLemmas.{and-true, both-true, length-clusters_from}
use Rattle.pyr_dsc.specs.State.{State, all_tasks, finish, is_examined}
use Rattle.pyr_dsc.specs.Run.{state}
use Rattle.pyr_dsc.specs.Time.{is_exit, latest_exit}
use Rattle.pyr_dsc.specs.Queues.{IsAfter}
use Rattle.pyr_dsc.specs.declared.progress.Progress.{Progress}
use Rattle.pyr_dsc.specs.Progress.{IsProgress, HasExamined, state_of, true_levels}
use Rattle.pyr_dsc.proofs.HeldLemmas.{not-both, or-cases, or-left, or-right, holds-push, number-held}
use Rattle.pyr_dsc.proofs.ClosedLemmas.{is_in_some, in_some-with, with-in_some}
use Rattle.pyr_dsc.proofs.TrueLemmas.{AreTlevels-true}
use Rattle.pyr_dsc.proofs.TableLemmas.{in-partial, tlevel-kept, finish-kept}

-- the new one is in some cluster
opened-new : (clusters : List (List ℕ)) (x : ℕ) → is_in_some (opened clusters x) x ≡ true
opened-new [] x = rw (nat_eq-same x x refl)
opened-new (c ∷ clusters) x = or-right (holds c x) (is_in_some (opened clusters x) x) (opened-new clusters x)

appended-new : (clusters : List (List ℕ)) (k x : ℕ) → k < length clusters → is_in_some (appended clusters k x) x ≡ true
appended-new [] k x inside = absurd (omega arith)
appended-new (c ∷ clusters) zero x inside =
    or-left (holds (c ++ x ∷ []) x) (is_in_some clusters x) (holds-push c x x ∙ or-right (holds c x) (nat_eq x x) (nat_eq-same x x refl))
appended-new (c ∷ clusters) (suc k) x inside = or-right (holds c x) (is_in_some (appended clusters k x) x) (appended-new clusters k x (omega arith))

pub with-new : (clusters : List (List ℕ)) (x : ℕ) (o : Option ℕ) → ((k : ℕ) → o ≡ Some k → k < length clusters) → is_in_some (clusters_with clusters x o) x ≡ true
with-new clusters x None stands = opened-new clusters x
with-new clusters x (Some k) stands = appended-new clusters k x (stands k refl)

-- and nothing else is new
pub in_some-known : (clusters : List (List ℕ)) (x t : ℕ) (o : Option ℕ) → is_in_some (clusters_with clusters x o) x ≡ true
    → is_in_some (clusters_with clusters x o) t ≡ (is_in_some clusters t || nat_eq t x)
in_some-known clusters x t o new = tests_agree (is_in_some (clusters_with clusters x o) t) (is_in_some clusters t || nat_eq t x)
    (λ there. elim (in_some-with clusters x t o there) [
      | inl same ↦ or-right (is_in_some clusters t) (nat_eq t x) (nat_eq-same t x same)
      | inr old ↦ or-left (is_in_some clusters t) (nat_eq t x) old
    ])
    (λ either. elim (or-cases (is_in_some clusters t) (nat_eq t x) either) [
      | inl old ↦ with-in_some clusters x t o old
      | inr here ↦ (let same : t ≡ x = eqb-true t x here in rw same new)
    ])

-- Two partial clusterings, where the second one has x more, and all others start as before.
module _ (s : System) (blevels : List ℕ) (c d : Clustered) (of : IsPartialOf s c) (of' : IsPartialOf s d) (tlevels tlevels' : List ℕ)
    (are : AreTlevels s (clusters_of c) tlevels) (are' : AreTlevels s (clusters_of d) tlevels') (x : ℕ) (o : Option ℕ)
    (stands : (k : ℕ) → o ≡ Some k → k < length (clusters_of c)) (same : clusters_of d ≡ clusters_with (clusters_of c) x o)
    (others : (u : ℕ) → is_examined (state s blevels (clusters_of c) tlevels) u ≡ true → slice_index d.levels u ≡ slice_index c.levels u)
  where
    abbrev z : State
    z = state s blevels (clusters_of c) tlevels

    abbrev after : State
    after = state s blevels (clusters_of d) tlevels'

    known : (t : ℕ) → is_examined after t ≡ (is_examined z t || nat_eq t x)
    known t = rw same (in_some-known (clusters_of c) x t o (with-new (clusters_of c) x o stands))

    still : (u : ℕ) → is_examined z u ≡ true → is_examined after u ≡ true
    still u is = known u ∙ or-left (is_examined z u) (nat_eq u x) is

    finish-still : (u : ℕ) → is_examined z u ≡ true → finish after u ≡ finish z u
    finish-still u is =
        let now = tlevel-kept s d of' blevels tlevels' are' u (still u is) in
        let before = tlevel-kept s c of blevels tlevels are u is in
        omega (arith, now, before, others u is)

    pub IsAfter-examined : IsAfter z x (clusters_of d) tlevels'
    IsAfter-examined = record { examined = known; finishes = λ u t is edge new. finish-still u is }

    -- the exits: x is one more, or is none
    exit-still : (t : ℕ) → (is_examined z t && is_exit z t) ≡ true → (is_examined after t && is_exit after t) ≡ true
    exit-still t both =
        let (is, exit) = and-true (is_examined z t) (is_exit z t) both in
        both-true (is_examined after t) (is_exit after t) (still t is) exit

    exits-rise : latest_exit z ≤ latest_exit after
    exits-rise = greatest-low (finish z) (latest_exit after) (filter (λ t. is_examined z t && is_exit z t) (all_tasks z)) (λ t held.
        let (t_in, both) = kept-number (λ u. is_examined z u && is_exit z u) (task_count s) t held in
        let most = greatest-ge (finish after) (filter (λ u. is_examined after u && is_exit after u) (all_tasks after)) t
        (number-kept (λ u. is_examined after u && is_exit after u) (task_count s) t t_in (exit-still t both)) in
        omega (arith, most, finish-still t (and-true (is_examined z t) (is_exit z t) both).0))

    exit-within : (most : ℕ) → latest_exit z ≤ most → (is_exit after x ≡ true → finish after x ≤ most) → latest_exit after ≤ most
    exit-within most low new = greatest-low (finish after) most (filter (λ t. is_examined after t && is_exit after t) (all_tasks after)) (λ t held.
        let (t_in, both) = kept-number (λ u. is_examined after u && is_exit after u) (task_count s) t held in
        let (is, exit) = and-true (is_examined after t) (is_exit after t) both in
        elim (or-cases (is_examined z t) (nat_eq t x) (sym (known t) ∙ is)) [
          | inl old ↦
              let below = greatest-ge (finish z) (filter (λ u. is_examined z u && is_exit z u) (all_tasks z)) t
              (number-kept (λ u. is_examined z u && is_exit z u) (task_count s) t t_in (both-true (is_examined z t) (is_exit z t) old exit)) in
              omega (arith, below, low, finish-still t old)
          | inr here ↦ (let same : t ≡ x = eqb-true t x here in rw same (new (rw same at exit)))
        ])

    pub latest_exit-more : x < task_count s → is_exit z x ≡ true → latest_exit after ≡ max (latest_exit z) (finish after x)
    latest_exit-more x_in exit =
        let now : is_examined after x ≡ true = known x ∙ or-right (is_examined z x) (nat_eq x x) (nat_eq-same x x refl) in
        let most = greatest-ge (finish after) (filter (λ u. is_examined after u && is_exit after u) (all_tasks after)) x
        (number-kept (λ u. is_examined after u && is_exit after u) (task_count s) x x_in (both-true (is_examined after x) (is_exit after x) now exit)) in
        let least = exit-within (max (latest_exit z) (finish after x)) (omega arith) (λ is. omega arith) in
        omega (arith, most, least, exits-rise)

    pub latest_exit-same : is_exit z x ≡ false → latest_exit after ≡ latest_exit z
    latest_exit-same none =
        let least = exit-within (latest_exit z) (omega arith) (λ is. absurd (not-both (is_exit z x) none is)) in
        omega (arith, least, exits-rise)

-- whether a task has successors tells whether it is an exit
pub exit-from_edges : (z : State) (x : ℕ) (edges : List Edge) → AreSuccessors z.system x edges → length edges ≡ 0 → is_exit z x ≡ true
exit-from_edges z x edges are empty = elim (cases_Bool (list_any (has_edge z.system x) (all_tasks z))) [
  | inl some ↦
      let (b, held, reads) = some-passes (has_edge z.system x) (all_tasks z) some in
      let edge = has_edge-IsEdge z.system x b reads in
      let (k, e, inside, here, is) = are.complete b (edge_in z.system x b edge) edge in
      absurd (omega (arith, inside, empty))
  | inr none ↦ rw none
]

pub no_exit-from_edges : (z : State) (x : ℕ) (edges : List Edge) → AreSuccessors z.system x edges → 0 < length edges → is_exit z x ≡ false
no_exit-from_edges z x edges are some =
    let (b_in, edge, _) = are.sound 0 (record { task = record { 0 = 0 }; weight = 0 }) some in
    let found = passes-some (has_edge z.system x) (all_tasks z) _ (number-held (task_count z.system) _ b_in) (IsEdge-has_edge z.system x _ edge) in
    rw found

-- where no task is examined, no exit is
pub latest_exit-none : (z : State) → z.clusters ≡ [] → latest_exit z ≡ 0
latest_exit-none z none =
    let low = greatest-low (finish z) 0 (filter (λ t. is_examined z t && is_exit z t) (all_tasks z)) (λ t held.
    let both = (kept-number (λ u. is_examined z u && is_exit z u) (task_count z.system) t held).1 in
    let is = (and-true (is_examined z t) (is_exit z t) both).0 in
    absurd (let e : false ≡ true = rw none at is in cc)) in
    omega (arith, low)

-- a cluster that was opened stands
pub opened-stands : (c : Clustered) (o : Option ℕ) → IfSome o (λ k. k < c.opened) → (k : ℕ) → o ≡ Some k → k < length (clusters_of c)
opened-stands c None inside k is = absurd (cc)
opened-stands c (Some j) inside k is = (let same : j ≡ k = cc in omega (arith, inside, same, length-clusters_from c.placed 0 c.opened))

-- What an examination leaves, where the clusters and the starts are known.
module _ (s : System) (p : Progress) (progress : IsProgress s p) (order : List ℕ) (top : IsTopological (task_count s) (IsEdge s) order)
    (d : Clustered) (of' : IsPartialOf s d) (x : ℕ) (o : Option ℕ) (stands : IfSome o (λ k. k < p.partial.opened))
    (same : clusters_of d ≡ clusters_with (clusters_of p.partial) x o)
    (others : (u : ℕ) → IsExamined p.partial u → slice_index d.levels u ≡ slice_index p.partial.levels u)
  where
    abbrev then-state : State
    then-state = state s p.blevels.items (clusters_of d) (true_levels s d)

    then-levels : AreTlevels s (clusters_of d) (true_levels s d)
    then-levels = AreTlevels-true s d of' order top

    others-tested : (u : ℕ) → is_examined (state_of s p) u ≡ true → slice_index d.levels u ≡ slice_index p.partial.levels u
    others-tested u is = others u (in-partial s p.partial progress.of p.blevels.items (true_levels s p.partial) progress.tlevels u is)

    now-examined : is_examined then-state x ≡ true
    now-examined =
        let after = IsAfter-examined s p.blevels.items p.partial d progress.of of' (true_levels s p.partial) (true_levels s d) progress.tlevels then-levels x o
        (opened-stands p.partial o stands) same others-tested in
        after.examined x ∙ or-right (is_examined (state_of s p) x) (nat_eq x x) (nat_eq-same x x refl)

    pub IsExamined-now : IsExamined d x
    IsExamined-now = in-partial s d of' p.blevels.items (true_levels s d) then-levels x now-examined

    pub exits-then : x < task_count s → (edges : List Edge) → AreSuccessors s x edges → length edges ≡ 0
        → max p.latest_exit (slice_index d.finishes x) ≡ latest_exit then-state
    exits-then x_in edges are empty =
        let more = latest_exit-more s p.blevels.items p.partial d progress.of of' (true_levels s p.partial) (true_levels s d) progress.tlevels then-levels x o
        (opened-stands p.partial o stands) same others-tested x_in (exit-from_edges (state_of s p) x edges are empty) in
        let kept = finish-kept s d of' p.blevels.items (true_levels s d) then-levels x now-examined in
        omega (arith, more, kept, progress.exits)

    pub exits-else : (edges : List Edge) → AreSuccessors s x edges → 0 < length edges → p.latest_exit ≡ latest_exit then-state
    exits-else edges are some =
        progress.exits
        ∙ sym (latest_exit-same s p.blevels.items p.partial d progress.of of' (true_levels s p.partial) (true_levels s d) progress.tlevels then-levels x o
        (opened-stands p.partial o stands) same others-tested (no_exit-from_edges (state_of s p) x edges are some))

-- the same, of what the clustering keeps
pub IsAfter-progress : (s : System) (old new : Progress) → IsProgress s old → IsProgress s new → (x : ℕ) (o : Option ℕ)
    → IfSome o (λ k. k < old.partial.opened) → HasExamined s old new x o
    → IsAfter (state_of s old) x (clusters_of new.partial) (true_levels s new.partial)
IsAfter-progress s old new is is' x o stands has =
    IsAfter-examined s old.blevels.items old.partial new.partial is.of is'.of (true_levels s old.partial) (true_levels s new.partial) is.tlevels is'.tlevels x o
    (opened-stands old.partial o stands) has.clusters
    (λ u here. has.others u (in-partial s old.partial is.of old.blevels.items (true_levels s old.partial) is.tlevels u here))

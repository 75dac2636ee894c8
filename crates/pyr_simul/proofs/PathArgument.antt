-- No schedule is shorter than the times along a path: its tasks run one after another.
use Rattle.std.proofs.Common.{◌≡◌, ℕ, zero, suc, ◌+◌, ◌<◌, ◌≤◌, max, List, [], ◌∷◌, arith, inl, inr}
use Rattle.std.proofs.lemmas.Bool.{cases_lt}
use Rattle.std.proofs.lemmas.List.Sums.{fold_push}
use Rattle.pyr_graph.specs.System.{System, task_count}
use Rattle.pyr_levels.specs.Path.{IsPath, path_sum, IsBlevel}
use Rattle.pyr_levels.proofs.Paths.{path_sum-potential}
use Rattle.pyr_graph.specs.Numbers.{numbers, greatest}
use Rattle.pyr_simul.specs.declared.durations.Durations.{Durations}
use Rattle.pyr_simul.specs.Durations.{time_of}
use Rattle.pyr_simul.specs.Bound.{IsSchedule, schedule_length, timed_graph}

greatest-push : (key : ℕ → ℕ) (n : ℕ) → greatest key (numbers (suc n)) ≡ max (greatest key (numbers n)) (key n)
greatest-push key n = fold_push (λ (most : ℕ) (x : ℕ). max most (key x)) 0 (numbers n) n

-- the greatest key of the numbers below n is at least each
pub greatest-above : (key : ℕ → ℕ) (n t : ℕ) → t < n → key t ≤ greatest key (numbers n)
greatest-above key zero t less = absurd (omega arith)
greatest-above key (suc n) t less = elim (cases_lt t n) [
  | inl before ↦ (let above = greatest-above key n t before in omega (arith, above, greatest-push key n))
  | inr past ↦ (let same : t ≡ n = omega (arith, less, past) in rw same (omega (arith, greatest-push key n)))
]

-- each task finishes within the length
pub finish-within : (s : System) (d : Durations) (start : ℕ → ℕ) (t : ℕ) → t < task_count s → start t + time_of d t ≤ schedule_length s d start
finish-within s d start t t_in = greatest-above (λ u. start u + time_of d u) (task_count s) t t_in

module _ (s : System) (d : Durations) (processors : ℕ) (start processor : ℕ → ℕ) (is : IsSchedule s d processors start processor) where
  pub path-within : (path : List ℕ) → IsPath (timed_graph s d) path → path_sum (timed_graph s d) path ≤ schedule_length s d start
  path-within [] none = absurd none
  path-within (t ∷ rest) path =
      let most = path_sum-potential (timed_graph s d) start (schedule_length s d start)
      (λ a b a_in b_in edge. let rise = is.after a b a_in b_in edge in omega (arith, rise))
      (finish-within s d start) t rest path in
      omega (arith, most)

  pub value-within : (t value : ℕ) → IsBlevel (timed_graph s d) t value → value ≤ schedule_length s d start
  value-within t value at =
      let (rest, path, sum) = at.reached in
      omega (arith, path-within (t ∷ rest) path, sum)

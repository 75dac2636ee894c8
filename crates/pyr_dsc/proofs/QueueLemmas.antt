-- The two queues of a clustering: their heads are the next free and the next partly free task, and what
-- one step changes in them.
use Rattle.std.proofs.Common.{◌+◌, ◌≡◌, ℕ, ◌<◌, Bool, true, false, cond, Option, Some, None, List, [], ◌∷◌, ◌++◌, inl, inr, refl, arith, ap, sym, ◌∙◌, eqb-true, ◌≢◌}
use Rattle.std.specs.Prelude.{◌&&◌, nat_eq, nat_lt, filter}
use Rattle.std.proofs.lemmas.Bool.{cases_Bool, ltb-true, lt-ltb, le-ltb, cases_eq, cases_lt}
use Rattle.pyr_graph.specs.Numbers.{holds, numbers}
use Rattle.pyr_graph.proofs.ListLemmas.{nat_eq-same, nat_eq-apart}
use Rattle.pyr_graph.proofs.NumberLemmas.{kept-rises, kept-number, number-kept}
use Rattle.pyr_levels.proofs.ClusterLemmas.{and-true}
use Rattle.pyr_levels.proofs.ScheduledLemmas.{or-true}
use Rattle.pyr_lists.specs.Queue.{Queue, priority_of, IsChanged, IsFirst}
use Rattle.pyr_dsc.specs.Choice.{first_greatest}
use Rattle.pyr_dsc.specs.Time.{key_of}
use Rattle.pyr_dsc.specs.Heads.{head_with, key_of_head}
use Rattle.pyr_dsc.specs.Queues.{IsQueueOf, IsBetween, entry_of}
use Rattle.pyr_dsc.proofs.HeadLemmas.{first_greatest-held}
use Rattle.pyr_dsc.proofs.HeldLemmas.{or-false, holds-push}
use Rattle.pyr_dsc.proofs.GreatestLemmas.{first_greatest-is}

-- what a queue has of a number
some-cond : (b : Bool) (k p : ℕ) → cond b (Some k) None ≡ Some p → (b ≡ true) × (p ≡ k)
some-cond true k p is = (refl, (let same : k ≡ p = cc in sym same))
some-cond false k p is = absurd (cc)

-- ---- heads
module _ (is : ℕ → Bool) (key : ℕ → ℕ) (n : ℕ) (q : Queue) (queue : IsQueueOf is key n q) where
  pub entry-passes : (t p : ℕ) → priority_of q t ≡ Some p → (t < n) × (is t ≡ true) × (p ≡ key t)
  entry-passes t p there =
      let (passes, same) = some-cond (nat_lt t n && is t) (key t) p (sym (queue t) ∙ there) in
      let both = and-true (nat_lt t n) (is t) passes in
      (ltb-true t n both.0, both.1, same)

  pub passes-entry : (t : ℕ) → t < n → is t ≡ true → priority_of q t ≡ Some (key t)
  passes-entry t inside passes = queue t ∙ rw (lt-ltb t n inside, passes)

  -- where no number is held, none passes
  pub head-none : ((t : ℕ) → priority_of q t ≡ None) → first_greatest key (filter is (numbers n)) ≡ None
  head-none empty = by (first_greatest key (filter is (numbers n))) refl
    where
      by : (o : Option ℕ) → first_greatest key (filter is (numbers n)) ≡ o → o ≡ None
      by None found = refl
      by (Some t) found =
          let (inside, passes) = kept-number is n t (first_greatest-held key (filter is (numbers n)) t found) in
          let both : Some (key t) ≡ None = sym (passes-entry t inside passes) ∙ empty t in
          absurd (cc)

  -- the first of the queue is the first with the greatest key
  pub head-first : (t p : ℕ) → IsFirst q t p → (first_greatest key (filter is (numbers n)) ≡ Some t) × (p ≡ key t)
  head-first t p first =
      let (inside, passes, same) = entry-passes t p first.held in (
        first_greatest-is key (filter is (numbers n)) t (kept-rises is n) (number-kept is n t inside passes) (λ v held.
            let (v_in, v_passes) = kept-number is n v held in
            let there = passes-entry v v_in v_passes in
            let least = first.greatest v (key v) there in
            (omega (arith, least, same), λ equal. first.smallest v (there ∙ ap Some (equal ∙ sym same)))),
        same,
      )

-- the key of a head
pub key_of-head : (key : ℕ → ℕ) (o : Option ℕ) → key_of_head (head_with key o) ≡ key_of key o
key_of-head key None = refl
key_of-head key (Some t) = refl

-- ---- a queue whose entries are changed one by one
module _ (old new : ℕ → Option ℕ) where
  pub IsBetween-start : (q : Queue) → ((t : ℕ) → priority_of q t ≡ old t) → IsBetween old new [] q
  IsBetween-start q is = is

  -- a task that isn't done has its old entry
  pub between-old : (done : List ℕ) (q : Queue) (b : ℕ) → IsBetween old new done q → holds done b ≡ false → priority_of q b ≡ old b
  between-old done q b is none = is b ∙ rw none

  -- one task more, with its new entry
  pub IsBetween-changed : (done : List ℕ) (q next : Queue) (b : ℕ) → IsBetween old new done q → IsChanged q next b (new b) → IsBetween old new (done ++ b ∷ []) next
  IsBetween-changed done q next b is changed t = elim (cases_Bool (nat_eq t b)) [
    | inl here ↦
        let same : t ≡ b = eqb-true t b here in
        changed t ∙ rw (here, holds-push done b t, here, or-true (holds done t)) (ap new (sym same))
    | inr other ↦ changed t ∙ rw (other, holds-push done b t, other, or-false (holds done t)) (is t)
  ]

  -- or where it has that entry already
  pub IsBetween-same : (done : List ℕ) (q : Queue) (b : ℕ) → IsBetween old new done q → priority_of q b ≡ new b → IsBetween old new (done ++ b ∷ []) q
  IsBetween-same done q b is already t = elim (cases_Bool (nat_eq t b)) [
    | inl here ↦
        let same : t ≡ b = eqb-true t b here in
        ap (λ (n : ℕ). priority_of q n) same ∙ (already ∙ rw (holds-push done b t, here, or-true (holds done t)) (ap new (sym same)))
    | inr other ↦ rw (holds-push done b t, other, or-false (holds done t)) (is t)
  ]

  -- at the end all entries are new, where those of all others are as before
  pub IsBetween-end : (done : List ℕ) (q : Queue) → IsBetween old new done q → ((t : ℕ) → holds done t ≡ false → new t ≡ old t) → (t : ℕ) → priority_of q t ≡ new t
  IsBetween-end done q is others t = elim (cases_Bool (holds done t)) [
    | inl here ↦ is t ∙ rw here
    | inr none ↦ is t ∙ rw none (sym (others t none))
  ]

-- ---- a queue that is filled by rising number
module _ (is : ℕ → Bool) (key : ℕ → ℕ) where
  pub IsQueueOf-more : (n m : ℕ) (q next : Queue) → n < m → IsQueueOf is key n q → IsChanged q next n (entry_of is key m n) → IsQueueOf is key (n + 1) next
  IsQueueOf-more n m q next inside queue changed t = elim (cases_eq t n) [
    | inl same ↦ rw same (changed n ∙ rw (nat_eq-same n n refl, lt-ltb n m inside, lt-ltb n (n + 1) (omega arith)))
    | inr apart ↦ changed t ∙ rw (nat_eq-apart t n apart) (queue t ∙ ap (λ (b : Bool). cond (b && is t) (Some (key t)) None) (below t apart))
  ]
    where
      below : (t : ℕ) → t ≢ n → nat_lt t n ≡ nat_lt t (n + 1)
      below t apart = elim (cases_lt t n) [
        | inl less ↦ rw (lt-ltb t n less, lt-ltb t (n + 1) (omega (arith, less)))
        | inr more ↦ rw (le-ltb t n more, le-ltb t (n + 1) (omega (arith, more, apart)))
      ]

  pub IsQueueOf-none : (q : Queue) → ((t : ℕ) → priority_of q t ≡ None) → IsQueueOf is key 0 q
  IsQueueOf-none q empty t = empty t ∙ rw (le-ltb t 0 (omega arith))

  -- the next number isn't in it yet
  pub next-new : (n : ℕ) (q : Queue) → IsQueueOf is key n q → priority_of q n ≡ None
  next-new n q queue = queue n ∙ rw (le-ltb n n (omega arith))

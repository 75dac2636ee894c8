-- What the release of successors keeps.
use Rattle.std.proofs.Common.{◌≡◌, ◌≢◌, ℕ, ◌+◌, ◌-◌, ◌<◌, ◌≤◌, ◌⊎◌, refl, inl, inr, Bool, true, false, List, [], ◌∷◌, length, get_or, set, take, arith, sym, ◌∙◌, get_or-set_other, get_or-set_same, BTreeSet}
use Rattle.std.specs.Prelude.{◌↔◌, IsTrue, slice_index}
use Rattle.std.specs.List.{list_any}
use Rattle.std.specs.Ordering.{nat_cmp, is_gt}
use Rattle.std.specs.BTreeSet.{contains, Updates, IsLowerBound}
use Rattle.std.specs.BTreeMap.{is_at}
use Rattle.std.proofs.lemmas.Bool.{cases_eq, cases_lt}
use Rattle.std.proofs.lemmas.Grind.{common_steps}
use Rattle.pyr_graph.specs.declared.edge.Edge.{Edge}
use Rattle.pyr_graph.specs.Tables.{times_in}
use Rattle.pyr_graph.proofs.RowLemmas.{times_in-more_same, times_in-more_other, times_in-take_le}

-- these successors wait for one predecessor less; a task is ready where it was, or where it waits for none now
pub record IsReleased (row : List Edge) (old new : List ℕ) (Was Is : ℕ → Type 0) : Type 0 where
  pub pending : (t : ℕ) → slice_index new t + times_in row t ≡ slice_index old t
  pub ready : (t : ℕ) → Is t ↔ (Was t ⊎ ((0 < times_in row t) × (slice_index new t ≡ 0)))

pub IsReleased-none : (pending : List ℕ) (Is : ℕ → Type 0) → IsReleased [] pending pending Is Is
IsReleased-none pending Is = record {
  pending = λ t. omega arith;
  ready = λ t. (λ is. inl is, λ either. elim either [ inl is ↦ is | inr (many, none) ↦ absurd (let no : 0 < 0 = many in omega (arith, no)) ]);
}

module _ (row : List Edge) (i : ℕ) (d : Edge) (inside : i < length row) (old new : List ℕ) (Was Is : ℕ → Type 0) (so_far : IsReleased (take i row) old new Was Is) where
  -- the task that is next, and what the tasks wait for after it
  abbrev b : ℕ
  b = (get_or row i d).task.0

  abbrev left : List ℕ
  left = set new (get_or row i d).task.0 (slice_index new (get_or row i d).task.0 - 1)

  -- it still waits
  pub waits : ((t : ℕ) → times_in row t ≤ slice_index old t) → 1 ≤ slice_index new (get_or row i d).task.0
  waits enough =
      let more = times_in-more_same row i b d inside refl in
      omega (arith, more, times_in-take_le row (i + 1) b, enough b, so_far.pending b)

  -- one predecessor less for that task
  pub pending-step : (enough : 1 ≤ slice_index new (get_or row i d).task.0) → (get_or row i d).task.0 < length new
      → (t : ℕ) → slice_index (set new (get_or row i d).task.0 (slice_index new (get_or row i d).task.0 - 1)) t + times_in (take (i + 1) row) t ≡ slice_index old t
  pending-step enough b_in t =
      elim (cases_eq t b) [
        | inl same ↦ (
            let written = get_or-set_same new b (slice_index new b - 1) 0 b_in in
            let more = times_in-more_same row i b d inside refl in
            rw same (omega (arith, written, more, so_far.pending b)))
        | inr apart ↦ (
            let written = get_or-set_other new b t (slice_index new b - 1) 0 apart in
            let more = times_in-more_other row i t d inside (λ is. apart (sym is)) in
            omega (arith, written, more, so_far.pending t))
      ]

  -- it is ready where it waits for none now
  pub IsReleased-step : (Now : ℕ → Type 0) → ((t : ℕ) → Now t ↔ (Is t ⊎ ((t ≡ b) × (slice_index left b ≡ 0))))
      → 1 ≤ slice_index new (get_or row i d).task.0 → (get_or row i d).task.0 < length new
      → IsReleased (take (i + 1) row) old (set new (get_or row i d).task.0 (slice_index new (get_or row i d).task.0 - 1)) Was Now
  IsReleased-step Now is_now enough b_in = record { pending = pending-step enough b_in; ready = λ t. (to t, from t) }
    where
      there : (t : ℕ) → t ≢ b → slice_index left t ≡ slice_index new t
      there t apart = get_or-set_other new b t (slice_index new b - 1) 0 apart

      first : times_in (take (i + 1) row) b ≡ times_in (take i row) b + 1
      first = times_in-more_same row i b d inside refl

      other : (t : ℕ) → t ≢ b → times_in (take (i + 1) row) t ≡ times_in (take i row) t
      other t apart = times_in-more_other row i t d inside (λ is. apart (sym is))

      to : (t : ℕ) → Now t → Was t ⊎ ((0 < times_in (take (i + 1) row) t) × (slice_index left t ≡ 0))
      to t now = elim ((is_now t).0 now) [
        | inr (same, zero) ↦ inr (rw same (omega (arith, first)), rw same zero)
        | inl is ↦ elim ((so_far.ready t).0 is) [
          | inl was ↦ inl was
          | inr (many, none) ↦ elim (cases_eq t b) [
            | inl same ↦ absurd (let none' = rw same at none in omega (arith, none'))
            | inr apart ↦ inr (omega (arith, other t apart, many), there t apart ∙ none)
          ]
        ]
      ]

      from : (t : ℕ) → Was t ⊎ ((0 < times_in (take (i + 1) row) t) × (slice_index left t ≡ 0)) → Now t
      from t either = elim either [
        | inl was ↦ (is_now t).1 (inl ((so_far.ready t).1 (inl was)))
        | inr (many, none) ↦ elim (cases_eq t b) [
          | inl same ↦ (is_now t).1 (inr (same, rw same at none))
          | inr apart ↦ (is_now t).1 (inl ((so_far.ready t).1 (inr (omega (arith, other t apart, many), sym (there t apart) ∙ none))))
        ]
      ]

pub is_at-apart : (k q : ℕ) → k ≢ q → is_at (nat_cmp k) q ≡ false
is_at-apart k q apart = grind (arith, common_steps)

-- a set with one more key
Inserted : (s n : BTreeSet ℕ) (k : ℕ) → Updates nat_cmp s n k true → (q : ℕ) → IsTrue (contains nat_cmp n q) ↔ (IsTrue (contains nat_cmp s q) ⊎ (q ≡ k))
Inserted s n k updates q = elim (cases_eq q k) [
  | inl same ↦ (λ held. inr same, λ either. rw same updates.1)
  | inr apart ↦ (
      let kept = updates.2 q (is_at-apart k q (λ is. apart (sym is))) in
      (λ held. inl (sym kept ∙ held), λ either. elim either [ inl held ↦ kept ∙ held | inr same ↦ absurd (apart same) ]))
]

-- whether a task is in the set
abbrev pub IsIn : BTreeSet ℕ → ℕ → Type 0
IsIn ready t = IsTrue (contains nat_cmp ready t)

module _ (row : List Edge) (i : ℕ) (d : Edge) (inside : i < length row) (old new : List ℕ) (first ready : BTreeSet ℕ) (so_far : IsReleased (take i row) old new (IsIn first) (IsIn ready)) where
  abbrev next : ℕ
  next = (get_or row i d).task.0

  abbrev rest : List ℕ
  rest = set new next (slice_index new next - 1)

  -- the task waits for none now, and goes into the set
  pub IsReleased-ready : (now : BTreeSet ℕ) → Updates nat_cmp ready now next true → slice_index rest next ≡ 0 → 1 ≤ slice_index new next → next < length new
      → IsReleased (take (i + 1) row) old rest (IsIn first) (IsIn now)
  IsReleased-ready now updates zero enough b_in =
      IsReleased-step row i d inside old new (IsIn first) (IsIn ready) so_far (IsIn now)
      (λ t. let in_ = Inserted ready now next updates t in (
        λ is. elim (in_.0 is) [ inl held ↦ inl held | inr same ↦ inr (same, zero) ],
        λ either. elim either [ inl held ↦ in_.1 (inl held) | inr both ↦ in_.1 (inr both.0) ],
      ))
      enough b_in

  -- the task still waits
  pub IsReleased-waits : slice_index rest next ≢ 0 → 1 ≤ slice_index new next → next < length new
      → IsReleased (take (i + 1) row) old rest (IsIn first) (IsIn ready)
  IsReleased-waits more enough b_in =
      IsReleased-step row i d inside old new (IsIn first) (IsIn ready) so_far (IsIn ready)
      (λ t. (λ is. inl is, λ either. elim either [ inl held ↦ held | inr both ↦ absurd (more both.1) ])) enough b_in

-- a set with one key less
pub Removed : (s n : BTreeSet ℕ) (k : ℕ) → Updates nat_cmp s n k false → (q : ℕ) → IsIn n q ↔ (IsIn s q × (q ≢ k))
Removed s n k updates q = elim (cases_eq q k) [
  | inl same ↦ (λ held. absurd (gone same held), λ (held, apart). absurd (apart same))
  | inr apart ↦ (
      let kept = updates.2 q (is_at-apart k q (λ is. apart (sym is))) in
      (λ held. (sym kept ∙ held, apart), λ (held, other). kept ∙ held))
]
  where
    gone : q ≡ k → contains nat_cmp n q ≡ true → ⊥
    gone same held = let none : contains nat_cmp n q ≡ false = rw same updates.1 in let both : true ≡ false = sym held ∙ none in cc

-- the least key of a set
pub least_key : (s : BTreeSet ℕ) (k : ℕ) → IsLowerBound nat_cmp s k → (q : ℕ) → IsIn s q → k ≤ q
least_key s k lower q held = not_above k q (lower q held)
  where
    not_above : (k q : ℕ) → is_gt (nat_cmp k q) ≡ false → k ≤ q
    not_above k q none = elim (cases_lt q k) [
      | inr le ↦ le
      | inl less ↦ absurd (let above : is_gt (nat_cmp k q) ≡ true = grind (arith, common_steps) in let both : true ≡ false = sym above ∙ none in cc)
    ]

-- an empty set
pub none_in : (s : BTreeSet ℕ) → (0 < length s.keys → ⊥) → (q : ℕ) → IsIn s q → ⊥
none_in s empty q held = none (is_at (nat_cmp q)) s.keys empty held
  where
    none : (p : ℕ → Bool) (keys : List ℕ) → (0 < length keys → ⊥) → list_any p keys ≡ true → ⊥
    none p [] empty found = let both : false ≡ true = found in cc
    none p (k ∷ keys) empty found = empty (omega arith)

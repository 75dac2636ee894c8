-- The search for data that stand twice, from the end of a list to its front, and over several lists.
use Rattle.std.proofs.Common.{◌≡◌, ℕ, ◌+◌, ◌<◌, ◌≤◌, Bool, true, false, List, [], ◌∷◌, ◌++◌, length, get_or, drop, arith, refl, ap, sym, ◌∙◌, inl, inr, BTreeSet, Option, Some, None}
use Rattle.std.specs.Prelude.{nat_eq, ◌||◌}
use Rattle.std.specs.List.{list_any, flat_map}
use Rattle.std.specs.Option.{option_map, option_or}
use Rattle.std.specs.Ordering.{nat_cmp}
use Rattle.std.specs.BTreeSet.{contains, Updates}
use Rattle.std.proofs.lemmas.Bool.{cases_eq}
use Rattle.std.proofs.lemmas.List.{drop_more, drop_all, get_or-map, length-map, at_drop_more}
use Rattle.pyr_num.specs.declared.ids.DatumId.{DatumId}
use Rattle.pyr_graph.specs.declared.parts.TaskParts.{TaskParts}
use Rattle.pyr_graph.specs.System.{datum_numbers}
use Rattle.pyr_graph.specs.Faults.{first_repeated, first_repeated_of, lists_of}
use Rattle.pyr_graph.proofs.ListLemmas.{nat_eq-same, nat_eq-apart}
use Rattle.pyr_graph.proofs.ReleaseLemmas.{is_at-apart}

-- the list is searched from this place to its end: the set holds what stands there, and the datum found is the first that stands there twice
pub record IsSearched (list : List DatumId) (at : ℕ) (later : BTreeSet ℕ) (found : Option DatumId) : Type 0 where
  pub within : at ≤ length list
  pub seen : (q : ℕ) → contains nat_cmp later q ≡ list_any (nat_eq q) (drop at (datum_numbers list))
  pub first : option_map (λ d. d.0) found ≡ first_repeated (drop at (datum_numbers list))

pub IsSearched-start : (list : List DatumId) (later : BTreeSet ℕ) → later.keys ≡ [] → IsSearched list (length list) later None
IsSearched-start list later empty = record {
  within = omega arith;
  seen = λ q. rw (empty, nothing);
  first = rw nothing;
}
  where
    nothing : drop (length list) (datum_numbers list) ≡ []
    nothing = drop_all (length list) (datum_numbers list) (rw length-map (omega arith))

module _ (list : List DatumId) (at : ℕ) (d : DatumId) (at_in : at < length list) where
  -- the datum at the place
  abbrev here : ℕ
  here = (get_or list at d).0

  next : drop at (datum_numbers list) ≡ here ∷ drop (at + 1) (datum_numbers list)
  next =
      drop_more (datum_numbers list) at 0 (rw length-map at_in)
      ∙ ap (λ (n : ℕ). n ∷ drop (at + 1) (datum_numbers list)) (get_or-map (λ (d : DatumId). d.0) list at d 0 at_in)

  -- one datum more is in the set
  seen-step : (later now : BTreeSet ℕ) → ((q : ℕ) → contains nat_cmp later q ≡ list_any (nat_eq q) (drop (at + 1) (datum_numbers list)))
      → ((q : ℕ) → contains nat_cmp now q ≡ (nat_eq q here || contains nat_cmp later q))
      → (q : ℕ) → contains nat_cmp now q ≡ list_any (nat_eq q) (drop at (datum_numbers list))
  seen-step later now seen inserted q = rw next (inserted q ∙ ap (λ (b : Bool). nat_eq q here || b) (seen q))

  -- the set with the datum
  inserted : (later now : BTreeSet ℕ) → Updates nat_cmp later now here true → (q : ℕ) → contains nat_cmp now q ≡ (nat_eq q here || contains nat_cmp later q)
  inserted later now updates q = elim (cases_eq q here) [
    | inl same ↦ rw (same, nat_eq-same here here refl) updates.1
    | inr apart ↦ rw (nat_eq-apart q here apart) (updates.2 q (is_at-apart here q (λ is. apart (sym is))))
  ]

  -- it was there already
  pub IsSearched-again : (later now : BTreeSet ℕ) (found : Option DatumId) (from : ℕ) → from ≡ at + 1 → IsSearched list from later found
      → Updates nat_cmp later now here true → contains nat_cmp later here ≡ true
      → IsSearched list at now (Some (get_or list at d))
  IsSearched-again later now found from same is updates again =
      let seen = rw same at is.seen in
      record {
        within = omega arith;
        seen = seen-step later now seen (inserted later now updates);
        first = rw (next, sym (seen here) ∙ again);
      }

  -- or it was not
  pub IsSearched-new : (later now : BTreeSet ℕ) (found : Option DatumId) (from : ℕ) → from ≡ at + 1 → IsSearched list from later found
      → Updates nat_cmp later now here true → contains nat_cmp later here ≡ false
      → IsSearched list at now found
  IsSearched-new later now found from same is updates new =
      let seen = rw same at is.seen in
      record {
        within = omega arith;
        seen = seen-step later now seen (inserted later now updates);
        first = rw (next, sym (seen here) ∙ new) (rw same at is.first);
      }

-- the whole list is searched
pub IsSearched-end : (list : List DatumId) (at : ℕ) (later : BTreeSet ℕ) (found : Option DatumId) → at ≤ 0 → IsSearched list at later found
    → option_map (λ d. d.0) found ≡ first_repeated (datum_numbers list)
IsSearched-end list at later found end is = let zero_at : at ≡ 0 = omega arith in rw zero_at at is.first

-- the first datum that stands twice in one list of these tasks, or in the prints
abbrev pub first_in : List DatumId → List TaskParts → Option ℕ
first_in prints tasks = first_repeated_of (flat_map lists_of tasks ++ datum_numbers prints ∷ [])

-- what the search of one list tells of another name of it
pub told : (found answer : Option DatumId) (searched list : List DatumId) → option_map (λ d. d.0) found ≡ first_repeated (datum_numbers searched)
    → found ≡ answer → searched ≡ list → first_repeated (datum_numbers list) ≡ option_map (λ d. d.0) answer
told found answer searched list is same kept =
    sym (ap (λ (l : List DatumId). first_repeated (datum_numbers l)) kept) ∙ (sym is ∙ ap (option_map (λ (d : DatumId). d.0)) same)

module _ (prints : List DatumId) (tasks : List TaskParts) (i : ℕ) (task : TaskParts) (inside : i < length tasks)
    (is : task ≡ get_or tasks i task) (so_far : first_in prints (drop i tasks) ≡ first_in prints tasks) where
  abbrev after : List (List ℕ)
  after = flat_map lists_of (drop (i + 1) tasks) ++ datum_numbers prints ∷ []

  from_task : option_or (first_repeated (datum_numbers task.reads)) (option_or (first_repeated (datum_numbers task.writes)) (first_repeated_of after)) ≡ first_in prints tasks
  from_task =
      ap (λ (t : TaskParts). first_in prints (t ∷ drop (i + 1) tasks)) is
      ∙ (sym (at_drop_more (first_in prints) tasks i task inside) ∙ so_far)

  -- the datum stands twice in the reads of this task, or else in its writes, or in neither
  pub first_in-reads : (d : ℕ) → first_repeated (datum_numbers task.reads) ≡ Some d → Some d ≡ first_in prints tasks
  first_in-reads d found =
      ap (λ (o : Option ℕ). option_or o (option_or (first_repeated (datum_numbers task.writes)) (first_repeated_of after))) (sym found) ∙ from_task

  pub first_in-writes : (d : ℕ) → first_repeated (datum_numbers task.reads) ≡ None → first_repeated (datum_numbers task.writes) ≡ Some d → Some d ≡ first_in prints tasks
  first_in-writes d none found =
      ap (λ (o : Option ℕ). option_or o (first_repeated_of after)) (sym found)
      ∙ (ap (λ (o : Option ℕ). option_or o (option_or (first_repeated (datum_numbers task.writes)) (first_repeated_of after))) (sym none) ∙ from_task)

  pub first_in-next : first_repeated (datum_numbers task.reads) ≡ None → first_repeated (datum_numbers task.writes) ≡ None → first_in prints (drop (i + 1) tasks) ≡ first_in prints tasks
  first_in-next none none' =
      ap (λ (o : Option ℕ). option_or o (first_repeated_of after)) (sym none')
      ∙ (ap (λ (o : Option ℕ). option_or o (option_or (first_repeated (datum_numbers task.writes)) (first_repeated_of after))) (sym none) ∙ from_task)

-- The instructions of a plan, block by block, and how many of them there are of a kind.
use Rattle.std.proofs.Common.{◌≡◌, ◌≢◌, ℕ, zero, suc, ◌+◌, ◌<◌, ◌==◌, ◌&&◌, Bool, true, false, cond, List, [], ◌∷◌, ◌++◌, length, map, refl, sym, ap, ◌∙◌, arith}
use Rattle.std.specs.Prelude.{nat_eq, sum_by, count_by, slice_index}
use Rattle.std.specs.List.{filter, flat_map, range_with_len}
use Rattle.std.proofs.lemmas.Bool.{ne_eqb}
use Rattle.std.proofs.lemmas.List.{map-append}
use Rattle.std.proofs.lemmas.List.Sums.{sum_by-cons}
use Rattle.pyr_graph.specs.declared.placement.Placement.{Placement}
use Rattle.pyr_graph.specs.System.{System}
use Rattle.pyr_graph.specs.Placements.{processor_of}
use Rattle.pyr_bundle.specs.declared.raw_instr.RawInstr.{RawInstr}
use Rattle.pyr_bundle.specs.declared.instr.Instr.{Instr}
use Rattle.pyr_bundle.specs.Parts.{instr_of}
use Rattle.pyr_machine.specs.Schedule.{tally}
use Rattle.pyr_emit.specs.Emission.{block_at, code_on}
use Rattle.pyr_emit.proofs.Ranges.{pieces_more, map_map, filter_same}
use Rattle.pyr_emit.proofs.SumLemmas.{total, one, where_true}
use Rattle.pyr_emit.proofs.CountLemmas.{block_weight}
use Rattle.pyr_compile.specs.PlanRun.{turns_at, plan_schedule}
use Rattle.pyr_compile.proofs.Events.{Event, project, project_append, seen, tally_append}

-- counts, where the test begins with one that is the same for all
pub tally_map : {X Y : Type 0} (f : Y → Bool) (g : X → Y) (xs : List X) → tally f (map g xs) ≡ tally (λ x. f (g x)) xs
tally_map f g [] = refl
tally_map f g (x ∷ xs) = ap (λ n. cond (f (g x)) 1 0 + n) (tally_map f g xs)

tally_where : {X : Type 0} (c : Bool) (f : X → Bool) (xs : List X) → tally (λ x. c && f x) xs ≡ where_true c (sum_by (λ x. one (f x)) xs)
tally_where true f [] = refl
tally_where false f [] = refl
tally_where true f (x ∷ xs) = ap (λ n. one (f x) + n) (tally_where true f xs) ∙ sym (sum_by-cons (λ y. one (f y)) x xs)
tally_where false f (x ∷ xs) = let i = tally_where false f xs in omega (arith, i)

pub tally_counts : {X : Type 0} (f : X → Bool) (xs : List X) → tally f xs ≡ count_by f xs
tally_counts f [] = refl
tally_counts f (x ∷ xs) = ap (λ n. one (f x) + n) (tally_counts f xs) ∙ sym (sum_by-cons (λ y. one (f y)) x xs)

map_pieces : {X Y Z : Type 0} (f : Y → Z) (g : X → List Y) (xs : List X) → map f (flat_map g xs) ≡ flat_map (λ x. map f (g x)) xs
map_pieces f g [] = refl
map_pieces f g (x ∷ xs) = map-append f (g x) (flat_map g xs) ∙ ap (λ l. map f (g x) ++ l) (map_pieces f g xs)

pieces_same : {X Y : Type 0} (f g : X → List Y) → ((x : X) → f x ≡ g x) → (xs : List X) → flat_map f xs ≡ flat_map g xs
pieces_same f g same xs = ap (λ (h : _ → List _). flat_map h xs) (λ i x. same x i)

none_pass : (f : ℕ → Bool) (xs : List ℕ) → ((x : ℕ) → f x ≡ false) → filter f xs ≡ []
none_pass f [] none = refl
none_pass f (x ∷ xs) none = ap (λ c. cond c (x ∷ filter f xs) (filter f xs)) (none x) ∙ none_pass f xs none

module _ (s : System) (placement : Placement) (order : List ℕ) where
  abbrev home : ℕ → ℕ
  home t = processor_of placement t

  abbrev task : ℕ → ℕ
  task i = slice_index order i

  -- an instruction of the block of t
  abbrev pub event : ℕ → RawInstr → Event
  event t x = record { processor = processor_of placement t; instr = instr_of x }

  abbrev pub block_events : ℕ → List Event
  block_events i = map (event (task i)) (block_at s placement order i)

  -- those of the first m blocks
  abbrev pub events_below : ℕ → List Event
  events_below m = flat_map block_events (range_with_len 0 m)

  pub events_more : (m : ℕ) → events_below (suc m) ≡ events_below m ++ block_events m
  events_more m = let next : suc m ≡ m + 1 = omega arith in ap events_below next ∙ pieces_more block_events m

  pub seen_list : (p : ℕ) (f : Instr → Bool) (t : ℕ) (xs : List RawInstr) → seen p f (map (event t) xs) ≡ where_true (nat_eq (home t) p) (sum_by (λ x. one (f (instr_of x))) xs)
  seen_list p f t xs =
      tally_map (λ (e : Event). (e.processor == p) && f e.instr) (event t) xs ∙ tally_where (nat_eq (home t) p) (λ x. f (instr_of x)) xs

  -- how many instructions of a kind p has in the first m blocks
  abbrev pub in_block : ℕ → (Instr → Bool) → ℕ → ℕ
  in_block p f i = where_true (nat_eq (home (task i)) p) (block_weight s placement order (λ x. one (f (instr_of x))) i)

  pub seen_below : (p : ℕ) (f : Instr → Bool) (m : ℕ) → seen p f (events_below m) ≡ total m (in_block p f)
  seen_below p f zero = refl
  seen_below p f (suc m) =
      ap (seen p f) (events_more m) ∙ tally_append (λ (e : Event). (e.processor == p) && f e.instr) (events_below m) (block_events m)
      ∙ sum (seen_below p f m) (seen_list p f (task m) (block_at s placement order m))
    where
      sum : {a b c d : ℕ} → a ≡ b → c ≡ d → a + c ≡ b + d
      sum e f = omega (arith, e, f)

  -- the instructions of p among all are its code
  project_list : (p t : ℕ) (xs : List RawInstr) → project p (map (event t) xs) ≡ cond (nat_eq (home t) p) (map instr_of xs) []
  project_list p t xs = at (nat_eq (home t) p) refl
    where
      yes' : nat_eq (home t) p ≡ true → (ys : List RawInstr) → project p (map (event t) ys) ≡ map instr_of ys
      yes' e [] = refl
      yes' e (y ∷ ys) = ap (λ c. cond c (instr_of y ∷ project p (map (event t) ys)) (project p (map (event t) ys))) e ∙ ap (λ l. instr_of y ∷ l) (yes' e ys)

      no' : nat_eq (home t) p ≡ false → (ys : List RawInstr) → project p (map (event t) ys) ≡ []
      no' e [] = refl
      no' e (y ∷ ys) = ap (λ c. cond c (instr_of y ∷ project p (map (event t) ys)) (project p (map (event t) ys))) e ∙ no' e ys

      at : (c : Bool) → nat_eq (home t) p ≡ c → project p (map (event t) xs) ≡ cond c (map instr_of xs) []
      at true e = yes' e xs
      at false e = no' e xs

  project_places : (p : ℕ) (is : List ℕ) → project p (flat_map block_events is) ≡ map instr_of (flat_map (block_at s placement order) (filter (λ i. nat_eq (home (task i)) p) is))
  project_places p [] = refl
  project_places p (i ∷ is) =
      project_append p (block_events i) (flat_map block_events is)
      ∙ at (nat_eq (home (task i)) p) (project_list p (task i) (block_at s placement order i)) (project_places p is)
    where
      B : ℕ → List RawInstr
      B = block_at s placement order

      F : ℕ → Bool
      F = λ j. nat_eq (home (task j)) p

      at : (c : Bool) → project p (block_events i) ≡ cond c (map instr_of (B i)) [] → project p (flat_map block_events is) ≡ map instr_of (flat_map B (filter F is))
          → project p (block_events i) ++ project p (flat_map block_events is) ≡ map instr_of (flat_map B (cond c (i ∷ filter F is) (filter F is)))
      at true here rest =
          ap (λ l. l ++ project p (flat_map block_events is)) here ∙ ap (λ l. map instr_of (B i) ++ l) rest ∙ sym (map-append instr_of (B i) (flat_map B (filter F is)))
      at false here rest = ap (λ l. l ++ project p (flat_map block_events is)) here ∙ rest

  pub project_all : (p : ℕ) → project p (events_below (length order)) ≡ map instr_of (code_on s placement order p)
  project_all p = project_places p (range_with_len 0 (length order))

  -- past the processors there is no code
  pub no_code : (p : ℕ) → ((i : ℕ) → i < length order → home (task i) ≢ p) → code_on s placement order p ≡ []
  no_code p none =
      ap (flat_map (block_at s placement order))
      (filter_same (λ i. nat_eq (home (task i)) p) (λ i. false) 0 (length order) (λ k inside. ne_eqb (home (task k)) p (none k (omega (arith, inside))))
      ∙ none_pass (λ i. false) (range_with_len 0 (length order)) (λ x. refl))

  -- the processors of the instructions are the schedule of the plan
  pub turns_are : map (λ (e : Event). e.processor) (events_below (length order)) ≡ plan_schedule s placement order
  turns_are =
      map_pieces (λ (e : Event). e.processor) block_events (range_with_len 0 (length order))
      ∙ pieces_same (λ i. map (λ (e : Event). e.processor) (block_events i)) (turns_at s placement order) (λ i. map_map (λ (e : Event). e.processor) (event (task i)) (block_at s placement order i)) (range_with_len 0 (length order))

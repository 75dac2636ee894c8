-- Marks of the list that tasks read.
use Rattle.std.proofs.Common.{◌≡◌, ◌≢◌, ℕ, ◌+◌, ◌<◌, ◌||◌, ◌&&◌, Bool, true, false, List, [], length, take, get_or, set, replicate, inl, inr, refl, sym, ap, ◌∙◌, arith}
use Rattle.std.specs.Prelude.{nat_eq}
use Rattle.std.specs.List.{list_any}
use Rattle.std.proofs.lemmas.Bool.{cases_eq, cases_lt, eq-eqb, ne_eqb}
use Rattle.std.proofs.lemmas.List.{get_or-map, get_or-set_same, get_or-set_other, length-map, take-map, get_or-replicate, get_or_past, length-replicate}
use Rattle.std.proofs.lemmas.List.Folds.{list_any_more}
use Rattle.pyr_num.specs.declared.ids.DatumId.{DatumId}
use Rattle.pyr_graph.specs.declared.placement.Placement.{Placement}
use Rattle.pyr_graph.specs.System.{System, task_at, datum_numbers, datum_count}
use Rattle.pyr_graph.specs.Placements.{processor_of}
use Rattle.pyr_emit.specs.Emission.{reads_it, is_read_on}
use Rattle.pyr_emit.specs.Marks.{is_marked, AreMarks}

or_swap : (a b c : Bool) → (a || (b || c)) ≡ ((b || a) || c)
or_swap true true c = refl
or_swap true false c = refl
or_swap false true c = refl
or_swap false false c = refl

or_comm : (a b : Bool) → (a || b) ≡ (b || a)
or_comm true true = refl
or_comm true false = refl
or_comm false true = refl
or_comm false false = refl

or_nothing : (b : Bool) → (b || false) ≡ b
or_nothing true = refl
or_nothing false = refl

-- one mark more
pub mark_more : (marks old : List Bool) (list : List DatumId) (i x d : ℕ) → i < length list → x ≡ (get_or list i (record { 0 = 0 })).0 → x < length marks
    → is_marked marks d ≡ (list_any (nat_eq d) (datum_numbers (take i list)) || is_marked old d)
    → is_marked (set marks x true) d ≡ (list_any (nat_eq d) (datum_numbers (take (i + 1) list)) || is_marked old d)
mark_more marks old list i x d inside here x_in was =
    new ∙ ap (λ b. nat_eq d x || b) was ∙ or_swap (nat_eq d x) (list_any (nat_eq d) (datum_numbers (take i list))) (is_marked old d) ∙ ap (λ b. b || is_marked old d) (sym more)
  where
    new : is_marked (set marks x true) d ≡ (nat_eq d x || is_marked marks d)
    new = elim (cases_eq d x) [
      | inl same ↦ ap (λ k. get_or (set marks x true) k false) same ∙ get_or-set_same marks x true false x_in ∙ ap (λ b. b || is_marked marks d) (sym (eq-eqb d x same))
      | inr apart ↦ get_or-set_other marks x d true false apart ∙ ap (λ b. b || is_marked marks d) (sym (ne_eqb d x apart))
    ]

    more : list_any (nat_eq d) (datum_numbers (take (i + 1) list)) ≡ (list_any (nat_eq d) (datum_numbers (take i list)) || nat_eq d x)
    more =
        let numbers = datum_numbers list in
        let i_in : i < length numbers = let n = length-map list (λ (e : DatumId). e.0) in omega arith in
        ap (list_any (nat_eq d)) (sym (take-map (λ (e : DatumId). e.0) (i + 1) list)) ∙ list_any_more (nat_eq d) numbers i 0 i_in
        ∙ ap (λ (xs : List ℕ). list_any (nat_eq d) xs || nat_eq d (get_or numbers i 0)) (take-map (λ (e : DatumId). e.0) i list)
        ∙ ap (λ k. list_any (nat_eq d) (datum_numbers (take i list)) || nat_eq d k) (get_or-map (λ (e : DatumId). e.0) list i (record { 0 = 0 }) 0 inside ∙ sym here)

module _ (s : System) (placement : Placement) where
  -- nothing is marked where there is no task yet
  pub marks_none : (q : ℕ) (marks : List Bool) → marks ≡ replicate (datum_count s) false → AreMarks s placement [] q marks
  marks_none q marks is = record {
    full = ap length is ∙ length-replicate (datum_count s) false;
    each = λ d. ap (λ (l : List Bool). get_or l d false) is ∙ elim (cases_lt d (datum_count s)) [
      | inl less ↦ get_or-replicate (datum_count s) d false false less
      | inr past ↦ get_or_past (replicate (datum_count s) false) d false (let n = length-replicate (datum_count s) false in omega arith)
    ];
  }

  -- one task more
  module _ (order : List ℕ) (i t q : ℕ) (inside : i < length order) (here : t ≡ get_or order i 0) where
    one_more : (d : ℕ) → is_read_on s placement (take (i + 1) order) q d ≡ (is_read_on s placement (take i order) q d || (nat_eq (processor_of placement t) q && reads_it s t d))
    one_more d =
        list_any_more (λ u. nat_eq (processor_of placement u) q && reads_it s u d) order i 0 inside
        ∙ ap (λ u. is_read_on s placement (take i order) q d || (nat_eq (processor_of placement u) q && reads_it s u d)) (sym here)

    pub marks_more : (old new : List Bool) (reads : List DatumId) → processor_of placement t ≡ q → reads ≡ (task_at s t).reads → length new ≡ length old
        → ((d : ℕ) → is_marked new d ≡ (list_any (nat_eq d) (datum_numbers reads) || is_marked old d))
        → AreMarks s placement (take i order) q old → AreMarks s placement (take (i + 1) order) q new
    marks_more old new reads on same full marked was = record {
      full = full ∙ was.full;
      each = λ d.
          marked d ∙ ap (λ (l : List DatumId). list_any (nat_eq d) (datum_numbers l) || is_marked old d) same ∙ ap (λ b. reads_it s t d || b) (was.each d)
          ∙ or_comm (reads_it s t d) (is_read_on s placement (take i order) q d)
          ∙ ap (λ b. is_read_on s placement (take i order) q d || (b && reads_it s t d)) (sym (eq-eqb (processor_of placement t) q on)) ∙ sym (one_more d);
    }

    pub marks_same : (marks : List Bool) → processor_of placement t ≢ q → AreMarks s placement (take i order) q marks → AreMarks s placement (take (i + 1) order) q marks
    marks_same marks off was = record {
      full = was.full;
      each = λ d.
          was.each d ∙ sym (or_nothing (is_read_on s placement (take i order) q d))
          ∙ ap (λ b. is_read_on s placement (take i order) q d || (b && reads_it s t d)) (sym (ne_eqb (processor_of placement t) q off)) ∙ sym (one_more d);
    }

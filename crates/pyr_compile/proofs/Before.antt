-- What comes before an instruction in the order of a plan: the writer of what a task reads, its send,
-- and the first receive on a processor.
use Rattle.std.proofs.Common.{◌≡◌, ◌≢◌, ℕ, zero, suc, ◌<◌, ◌≤◌, ◌==◌, ◌&&◌, Bool, true, false, not, List, [], ◌∷◌, length, take, All, inl, inr, refl, sym, ap, ◌∙◌, subst, arith}
use Rattle.std.specs.Prelude.{nat_eq, slice_index, Contains}
use Rattle.std.specs.List.{list_any}
use Rattle.std.proofs.lemmas.Bool.{cases_lt, eq-eqb, ne_eqb, eqb-true, and_parts, and_from, not_from_false, or_left, or_right, or_cases}
use Rattle.std.proofs.lemmas.Grind.{get_or_default_zero}
use Rattle.std.proofs.lemmas.List.Elements.{All-map}
use Rattle.pyr_num.specs.declared.ids.DatumId.{DatumId}
use Rattle.pyr_seq.specs.Walk.{IsTopological}
use Rattle.pyr_graph.specs.declared.placement.Placement.{Placement}
use Rattle.pyr_graph.specs.System.{System, task_count, datum_count, task_at, reads_of, writes_of, writer_of, IsEdge}
use Rattle.pyr_graph.specs.WholeGraph.{IsGraph}
use Rattle.pyr_graph.proofs.ListLemmas.{Contains-tested, tested-Contains}
use Rattle.pyr_graph.specs.Placements.{processor_of, same_processor}
use Rattle.pyr_rcp.specs.Order.{IsPlaced}
use Rattle.pyr_bundle.specs.declared.raw_instr.RawInstr.TheVariants.{Send}
use Rattle.pyr_bundle.specs.Laws.{is_send, is_receive}
use Rattle.pyr_emit.specs.Emission.{reads_it, writes_it, is_read_on, is_awaited, is_destination}
use Rattle.pyr_emit.proofs.SumLemmas.{total, one, where_true, term_low}
use Rattle.pyr_emit.proofs.CountLemmas.{block_weight, send_term, send_row, send_weight, receive_term, receive_row, receive_weight}

-- where a test passes at a place, and at which
pub any_at : (f : ℕ → Bool) (xs : List ℕ) (k : ℕ) → k < length xs → f (slice_index xs k) ≡ true → list_any f xs ≡ true
any_at f [] k l e = absurd (omega (arith, l))
any_at f (x ∷ xs) zero l e = or_left (f x) (list_any f xs) e
any_at f (x ∷ xs) (suc k) l e = or_right (f x) (list_any f xs) (any_at f xs k (omega (arith, l)) e)

pub any_place : (f : ℕ → Bool) (xs : List ℕ) (m : ℕ) → m ≤ length xs → list_any f (take m xs) ≡ true → (k : ℕ) × (k < m) × (f (slice_index xs k) ≡ true)
any_place f [] zero l e = absurd (let no' : false ≡ true = e in cc)
any_place f [] (suc m) l e = absurd (omega (arith, l))
any_place f (x ∷ xs) zero l e = absurd (let no' : false ≡ true = e in cc)
any_place f (x ∷ xs) (suc m) l e = elim (or_cases (f x) (list_any f (take m xs)) e) [
  | inl here ↦ (0, omega arith, here)
  | inr there ↦ (let (k, k_in, is) = any_place f xs m (omega (arith, l)) there in (suc k, omega (arith, k_in), is))
]

pub any_index : (f : ℕ → Bool) (xs : List ℕ) → list_any f xs ≡ true → (k : ℕ) × (k < length xs) × (f (slice_index xs k) ≡ true)
any_index f [] e = absurd (let no' : false ≡ true = e in cc)
any_index f (x ∷ xs) e = elim (or_cases (f x) (list_any f xs) e) [
  | inl here ↦ (0, omega arith, here)
  | inr there ↦ (let (k, k_in, is) = any_index f xs there in (suc k, omega (arith, k_in), is))
]

-- a longer sum is no smaller
pub total_grows : (m n : ℕ) (f : ℕ → ℕ) → m ≤ n → total m f ≤ total n f
total_grows zero zero f l = omega arith
total_grows (suc m) zero f l = absurd (omega (arith, l))
total_grows m (suc n) f l = elim (cases_lt n m) [
  | inl all ↦ (let e : m ≡ suc n = omega (arith, l, all) in let f' = ap (λ k. total k f) e in omega (arith, f'))
  | inr less ↦ (let i = total_grows m n f less in omega (arith, i))
]

module _ (s : System) (placement : Placement) (order : List ℕ) (graph : IsGraph s) (placed : IsPlaced s placement) (top : IsTopological (task_count s) (IsEdge s) order) where
  abbrev home : ℕ → ℕ
  home t = processor_of placement t

  abbrev task : ℕ → ℕ
  task i = slice_index order i

  pub datum_read : (t d : ℕ) → reads_it s t d ≡ true → d < datum_count s
  datum_read t d reads =
      let (k, k_in, here) = Contains-tested d (reads_of s t) reads in
      let all : All (λ e. e < datum_count s) (reads_of s t) = All-map (λ e. e < datum_count s) (λ (e : DatumId). e.0) (task_at s t).reads (graph.holds.reads t) in
      subst (λ e. e < datum_count s) here (all k d k_in)

  pub writer_place : (d : ℕ) → d < datum_count s → (j : ℕ) × (j < length order) × (task j ≡ writer_of s d) × (writes_it s (writer_of s d) d ≡ true)
  writer_place d inside =
      let (w_in, held) = graph.some_writer d inside in
      let (j, j_in, here) = top.each (writer_of s d) w_in in
      (j, j_in, sym (get_or_default_zero order j (writer_of s d) j_in) ∙ here, tested-Contains d (writes_of s (writer_of s d)) held)

  -- the writer of what a task reads comes before it
  pub writer_before : (i d : ℕ) → i < length order → reads_it s (task i) d ≡ true → (j : ℕ) × (j < i) × (task j ≡ writer_of s d) × (writes_it s (writer_of s d) d ≡ true)
  writer_before i d inside reads =
      let (j, j_in, same, writes) = writer_place d (datum_read (task i) d reads) in
      let written : Contains (writes_of s (task j)) d = subst (λ t. Contains (writes_of s t) d) (sym same) (Contains-tested d (writes_of s (writer_of s d)) writes) in
      (j, top.before j i (omega (arith, j_in, top.full)) (omega (arith, inside, top.full)) (d, written, Contains-tested d (reads_of s (task i)) reads), same, writes)

  -- the block of a task sends what it writes to where it is read
  pub sends_there : (j d p : ℕ) → d < datum_count s → p < placement.processors → writes_it s (task j) d ≡ true → is_destination s placement order (task j) d p ≡ true
      → 1 ≤ block_weight s placement order (λ x. one (is_send p d x)) j
  sends_there j d p d_in p_in writes goes =
      let row = term_low placement.processors p (send_term s placement order graph placed top p d (task j) d) p_in in
      let here : send_term s placement order graph placed top p d (task j) d p ≡ 1 =
      ap (λ c. where_true c (one (is_send p d (Send p d)))) goes ∙ ap one (and_from (p == p) (d == d) (eq-eqb p p refl) (eq-eqb d d refl)) in
      let column = term_low (datum_count s) d (send_row s placement order graph placed top p d (task j)) d_in in
      let there = ap (λ c. where_true c (total placement.processors (send_term s placement order graph placed top p d (task j) d))) writes in
      omega (arith, send_weight s placement order graph placed top p d j, row, here, column, there)

  -- the block of a task receives what it awaits
  pub receives_there : (i d p : ℕ) → home (task i) ≡ p → reads_it s (task i) d ≡ true → is_awaited s placement (take i order) (task i) d ≡ true → 1 ≤ receive_row s placement order graph placed top p d i
  receives_there i d p on reads awaited =
      let column = term_low (datum_count s) d (receive_term s placement order graph placed top d i) (datum_read (task i) d reads) in
      let here : receive_term s placement order graph placed top d i d ≡ 1 =
      ap (λ c. where_true c (where_true (is_awaited s placement (take i order) (task i) d) (one (d == d)))) reads ∙ ap (λ c. where_true c (one (d == d))) awaited ∙ ap one (eq-eqb d d refl) in
      let block : block_weight s placement order (λ x. one (is_receive d x)) i ≡ total (datum_count s) (receive_term s placement order graph placed top d i) = receive_weight s placement order graph placed top d i in
      let row = ap (λ c. where_true c (block_weight s placement order (λ x. one (is_receive d x)) i)) (eq-eqb (home (task i)) p on) in
      omega (arith, column, here, block, row)

  -- a processor that reads a datum from another one has received it by the first block that reads it
  pub received_by : (m k p d : ℕ) → k < m → k < length order → home (task k) ≡ p → reads_it s (task k) d ≡ true → home (writer_of s d) ≢ p → 1 ≤ total (suc k) (receive_row s placement order graph placed top p d)
  received_by zero k p d less inside on reads off = absurd (omega (arith, less))
  received_by (suc m) k p d less inside on reads off =
      at (is_read_on s placement (take k order) p d) refl (λ j j_in j_on j_reads. received_by m j p d (omega (arith, less, j_in)) (omega (arith, inside, j_in)) j_on j_reads off)
    where
      row : ℕ → ℕ
      row = receive_row s placement order graph placed top p d

      at : (c : Bool) → is_read_on s placement (take k order) p d ≡ c → ((j : ℕ) → j < k → home (task j) ≡ p → reads_it s (task j) d ≡ true → 1 ≤ total (suc j) row) → 1 ≤ total (suc k) row
      at true e ih =
          let (j, j_in, is) = any_place (λ t. nat_eq (home t) p && reads_it s t d) order k (omega (arith, inside)) e in
          let (there, also) = and_parts (nat_eq (home (task j)) p) (reads_it s (task j) d) is in
          let earlier = ih j j_in (eqb-true (home (task j)) p there) also in
          let more = total_grows (suc j) (suc k) row (omega (arith, j_in)) in
          omega (arith, earlier, more)
      at false e ih =
          let apart = not_from_false (same_processor placement (writer_of s d) (task k)) (ne_eqb (home (writer_of s d)) (home (task k)) (λ same. off (same ∙ on))) in
          let first = not_from_false (is_read_on s placement (take k order) (home (task k)) d) (ap (λ q. is_read_on s placement (take k order) q d) on ∙ e) in
          let awaited = and_from (not (same_processor placement (writer_of s d) (task k))) (not (is_read_on s placement (take k order) (home (task k)) d)) apart first in
          let here = receives_there k d p on reads awaited in
          omega (arith, here)

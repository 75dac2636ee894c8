-- How many instructions and channels a plan has.
use Rattle.std.proofs.Common.{◌≡◌, ℕ, ◌+◌, ◌<◌, ◌≤◌, ◌&&◌, Bool, true, false, not, List, [], length, take, refl, sym, ap, ◌∙◌, arith}
use Rattle.std.specs.Prelude.{nat_eq, nat_lt, sum_by, slice_index}
use Rattle.std.specs.List.{filter, range_with_len}
use Rattle.std.proofs.lemmas.Bool.{eqb-true, and_parts}
use Rattle.std.proofs.lemmas.List.{length-map}
use Rattle.std.proofs.lemmas.List.Concat.{length-flat_map}
use Rattle.pyr_num.specs.declared.limits.TheConstants.Limits.{INSTRUCTIONS, PROCESSORS, CHANNELS}
use Rattle.pyr_graph.specs.declared.placement.Placement.{Placement}
use Rattle.pyr_graph.specs.declared.parts.TaskParts.{TaskParts}
use Rattle.pyr_num.specs.declared.ids.DatumId.{DatumId}
use Rattle.pyr_graph.specs.System.{System, task_at, task_count, datum_count, reads_of, IsEdge}
use Rattle.pyr_graph.specs.WholeGraph.{IsGraph}
use Rattle.pyr_seq.specs.Walk.{IsTopological}
use Rattle.pyr_graph.specs.Placements.{processor_of}
use Rattle.pyr_rcp.specs.Order.{IsPlaced}
use Rattle.pyr_bundle.specs.declared.raw_instr.RawInstr.{RawInstr}
use Rattle.pyr_bundle.specs.Laws.{send_count, pairs_from, pairs_of}
use Rattle.pyr_emit.specs.Emission.{reads_it, writes_it, is_read_on, is_awaited, is_destination, codes, channels_of, channel_of}
use Rattle.pyr_emit.proofs.SumLemmas.{total, one, where_true, one-low, where-true, where-low, total_same, total_le, total_most, total_add, total_swap, total_once, total_at, sum_range, sum_filter, sum_same, sum_places, length_sum, held_low, any_counts}
use Rattle.pyr_emit.proofs.CountLemmas.{block_weight, codes_weight, block_parts, receives_weight, sends_weight, task_below, home_below, task_once, written_once}

module _ (s : System) (placement : Placement) (order : List ℕ) (graph : IsGraph s) (placed : IsPlaced s placement) (top : IsTopological (task_count s) (IsEdge s) order) where
  abbrev n : ℕ
  n = length order

  abbrev P : ℕ
  P = placement.processors

  abbrev D : ℕ
  D = datum_count s

  abbrev home : ℕ → ℕ
  home t = processor_of placement t

  abbrev task : ℕ → ℕ
  task i = slice_index order i

  -- the reads of the task at a place
  abbrev reads_at : ℕ → ℕ
  reads_at i = length (reads_of s (task i))

  -- all reads together
  reads_sum : total (task_count s) (λ t. length (reads_of s t)) ≡ sum_by (λ t. length t.reads) s.tasks
  reads_sum =
      total_same (task_count s) (λ t. length (reads_of s t)) _ (λ k l. length-map (task_at s k).reads (λ (d : DatumId). d.0))
      ∙ sym (sum_places (λ (t : TaskParts). length t.reads) (record { cost = 0; reads = []; writes = [] }) s.tasks)

  -- each task stands once in the order
  reads_low : total n reads_at ≤ total (task_count s) (λ t. length (reads_of s t))
  reads_low =
      let h : ℕ → ℕ = λ t. length (reads_of s t) in
      let spread = total_same n reads_at (λ i. total (task_count s) (λ t. where_true (nat_eq (task i) t) (reads_at i))) (λ i l. sym (total_at (task_count s) (task i) (reads_at i) (task_below s placement order graph placed top i l))) in
      let swapped = total_swap n (task_count s) (λ i t. where_true (nat_eq (task i) t) (reads_at i)) in
      let each = total_le (task_count s) (λ t. total n (λ i. where_true (nat_eq (task i) t) (reads_at i))) h (λ t l.
      total_once n (h t) (λ i. where_true (nat_eq (task i) t) (reads_at i)) (λ i m. bound (task i) t)
      (λ i j k m a b. task_once s placement order graph placed top i j k m (eqb-true (task i) t (where-true (nat_eq (task i) t) _ a).0 ∙ sym (eqb-true (task j) t (where-true (nat_eq (task j) t) _ b).0)))) in
      omega (arith, spread, swapped, each)
    where
      bound : (u t : ℕ) → where_true (nat_eq u t) (length (reads_of s u)) ≤ length (reads_of s t)
      bound u t = at (nat_eq u t) refl
        where
          at : (b : Bool) → nat_eq u t ≡ b → where_true b (length (reads_of s u)) ≤ length (reads_of s t)
          at true e = let same = ap (λ k. length (reads_of s k)) (eqb-true u t e) in omega (arith, same)
          at false e = omega arith

  -- a block receives no more than its task reads
  receives_low : (earlier : List ℕ) (t : ℕ) → total D (λ d. where_true (reads_it s t d) (where_true (is_awaited s placement earlier t d) 1)) ≤ length (reads_of s t)
  receives_low earlier t =
      let less = total_le D (λ d. where_true (reads_it s t d) (where_true (is_awaited s placement earlier t d) 1)) (λ d. one (reads_it s t d)) (λ d l. fewer (reads_it s t d) (is_awaited s placement earlier t d)) in
      let held = held_low D (reads_of s t) in
      omega (arith, less, held)
    where
      fewer : (a b : Bool) → where_true a (where_true b 1) ≤ one a
      fewer true b = one-low b
      fewer false b = omega arith

  -- how many tasks of the order read a datum
  abbrev readers : ℕ → ℕ
  readers d = total n (λ j. one (reads_it s (task j) d))

  -- a datum is read on no more processors than by tasks
  destinations_low : (t d : ℕ) → total P (λ q. where_true (is_destination s placement order t d q) 1) ≤ readers d
  destinations_low t d =
      let less = total_le P (λ q. where_true (is_destination s placement order t d q) 1) (λ q. total n (λ j. where_true (nat_eq (home (task j)) q) (one (reads_it s (task j) d)))) (λ q l. found q) in
      let swapped = total_swap P n (λ q j. where_true (nat_eq (home (task j)) q) (one (reads_it s (task j) d))) in
      let each = total_same n (λ j. total P (λ q. where_true (nat_eq (home (task j)) q) (one (reads_it s (task j) d)))) (λ j. one (reads_it s (task j) d))
      (λ j l. total_at P (home (task j)) (one (reads_it s (task j) d)) (home_below s placement order graph placed top (task j) (task_below s placement order graph placed top j l))) in
      omega (arith, less, swapped, each)
    where
      found : (q : ℕ) → where_true (is_destination s placement order t d q) 1 ≤ total n (λ j. where_true (nat_eq (home (task j)) q) (one (reads_it s (task j) d)))
      found q = let sums = sum_places (λ u. one (nat_eq (home u) q && reads_it s u d)) 0 order in at (is_destination s placement order t d q) refl sums
        where
          both : (a b : Bool) → one (a && b) ≡ where_true a (one b)
          both true b = refl
          both false b = refl

          at : (b : Bool) → is_destination s placement order t d q ≡ b → sum_by (λ u. one (nat_eq (home u) q && reads_it s u d)) order ≡ total n (λ j. one (nat_eq (home (task j)) q && reads_it s (task j) d))
              → where_true b 1 ≤ total n (λ j. where_true (nat_eq (home (task j)) q) (one (reads_it s (task j) d)))
          at false e sums = omega arith
          at true e sums =
              let is = (and_parts (not (nat_eq q (home t))) (is_read_on s placement order q d) e).1 in
              let some = any_counts (λ u. nat_eq (home u) q && reads_it s u d) (λ u. one (nat_eq (home u) q && reads_it s u d)) (λ u f. let g = ap one f in omega (arith, g)) order is in
              let same = total_same n (λ j. one (nat_eq (home (task j)) q && reads_it s (task j) d)) (λ j. where_true (nat_eq (home (task j)) q) (one (reads_it s (task j) d))) (λ j l. both (nat_eq (home (task j)) q) (reads_it s (task j) d)) in
              omega (arith, some, sums, same)

  -- all sends together are no more than all reads
  abbrev sends_at : ℕ → ℕ
  sends_at i = total D (λ d. where_true (writes_it s (task i) d) (total P (λ q. where_true (is_destination s placement order (task i) d q) 1)))

  sends_low : total n sends_at ≤ total n reads_at
  sends_low =
      let less = total_le n sends_at (λ i. total D (λ d. where_true (writes_it s (task i) d) (readers d))) (λ i l. total_le D _ (λ d. where_true (writes_it s (task i) d) (readers d)) (λ d m. under (writes_it s (task i) d) (destinations_low (task i) d))) in
      let swapped = total_swap n D (λ i d. where_true (writes_it s (task i) d) (readers d)) in
      let each = total_le D (λ d. total n (λ i. where_true (writes_it s (task i) d) (readers d))) readers (λ d l.
      total_once n (readers d) (λ i. where_true (writes_it s (task i) d) (readers d)) (λ i m. where-low (writes_it s (task i) d) (readers d) (readers d) (omega arith))
      (λ i j k m a b. written_once s placement order graph placed top d i j k m (where-true (writes_it s (task i) d) _ a).0 (where-true (writes_it s (task j) d) _ b).0)) in
      let turned = total_swap D n (λ d j. one (reads_it s (task j) d)) in
      let held = total_le n (λ j. total D (λ d. one (reads_it s (task j) d))) reads_at (λ j l. held_low D (reads_of s (task j))) in
      omega (arith, less, swapped, each, turned, held)
    where
      under : (b : Bool) {x y : ℕ} → x ≤ y → where_true b x ≤ where_true b y
      under true h = h
      under false h = omega arith

  block_length : (i : ℕ) → block_weight s placement order (λ x. 1) i ≤ reads_at i + (1 + sends_at i)
  block_length i =
      let parts = block_parts s placement order (λ x. 1) i in
      let receives = receives_weight s placement order (λ x. 1) (take i order) (task i) in
      let sends = sends_weight s placement order (λ x. 1) (task i) in
      let low = receives_low (take i order) (task i) in
      omega (arith, parts, receives, sends, low)

  pub instructions_low : sum_by length (codes s placement order) ≤ INSTRUCTIONS
  instructions_low =
      let lengths = sum_same (λ (code : List RawInstr). length code) (λ code. sum_by (λ x. 1) code) length_sum (codes s placement order) in
      let weights = codes_weight s placement order (λ x. 1) (λ i l. home_below s placement order graph placed top (task i) (task_below s placement order graph placed top i l)) in
      let blocks = total_le n (block_weight s placement order (λ x. 1)) (λ i. reads_at i + (1 + sends_at i)) (λ i l. block_length i) in
      let split = total_add n reads_at (λ i. 1 + sends_at i) in
      let ones = total_add n (λ i. 1) sends_at in
      let count = total_most n 1 (λ i. 1) (λ i l. omega arith) in
      omega (arith, lengths, weights, blocks, split, ones, count, sends_low, reads_low, reads_sum, top.full, graph.limits.all_reads, graph.limits.tasks)

-- the channels between so many processors, none of which sends to itself
module _ (code : List (List RawInstr)) (few : length code ≤ PROCESSORS) (apart : (p : ℕ) → p < length code → send_count code p p ≡ 0) where
  row_low : (p : ℕ) → p < length code → length (pairs_from code p) + 1 ≤ length code
  row_low p inside =
      let m = length code in
      let counted = length_pairs p in
      let ones = total_le m (λ q. one (nat_lt 0 (send_count code p q)) + where_true (nat_eq p q) 1) (λ q. 1) (λ q l. at_most q (nat_eq p q) refl) in
      let split = total_add m (λ q. one (nat_lt 0 (send_count code p q))) (λ q. where_true (nat_eq p q) 1) in
      let own = total_at m p 1 inside in
      let count = total_most m 1 (λ q. 1) (λ q l. omega arith) in
      omega (arith, counted, ones, split, own, count)
    where
      length_pairs : (p : ℕ) → length (pairs_from code p) ≡ total (length code) (λ q. one (nat_lt 0 (send_count code p q)))
      length_pairs p =
          length-map (filter (λ q. nat_lt 0 (send_count code p q)) (range_with_len 0 (length code))) (λ q. (p, q))
          ∙ length_sum (filter (λ q. nat_lt 0 (send_count code p q)) (range_with_len 0 (length code)))
          ∙ sum_filter (λ q. nat_lt 0 (send_count code p q)) (λ q. 1) (range_with_len 0 (length code))
          ∙ sum_range (length code) (λ q. one (nat_lt 0 (send_count code p q)))

      at_most : (q : ℕ) (b : Bool) → nat_eq p q ≡ b → one (nat_lt 0 (send_count code p q)) + where_true (nat_eq p q) 1 ≤ 1
      at_most q true e =
          let none = ap (λ k. one (nat_lt 0 (send_count code p k))) (sym (eqb-true p q e)) ∙ ap (λ k. one (nat_lt 0 k)) (apart p inside) in
          let own = ap (λ c. where_true c 1) e in
          omega (arith, none, own)
      at_most q false e =
          let own = ap (λ c. where_true c 1) e in omega (arith, own, one-low (nat_lt 0 (send_count code p q)))

  pub channels_low : length (channels_of code) ≤ CHANNELS
  channels_low =
      let m = length code in
      let same = length-map (pairs_of code) (channel_of code) in
      let rows = length-flat_map (pairs_from code) (range_with_len 0 m) ∙ sum_range m (λ p. length (pairs_from code p)) in
      let most = total_most m 63 (λ p. length (pairs_from code p)) (λ p l. let r = row_low p l in omega (arith, r, few)) in
      omega (arith, same, rows, most, few)

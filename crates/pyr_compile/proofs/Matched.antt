-- What is sent is received, from one sender; and each channel has room for its sends.
use Rattle.std.proofs.Common.{◌≡◌, ◌≢◌, ℕ, zero, suc, ◌+◌, ◌<◌, ◌≤◌, ◌&&◌, Bool, true, false, not, List, length, map, inl, inr, refl, sym, ap, ◌∙◌, subst, arith}
use Rattle.std.specs.Prelude.{nat_eq, sum_by, count_by, slice_index}
use Rattle.std.specs.List.{range_with_len}
use Rattle.std.proofs.lemmas.Bool.{cases_lt, eq-eqb, ne_eqb, eqb-true, and_parts, and_from, not-true, not_from_false}
use Rattle.pyr_seq.specs.Walk.{IsTopological}
use Rattle.pyr_graph.specs.declared.placement.Placement.{Placement}
use Rattle.pyr_graph.specs.System.{System, task_count, datum_count, writes_of, writer_of, IsEdge}
use Rattle.pyr_graph.specs.WholeGraph.{IsGraph}
use Rattle.pyr_graph.proofs.ListLemmas.{Contains-tested}
use Rattle.pyr_graph.specs.Placements.{processor_of}
use Rattle.pyr_rcp.specs.Order.{IsPlaced}
use Rattle.pyr_bundle.specs.declared.raw_instr.RawInstr.{RawInstr}
use Rattle.pyr_bundle.specs.declared.raw_instr.RawInstr.TheVariants.{Send}
use Rattle.pyr_bundle.specs.declared.instr.Instr.{Instr}
use Rattle.pyr_bundle.specs.Laws as laws
use Rattle.pyr_bundle.specs.Parts.{Parts, processor_count, code_at, instr_of}
use Rattle.pyr_machine.specs.Counts.{sum_below}
use Rattle.pyr_machine.specs.Schedule.{tally, is_receive, is_send, HasOneSender, IsMatched}
use Rattle.pyr_machine.proofs.Tallies.{sum_same}
use Rattle.pyr_emit.specs.Emission.{reads_it, writes_it, is_read_on, is_destination, code_on, codes}
use Rattle.pyr_emit.proofs.SumLemmas.{total, one, where_true, where-true, some_term, term_low, sum_range, sum_map}
use Rattle.pyr_emit.proofs.CountLemmas.{block_weight, code_weight, codes_weight, send_term, send_row, send_weight, term-tells, receive_row, row-says, receives_once, sends_once, task_below, home_below}
use Rattle.pyr_compile.proofs.Blocks.{tally_map, tally_counts}
use Rattle.pyr_compile.proofs.Before.{any_at, any_index, total_grows, datum_read, writer_place, sends_there, received_by}
use Rattle.pyr_compile.proofs.Ready.{same_receive, same_send, elsewhere}

-- the two sums below a bound are the same
sum_total : (n : ℕ) (f : ℕ → ℕ) → sum_below n f ≡ total n f
sum_total zero f = refl
sum_total (suc n) f = ap (λ k. k + f n) (sum_total n f)

module _ (s : System) (placement : Placement) (order : List ℕ) (graph : IsGraph s) (placed : IsPlaced s placement) (top : IsTopological (task_count s) (IsEdge s) order) where
  abbrev home : ℕ → ℕ
  home t = processor_of placement t

  abbrev task : ℕ → ℕ
  task i = slice_index order i

  -- the weight of sends, and of receives
  abbrev sending : ℕ → ℕ → RawInstr → ℕ
  sending p d x = one (laws.is_send p d x)

  abbrev row : ℕ → ℕ → ℕ → ℕ
  row p d = receive_row s placement order graph placed top p d

  -- how often p receives the datum, and how often it is sent there
  abbrev received : ℕ → ℕ → ℕ
  received p d = count_by (laws.is_receive d) (code_on s placement order p)

  abbrev sent : ℕ → ℕ → ℕ
  sent p d = sum_by (count_by (laws.is_send p d)) (codes s placement order)

  received_is : (p d : ℕ) → received p d ≡ total (length order) (row p d)
  received_is p d = code_weight s placement order (λ x. one (laws.is_receive d x)) p

  sent_is : (p d : ℕ) → sent p d ≡ total (length order) (block_weight s placement order (sending p d))
  sent_is p d = codes_weight s placement order (sending p d) (λ i l. home_below s placement order graph placed top (task i) (task_below s placement order graph placed top i l))

  -- the task that writes a datum is its writer
  is_writer : (i d : ℕ) → i < length order → writes_it s (task i) d ≡ true → task i ≡ writer_of s d
  is_writer i d inside writes = graph.one_writer d (task i) (task_below s placement order graph placed top i inside, Contains-tested d (writes_of s (task i)) writes)

  -- what a block sends
  record Sends (p d i : ℕ) : Type 0 where
    pub writes : writes_it s (task i) d ≡ true
    pub goes : is_destination s placement order (task i) d p ≡ true

  block_sends : (p d i : ℕ) → 1 ≤ block_weight s placement order (sending p d) i → Sends p d i
  block_sends p d i some =
      let weight = send_weight s placement order graph placed top p d i in
      let (e, e_in, column) = some_term (datum_count s) (send_row s placement order graph placed top p d (task i)) (omega (arith, some, weight)) in
      let (writes, terms) = where-true (writes_it s (task i) e) (total placement.processors (send_term s placement order graph placed top p d (task i) e)) column in
      let (r, r_in, term) = some_term placement.processors (send_term s placement order graph placed top p d (task i) e) terms in
      let (same_r, same_e) = term-tells s placement order graph placed top p d (task i) e r term in
      let (goes, is) = where-true (is_destination s placement order (task i) e r) (one (laws.is_send p d (Send r e))) term in
      record {
        writes = subst (λ k. writes_it s (task i) k ≡ true) same_e writes;
        goes = subst (λ k. is_destination s placement order (task i) d k ≡ true) same_r (subst (λ k. is_destination s placement order (task i) k r ≡ true) same_e goes);
      }

  -- what is received was sent
  sent_for : (p d : ℕ) → 1 ≤ received p d → 1 ≤ sent p d
  sent_for p d some =
      let (i, i_in, here) = some_term (length order) (row p d) (subst (λ n. 1 ≤ n) (received_is p d) some) in
      let (on, reads, awaited) = row-says s placement order graph placed top p d i here in
      let d_in = datum_read s placement order graph placed top (task i) d reads in
      let (j, j_in, same, writes) = writer_place s placement order graph placed top d d_in in
      let apart : p ≢ home (task j) = λ e. elsewhere s placement order graph placed top i d awaited (sym (ap home same) ∙ sym e ∙ sym on) in
      let there : is_read_on s placement order p d ≡ true = any_at (λ t. nat_eq (home t) p && reads_it s t d) order i i_in (and_from (nat_eq (home (task i)) p) (reads_it s (task i) d) (eq-eqb (home (task i)) p on) reads) in
      let goes = and_from (not (nat_eq p (home (task j)))) (is_read_on s placement order p d) (not_from_false (nat_eq p (home (task j))) (ne_eqb p (home (task j)) apart)) there in
      let p_in = subst (λ q. q < placement.processors) on (home_below s placement order graph placed top (task i) (task_below s placement order graph placed top i i_in)) in
      let block = sends_there s placement order graph placed top j d p d_in p_in (ap (λ t. writes_it s t d) same ∙ writes) goes in
      let term = term_low (length order) j (block_weight s placement order (sending p d)) j_in in
      omega (arith, block, term, sent_is p d)

  -- what is sent is received
  received_for : (p d : ℕ) → 1 ≤ sent p d → 1 ≤ received p d
  received_for p d some =
      let (i, i_in, here) = some_term (length order) (block_weight s placement order (sending p d)) (subst (λ n. 1 ≤ n) (sent_is p d) some) in
      let block : Sends p d i = block_sends p d i here in
      let writer : task i ≡ writer_of s d = is_writer i d i_in block.writes in
      let (other, there) = and_parts (not (nat_eq p (home (task i)))) (is_read_on s placement order p d) block.goes in
      let (k, k_in, is) = any_index (λ t. nat_eq (home t) p && reads_it s t d) order there in
      let (on, reads) = and_parts (nat_eq (home (task k)) p) (reads_it s (task k) d) is in
      let apart : home (writer_of s d) ≢ p = λ e. differ (home (task i)) p (not-true (nat_eq p (home (task i))) other) (ap home writer ∙ e) in
      let first = received_by s placement order graph placed top (suc k) k p d (omega arith) k_in (eqb-true (home (task k)) p on) reads apart in
      let more = total_grows (suc k) (length order) (row p d) (omega (arith, k_in)) in
      omega (arith, first, more, received_is p d)
    where
      differ : (a c : ℕ) → nat_eq c a ≡ false → a ≡ c → ⊥
      differ a c e same = let no' : true ≡ false = sym (eq-eqb c a (sym same)) ∙ e in cc

  pub sent_as_received : (p d : ℕ) → received p d ≡ sent p d
  sent_as_received p d = both (received p d) (sent p d) (receives_once s placement order graph placed top p d) (sends_once s placement order graph placed top p d) (sent_for p d) (received_for p d)
    where
      both : (m n : ℕ) → m ≤ 1 → n ≤ 1 → (1 ≤ m → 1 ≤ n) → (1 ≤ n → 1 ≤ m) → m ≡ n
      both m n a c f g = elim (cases_lt 0 m) [
        | inl some ↦ (let h = f (omega (arith, some)) in omega (arith, a, c, some, h))
        | inr none ↦ elim (cases_lt 0 n) [
          | inl some ↦ (let h = g (omega (arith, some)) in omega (arith, none, h))
          | inr also ↦ omega (arith, none, also)
        ]
      ]

  -- a datum is sent by the processor of its writer alone
  pub sender_is : (q p d : ℕ) → 1 ≤ count_by (laws.is_send p d) (code_on s placement order q) → q ≡ home (writer_of s d)
  sender_is q p d some =
      let rows : ℕ → ℕ = λ i. where_true (nat_eq (home (task i)) q) (block_weight s placement order (sending p d) i) in
      let (i, i_in, here) = some_term (length order) rows (subst (λ n. 1 ≤ n) (code_weight s placement order (sending p d) q) some) in
      let (on, block) = where-true (nat_eq (home (task i)) q) (block_weight s placement order (sending p d) i) here in
      sym (eqb-true (home (task i)) q on) ∙ ap home (is_writer i d i_in (block_sends p d i block).writes)

  module _ (b : Parts) (count : processor_count b ≡ placement.processors) (codes_are : (q : ℕ) → code_at b q ≡ map instr_of (code_on s placement order q)) where
    pub counted : (f : Instr → Bool) (g : RawInstr → Bool) → ((x : RawInstr) → f (instr_of x) ≡ g x) → (q : ℕ) → tally f (code_at b q) ≡ count_by g (code_on s placement order q)
    counted f g same q =
        ap (tally f) (codes_are q) ∙ tally_map f instr_of (code_on s placement order q)
        ∙ ap (λ (h : RawInstr → Bool). tally h (code_on s placement order q)) (λ i x. same x i)
        ∙ tally_counts g (code_on s placement order q)

    pub one_sender : HasOneSender b
    one_sender q r p d first second = from q first ∙ sym (from r second)
      where
        from : (k : ℕ) → 0 < tally (is_send p d) (code_at b k) → k ≡ home (writer_of s d)
        from k some = sender_is k p d (let e = counted (is_send p d) (laws.is_send p d) (same_send p d) k in omega (arith, some, e))

    pub matched : IsMatched b
    matched p d =
        counted (is_receive d) (laws.is_receive d) (same_receive d) p
        ∙ sent_as_received p d
        ∙ sum_map (count_by (laws.is_send p d)) (code_on s placement order) (range_with_len 0 placement.processors)
        ∙ sum_range placement.processors (λ q. count_by (laws.is_send p d) (code_on s placement order q))
        ∙ sym (sum_total placement.processors (λ q. count_by (laws.is_send p d) (code_on s placement order q)))
        ∙ ap (λ n. sum_below n (λ q. count_by (laws.is_send p d) (code_on s placement order q))) (sym count)
        ∙ sym (sum_same (processor_count b) (λ q. tally (is_send p d) (code_at b q)) (λ q. count_by (laws.is_send p d) (code_on s placement order q)) (λ q. counted (is_send p d) (laws.is_send p d) (same_send p d) q))

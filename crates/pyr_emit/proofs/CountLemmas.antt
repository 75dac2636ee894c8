-- How often an instruction stands in the codes of a plan.
use Rattle.std.proofs.Common.{◌≡◌, ℕ, zero, suc, ◌+◌, ◌<◌, ◌≤◌, ◌&&◌, ◌==◌, Bool, true, false, not, List, [], ◌∷◌, length, take, inl, inr, refl, sym, ap, ◌∙◌, subst, arith}
use Rattle.std.specs.Prelude.{nat_eq, sum_by, count_by, slice_index, Contains}
use Rattle.std.specs.List.{filter, list_any, range_with_len}
use Rattle.std.proofs.lemmas.Bool.{cases_order, eq-eqb, eqb-true, and_parts, and_from, not-true, or_left, or_right}
use Rattle.std.proofs.lemmas.Grind.{get_or_default_zero}
use Rattle.std.proofs.lemmas.List.Sums.{sum_by-cons, sum_by-append}
use Rattle.pyr_graph.specs.declared.placement.Placement.{Placement}
use Rattle.pyr_graph.specs.System.{System, task_count, datum_count, writes_of, writer_of, IsEdge}
use Rattle.pyr_graph.specs.WholeGraph.{IsGraph}
use Rattle.pyr_graph.proofs.ListLemmas.{Contains-tested}
use Rattle.pyr_seq.specs.Walk.{IsTopological}
use Rattle.pyr_graph.specs.Placements.{processor_of, same_processor}
use Rattle.pyr_rcp.specs.Order.{IsPlaced}
use Rattle.pyr_bundle.specs.declared.raw_instr.RawInstr.{RawInstr}
use Rattle.pyr_bundle.specs.declared.raw_instr.RawInstr.TheVariants.{Exec, Send}
use Rattle.pyr_bundle.specs.Laws.{is_exec, is_send, is_receive}
use Rattle.pyr_emit.specs.Emission.{reads_it, writes_it, data_read, data_written, is_read_on, is_awaited, receive_of, receives, is_destination, sends_of, sends, block_at, places_on, code_on, codes}
use Rattle.pyr_emit.proofs.SumLemmas.{total, one, where_true, one-low, one-true, where-true, where-low, total_same, total_none, total_swap, term_low, some_term, total_once, total_at, sum_range, sum_filter, sum_map, sum_pieces}

module _ (s : System) (placement : Placement) (order : List ℕ) where
  abbrev pub home : ℕ → ℕ
  home t = processor_of placement t

  abbrev pub task : ℕ → ℕ
  task i = slice_index order i

  -- what all instructions of a block weigh together
  abbrev pub block_weight : (RawInstr → ℕ) → ℕ → ℕ
  block_weight f i = sum_by f (block_at s placement order i)

  pub code_weight : (f : RawInstr → ℕ) (p : ℕ) → sum_by f (code_on s placement order p) ≡ total (length order) (λ i. where_true (nat_eq (home (task i)) p) (block_weight f i))
  code_weight f p =
      sum_pieces f (block_at s placement order) (places_on placement order p)
      ∙ sum_filter (λ i. nat_eq (home (task i)) p) (block_weight f) (range_with_len 0 (length order))
      ∙ sum_range (length order) (λ i. where_true (nat_eq (home (task i)) p) (block_weight f i))

  -- the codes weigh what the blocks weigh
  pub codes_weight : (f : RawInstr → ℕ) → ((i : ℕ) → i < length order → home (task i) < placement.processors)
      → sum_by (sum_by f) (codes s placement order) ≡ total (length order) (block_weight f)
  codes_weight f placed =
      sum_map (sum_by f) (code_on s placement order) (range_with_len 0 placement.processors)
      ∙ sum_range placement.processors (λ p. sum_by f (code_on s placement order p))
      ∙ total_same placement.processors (λ p. sum_by f (code_on s placement order p)) (λ p. total (length order) (λ i. where_true (nat_eq (home (task i)) p) (block_weight f i))) (λ p l. code_weight f p)
      ∙ total_swap placement.processors (length order) (λ p i. where_true (nat_eq (home (task i)) p) (block_weight f i))
      ∙ total_same (length order) (λ i. total placement.processors (λ p. where_true (nat_eq (home (task i)) p) (block_weight f i))) (block_weight f)
      (λ i l. total_at placement.processors (home (task i)) (block_weight f i) (placed i l))

  -- the weights of receives and of sends
  pub receives_weight : (f : RawInstr → ℕ) (earlier : List ℕ) (t : ℕ) → sum_by f (receives s placement earlier t)
      ≡ total (datum_count s) (λ d. where_true (reads_it s t d) (where_true (is_awaited s placement earlier t d) (f (receive_of s placement d))))
  receives_weight f earlier t =
      sum_map f (receive_of s placement) (filter (is_awaited s placement earlier t) (data_read s t))
      ∙ sum_filter (is_awaited s placement earlier t) (λ d. f (receive_of s placement d)) (data_read s t)
      ∙ sum_filter (reads_it s t) (λ d. where_true (is_awaited s placement earlier t d) (f (receive_of s placement d))) (range_with_len 0 (datum_count s))
      ∙ sum_range (datum_count s) (λ d. where_true (reads_it s t d) (where_true (is_awaited s placement earlier t d) (f (receive_of s placement d))))

  pub sends_of_weight : (f : RawInstr → ℕ) (t d : ℕ) → sum_by f (sends_of s placement order t d) ≡ total placement.processors (λ q. where_true (is_destination s placement order t d q) (f (Send q d)))
  sends_of_weight f t d =
      sum_map f (λ q. Send q d) (filter (is_destination s placement order t d) (range_with_len 0 placement.processors))
      ∙ sum_filter (is_destination s placement order t d) (λ q. f (Send q d)) (range_with_len 0 placement.processors)
      ∙ sum_range placement.processors (λ q. where_true (is_destination s placement order t d q) (f (Send q d)))

  pub sends_weight : (f : RawInstr → ℕ) (t : ℕ) → sum_by f (sends s placement order t)
      ≡ total (datum_count s) (λ d. where_true (writes_it s t d) (total placement.processors (λ q. where_true (is_destination s placement order t d q) (f (Send q d)))))
  sends_weight f t =
      sum_pieces f (sends_of s placement order t) (data_written s t)
      ∙ sum_filter (writes_it s t) (λ d. sum_by f (sends_of s placement order t d)) (range_with_len 0 (datum_count s))
      ∙ sum_range (datum_count s) (λ d. where_true (writes_it s t d) (sum_by f (sends_of s placement order t d)))
      ∙ total_same (datum_count s) (λ d. where_true (writes_it s t d) (sum_by f (sends_of s placement order t d))) _ (λ d l. ap (where_true (writes_it s t d)) (sends_of_weight f t d))

  pub block_parts : (f : RawInstr → ℕ) (i : ℕ) → block_weight f i ≡ sum_by f (receives s placement (take i order) (task i)) + (f (Exec (task i)) + sum_by f (sends s placement order (task i)))
  block_parts f i =
      sum_by-append f (receives s placement (take i order) (task i)) (Exec (task i) ∷ sends s placement order (task i))
      ∙ ap (λ k. sum_by f (receives s placement (take i order) (task i)) + k) (sum_by-cons f (Exec (task i)) (sends s placement order (task i)))

  -- where receives, or sends, weigh nothing
  pub no_receives : (f : RawInstr → ℕ) (earlier : List ℕ) (t : ℕ) → ((d : ℕ) → f (receive_of s placement d) ≡ 0) → sum_by f (receives s placement earlier t) ≡ 0
  no_receives f earlier t none =
      receives_weight f earlier t ∙ total_none (datum_count s) _ (λ d l. ap (λ k. where_true (reads_it s t d) (where_true (is_awaited s placement earlier t d) k)) (none d) ∙ nothing (reads_it s t d) (is_awaited s placement earlier t d))
    where
      nothing : (a b : Bool) → where_true a (where_true b 0) ≡ 0
      nothing true true = refl
      nothing true false = refl
      nothing false b = refl

  pub no_sends : (f : RawInstr → ℕ) (t : ℕ) → ((q d : ℕ) → f (Send q d) ≡ 0) → sum_by f (sends s placement order t) ≡ 0
  no_sends f t none =
      sends_weight f t ∙ total_none (datum_count s) _ (λ d l. ap (where_true (writes_it s t d)) (total_none placement.processors _ (λ q m. ap (where_true (is_destination s placement order t d q)) (none q d) ∙ nothing (is_destination s placement order t d q))) ∙ nothing (writes_it s t d))
    where
      nothing : (a : Bool) → where_true a 0 ≡ 0
      nothing true = refl
      nothing false = refl

  module _ (graph : IsGraph s) (placed : IsPlaced s placement) (top : IsTopological (task_count s) (IsEdge s) order) where
    pub task_below : (i : ℕ) → i < length order → task i < task_count s
    task_below i inside = top.tasks i 0 inside

    pub home_below : (t : ℕ) → t < task_count s → home t < placement.processors
    home_below t inside = placed.below t (record { 0 = 0 }) (omega (arith, placed.full))

    pub task_once : (i j : ℕ) → i < length order → j < length order → task i ≡ task j → i ≡ j
    task_once i j i_in j_in same = top.once i j (omega (arith, top.full)) (omega (arith, top.full)) same

    -- each task is executed once
    pub exec_weight : (t i : ℕ) → block_weight (λ x. one (is_exec t x)) i ≡ one (task i == t)
    exec_weight t i =
        block_parts (λ x. one (is_exec t x)) i
        ∙ zeros (no_receives (λ x. one (is_exec t x)) (take i order) (task i) (λ d. refl)) (no_sends (λ x. one (is_exec t x)) (task i) (λ q d. refl))
      where
        zeros : {a b c : ℕ} → a ≡ 0 → c ≡ 0 → a + (b + c) ≡ b
        zeros e f = omega (arith, e, f)

    pub execs_once : (t : ℕ) → t < task_count s → sum_by (count_by (is_exec t)) (codes s placement order) ≡ 1
    execs_once t inside =
        codes_weight (λ x. one (is_exec t x)) (λ i l. home_below (task i) (task_below i l))
        ∙ total_same (length order) (block_weight (λ x. one (is_exec t x))) (λ i. one (task i == t)) (λ i l. exec_weight t i)
        ∙ between (total_once (length order) 1 (λ i. one (task i == t)) (λ i l. one-low (task i == t))
        (λ i j l m a b. task_once i j l m (eqb-true (task i) t (one-true (task i == t) a) ∙ sym (eqb-true (task j) t (one-true (task j == t) b)))))
        (stands (top.each t inside))
      where
        between : {n : ℕ} → n ≤ 1 → 1 ≤ n → n ≡ 1
        between a b = omega (arith, a, b)

        stands : Contains order t → 1 ≤ total (length order) (λ i. one (task i == t))
        stands (i, i_in, here) =
            let e : one (task i == t) ≡ 1 = ap one (eq-eqb (task i) t (sym (get_or_default_zero order i t i_in) ∙ here)) in
            omega (arith, e, term_low (length order) i (λ k. one (task k == t)) i_in)

    -- one task at most writes a datum
    pub written_once : (d i j : ℕ) → i < length order → j < length order → writes_it s (task i) d ≡ true → writes_it s (task j) d ≡ true → i ≡ j
    written_once d i j i_in j_in a b =
        task_once i j i_in j_in
        (graph.one_writer d (task i) (task_below i i_in, Contains-tested d (writes_of s (task i)) a) ∙ sym (graph.one_writer d (task j) (task_below j j_in, Contains-tested d (writes_of s (task j)) b)))

    -- one send at most of a datum to a processor
    abbrev pub send_term : ℕ → ℕ → ℕ → ℕ → ℕ → ℕ
    send_term q d t e r = where_true (is_destination s placement order t e r) (one (is_send q d (Send r e)))

    pub term-tells : (q d t e r : ℕ) → 1 ≤ send_term q d t e r → (r ≡ q) × (e ≡ d)
    term-tells q d t e r h =
        let (_dest, some) = where-true (is_destination s placement order t e r) (one (r == q && e == d)) h in
        let (same_q, same_d) = and_parts (r == q) (e == d) (one-true (r == q && e == d) some) in
        (eqb-true r q same_q, eqb-true e d same_d)

    row_low : (q d t e : ℕ) → total placement.processors (send_term q d t e) ≤ 1
    row_low q d t e =
        total_once placement.processors 1 (send_term q d t e) (λ r l. where-low (is_destination s placement order t e r) (one (r == q && e == d)) 1 (one-low (r == q && e == d)))
        (λ i j l m a b. (term-tells q d t e i a).0 ∙ sym (term-tells q d t e j b).0)

    row-tells : (q d t e : ℕ) → 1 ≤ total placement.processors (send_term q d t e) → e ≡ d
    row-tells q d t e h =
        let (r, r_in, some) = some_term placement.processors (send_term q d t e) h in (term-tells q d t e r some).1

    abbrev pub send_row : ℕ → ℕ → ℕ → ℕ → ℕ
    send_row q d t e = where_true (writes_it s t e) (total placement.processors (send_term q d t e))

    sends_low : (q d t : ℕ) → total (datum_count s) (send_row q d t) ≤ 1
    sends_low q d t =
        total_once (datum_count s) 1 (send_row q d t) (λ e l. where-low (writes_it s t e) (total placement.processors (send_term q d t e)) 1 (row_low q d t e))
        (λ i j l m a b. row-tells q d t i (where-true (writes_it s t i) _ a).1 ∙ sym (row-tells q d t j (where-true (writes_it s t j) _ b).1))

    pub sends-tell : (q d t : ℕ) → 1 ≤ total (datum_count s) (send_row q d t) → writes_it s t d ≡ true
    sends-tell q d t h =
        let (e, e_in, some) = some_term (datum_count s) (send_row q d t) h in
        let (writes, row) = where-true (writes_it s t e) (total placement.processors (send_term q d t e)) some in
        subst (λ k. writes_it s t k ≡ true) (row-tells q d t e row) writes

    pub send_weight : (q d i : ℕ) → block_weight (λ x. one (is_send q d x)) i ≡ total (datum_count s) (send_row q d (task i))
    send_weight q d i =
        block_parts (λ x. one (is_send q d x)) i
        ∙ zeros (no_receives (λ x. one (is_send q d x)) (take i order) (task i) (λ e. refl)) (sends_weight (λ x. one (is_send q d x)) (task i))
      where
        zeros : {a b c : ℕ} → a ≡ 0 → b ≡ c → a + (0 + b) ≡ c
        zeros e f = omega (arith, e, f)

    pub sends_once : (q d : ℕ) → sum_by (count_by (is_send q d)) (codes s placement order) ≤ 1
    sends_once q d =
        subst (λ n. n ≤ 1) (sym (codes_weight (λ x. one (is_send q d x)) (λ i l. home_below (task i) (task_below i l))
        ∙ total_same (length order) (block_weight (λ x. one (is_send q d x))) (λ i. total (datum_count s) (send_row q d (task i))) (λ i l. send_weight q d i)))
        (total_once (length order) 1 (λ i. total (datum_count s) (send_row q d (task i))) (λ i l. sends_low q d (task i))
        (λ i j l m a b. written_once d i j l m (sends-tell q d (task i) a) (sends-tell q d (task j) b)))

    -- one receive at most of a datum on a processor
    abbrev pub receive_term : ℕ → ℕ → ℕ → ℕ
    receive_term d i e = where_true (reads_it s (task i) e) (where_true (is_awaited s placement (take i order) (task i) e) (one (e == d)))

    receive-tells : (d i e : ℕ) → 1 ≤ receive_term d i e → (e ≡ d) × (reads_it s (task i) e ≡ true) × (is_awaited s placement (take i order) (task i) e ≡ true)
    receive-tells d i e h =
        let (reads, rest) = where-true (reads_it s (task i) e) (where_true (is_awaited s placement (take i order) (task i) e) (one (e == d))) h in
        let (awaited, some) = where-true (is_awaited s placement (take i order) (task i) e) (one (e == d)) rest in
        (eqb-true e d (one-true (e == d) some), reads, awaited)

    receives_low : (d i : ℕ) → total (datum_count s) (receive_term d i) ≤ 1
    receives_low d i =
        total_once (datum_count s) 1 (receive_term d i) (λ e l. where-low (reads_it s (task i) e) _ 1 (where-low (is_awaited s placement (take i order) (task i) e) _ 1 (one-low (e == d))))
        (λ j k l m a b. (receive-tells d i j a).0 ∙ sym (receive-tells d i k b).0)

    pub receives-tell : (d i : ℕ) → 1 ≤ total (datum_count s) (receive_term d i) → (reads_it s (task i) d ≡ true) × (is_awaited s placement (take i order) (task i) d ≡ true)
    receives-tell d i h =
        let (e, e_in, some) = some_term (datum_count s) (receive_term d i) h in
        let (same, reads, awaited) = receive-tells d i e some in
        (subst (λ k. reads_it s (task i) k ≡ true) same reads, subst (λ k. is_awaited s placement (take i order) (task i) k ≡ true) same awaited)

    pub receive_weight : (d i : ℕ) → block_weight (λ x. one (is_receive d x)) i ≡ total (datum_count s) (receive_term d i)
    receive_weight d i =
        block_parts (λ x. one (is_receive d x)) i
        ∙ zeros (no_sends (λ x. one (is_receive d x)) (task i) (λ q e. refl)) (receives_weight (λ x. one (is_receive d x)) (take i order) (task i))
      where
        zeros : {a b c : ℕ} → b ≡ 0 → a ≡ c → a + (0 + b) ≡ c
        zeros e f = omega (arith, e, f)

    -- a task that comes earlier on a processor is found there
    pub found_earlier : (i j d p : ℕ) → i < j → j < length order → home (task i) ≡ p → reads_it s (task i) d ≡ true → is_read_on s placement (take j order) p d ≡ true
    found_earlier i j d p less inside on reads =
        any_in (λ u. nat_eq (home u) p && reads_it s u d) order j i less (omega (arith, inside)) (and_from (nat_eq (home (task i)) p) (reads_it s (task i) d) (eq-eqb (home (task i)) p on) reads)
      where
        any_in : (f : ℕ → Bool) (xs : List ℕ) (n k : ℕ) → k < n → n ≤ length xs → f (slice_index xs k) ≡ true → list_any f (take n xs) ≡ true
        any_in f [] n k l m e = absurd (omega (arith, l, m))
        any_in f (x ∷ xs) zero k l m e = absurd (omega (arith, l))
        any_in f (x ∷ xs) (suc n) zero l m e = or_left (f x) (list_any f (take n xs)) e
        any_in f (x ∷ xs) (suc n) (suc k) l m e = or_right (f x) (list_any f (take n xs)) (any_in f xs n k (omega (arith, l)) (omega (arith, m)) e)

    not_twice : (d p i j : ℕ) → i < j → j < length order → home (task i) ≡ p → home (task j) ≡ p → reads_it s (task i) d ≡ true → is_awaited s placement (take j order) (task j) d ≡ true → ⊥
    not_twice d p i j less inside on on' reads awaited =
        let (_elsewhere, none) = and_parts (not (same_processor placement (writer_of s d) (task j))) (not (is_read_on s placement (take j order) (home (task j)) d)) awaited in
        let is = subst (λ q. is_read_on s placement (take j order) q d ≡ true) (sym on') (found_earlier i j d p less inside on reads) in
        let isnt = not-true (is_read_on s placement (take j order) (home (task j)) d) none in
        let e : true ≡ false = sym is ∙ isnt in absurd (cc)

    abbrev pub receive_row : ℕ → ℕ → ℕ → ℕ
    receive_row p d i = where_true (nat_eq (home (task i)) p) (block_weight (λ x. one (is_receive d x)) i)

    abbrev pub Says : ℕ → ℕ → ℕ → Type 0
    Says p d i = (home (task i) ≡ p) × (reads_it s (task i) d ≡ true) × (is_awaited s placement (take i order) (task i) d ≡ true)

    pub row-says : (p d i : ℕ) → 1 ≤ receive_row p d i → (home (task i) ≡ p) × (reads_it s (task i) d ≡ true) × (is_awaited s placement (take i order) (task i) d ≡ true)
    row-says p d i h =
        let (on, some) = where-true (nat_eq (home (task i)) p) (block_weight (λ x. one (is_receive d x)) i) h in
        let (reads, awaited) = receives-tell d i (subst (λ n. 1 ≤ n) (receive_weight d i) some) in
        (eqb-true (home (task i)) p on, reads, awaited)

    pub receives_once : (p d : ℕ) → count_by (is_receive d) (code_on s placement order p) ≤ 1
    receives_once p d =
        subst (λ n. n ≤ 1) (sym (code_weight (λ x. one (is_receive d x)) p))
        (total_once (length order) 1 (receive_row p d) (λ i l. where-low (nat_eq (home (task i)) p) _ 1 (subst (λ n. n ≤ 1) (sym (receive_weight d i)) (receives_low d i)))
        (λ i j l m a b. same i j l m (row-says p d i a) (row-says p d j b)))
      where
        same : (i j : ℕ) → i < length order → j < length order → Says p d i → Says p d j → i ≡ j
        same i j l m a b = elim (cases_order i j) [
          | inl equal ↦ equal
          | inr (inl less) ↦ absurd (not_twice d p i j less m a.0 b.0 a.1 b.2)
          | inr (inr more) ↦ absurd (not_twice d p j i more l b.0 a.0 b.1 a.2)
        ]

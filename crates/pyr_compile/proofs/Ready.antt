-- Each instruction of a plan finds what it needs in those before it.
use Rattle.std.proofs.Common.{◌≡◌, ◌≢◌, ℕ, zero, suc, ◌+◌, ◌<◌, ◌≤◌, ◌==◌, ◌&&◌, Bool, true, false, cond, not, List, [], ◌∷◌, ◌++◌, append_assoc, length, map, take, All, inl, inr, ◌⊎◌, refl, sym, ap, ◌∙◌, subst, arith}
use Rattle.std.specs.Prelude.{nat_eq, sum_by, slice_index}
use Rattle.std.specs.List.{filter, flat_map, list_any, range_with_len}
use Rattle.std.proofs.lemmas.Bool.{eq-eqb, ne_eqb, and_parts, and_from, not-true, not_from_false}
use Rattle.std.proofs.lemmas.Bool.Decides.{eqb_tells}
use Rattle.std.proofs.lemmas.List.{map-append}
use Rattle.std.proofs.lemmas.List.Elements.{All-head, All-tail, All-map}
use Rattle.pyr_num.specs.declared.ids.DatumId.{DatumId}
use Rattle.pyr_seq.specs.Walk.{IsTopological}
use Rattle.pyr_graph.specs.declared.placement.Placement.{Placement}
use Rattle.pyr_graph.specs.System.{System, task_count, datum_count, writer_of, IsEdge}
use Rattle.pyr_graph.specs.WholeGraph.{IsGraph}
use Rattle.pyr_graph.specs.Placements.{processor_of, same_processor}
use Rattle.pyr_rcp.specs.Order.{IsPlaced}
use Rattle.pyr_bundle.specs.declared.raw_instr.RawInstr.{RawInstr}
use Rattle.pyr_bundle.specs.declared.raw_instr.RawInstr.TheVariants.{Recv, Exec, Send}
use Rattle.pyr_bundle.specs.declared.instr.Instr.{Instr}
use Rattle.pyr_bundle.specs.Laws as laws
use Rattle.pyr_bundle.specs.Parts.{Parts, processor_count, task_at, instr_of}
use Rattle.pyr_machine.specs.Schedule.{tally, is_receive, is_send, gives}
use Rattle.pyr_emit.specs.Emission.{reads_it, writes_it, data_read, data_written, is_read_on, is_awaited, receive_of, receives, is_destination, sends_of, sends}
use Rattle.pyr_emit.proofs.Ranges.{range_below, pieces_more}
use Rattle.pyr_emit.proofs.SumLemmas.{total, one, where_true, term_low}
use Rattle.pyr_emit.proofs.CountLemmas.{block_weight, code_weight, block_parts, no_sends, receive_row, receives_once, home_below, task_below}
use Rattle.pyr_emit.proofs.FineLemmas.{pieces_all, passing_all}
use Rattle.pyr_compile.proofs.Events.{Event, seen, AreReady, IsReadyAfter, tally_append, ready_append}
use Rattle.pyr_compile.proofs.Blocks.{event, block_events, events_below, seen_list, seen_below, in_block}
use Rattle.pyr_compile.proofs.Before.{any_at, datum_read, writer_before, sends_there, received_by}

-- the tests of typed instructions and of raw ones agree
pub same_receive : (d : ℕ) (x : RawInstr) → is_receive d (instr_of x) ≡ laws.is_receive d x
same_receive d (Recv from e) = refl
same_receive d (Exec t) = refl
same_receive d (Send to e) = refl

pub same_send : (q d : ℕ) (x : RawInstr) → is_send q d (instr_of x) ≡ laws.is_send q d x
same_send q d (Recv from e) = refl
same_send q d (Exec t) = refl
same_send q d (Send to e) = refl

-- more of a kind, and of a wider kind
seen_more : (p : ℕ) (f : Instr → Bool) (xs ys : List Event) → seen p f xs ≤ seen p f (xs ++ ys)
seen_more p f xs ys =
    let e = tally_append (λ (x : Event). (x.processor == p) && f x.instr) xs ys in omega (arith, e)

seen_wider : (p : ℕ) (f g : Instr → Bool) → ((x : Instr) → f x ≡ true → g x ≡ true) → (xs : List Event) → seen p f xs ≤ seen p g xs
seen_wider p f g wider [] = omega arith
seen_wider p f g wider (x ∷ xs) =
    let i = seen_wider p f g wider xs in
    let h = at (x.processor == p) (f x.instr) (g x.instr) (wider x.instr) in
    omega (arith, i, h)
  where
    at : (c u v : Bool) → (u ≡ true → v ≡ true) → cond (c && u) 1 0 ≤ cond (c && v) 1 0
    at false u v w = omega arith
    at true false v w = omega arith
    at true true v w = let e = w refl in rw e (omega arith)

gives_received : (b : Parts) (d : ℕ) (x : Instr) → is_receive d x ≡ true → gives b d x ≡ true
gives_received b d (Instr.Recv from e) h = h
gives_received b d (Instr.Exec t) h = absurd (let no' : false ≡ true = h in cc)
gives_received b d (Instr.Send to e) h = absurd (let no' : false ≡ true = h in cc)

module _ (s : System) (placement : Placement) (order : List ℕ) (graph : IsGraph s) (placed : IsPlaced s placement) (top : IsTopological (task_count s) (IsEdge s) order) where
  abbrev home : ℕ → ℕ
  home t = processor_of placement t

  abbrev task : ℕ → ℕ
  task i = slice_index order i

  abbrev below : ℕ → List Event
  below = events_below s placement order

  abbrev whole : List Event
  whole = events_below s placement order (length order)

  abbrev ev : ℕ → RawInstr → Event
  ev = event s placement order

  -- receives, and sends, in the first blocks
  pub receives_below : (p d m : ℕ) → seen p (is_receive d) (below m) ≡ total m (receive_row s placement order graph placed top p d)
  receives_below p d m =
      seen_below s placement order p (is_receive d) m
      ∙ ap (λ (g : RawInstr → Bool). total m (λ i. where_true (nat_eq (home (task i)) p) (block_weight s placement order (λ x. one (g x)) i))) (λ k x. same_receive d x k)

  pub sends_below : (q p d m : ℕ) → seen q (is_send p d) (below m) ≡ total m (λ i. where_true (nat_eq (home (task i)) q) (block_weight s placement order (λ x. one (laws.is_send p d x)) i))
  sends_below q p d m =
      seen_below s placement order q (is_send p d) m
      ∙ ap (λ (g : RawInstr → Bool). total m (λ i. where_true (nat_eq (home (task i)) q) (block_weight s placement order (λ x. one (g x)) i))) (λ k x. same_send p d x k)

  -- in all, a datum is received once at most
  received_once : (p d : ℕ) → seen p (is_receive d) whole ≤ 1
  received_once p d =
      subst (λ n. n ≤ 1) (sym (receives_below p d (length order) ∙ sym (code_weight s placement order (λ x. one (laws.is_receive d x)) p)))
      (receives_once s placement order graph placed top p d)

  -- what a block awaits was sent before
  sent_before : (i d : ℕ) → i < length order → reads_it s (task i) d ≡ true → home (writer_of s d) ≢ home (task i) → 0 < seen (home (writer_of s d)) (is_send (home (task i)) d) (below i)
  sent_before i d inside reads apart =
      let (j, j_in, same, writes) = writer_before s placement order graph placed top i d inside reads in
      let on : home (task j) ≡ home (writer_of s d) = ap home same in
      let p : ℕ = home (task i) in
      let read_here : is_read_on s placement order p d ≡ true =
      any_at (λ t. nat_eq (home t) p && reads_it s t d) order i inside (and_from (nat_eq (home (task i)) p) (reads_it s (task i) d) (eq-eqb p p refl) reads) in
      let goes : is_destination s placement order (task j) d p ≡ true =
      and_from (not (nat_eq p (home (task j)))) (is_read_on s placement order p d) (not_from_false (nat_eq p (home (task j))) (ne_eqb p (home (task j)) (λ e. apart (sym on ∙ sym e)))) read_here in
      let sent = sends_there s placement order graph placed top j d p (datum_read s placement order graph placed top (task i) d reads)
      (home_below s placement order graph placed top (task i) (task_below s placement order graph placed top i inside)) (ap (λ t. writes_it s t d) same ∙ writes) goes in
      let row : ℕ → ℕ = λ k. where_true (nat_eq (home (task k)) (home (writer_of s d))) (block_weight s placement order (λ x. one (laws.is_send p d x)) k) in
      let term = term_low i j row j_in in
      let here = ap (λ c. where_true c (block_weight s placement order (λ x. one (laws.is_send p d x)) j)) (eq-eqb (home (task j)) (home (writer_of s d)) on) in
      let sum = sends_below (home (writer_of s d)) p d i in
      omega (arith, sent, term, here, sum)

  -- what a block receives
  abbrev pub Awaited : ℕ → ℕ → Type 0
  Awaited i d = (d < datum_count s) × (reads_it s (task i) d ≡ true) × (is_awaited s placement (take i order) (task i) d ≡ true)

  awaited_all : (i : ℕ) → All (Awaited i) (filter (is_awaited s placement (take i order) (task i)) (data_read s (task i)))
  awaited_all i =
      passing_all (is_awaited s placement (take i order) (task i)) (λ d. (d < datum_count s) × (reads_it s (task i) d ≡ true)) (Awaited i) (data_read s (task i))
      (passing_all (reads_it s (task i)) (λ d. d < datum_count s) (λ d. (d < datum_count s) × (reads_it s (task i) d ≡ true)) (range_with_len 0 (datum_count s)) (range_below (datum_count s)) (λ d inside reads. (inside, reads)))
      (λ d known awaited. (known.0, known.1, awaited))

  pub elsewhere : (i d : ℕ) → is_awaited s placement (take i order) (task i) d ≡ true → home (writer_of s d) ≢ home (task i)
  elsewhere i d awaited same =
      let off = not-true (same_processor placement (writer_of s d) (task i)) (and_parts (not (same_processor placement (writer_of s d) (task i))) _ awaited).0 in
      let on = eq-eqb (home (writer_of s d)) (home (task i)) same in
      let no' : true ≡ false = sym on ∙ off in cc

  module _ (b : Parts) (count : processor_count b ≡ placement.processors) (reads_same : (t d : ℕ) → 0 < tally (λ (e : DatumId). e.0 == d) (task_at b t).reads → reads_it s t d ≡ true)
      (writes_same : (t d : ℕ) → list_any (λ (e : DatumId). e.0 == d) (task_at b t).writes ≡ writes_it s t d) where
    own : (i : ℕ) → i < length order → home (task i) < processor_count b
    own i inside = let l = home_below s placement order graph placed top (task i) (task_below s placement order graph placed top i inside) in omega (arith, l, count)

    ready_receives : (i : ℕ) → i < length order → (ds : List ℕ) (front tail : List Event) → All (Awaited i) ds → whole ≡ front ++ (map (ev (task i)) (map (receive_of s placement) ds) ++ tail)
        → ((q d : ℕ) → seen q (is_send (home (task i)) d) (below i) ≤ seen q (is_send (home (task i)) d) front) → AreReady b front (map (ev (task i)) (map (receive_of s placement) ds))
    ready_receives i inside [] front tail all is more = tt
    ready_receives i inside (d ∷ ds) front tail all is more =
        let (d_in, reads, awaited) = All-head (Awaited i) d ds all in
        let apart = elsewhere i d awaited in
        let w_in = home_below s placement order graph placed top (writer_of s d) (graph.some_writer d d_in).0 in
        let sent = sent_before i d inside reads apart in
        let grown = more (home (writer_of s d)) d in
        let e : Event = ev (task i) (receive_of s placement d) in
        let rest : List Event = map (ev (task i)) (map (receive_of s placement) ds) in
        let none = not_twice (home (task i)) d front (rest ++ tail) e is (and_from (home (task i) == home (task i)) (d == d) (eq-eqb (home (task i)) (home (task i)) refl) (eq-eqb d d refl)) in (
          own i inside,
          (omega (arith, w_in, count), omega (arith, sent, grown), none),
          ready_receives i inside ds (front ++ e ∷ []) tail (All-tail (Awaited i) d ds all) (is ∙ sym (append_assoc front (e ∷ []) (rest ++ tail)))
              (λ q f. let l = more q f in let m = seen_more q (is_send (home (task i)) f) front (e ∷ []) in omega (arith, l, m)),
        )
      where
        not_twice : (p f : ℕ) (before after : List Event) (x : Event) → whole ≡ before ++ x ∷ after → ((x.processor == p) && is_receive f x.instr) ≡ true → seen p (is_receive f) before ≡ 0
        not_twice p f before after x split here =
            let once = received_once p f in
            let parts = ap (seen p (is_receive f)) split ∙ tally_append (λ (y : Event). (y.processor == p) && is_receive f y.instr) before (x ∷ after) in
            let this = ap one here in
            omega (arith, once, parts, this)

    -- the data that a task writes are in the store once it has run
    gives_own : (t d : ℕ) → writes_it s t d ≡ true → gives b d (instr_of (Exec t)) ≡ true
    gives_own t d writes = writes_same t d ∙ writes

    -- what a task reads is there when it runs
    given : (i d : ℕ) → i < length order → reads_it s (task i) d ≡ true → 0 < seen (home (task i)) (gives b d) (below i ++ map (ev (task i)) (receives s placement (take i order) (task i)))
    given i d inside reads = at (eqb_tells (home (writer_of s d)) (home (task i)))
      where
        p : ℕ
        p = home (task i)

        received : List Event
        received = map (ev (task i)) (receives s placement (take i order) (task i))

        here : home (writer_of s d) ≡ p → 0 < seen p (gives b d) (below i ++ received)
        here same =
            let (j, j_in, is_writer, writes) = writer_before s placement order graph placed top i d inside reads in
            let f : RawInstr → ℕ = λ x. one (gives b d (instr_of x)) in
            let parts = block_parts s placement order f j in
            let exec : f (Exec (task j)) ≡ 1 = ap one (gives_own (task j) d (ap (λ t. writes_it s t d) is_writer ∙ writes)) in
            let term = term_low i j (in_block s placement order p (gives b d)) j_in in
            let on = ap (λ c. where_true c (block_weight s placement order f j)) (eq-eqb (home (task j)) p (ap home is_writer ∙ same)) in
            let sum = seen_below s placement order p (gives b d) i in
            let more = seen_more p (gives b d) (below i) received in
            omega (arith, parts, exec, term, on, sum, more)

        there : home (writer_of s d) ≢ p → 0 < seen p (gives b d) (below i ++ received)
        there apart =
            let f : RawInstr → ℕ = λ x. one (laws.is_receive d x) in
            let some = received_by s placement order graph placed top (suc i) i p d (omega arith) inside refl reads apart in
            let last = ap (λ c. where_true c (block_weight s placement order f i)) (eq-eqb p p refl) in
            let parts = block_parts s placement order f i in
            let none = no_sends s placement order f (task i) (λ q e. refl) in
            let first = receives_below p d i in
            let listed = seen_list s placement order p (is_receive d) (task i) (receives s placement (take i order) (task i))
            ∙ ap (λ c. where_true c (sum_by (λ x. one (is_receive d (instr_of x))) (receives s placement (take i order) (task i)))) (eq-eqb p p refl)
            ∙ ap (λ (g : RawInstr → Bool). sum_by (λ x. one (g x)) (receives s placement (take i order) (task i))) (λ k x. same_receive d x k) in
            let joined = tally_append (λ (x : Event). (x.processor == p) && is_receive d x.instr) (below i) received in
            let wider = seen_wider p (is_receive d) (gives b d) (gives_received b d) (below i ++ received) in
            omega (arith, some, last, parts, none, first, listed, joined, wider)

        at : (((home (writer_of s d) == p) ≡ true) × (home (writer_of s d) ≡ p)) ⊎ (((home (writer_of s d) == p) ≡ false) × (home (writer_of s d) ≢ p)) → 0 < seen p (gives b d) (below i ++ received)
        at (inl same) = here same.1
        at (inr apart) = there apart.1

    -- a send of a datum that t writes
    abbrev IsOwn : ℕ → RawInstr → Type 0
    IsOwn t (Recv from d) = ⊥
    IsOwn t (Exec u) = ⊥
    IsOwn t (Send to d) = writes_it s t d ≡ true

    sends_own : (t : ℕ) → All (IsOwn t) (sends s placement order t)
    sends_own t =
        pieces_all (IsOwn t) (sends_of s placement order t) (data_written s t)
        (passing_all (writes_it s t) (λ d. d < datum_count s) (λ d. All (IsOwn t) (sends_of s placement order t d)) (range_with_len 0 (datum_count s)) (range_below (datum_count s))
        (λ d inside writes. All-map (IsOwn t) (λ q. Send q d) (filter (is_destination s placement order t d) (range_with_len 0 placement.processors))
        (λ k e k_in. writes)))

    ready_sends : (i : ℕ) → i < length order → (xs : List RawInstr) (front : List Event) → All (IsOwn (task i)) xs
        → ((d : ℕ) → writes_it s (task i) d ≡ true → 0 < seen (home (task i)) (gives b d) front) → AreReady b front (map (ev (task i)) xs)
    ready_sends i inside [] front all there = tt
    ready_sends i inside (x ∷ xs) front all there = (
      own i inside,
      at x (All-head (IsOwn (task i)) x xs all),
      ready_sends i inside xs (front ++ ev (task i) x ∷ []) (All-tail (IsOwn (task i)) x xs all)
          (λ d writes. let l = there d writes in let m = seen_more (home (task i)) (gives b d) front (ev (task i) x ∷ []) in omega (arith, l, m)),
    )
      where
        at : (y : RawInstr) → IsOwn (task i) y → IsReadyAfter b front (home (task i)) (instr_of y)
        at (Recv from d) h = absurd h
        at (Exec u) h = absurd h
        at (Send to d) h = there d h

    ready_block : (i : ℕ) → i < length order → (tail : List Event) → whole ≡ below i ++ (block_events s placement order i ++ tail) → AreReady b (below i) (block_events s placement order i)
    ready_block i inside tail is =
        subst (AreReady b (below i)) (sym split)
        (ready_append b (below i) first (middle ∷ last)
        (ready_receives i inside (filter (is_awaited s placement (take i order) t) (data_read s t)) (below i) (middle ∷ last ++ tail) (awaited_all i)
        (is ∙ ap (λ l. below i ++ (l ++ tail)) split ∙ ap (λ l. below i ++ l) (append_assoc first (middle ∷ last) tail)) (λ q d. omega arith)) (
          own i inside,
          (λ d some. given i d.0 inside (reads_same t d.0 some)),
          ready_sends i inside (sends s placement order t) ((below i ++ first) ++ middle ∷ []) (sends_own t) ran,
        ))
      where
        t : ℕ
        t = task i

        first : List Event
        first = map (ev t) (receives s placement (take i order) t)

        middle : Event
        middle = ev t (Exec t)

        last : List Event
        last = map (ev t) (sends s placement order t)

        split : block_events s placement order i ≡ first ++ middle ∷ last
        split = map-append (ev t) (receives s placement (take i order) t) (Exec t ∷ sends s placement order t)

        ran : (d : ℕ) → writes_it s t d ≡ true → 0 < seen (home t) (gives b d) ((below i ++ first) ++ middle ∷ [])
        ran d writes =
            let parts = tally_append (λ (x : Event). (x.processor == home t) && gives b d x.instr) (below i ++ first) (middle ∷ []) in
            let this = ap one (and_from (home t == home t) (gives b d (instr_of (Exec t))) (eq-eqb (home t) (home t) refl) (gives_own t d writes)) in
            omega (arith, parts, this)

    -- the blocks from one on
    ready_from : (k m : ℕ) → m + k ≡ length order → whole ≡ below m ++ flat_map (block_events s placement order) (range_with_len m k) → AreReady b (below m) (flat_map (block_events s placement order) (range_with_len m k))
    ready_from zero m full is = tt
    ready_from (suc k) m full is =
        ready_append b (below m) (block_events s placement order m) (flat_map (block_events s placement order) (range_with_len (m + 1) k))
        (ready_block m (omega (arith, full)) (flat_map (block_events s placement order) (range_with_len (m + 1) k)) is)
        (subst (λ l. AreReady b l (flat_map (block_events s placement order) (range_with_len (m + 1) k))) next
        (ready_from k (m + 1) (omega (arith, full)) (is ∙ sym (append_assoc (below m) (block_events s placement order m) (flat_map (block_events s placement order) (range_with_len (m + 1) k))) ∙ ap (λ l. l ++ flat_map (block_events s placement order) (range_with_len (m + 1) k)) (sym next))))
      where
        next : below (m + 1) ≡ below m ++ block_events s placement order m
        next = pieces_more (block_events s placement order) m

    pub all_ready : AreReady b [] whole
    all_ready = ready_from (length order) 0 (omega arith) refl

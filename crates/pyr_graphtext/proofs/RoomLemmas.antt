-- The room that the lists of the tasks need.
use Rattle.std.proofs.Common.{◌≡◌, ℕ, zero, suc, ◌+◌, ◌<◌, ◌≤◌, max, List, [], ◌∷◌, ◌++◌, length, get_or, take, arith, below_more, refl, sym, ap, ◌∙◌}
use Rattle.std.specs.Prelude.{All}
use Rattle.std.proofs.lemmas.List.{length-replicate, length-map}
use Rattle.std.proofs.lemmas.List.Elements.{All-head, All-tail}
use Rattle.std.proofs.lemmas.List.Sums.{sum_by-cons}
use Rattle.pyr_num.specs.declared.ids.DatumId.{DatumId}
use Rattle.pyr_num.specs.Cells.{CellLists, word_count}
use Rattle.pyr_graph.specs.System.{System, datum_numbers, task_at, reads_of, writes_of, length_of}
use Rattle.pyr_graphtext.specs.Running.{words_of, inputs_from, zeros_for, lengths_of, HasRoom}

-- there is room for it where there is for all
pub inputs_room : (table : List (List ℕ)) (datums : List DatumId) (i : ℕ) (e : DatumId) → i < length datums
    → word_count (inputs_from table (datum_numbers (take i datums))) + length (words_of table (get_or datums i e).0) ≤ word_count (inputs_from table (datum_numbers datums))
inputs_room table [] i e inside = absurd (let no_place : i < 0 = inside in omega (arith, no_place))
inputs_room table (d ∷ ds) zero e inside = omega arith
inputs_room table (d ∷ ds) (suc i) e inside = omega (arith, inputs_room table ds i e (omega arith))

pub lengths_room : (graph : System) (datums : List DatumId) (i : ℕ) (e : DatumId) → i < length datums
    → lengths_of graph (datum_numbers (take i datums)) + length_of graph (get_or datums i e).0 ≤ lengths_of graph (datum_numbers datums)
lengths_room graph [] i e inside = absurd (let no_place : i < 0 = inside in omega (arith, no_place))
lengths_room graph (d ∷ ds) zero e inside = omega (arith, sum_by-cons (length_of graph) d.0 (datum_numbers ds))
lengths_room graph (d ∷ ds) (suc i) e inside =
    omega (arith, lengths_room graph ds i e (omega arith), sum_by-cons (length_of graph) d.0 (datum_numbers ds), sum_by-cons (length_of graph) d.0 (datum_numbers (take i ds)))

pub word_count-append : (xs ys : List (List ℕ)) → word_count (xs ++ ys) ≡ word_count xs + word_count ys
word_count-append [] ys = omega arith
word_count-append (x ∷ xs) ys = omega (arith, word_count-append xs ys)

pub word_count-zeros : (graph : System) (ds : List ℕ) → word_count (zeros_for graph ds) ≡ lengths_of graph ds
word_count-zeros graph [] = refl
word_count-zeros graph (d ∷ ds) =
    omega (arith, word_count-zeros graph ds, length-replicate {A = ℕ} (length_of graph d) 0, sum_by-cons (length_of graph) d ds)

-- data that have their words have as many as their lengths say
pub word_count-ready : (graph : System) (table : List (List ℕ)) (datums : List DatumId) → All (λ d. length (words_of table d.0) ≡ length_of graph d.0) datums
    → word_count (inputs_from table (datum_numbers datums)) ≡ lengths_of graph (datum_numbers datums)
word_count-ready graph table [] all = refl
word_count-ready graph table (d ∷ ds) all =
    let here = All-head (λ (d : DatumId). length (words_of table d.0) ≡ length_of graph d.0) d ds all in
    let rest = word_count-ready graph table ds (All-tail (λ (d : DatumId). length (words_of table d.0) ≡ length_of graph d.0) d ds all) in
    omega (arith, here, rest, sum_by-cons (length_of graph) d.0 (datum_numbers ds))

-- room for one list more
pub output_room : (graph : System) (datums : List DatumId) (i : ℕ) (e : DatumId) (before cells : CellLists) (n : ℕ) → i < length datums
    → cells ≡ record before { outputs = zeros_for graph (datum_numbers (take i datums)) }
    → word_count before.inputs + lengths_of graph (datum_numbers datums) ≤ before.word_room
    → n ≡ length_of graph (get_or datums i e).0 → word_count (cells.inputs ++ cells.outputs) + n ≤ cells.word_room
output_room graph datums i e before cells n inside same room is =
    let inputs : word_count cells.inputs ≡ word_count before.inputs = ap (λ (c : CellLists). word_count c.inputs) same in
    let outputs : word_count cells.outputs ≡ word_count (zeros_for graph (datum_numbers (take i datums))) = ap (λ (c : CellLists). word_count c.outputs) same in
    let rooms : cells.word_room ≡ before.word_room = ap (λ (c : CellLists). c.word_room) same in
    omega (arith, word_count-append cells.inputs cells.outputs, inputs, outputs, rooms, room, is, word_count-zeros graph (datum_numbers (take i datums)), lengths_room graph datums i e inside)

pub input_room : (table : List (List ℕ)) (datums : List DatumId) (i : ℕ) (e : DatumId) (before cells : CellLists) (list : List ℕ) → i < length datums
    → cells ≡ record before { inputs = inputs_from table (datum_numbers (take i datums)) }
    → word_count (inputs_from table (datum_numbers datums)) ≤ before.word_room
    → list ≡ words_of table (get_or datums i e).0 → word_count cells.inputs + length list ≤ cells.word_room
input_room table datums i e before cells list inside same room is =
    let inputs : word_count cells.inputs ≡ word_count (inputs_from table (datum_numbers (take i datums))) = ap (λ (c : CellLists). word_count c.inputs) same in
    let rooms : cells.word_room ≡ before.word_room = ap (λ (c : CellLists). c.word_room) same in
    let long : length list ≡ length (words_of table (get_or datums i e).0) = ap (λ (l : List ℕ). length l) is in
    omega (arith, inputs, rooms, long, room, inputs_room table datums i e inside)

-- room for each task below a number
pub record HasRoomBelow (graph : System) (n slots words : ℕ) : Type 0 where
  pub slots_fit : (t : ℕ) → t < n → length (reads_of graph t) + length (writes_of graph t) ≤ slots
  pub words_fit : (t : ℕ) → t < n
      → lengths_of graph (reads_of graph t) + lengths_of graph (writes_of graph t) ≤ words

-- room for each task below the next number: that of a task more where it needs more
pub room_more : (graph : System) (n slots words more_slots more_words : ℕ) (reads writes : List DatumId) (read_words written_words : ℕ) → HasRoomBelow graph n slots words
    → reads ≡ (task_at graph n).reads → writes ≡ (task_at graph n).writes
    → read_words ≡ lengths_of graph (datum_numbers reads) → written_words ≡ lengths_of graph (datum_numbers writes)
    → more_slots ≡ max slots (length reads + length writes) → more_words ≡ max words (read_words + written_words)
    → HasRoomBelow graph (n + 1) more_slots more_words
room_more graph n slots words more_slots more_words reads writes read_words written_words room same_reads same_writes sum_reads sum_writes most_slots most_words =
    let many_reads : length reads ≡ length (reads_of graph n) = ap (λ (ds : List DatumId). length ds) same_reads ∙ sym (length-map (task_at graph n).reads (λ (d : DatumId). d.0)) in
    let many_writes : length writes ≡ length (writes_of graph n) = ap (λ (ds : List DatumId). length ds) same_writes ∙ sym (length-map (task_at graph n).writes (λ (d : DatumId). d.0)) in
    let long_reads : read_words ≡ lengths_of graph (reads_of graph n) = sum_reads ∙ ap (λ (ds : List DatumId). lengths_of graph (datum_numbers ds)) same_reads in
    let long_writes : written_words ≡ lengths_of graph (writes_of graph n) = sum_writes ∙ ap (λ (ds : List DatumId). lengths_of graph (datum_numbers ds)) same_writes in
    record {
      slots_fit = below_more _ _ (λ t h. omega (arith, room.slots_fit t h, most_slots)) (omega (arith, most_slots, many_reads, many_writes));
      words_fit = below_more _ _ (λ t h. omega (arith, room.words_fit t h, most_words)) (omega (arith, most_words, long_reads, long_writes));
    }

-- room under other names
pub room_moved : (graph : System) (slots words more_slots more_words : ℕ) → more_slots ≡ slots → more_words ≡ words → HasRoom graph slots words → HasRoom graph more_slots more_words
room_moved graph slots words more_slots more_words same_slots same_words room = record {
  slots_fit = λ t t_in. omega (arith, room.slots_fit t t_in);
  words_fit = λ t t_in. omega (arith, room.words_fit t t_in);
}

-- The outputs, copied one after another from the homes of the printed data.
use Rattle.std.proofs.Common.{◌≡◌, ◌≢◌, ℕ, ◌+◌, ◌<◌, ◌≤◌, ◌==◌, true, false, List, [], ◌∷◌, ◌++◌, length, get_or, take, sym, ap, subst, ◌∙◌, arith, inl, inr, ◌⊎◌}
use Rattle.std.specs.Prelude.{slice_set, replicate}
use Rattle.std.proofs.lemmas.Bool.Decides.{eqb_tells}
use Rattle.std.proofs.lemmas.List.{length-map, length-set, length-replicate, map-append, take_more, get_or-map, get_or-set_same, get_or-set_other, ext_get_or}
use Rattle.std.proofs.lemmas.Option.{slice_get_read}
use Rattle.pyr_num.specs.declared.ids.DatumId.{DatumId}
use Rattle.pyr_num.specs.declared.ids.ProcId.{ProcId}
use Rattle.pyr_seq.specs.Sequential.{value_of}
use Rattle.pyr_bundle.specs.Parts.{Parts, IsBundle, processor_count, datum_count, datum_id, length_of, task_id}
use Rattle.pyr_bundle.specs.declared.instr.Instr.TheVariants.{Exec}
use Rattle.pyr_bundle.specs.Values.{IsOrderOf, tasks_of, printed, zeros}
use Rattle.pyr_machine.specs.Good.{print_at, Prints}
use Rattle.pyr_machine.specs.State.{numbers}
use Rattle.pyr_machine.proofs.Output.{print_number, stands_within, known_print}
use Rattle.pyr_proc.specs.Seated.{Seated, IsAtEnd}
use Rattle.pyr_proc.specs.Laws.{HasValue, EndsHaveValues}
use Rattle.pyr_team.specs.Team.{HasRunAs, HaveRun}
use Rattle.pyr_team.specs.Homes.{IsHome, IsValue, list_at, AreCopied}
use Rattle.pyr_team.proofs.HomeLemmas.{below_or_last}

-- a processor of a team that has run stands at the end of its local run
pub at_end : (b : Parts) (p : ℕ) (t : Seated) → HasRunAs b p t → IsAtEnd b 0 p t.local
at_end b p t r =
    subst (λ n. IsAtEnd b 0 n t.local) r.fresh.number (subst (λ c. IsAtEnd c 0 r.start.number t.local) r.fresh.bundle r.ran.local)

-- so it has the value of each datum that it is the home of
pub home_has : (b : Parts) (ran : List Seated) (p : ProcId) (d : ℕ) (t : Seated) (order : List ℕ) → IsBundle b → EndsHaveValues → HaveRun b ran → t ≡ get_or ran p.0 t → IsHome b d p → IsOrderOf b 0 order → HasValue b 0 order t.local d
home_has b ran p d t order is ends team at (i, task, exec, writes) top =
    let known = stands_within b p.0 i (Exec (task_id task)) exec in
    let there = slice_get_read ran (processor_count b) p.0 t (sym team.count) known at in
    ends b 0 order p.0 i task d t.local is top (at_end b p.0 t (team.each p.0 t there)) exec writes

-- a list of zeros more
pub zeros_more : (b : Parts) (ds : List DatumId) (lists new : List (List ℕ)) (i n : ℕ) (x : DatumId) → i < length ds → n ≡ length_of b (get_or ds i x).0 → lists ≡ zeros b (numbers (take i ds)) → new ≡ lists ++ replicate n 0 ∷ []
    → new ≡ zeros b (numbers (take (i + 1) ds))
zeros_more b ds lists new i n x l w e grown =
    grown
    ∙ ap (λ v. v ++ replicate n 0 ∷ []) e
    ∙ ap (λ k. zeros b (numbers (take i ds)) ++ replicate k 0 ∷ []) w
    ∙ sym (map-append (λ d. replicate (length_of b d) 0) (numbers (take i ds)) ((get_or ds i x).0 ∷ []))
    ∙ ap (zeros b) (sym (map-append (λ (d : DatumId). d.0) (take i ds) (get_or ds i x ∷ [])))
    ∙ ap (λ (es : List DatumId). zeros b (numbers es)) (sym (take_more ds i x l))

-- lists of zeros, one for each print
pub zeros_are : (b : Parts) (lists : List (List ℕ)) → lists ≡ zeros b (numbers b.prints) → AreCopied b 0 lists
zeros_are b lists e = record { count = count; lengths = lengths; values = λ i l. absurd (omega arith) }
  where
    ids : length (numbers b.prints) ≡ length b.prints
    ids = length-map b.prints (λ (d : DatumId). d.0)

    zeros_of : ℕ → List ℕ
    zeros_of d = replicate (length_of b d) 0

    count : length lists ≡ length b.prints
    count = ap (λ (v : List (List ℕ)). length v) e ∙ length-map (numbers b.prints) zeros_of ∙ ids

    lengths : (i : ℕ) → i < length b.prints → length (list_at lists i) ≡ length_of b (print_at b i)
    lengths i l =
        ap (λ (v : List (List ℕ)). length (list_at v i)) e
        ∙ ap (λ (v : List ℕ). length v) (get_or-map zeros_of (numbers b.prints) i 0 [] (let n = ids in omega arith))
        ∙ ap (λ d. length (zeros_of d)) (print_number b i l)
        ∙ length-replicate (length_of b (print_at b i)) 0

-- one list more is copied
pub copied_more : (b : Parts) (n : ℕ) (lists new : List (List ℕ)) (words : List ℕ) → n < length b.prints → AreCopied b n lists → IsValue b (print_at b n) words → length words ≡ length_of b (print_at b n) → new ≡ slice_set lists n words
    → AreCopied b (n + 1) new
copied_more b n lists new words l h value len is = record {
  count = ap (λ (v : List (List ℕ)). length v) is ∙ length-set lists n words ∙ h.count;
  lengths = λ i m. length_of_list i m (eqb_tells i n);
  values = λ i m. value_of_list i (below_or_last i n m);
}
  where
    at_n : list_at new n ≡ words
    at_n = ap (λ (v : List (List ℕ)). list_at v n) is ∙ get_or-set_same lists n words [] (let c = h.count in omega arith)

    other : (i : ℕ) → i ≢ n → list_at new i ≡ list_at lists i
    other i ne = ap (λ (v : List (List ℕ)). list_at v i) is ∙ get_or-set_other lists n i words [] ne

    length_of_list : (i : ℕ) → i < length b.prints → (((i == n) ≡ true) × (i ≡ n)) ⊎ (((i == n) ≡ false) × (i ≢ n)) → length (list_at new i) ≡ length_of b (print_at b i)
    length_of_list i m (inl e) = subst (λ k. length (list_at new k) ≡ length_of b (print_at b k)) (sym e.1) (ap (λ (v : List ℕ). length v) at_n ∙ len)
    length_of_list i m (inr e) = ap (λ (v : List ℕ). length v) (other i e.1) ∙ h.lengths i m

    value_of_list : (i : ℕ) → (i < n) ⊎ (i ≡ n) → IsValue b (print_at b i) (list_at new i)
    value_of_list i (inl m) = subst (IsValue b (print_at b i)) (sym (other i (λ e. absurd (omega arith)))) (h.values i m)
    value_of_list i (inr e) = subst (λ k. IsValue b (print_at b k) (list_at new k)) (sym e) (subst (IsValue b (print_at b n)) (sym at_n) value)

-- all of them are what the bundle prints
pub copied_all : (b : Parts) (n : ℕ) (lists : List (List ℕ)) → length b.prints ≤ n → AreCopied b n lists → Prints b 0 lists
copied_all b n lists all h order top = ext_get_or [] lists (printed b 0 order) count each
  where
    ids : length (numbers b.prints) ≡ length b.prints
    ids = length-map b.prints (λ (d : DatumId). d.0)

    count : length lists ≡ length (printed b 0 order)
    count = h.count ∙ sym ids ∙ sym (length-map (numbers b.prints) (value_of (tasks_of b 0) order))

    each : (i : ℕ) → i < length lists → get_or lists i [] ≡ get_or (printed b 0 order) i []
    each i l =
        let c = h.count in
        let m : i < length b.prints = omega arith in
        h.values i (omega arith) order top
        ∙ ap (value_of (tasks_of b 0) order) (sym (print_number b i m))
        ∙ sym (get_or-map (value_of (tasks_of b 0) order) (numbers b.prints) i 0 [] (let k = ids in omega arith))

-- a printed datum exists
pub known_at : (b : Parts) (ds : List DatumId) (i : ℕ) → IsBundle b → ds ≡ b.prints → i < length ds → (get_or ds i (datum_id 0)).0 < datum_count b
known_at b ds i is e l =
    subst (λ (v : List DatumId). (get_or v i (datum_id 0)).0 < datum_count b) (sym e) (known_print b i is (let n = ap (λ (v : List DatumId). length v) e in omega arith))

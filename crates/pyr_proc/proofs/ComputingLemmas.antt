-- Executing a task on the entries of a store.
use Rattle.std.proofs.Common.{◌≡◌, ℕ, zero, suc, ◌+◌, ◌<◌, ◌≤◌, Bool, true, List, [], ◌∷◌, ◌++◌, length, map, take, drop, add-one, get_or, set, ◌⊎◌, inl, inr, refl, sym, ◌∙◌, ap, subst, arith}
use Rattle.std.specs.Prelude.{sum_by, Contains}
use Rattle.std.specs.List.{list_all}
use Rattle.std.proofs.lemmas.Bool.{and_parts}
use Rattle.std.proofs.lemmas.List.{take_more, take_all, map-append, get_or_default, length-set, length-map}
use Rattle.std.proofs.lemmas.List.Elements.{Contains-get_or}
use Rattle.std.proofs.Math.ListN.{get_or-map}
use Rattle.std.proofs.Math.Seq.{drop-cons}
use Rattle.pyr_num.specs.Cells.{CellLists, word_count, list_at}
use Rattle.pyr_num.specs.declared.ids.DatumId.{DatumId}
use Rattle.pyr_num.specs.declared.parcel.Parcel.{Parcel}
use Rattle.pyr_bundle.specs.Parts.{Parts, datum_count, task_at, length_of}
use Rattle.pyr_bundle.specs.WellFormed.{reads_of, writes_of}
use Rattle.pyr_machine.specs.Machine.{holds, all_stored}
use Rattle.pyr_machine.specs.Parcels.{parcel_tag, words_in, paired}
use Rattle.pyr_machine.specs.Station.{AllBelow}
use Rattle.pyr_machine.specs.State.{numbers, task_words}
use Rattle.pyr_machine.proofs.ComputeLemmas.{sum_more, sum_part}
use Rattle.std.proofs.lemmas.List.Sums.{sum_by-cons}
use Rattle.pyr_proc.specs.declared.entry.Entry.{Entry}
use Rattle.pyr_proc.specs.Entries.{store_of, entry, no_entry, entry_at}
use Rattle.pyr_proc.specs.Computing.{size_at, AreSized, FillsIn}
use Rattle.pyr_proc.proofs.EntryLemmas.{holds-store, words-store, stored-store}

-- what holds of all holds of each
pub all_at : (f : DatumId → Bool) (ds : List DatumId) (i : ℕ) (x : DatumId) → list_all f ds ≡ true → i < length ds → f (get_or ds i x) ≡ true
all_at f [] i x h l = absurd (omega arith)
all_at f (d ∷ ds) zero x h l = (and_parts (f d) (list_all f ds) h).0
all_at f (d ∷ ds) (suc i) x h l = all_at f ds i x (and_parts (f d) (list_all f ds) h).1 (omega arith)

-- these data are in the store, and have their lengths there
pub record AreThere (b : Parts) (ds : List DatumId) (es : List Entry) : Type 0 where
  pub sized : AreSized b es
  pub known : AllBelow (datum_count b) ds
  pub held : list_all (λ (d : DatumId). holds parcel_tag d.0 (store_of es)) ds ≡ true

-- an entry that was read of one of them
pub read_entry : (b : Parts) (ds : List DatumId) (es : List Entry) (i : ℕ) (x : DatumId) (y : Entry) → AreThere b ds es → i < length ds →
    ((get_or es (get_or ds i x).0 y).words ≡ words_in (get_or ds i x).0 (store_of es)) × (length (get_or es (get_or ds i x).0 y).words ≡ length_of b (get_or ds i x).0)
read_entry b ds es i x y there l =
    let n = (get_or ds i x).0 in
    let known : n < datum_count b = there.known i x l in
    let is : get_or es n y ≡ entry_at es n = get_or_default es n y no_entry (let c = there.sized.count in omega arith) in
    let held : (entry_at es n).held ≡ true = sym (holds-store n es) ∙ all_at (λ (d : DatumId). holds parcel_tag d.0 (store_of es)) ds i x there.held l in (
      ap (λ (z : Entry). z.words) is ∙ sym (words-store n es held),
      ap (λ (z : Entry). length z.words) is ∙ there.sized.held n known held,
    )

-- the words of the first of them
pub words_part : (b : Parts) (ds : List DatumId) (es : List Entry) (i : ℕ) → AreSized b es → AllBelow (datum_count b) ds → list_all (λ (d : DatumId). holds parcel_tag d.0 (store_of es)) ds ≡ true →
    word_count (map (λ d. words_in d (store_of es)) (numbers (take i ds))) ≡ sum_by (length_of b) (numbers (take i ds))
words_part b [] es zero sized known h = refl
words_part b [] es (suc i) sized known h = refl
words_part b (d ∷ ds) es zero sized known h = refl
words_part b (d ∷ ds) es (suc i) sized known h =
    let parts = and_parts (holds parcel_tag d.0 (store_of es)) (list_all (λ (x : DatumId). holds parcel_tag x.0 (store_of es)) ds) h in
    let held : (entry_at es d.0).held ≡ true = sym (holds-store d.0 es) ∙ parts.0 in
    let e : length (words_in d.0 (store_of es)) ≡ length_of b d.0 = ap (λ (ws : List ℕ). length ws) (words-store d.0 es held) ∙ sized.held d.0 (known zero d (omega arith)) held in
    let rest = words_part b ds es i sized (λ k x l. known (suc k) x (omega arith)) parts.1 in
    let s = sum_by-cons (length_of b) d.0 (numbers (take i ds)) in
    omega arith

-- there is room for one input more
pub input_fits : (b : Parts) (c0 c1 : CellLists) (es : List Entry) (ds : List DatumId) (i : ℕ) (x : DatumId) (ws : List ℕ) → AreThere b ds es → i < length ds → length ws ≡ length_of b (get_or ds i x).0 →
    c1 ≡ record c0 { inputs = map (λ d. words_in d (store_of es)) (numbers (take i ds)) } → sum_by (length_of b) (numbers ds) ≤ c0.word_room → word_count c1.inputs + length ws ≤ c1.word_room
input_fits b c0 c1 es ds i x ws there l w e room =
    let a : word_count c1.inputs ≡ word_count (map (λ d. words_in d (store_of es)) (numbers (take i ds))) = ap (λ (c : CellLists). word_count c.inputs) e in
    let r : c1.word_room ≡ c0.word_room = ap (λ (c : CellLists). c.word_room) e in
    let p = words_part b ds es i there.sized there.known there.held in
    let m = sum_more (length_of b) ds i x l in
    let q = sum_part (length_of b) ds (i + 1) in
    omega arith

-- one input more
pub load_more : (f : ℕ → List ℕ) (c0 c1 c2 : CellLists) (ds : List DatumId) (i : ℕ) (x : DatumId) (ws : List ℕ) → i < length ds → ws ≡ f (get_or ds i x).0 →
    c1 ≡ record c0 { inputs = map f (numbers (take i ds)) } → c2 ≡ record c1 { inputs = c1.inputs ++ ws ∷ [] } → c2 ≡ record c0 { inputs = map f (numbers (take (i + 1) ds)) }
load_more f c0 c1 c2 ds i x ws l w e g =
    g ∙ (λ j. record { slot_room = (e j).slot_room; word_room = (e j).word_room; inputs = inputs j; outputs = (e j).outputs })
  where
    inputs : c1.inputs ++ ws ∷ [] ≡ map f (numbers (take (i + 1) ds))
    inputs =
        ap (λ (c : CellLists). c.inputs ++ ws ∷ []) e
        ∙ ap (λ (v : List ℕ). map f (numbers (take i ds)) ++ v ∷ []) w
        ∙ sym (map-append f (numbers (take i ds)) ((get_or ds i x).0 ∷ []))
        ∙ ap (map f) (sym (map-append (λ (d : DatumId). d.0) (take i ds) (get_or ds i x ∷ [])))
        ∙ ap (λ (es : List DatumId). map f (numbers es)) (sym (take_more ds i x l))

-- what a task reads and writes has room
pub task_fits : (b : Parts) (t : ℕ) (c0 c1 : CellLists) (es : List Entry) (reads writes : List DatumId) → AreThere b reads es → reads ≡ (task_at b t).reads → writes ≡ (task_at b t).writes →
    task_words b t ≤ c0.word_room → c1.inputs ≡ map (λ d. words_in d (store_of es)) (numbers reads) → c1.word_room ≡ c0.word_room → word_count c1.inputs + sum_by (length_of b) (numbers writes) ≤ c1.word_room
task_fits b t c0 c1 es reads writes there e f room i same =
    let a : word_count c1.inputs ≡ word_count (map (λ d. words_in d (store_of es)) (numbers reads)) = ap word_count i in
    let w = words_all b reads es there in
    let r : sum_by (length_of b) (numbers reads) ≡ sum_by (length_of b) (reads_of b t) = ap (λ (ds : List DatumId). sum_by (length_of b) (numbers ds)) e in
    let s : sum_by (length_of b) (numbers writes) ≡ sum_by (length_of b) (writes_of b t) = ap (λ (ds : List DatumId). sum_by (length_of b) (numbers ds)) f in
    omega arith
  where
    words_all : (b : Parts) (ds : List DatumId) (es : List Entry) → AreThere b ds es → word_count (map (λ d. words_in d (store_of es)) (numbers ds)) ≡ sum_by (length_of b) (numbers ds)
    words_all b ds es there =
        let all : take (length ds) ds ≡ ds = take_all (length ds) ds (omega arith) in
        subst (λ (xs : List DatumId). word_count (map (λ d. words_in d (store_of es)) (numbers xs)) ≡ sum_by (length_of b) (numbers xs)) all (words_part b ds es (length ds) there.sized there.known there.held)

-- the size of a datum's entry, after another write
pub size-set : (es : List Entry) (n d : ℕ) (ws : List ℕ) → length ws ≡ size_at es n → size_at (set es n (entry ws)) d ≡ size_at es d
size-set [] n d ws e = refl
size-set (x ∷ es) zero zero ws e = e
size-set (x ∷ es) zero (suc d) ws e = refl
size-set (x ∷ es) (suc n) zero ws e = refl
size-set (x ∷ es) (suc n) (suc d) ws e = size-set es n d ws e

pub held-set : (es : List Entry) (n d : ℕ) (x : Entry) → (entry_at (set es n x) d).held ≡ true → ((entry_at es d).held ≡ true) ⊎ (d ≡ n)
held-set [] n d x h = inl h
held-set (y ∷ es) zero zero x h = inr refl
held-set (y ∷ es) zero (suc d) x h = inl h
held-set (y ∷ es) (suc n) zero x h = inl h
held-set (y ∷ es) (suc n) (suc d) x h = next (held-set es n d x h)
  where
    next : ((entry_at es d).held ≡ true) ⊎ (d ≡ n) → ((entry_at es d).held ≡ true) ⊎ (suc d ≡ suc n)
    next (inl h) = inl h
    next (inr e) = inr (ap suc e)

-- nothing is filled in yet
pub fills_none : (ds : List DatumId) (es : List Entry) → FillsIn ds es es
fills_none ds es = record { count = refl; sizes = λ d. refl; held = λ d h. inl h }

pub contains_at : (ds : List DatumId) (i : ℕ) (x : DatumId) → i < length ds → Contains (numbers ds) (get_or ds i x).0
contains_at ds i x l = subst (Contains (numbers ds)) (get_or-map (λ (d : DatumId). d.0) ds i x) (Contains-get_or (numbers ds) i x.0 (let k = length-map ds (λ (d : DatumId). d.0) in omega arith))

-- one datum more is filled in
pub fills_more : (ds : List DatumId) (old es : List Entry) (i : ℕ) (x : DatumId) (ws : List ℕ) → i < length ds → length ws ≡ size_at es (get_or ds i x).0 → FillsIn ds old es → FillsIn ds old (set es (get_or ds i x).0 (entry ws))
fills_more ds old es i x ws l e f = record {
  count = length-set es (get_or ds i x).0 (entry ws) ∙ f.count;
  sizes = λ d. size-set es (get_or ds i x).0 d ws e ∙ f.sizes d;
  held = λ d h. at d (held-set es (get_or ds i x).0 d (entry ws) h);
}
  where
    at : (d : ℕ) → ((entry_at es d).held ≡ true) ⊎ (d ≡ (get_or ds i x).0) → ((entry_at old d).held ≡ true) ⊎ Contains (numbers ds) d
    at d (inl h) = f.held d h
    at d (inr e) = inr (subst (Contains (numbers ds)) (sym e) (contains_at ds i x l))

-- the sizes of the outputs
pub output_size : (ds : List DatumId) (old es : List Entry) (lists : List (List ℕ)) (i : ℕ) (x : DatumId) → map length lists ≡ map (size_at old) (numbers ds) → i < length ds → FillsIn ds old es →
    (length (list_at lists i) ≡ size_at es (get_or ds i x).0) × (i < length lists)
output_size ds old es lists i x e l f = let o = at ds lists i e l in (o.0 ∙ sym (f.sizes (get_or ds i x).0), o.1)
  where
    at : (ds : List DatumId) (lists : List (List ℕ)) (i : ℕ) → map length lists ≡ map (size_at old) (numbers ds) → i < length ds → (length (list_at lists i) ≡ size_at old (get_or ds i x).0) × (i < length lists)
    at [] lists i e l = absurd (omega arith)
    at (d ∷ ds) [] i e l = absurd (cc)
    at (d ∷ ds) (ws ∷ lists) zero e l = (ap head e, omega arith)
      where
        head : List ℕ → ℕ
        head [] = 0
        head (y ∷ ys) = y
    at (d ∷ ds) (ws ∷ lists) (suc i) e l = let r = at ds lists i (ap tail e) (omega arith) in (r.0, let k = r.1 in omega arith)
      where
        tail : List ℕ → List ℕ
        tail [] = []
        tail (y ∷ ys) = ys

at_suc : (lists : List (List ℕ)) (i : ℕ) → i < length lists → drop i lists ≡ list_at lists i ∷ drop (suc i) lists
at_suc [] i l = absurd (omega arith)
at_suc (ws ∷ lists) zero l = refl
at_suc (ws ∷ lists) (suc i) l = at_suc lists i (omega arith)

-- one output more is put into the store
pub unload_more : (old es : List Entry) (all : List Parcel) (ds : List DatumId) (lists : List (List ℕ)) (i : ℕ) (x : DatumId) (ws : List ℕ) → AllBelow (length old) ds → map length lists ≡ map (size_at old) (numbers ds) →
    i < length ds → ws ≡ list_at lists i → (all_stored parcel_tag (paired (drop i ds) (drop i lists)) (store_of es) ≡ all) × FillsIn ds old es →
    (all_stored parcel_tag (paired (drop (i + 1) ds) (drop (i + 1) lists)) (store_of (set es (get_or ds i x).0 (entry ws))) ≡ all) × FillsIn ds old (set es (get_or ds i x).0 (entry ws))
unload_more old es all ds lists i x ws known fit l e h =
    let d : DatumId = get_or ds i x in
    let o = output_size ds old es lists i x fit l h.1 in
    let size : length ws ≡ size_at es d.0 = ap (λ (v : List ℕ). length v) e ∙ o.0 in
    let low : d.0 < length es = (let k = known i x l in let c = h.1.count in omega arith) in
    let p : Parcel = record { tag = d; words = ws } in
    let cut : paired (drop i ds) (drop i lists) ≡ p ∷ paired (drop (i + 1) ds) (drop (i + 1) lists) =
    ap (λ (xs : List DatumId). paired xs (drop i lists)) (drop-cons ds i x l)
    ∙ ap (paired (d ∷ drop (suc i) ds)) (at_suc lists i o.1 ∙ ap (λ (v : List ℕ). v ∷ drop (suc i) lists) (sym e))
    ∙ ap (λ k. p ∷ paired (drop k ds) (drop k lists)) (sym (add-one i)) in (
      ap (all_stored parcel_tag (paired (drop (i + 1) ds) (drop (i + 1) lists))) (stored-store p es low)
          ∙ sym (ap (λ xs. all_stored parcel_tag xs (store_of es)) cut)
          ∙ h.0,
      fills_more ds old es i x ws l size h.1,
    )

-- the lengths of the zeros that a task begins with are the sizes of the entries that it fills in
pub sizes_are : (b : Parts) (es : List Entry) (ds all : List DatumId) → ((d : ℕ) → Contains (numbers all) d → size_at es d ≡ length_of b d) → ((d : ℕ) → Contains (numbers ds) d → Contains (numbers all) d) →
    map (length_of b) (numbers ds) ≡ map (size_at es) (numbers ds)
sizes_are b es [] all h sub = refl
sizes_are b es (d ∷ ds) all h sub =
    let first : size_at es d.0 ≡ length_of b d.0 = h d.0 (sub d.0 (zero, omega arith, refl)) in
    ap (λ n. n ∷ map (length_of b) (numbers ds)) (sym first)
    ∙ ap (λ ns. size_at es d.0 ∷ ns) (sizes_are b es ds all h (λ y c. sub y (suc c.0, (let k = c.1 in omega arith), c.2)))

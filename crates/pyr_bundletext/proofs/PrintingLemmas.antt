-- The loops that write, and that what they write can be read.
use Rattle.std.proofs.Common.{◌≡◌, ℕ, suc, ◌+◌, ◌<◌, ◌≤◌, List, [], ◌∷◌, ◌++◌, length, drop, get_or, Fits, w64, sym, ap, ◌∙◌, subst, rules}
use Rattle.std.specs.Prelude.{codes, Result, Ok, Err, OnOk}
use Rattle.std.specs.List.{flat_map, AllByRecursion}
use Rattle.std.proofs.lemmas.List.{append_assoc, append-nil, flat_map_more, drop_all}
use Rattle.pyr_code.specs.declared.op.Op.{Op as OpValue}
use Rattle.pyr_code.specs.Tree.{Op, Loop, Code}
use Rattle.pyr_code.specs.Seen.{op_of, code_of}
use Rattle.pyr_code.proofs.SeenLemmas.{left_more}
use Rattle.pyr_bundle.specs.Raw.{tree_of}
use Rattle.pyr_bundle.specs.declared.raw_bundle.RawBundle.{RawBundle}
use Rattle.pyr_bundle.specs.declared.raw_task.RawTask.{RawTask}
use Rattle.pyr_bundle.specs.declared.raw_channel.RawChannel.{RawChannel}
use Rattle.pyr_bundle.specs.declared.raw_datum.RawDatum.{RawDatum}
use Rattle.pyr_bundle.specs.declared.raw_instr.RawInstr.{RawInstr}
use Rattle.pyr_bundletext.specs.Text.{spaced, line, op_text, code_text, datum_text, task_text, print_text, channel_text, instr_text, processors_text, text_of}
use Rattle.pyr_bundletext.specs.Spelled.{IsWord, IsSpelledOp, IsSpelledCode}

-- the numbers of a slice of words are words
pub words_from : (ns : List ℕ) → ((i : ℕ) → Fits w64 (get_or ns i 0)) → AllByRecursion IsWord ns
words_from [] fits = tt
words_from (n ∷ ns) fits =
    let first : Fits w64 n = fits 0 in
    let word : IsWord n = search rules in
    (word, words_from ns (λ i. fits (suc i)))

-- A loop writes something for each item of a list: its text once one item more is written, and at
-- the end.
pub items_more : {Y : Type 0} (f : Y → List ℕ) (ys zs : List Y) (y : Y) (start text new : List ℕ) → zs ≡ ys ++ y ∷ [] → text ≡ start ++ flat_map f ys → new ≡ text ++ f y → new ≡ start ++ flat_map f zs
items_more {Y} f ys zs y start text new e before step =
    step ∙ ap (λ (t : List ℕ). t ++ f y) before ∙ flat_map_more f start ys y ∙ ap (λ (xs : List Y). start ++ flat_map f xs) (sym e)

pub items_all : {Y : Type 0} (f : Y → List ℕ) (ys zs : List Y) (start text : List ℕ) → ys ≡ zs → text ≡ start ++ flat_map f ys → text ≡ start ++ flat_map f zs
items_all {Y} f ys zs start text e before =
    before ∙ ap (λ (xs : List Y). start ++ flat_map f xs) e

-- What holds of each item: all that is left to be shown once one item more is written, and at the
-- end.
pub words_more : {Y : Type 0} (P : Y → Type 0) (ys zs : List Y) (y : Y) (All : Type 0) → ys ≡ y ∷ zs → P y → (AllByRecursion P ys → All) → AllByRecursion P zs → All
words_more P ys zs y All e here before rest = before (subst (AllByRecursion P) (sym e) (here, rest))

pub words_all : {Y : Type 0} (P : Y → Type 0) (ys : List Y) (All : Type 0) → ys ≡ [] → (AllByRecursion P ys → All) → All
words_all P ys All e before = before (subst (AllByRecursion P) (sym e) tt)

-- a line of a word, numbers and a line feed
pub line_written : (start word numbers text new : List ℕ) → text ≡ start ++ word ++ flat_map spaced numbers → new ≡ text ++ 10 ∷ [] → new ≡ start ++ line word numbers
line_written start word numbers text new before step =
    step ∙ ap (λ (t : List ℕ). t ++ 10 ∷ []) before
    ∙ ap (λ (t : List ℕ). t ++ 10 ∷ []) (append_assoc start word (flat_map spaced numbers))
    ∙ append_assoc start (word ++ flat_map spaced numbers) (10 ∷ [])

-- the same as above for the code of a task
module _ (ops : List OpValue) (k : ℕ) where
  pub op_more : (item : OpValue) (text new whole : List ℕ) → k < length ops → item ≡ get_or ops k item → text ++ code_text (code_of (drop k ops)) ≡ whole → new ≡ text ++ op_text (op_of item) → new ++ code_text (code_of (drop (k + 1) ops)) ≡ whole
  op_more item text new whole l is before step =
      ap (λ (t : List ℕ). t ++ code_text (code_of (drop (k + 1) ops))) step
      ∙ append_assoc text (op_text (op_of item)) (code_text (code_of (drop (k + 1) ops)))
      ∙ ap (λ (xs : List OpValue). text ++ code_text (code_of xs)) (sym (left_more ops k item l is)) ∙ before

  pub op_words_more : (item : OpValue) (All : Type 0) → k < length ops → item ≡ get_or ops k item → IsSpelledOp (op_of item) → (IsSpelledCode (code_of (drop k ops)) → All) → IsSpelledCode (code_of (drop (k + 1) ops)) → All
  op_words_more item All l is here before left =
      before (subst (λ (xs : List OpValue). IsSpelledCode (code_of xs)) (sym (left_more ops k item l is)) (here, left))

  pub ops_all : (text whole : List ℕ) → length ops ≤ k → text ++ code_text (code_of (drop k ops)) ≡ whole → text ≡ whole
  ops_all text whole l before =
      sym (append-nil text) ∙ ap (λ (xs : List OpValue). text ++ code_text (code_of xs)) (sym (drop_all k ops l)) ∙ before

  pub op_words_all : (All : Type 0) → length ops ≤ k → (IsSpelledCode (code_of (drop k ops)) → All) → All
  op_words_all All l before =
      before (subst (λ (xs : List OpValue). IsSpelledCode (code_of xs)) (sym (drop_all k ops l)) tt)

-- the line of an op, and that it can be read
pub op_written : (op o : Op) (start new : List ℕ) → op ≡ o → new ≡ start ++ op_text o → new ≡ start ++ op_text op
op_written op o start new is e = e ∙ ap (λ (x : Op). start ++ op_text x) (sym is)

pub op_spelled : {T E : Type 0} (r : Result T E) (op o : Op) → op ≡ o → IsSpelledOp o → OnOk r (IsSpelledOp op)
op_spelled (Ok x) op o is h = subst IsSpelledOp (sym is) h
op_spelled (Err e) op o is h = tt

-- the lines of a loop
pub loop_written : (op : Op) (l count : ℕ) (turn : Code) (start head middle new : List ℕ) → op ≡ Loop l count turn → head ≡ start ++ line (codes "loop") (l ∷ count ∷ []) → middle ≡ head ++ code_text turn → new ≡ middle ++ line (codes "done") [] → new ≡ start ++ op_text op
loop_written op l count turn start head middle new is first second last =
    last ∙ ap (λ (t : List ℕ). t ++ line (codes "done") []) (second ∙ ap (λ (t : List ℕ). t ++ code_text turn) first)
    ∙ ap (λ (t : List ℕ). t ++ line (codes "done") []) (append_assoc start (line (codes "loop") (l ∷ count ∷ [])) (code_text turn))
    ∙ append_assoc start (line (codes "loop") (l ∷ count ∷ []) ++ code_text turn) (line (codes "done") [])
    ∙ ap (λ (o : Op). start ++ op_text o) (sym is)

-- what holds anyway holds of an answer
pub on_any : {T E : Type 0} {P : Type 0} (r : Result T E) → P → OnOk r P
on_any (Ok x) h = h
on_any (Err e) h = tt

-- one piece behind another
joined : (start middle new a b : List ℕ) → middle ≡ start ++ a → new ≡ middle ++ b → new ≡ start ++ (a ++ b)
joined start middle new a b before step =
    step ∙ ap (λ (t : List ℕ). t ++ b) before ∙ append_assoc start a b

-- the lines of a task
pub task_written : (task : RawTask) (locals : ℕ) (reads writes : List ℕ) (code : Code) (t0 t1 t2 t3 t4 t5 : List ℕ) → locals ≡ task.locals → reads ≡ task.reads → writes ≡ task.writes → code ≡ tree_of task →
    t1 ≡ t0 ++ line (codes "task") (locals ∷ []) → t2 ≡ t1 ++ line (codes "reads") reads → t3 ≡ t2 ++ line (codes "writes") writes → t4 ≡ t3 ++ code_text code → t5 ≡ t4 ++ line (codes "end") [] → t5 ≡ t0 ++ task_text task
task_written task locals reads writes code t0 t1 t2 t3 t4 t5 l r w k e1 e2 e3 e4 e5 =
    joined t0 t4 t5 _ _ (joined t0 t3 t4 _ _ (joined t0 t2 t3 _ _ (joined t0 t1 t2 _ _ (e1 ∙ ap (λ n. t0 ++ line (codes "task") (n ∷ [])) l) (e2 ∙ ap (λ (ns : List ℕ). t1 ++ line (codes "reads") ns) r)) (e3 ∙ ap (λ (ns : List ℕ). t2 ++ line (codes "writes") ns) w)) (e4 ∙ ap (λ (c : Code). t3 ++ code_text c) k)) e5

-- the line of a datum
pub datum_written : (datum : RawDatum) (n : ℕ) (t0 t1 t2 t3 t4 : List ℕ) → n ≡ datum.length → t1 ≡ t0 ++ codes "datum " → t2 ≡ t1 ++ datum.name → t3 ≡ t2 ++ spaced n → t4 ≡ t3 ++ 10 ∷ [] → t4 ≡ t0 ++ datum_text datum
datum_written datum n t0 t1 t2 t3 t4 is e1 e2 e3 e4 =
    let word = codes "datum " ++ datum.name in
    line_written t0 word (datum.length ∷ []) t3 t4
    (e3 ∙ ap (λ (t : List ℕ). t ++ spaced n) (joined t0 t1 t2 _ _ e1 e2) ∙ ap (λ m. t0 ++ word ++ spaced m) is ∙ ap (λ (t : List ℕ). t0 ++ word ++ t) (sym (append-nil (spaced datum.length))))
    e4

-- the lines of one processor more, and those of all
pub processor_written : (p n : ℕ) (code : List RawInstr) (left rest : List (List RawInstr)) (text head new whole : List ℕ) → left ≡ code ∷ rest → n ≡ p → text ++ processors_text p left ≡ whole → head ≡ text ++ line (codes "processor") (n ∷ []) → new ≡ head ++ flat_map instr_text code
    → new ++ processors_text (p + 1) rest ≡ whole
processor_written p n code left rest text head new whole is named before first second =
    ap (λ (t : List ℕ). t ++ processors_text (p + 1) rest) (joined text head new _ _ (first ∙ ap (λ m. text ++ line (codes "processor") (m ∷ [])) named) second)
    ∙ append_assoc text (line (codes "processor") (p ∷ []) ++ flat_map instr_text code) (processors_text (p + 1) rest)
    ∙ ap (λ (ls : List (List RawInstr)). text ++ processors_text p ls) (sym is) ∙ before

pub processors_all : (p : ℕ) (left : List (List RawInstr)) (text whole : List ℕ) → left ≡ [] → text ++ processors_text p left ≡ whole → text ≡ whole
processors_all p left text whole none before =
    sym (append-nil text) ∙ ap (λ (ls : List (List RawInstr)). text ++ processors_text p ls) (sym none) ∙ before

-- one piece behind all before it
behind : (text new a b : List ℕ) → text ≡ a → new ≡ text ++ b → new ≡ a ++ b
behind text new a b before step = step ∙ ap (λ (t : List ℕ). t ++ b) before

-- the lines of a bundle
pub bundle_written : (raw : RawBundle) (count : ℕ) (prints : List ℕ) (channels : List RawChannel) (t0 t1 t2 t3 t4 t5 t6 t7 t8 : List ℕ) → count ≡ length raw.code → prints ≡ raw.prints → channels ≡ raw.channels →
    t0 ≡ [] → t1 ≡ t0 ++ line (codes "pyrros") (1 ∷ []) → t2 ≡ t1 ++ line (codes "processors") (count ∷ []) → t3 ≡ t2 ++ flat_map datum_text raw.datums → t4 ≡ t3 ++ flat_map task_text raw.tasks →
    t5 ≡ t4 ++ flat_map print_text prints → t6 ≡ t5 ++ flat_map channel_text channels → t7 ≡ t6 ++ processors_text 0 raw.code → t8 ≡ t7 ++ line (codes "stop") [] → t8 ≡ text_of raw
unfolding text_of
bundle_written raw count prints channels t0 t1 t2 t3 t4 t5 t6 t7 t8 n p k e0 e1 e2 e3 e4 e5 e6 e7 e8 =
    behind t7 t8 _ _ (behind t6 t7 _ _ (behind t5 t6 _ _ (behind t4 t5 _ _ (behind t3 t4 _ _ (behind t2 t3 _ _ (behind t1 t2 _ _ (behind t0 t1 [] _ e0 e1) (e2 ∙ ap (λ m. t1 ++ line (codes "processors") (m ∷ [])) n)) e3) e4)
    (e5 ∙ ap (λ (ds : List ℕ). t4 ++ flat_map print_text ds) p)) (e6 ∙ ap (λ (cs : List RawChannel). t5 ++ flat_map channel_text cs) k)) e7) e8

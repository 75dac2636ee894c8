-- Lines, written one after another.
use Rattle.std.proofs.Common.{◌≡◌, ℕ, suc, ◌+◌, ◌<◌, ◌≤◌, ◌-◌, List, [], ◌∷◌, ◌++◌, map, length, drop, get_or, refl, sym, ap, subst, ◌∙◌, arith, append_assoc, cond, Result, Ok, Err}
use Rattle.std.specs.Prelude.{OnOk}
use Rattle.std.specs.Result.{is_ok}
use Rattle.std.specs.List.{flat_map, range_with_len}
use Rattle.std.proofs.lemmas.Grind.{flat_map-append}
use Rattle.std.proofs.lemmas.List.{append-nil, drop_more}
use Rattle.std.proofs.lemmas.List.Folds.{flat_map-map}
use Rattle.pyr_num.specs.declared.ids.DatumId.{DatumId}
use Rattle.pyr_num.specs.declared.name.Name.{Name}
use Rattle.pyr_lex.specs.Spacing.{canonical_line}
use Rattle.pyr_lex.specs.Token.{AreTokens}
use Rattle.pyr_body.specs.declared.slot_names.SlotNames.{SlotNames}
use Rattle.pyr_body.specs.Lines.{Line as BodyLine, lines_of}
use Rattle.pyr_body.specs.Parts.{BodyParts}
use Rattle.pyr_body.specs.Named.{line_with_names}
use Rattle.pyr_body.specs.Printed.{body_text, AreLineTokens as AreBodyTokens}
use Rattle.pyr_graph.specs.System.{System, task_count, datum_count, task_at, datum_numbers}
use Rattle.pyr_graphtext.specs.declared.form.Form.{Form}
use Rattle.pyr_graphtext.specs.declared.form.Form.TheVariants.{Reads, Writes}
use Rattle.pyr_graphtext.specs.Line.{Line, Statement, tokens_of_line}
use Rattle.pyr_graphtext.specs.Program.{ProgramParts, IsProgram, datum_name, body_at}
use Rattle.pyr_graphtext.specs.Canonical.{text_of, data_line, print_line, names_line, task_head, task_end, task_lines, body_lines, AreLineTokens, names_of, read_names, written_names}
use Rattle.pyr_graphtext.specs.Slots.{AreSlotNames, FitBody}

-- what holds anyway
pub on_ok_always : {T E P : Type 0} (r : Result T E) → P → OnOk r P
on_ok_always (Ok x) h = h
on_ok_always (Err e) h = tt

-- the items that a success leaves
pub on_ok_items : {T E : Type 0} (r : Result T E) (new grown kept : List ℕ) → new ≡ cond (is_ok r) grown kept → OnOk r (new ≡ grown)
on_ok_items (Ok x) new grown kept h = h
on_ok_items (Err e) new grown kept h = tt

abbrev line_text : Line → List ℕ
line_text line = canonical_line (tokens_of_line line) ++ 10 ∷ []

pub text_of-append : (xs ys : List Line) → text_of (xs ++ ys) ≡ text_of xs ++ text_of ys
text_of-append xs ys = flat_map-append line_text xs ys

pub tokens-append : (xs ys : List Line) → AreLineTokens xs → AreLineTokens ys → AreLineTokens (xs ++ ys)
tokens-append [] ys t u = u
tokens-append (x ∷ xs) ys t u = (t.0, tokens-append xs ys t.1 u)

-- some of the lines that are left were written
pub written_on : (out next total : List ℕ) (xs ys zs : List Line) → zs ≡ xs ++ ys → out ++ text_of zs ≡ total → next ≡ out ++ text_of xs → next ++ text_of ys ≡ total
written_on out next total xs ys zs parts left here =
    ap (λ (n : List ℕ). n ++ text_of ys) here
    ∙ append_assoc out (text_of xs) (text_of ys)
    ∙ ap (λ (t : List ℕ). out ++ t) (sym (text_of-append xs ys))
    ∙ ap (λ (ls : List Line). out ++ text_of ls) (sym parts)
    ∙ left

pub tokens_on : (xs ys zs : List Line) (Total : Type 0) → zs ≡ xs ++ ys → AreLineTokens xs → (AreLineTokens zs → Total) → AreLineTokens ys → Total
tokens_on xs ys zs Total parts here total left = total (subst AreLineTokens (sym parts) (tokens-append xs ys here left))

-- all lines were written
pub all_written : (out total : List ℕ) (zs : List Line) → zs ≡ [] → out ++ text_of zs ≡ total → out ≡ total
all_written out total zs none left = sym (append-nil out) ∙ ap (λ (ls : List Line). out ++ text_of ls) (sym none) ∙ left

pub all_tokens : (zs : List Line) (Total : Type 0) → zs ≡ [] → (AreLineTokens zs → Total) → Total
all_tokens zs Total none total = total (subst AreLineTokens (sym none) tt)

-- all numbers are left, and none
pub range_all : (count : ℕ) → range_with_len 0 (count - 0) ≡ range_with_len 0 count
range_all count = ap (range_with_len 0) (let s : count - 0 ≡ count = omega arith in s)

pub range_none : (n count : ℕ) → count ≤ n → range_with_len n (count - n) ≡ []
range_none n count h = ap (range_with_len n) (let s : count - n ≡ 0 = omega arith in s)

-- the numbers from here on
pub range_more : (n count : ℕ) → n < count → range_with_len n (count - n) ≡ n ∷ range_with_len (n + 1) (count - (n + 1))
range_more n count h = ap (range_with_len n) (let s : count - n ≡ suc (count - (n + 1)) = omega arith in s)

pub map_range_more : (f : ℕ → Line) (n count : ℕ) → n < count → map f (range_with_len n (count - n)) ≡ (f n ∷ []) ++ map f (range_with_len (n + 1) (count - (n + 1)))
map_range_more f n count h = ap (map f) (range_more n count h)

pub data_written_on : (p : ProgramParts) (n : ℕ) (out next total : List ℕ) → n < datum_count p.graph
    → out ++ text_of (map (data_line p) (range_with_len n (datum_count p.graph - n))) ≡ total → next ≡ out ++ text_of (data_line p n ∷ [])
    → next ++ text_of (map (data_line p) (range_with_len (n + 1) (datum_count p.graph - (n + 1)))) ≡ total
data_written_on p n out next total h left here =
    written_on out next total (data_line p n ∷ []) (map (data_line p) (range_with_len (n + 1) (datum_count p.graph - (n + 1)))) (map (data_line p) (range_with_len n (datum_count p.graph - n)))
    (map_range_more (data_line p) n (datum_count p.graph) h) left here

pub data_tokens_on : (p : ProgramParts) (n : ℕ) (Total : Type 0) → n < datum_count p.graph → AreTokens (tokens_of_line (data_line p n))
    → (AreLineTokens (map (data_line p) (range_with_len n (datum_count p.graph - n))) → Total)
    → AreLineTokens (map (data_line p) (range_with_len (n + 1) (datum_count p.graph - (n + 1)))) → Total
data_tokens_on p n Total h here total left =
    tokens_on (data_line p n ∷ []) (map (data_line p) (range_with_len (n + 1) (datum_count p.graph - (n + 1)))) (map (data_line p) (range_with_len n (datum_count p.graph - n))) Total
    (map_range_more (data_line p) n (datum_count p.graph) h) (here, tt) total left

pub prints_more : (p : ProgramParts) (datums : List DatumId) (i : ℕ) (d : DatumId) (name : Name) → i < length datums → name ≡ datum_name p (get_or datums i d).0
    → map print_line (names_of p (drop i datums)) ≡ (print_line name ∷ []) ++ map print_line (names_of p (drop (i + 1) datums))
prints_more p datums i d name h is =
    ap (λ (ds : List DatumId). map print_line (names_of p ds)) (drop_more datums i d h)
    ∙ ap (λ (n : Name). print_line n ∷ map print_line (names_of p (drop (i + 1) datums))) (sym is)

pub flat_range_more : (f : ℕ → List Line) (n count : ℕ) → n < count → flat_map f (range_with_len n (count - n)) ≡ f n ++ flat_map f (range_with_len (n + 1) (count - (n + 1)))
flat_range_more f n count h = ap (flat_map f) (range_more n count h)

pub tasks_written_on : (p : ProgramParts) (n : ℕ) (out next total : List ℕ) → n < task_count p.graph
    → out ++ text_of (flat_map (task_lines p) (range_with_len n (task_count p.graph - n))) ≡ total → next ≡ out ++ text_of (task_lines p n)
    → next ++ text_of (flat_map (task_lines p) (range_with_len (n + 1) (task_count p.graph - (n + 1)))) ≡ total
tasks_written_on p n out next total h left here =
    written_on out next total (task_lines p n) (flat_map (task_lines p) (range_with_len (n + 1) (task_count p.graph - (n + 1)))) (flat_map (task_lines p) (range_with_len n (task_count p.graph - n)))
    (flat_range_more (task_lines p) n (task_count p.graph) h) left here

pub tasks_tokens_on : (p : ProgramParts) (n : ℕ) (Total : Type 0) → n < task_count p.graph → AreLineTokens (task_lines p n)
    → (AreLineTokens (flat_map (task_lines p) (range_with_len n (task_count p.graph - n))) → Total)
    → AreLineTokens (flat_map (task_lines p) (range_with_len (n + 1) (task_count p.graph - (n + 1)))) → Total
tasks_tokens_on p n Total h here total left =
    tokens_on (task_lines p n) (flat_map (task_lines p) (range_with_len (n + 1) (task_count p.graph - (n + 1)))) (flat_map (task_lines p) (range_with_len n (task_count p.graph - n))) Total
    (flat_range_more (task_lines p) n (task_count p.graph) h) here total left

-- the lines of a task, one part after another
pub task_written : (p : ProgramParts) (t : ℕ) (o a b c d e : List ℕ)
    → a ≡ o ++ text_of (task_head p t ∷ []) → b ≡ a ++ text_of (names_line Reads (read_names p t)) → c ≡ b ++ text_of (names_line Writes (written_names p t))
    → d ≡ c ++ text_of (body_lines (body_at p t) (read_names p t) (written_names p t)) → e ≡ d ++ text_of (task_end ∷ []) → e ≡ o ++ text_of (task_lines p t)
task_written p t o a b c d e h q r s l =
    let rs : List Line = names_line Reads (read_names p t) in
    let ws : List Line = names_line Writes (written_names p t) in
    let bs : List Line = body_lines (body_at p t) (read_names p t) (written_names p t) in
    let total : List ℕ = o ++ text_of (task_lines p t) in
    let u = written_on o a total (task_head p t ∷ []) (rs ++ (ws ++ (bs ++ task_end ∷ []))) (task_lines p t) refl refl h in
    let v = written_on a b total rs (ws ++ (bs ++ task_end ∷ [])) (rs ++ (ws ++ (bs ++ task_end ∷ []))) refl u q in
    let w = written_on b c total ws (bs ++ task_end ∷ []) (ws ++ (bs ++ task_end ∷ [])) refl v r in
    let x = written_on c d total bs (task_end ∷ []) (bs ++ task_end ∷ []) refl w s in
    l ∙ x

pub task_tokens : (p : ProgramParts) (t : ℕ) → AreTokens (tokens_of_line (task_head p t)) → AreLineTokens (names_line Reads (read_names p t)) → AreLineTokens (names_line Writes (written_names p t))
    → AreLineTokens (body_lines (body_at p t) (read_names p t) (written_names p t)) → AreLineTokens (task_lines p t)
task_tokens p t h q r s =
    let rs : List Line = names_line Reads (read_names p t) in
    let ws : List Line = names_line Writes (written_names p t) in
    let bs : List Line = body_lines (body_at p t) (read_names p t) (written_names p t) in
    (h, tokens-append rs (ws ++ (bs ++ task_end ∷ [])) q (tokens-append ws (bs ++ task_end ∷ []) r (tokens-append bs (task_end ∷ []) s ((tt, tt), tt))))

-- the lines of a body, as they are printed
pub body_lines_text : (body : BodyParts) (reads writes : List Name) → body_text body reads writes ≡ text_of (body_lines body reads writes)
body_lines_text body reads writes = sym (flat_map-map line_text (λ (line : BodyLine). Statement (line_with_names body.locals reads writes line)) (lines_of body.statements))

pub body_lines_tokens : (body : BodyParts) (reads writes : List Name) (ls : List BodyLine) → AreBodyTokens body.locals reads writes ls → AreLineTokens (map (λ line. Statement (line_with_names body.locals reads writes line)) ls)
body_lines_tokens body reads writes [] t = tt
body_lines_tokens body reads writes (l ∷ ls) t = (t.0, body_lines_tokens body reads writes ls t.1)

-- the lines of a body over the names of its task
pub body_named : (p : ProgramParts) (t : ℕ) (names : SlotNames) (P : List Name → List Name → Type 0) → AreSlotNames p t names → P names.reads names.writes → P (read_names p t) (written_names p t)
body_named p t names P are h = subst (λ rs. P rs (written_names p t)) are.reads (subst (λ ws. P names.reads ws) are.writes h)

pub body_text_named : (p : ProgramParts) (t : ℕ) (names : SlotNames) (old new : List ℕ) → AreSlotNames p t names → new ≡ old ++ text_of (body_lines (body_at p t) names.reads names.writes)
    → new ≡ old ++ text_of (body_lines (body_at p t) (read_names p t) (written_names p t))
body_text_named p t names old new are h = body_named p t names (λ rs ws. new ≡ old ++ text_of (body_lines (body_at p t) rs ws)) are h

-- a line of names, and what is written of it
pub names_text : (form : List Name → Form) (old new : List ℕ) (ns ms ks : List Name) → ns ≡ ms → ms ≡ ks → new ≡ old ++ text_of (names_line form ns) → new ≡ old ++ text_of (names_line form ks)
names_text form old new ns ms ks e f h = h ∙ ap (λ (xs : List Name). old ++ text_of (names_line form xs)) (e ∙ f)

pub names_tokens : (form : List Name → Form) (ns ms ks : List Name) → ns ≡ ms → ms ≡ ks → AreLineTokens (names_line form ns) → AreLineTokens (names_line form ks)
names_tokens form ns ms ks e f h = subst (λ xs. AreLineTokens (names_line form xs)) (e ∙ f) h

-- what is written of a body
pub body_written : (body printed : BodyParts) (reads writes : List Name) (old new part text : List ℕ) → printed ≡ body → part ≡ text → text ≡ body_text printed reads writes → new ≡ old ++ part → new ≡ old ++ text_of (body_lines body reads writes)
body_written body printed reads writes old new part text same e f h =
    h ∙ ap (λ (t : List ℕ). old ++ t) (e ∙ f ∙ ap (λ (b : BodyParts). body_text b reads writes) same ∙ body_lines_text body reads writes)

pub body_tokens : (body printed : BodyParts) (reads writes : List Name) → printed ≡ body → AreBodyTokens printed.locals reads writes (lines_of printed.statements) → AreLineTokens (body_lines body reads writes)
body_tokens body printed reads writes same h =
    subst (λ b. AreLineTokens (body_lines b reads writes)) same (body_lines_tokens printed reads writes (lines_of printed.statements) h)

-- as many names as numbers
pub names_length : (p : ProgramParts) (datums : List DatumId) → length (names_of p datums) ≡ length (datum_numbers datums)
names_length p [] = refl
names_length p (d ∷ datums) = ap suc (names_length p datums)

-- a body has the slots of its task
pub fit_body : (p : ProgramParts) (t : ℕ) (names : SlotNames) → IsProgram p → t < task_count p.graph → AreSlotNames p t names → FitBody (body_at p t) names
fit_body p t names is h s = record {
  reads = ap length s.reads ∙ names_length p (task_at p.graph t).reads ∙ sym (is.reads t h);
  writes = ap length s.writes ∙ names_length p (task_at p.graph t).writes ∙ sym (is.writes t h);
}

pub slots_named : (p : ProgramParts) (t : ℕ) (graph : System) (rs ws : List DatumId) (reads writes : List Name) → graph ≡ p.graph → rs ≡ (task_at graph t).reads → ws ≡ (task_at graph t).writes
    → reads ≡ names_of p rs → writes ≡ names_of p ws → AreSlotNames p t (record { reads = reads; writes = writes })
slots_named p t graph rs ws reads writes g r w e f = record {
  reads = e ∙ ap (names_of p) r ∙ ap (λ (s : System). names_of p (task_at s t).reads) g;
  writes = f ∙ ap (names_of p) w ∙ ap (λ (s : System). names_of p (task_at s t).writes) g;
}

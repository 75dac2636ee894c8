-- A line and its bytes tell one another.
use Rattle.std.proofs.Common.{◌≡◌, ℕ, ◌<◌, ◌^◌, Bool, true, false, eqb, not, cond, ◌&&◌, List, [], ◌∷◌, ◌++◌, map, Option, Some, None, refl, sym, ap, subst, ◌∙◌}
use Rattle.std.specs.Prelude.{codes, decimal, bytes_eq, ◌==◌}
use Rattle.std.specs.List.{flat_map}
use Rattle.std.proofs.lemmas.Slice.Eq.{bytes_eq-Decides}
use Rattle.std.proofs.lemmas.Bool.{eqb-true}
use Rattle.std.proofs.lemmas.Option.{none-some}
use Rattle.pyr_num.specs.declared.arithmetic.Bin.TheVariants.{Add, Sub, Mul, Div, Rem, And, Or, Xor, Shl, Shr, Min, Max, Eq, Lt}
use Rattle.pyr_num.specs.Name.{is_name}
use Rattle.pyr_decimal.specs.Number.{number_of}
use Rattle.pyr_decimal.proofs.Numbers.{number_of-decimal, number_of_only}
use Rattle.pyr_decimal.proofs.Choices.{found, both}
use Rattle.std.proofs.lemmas.List.{append_assoc, append-nil}
use Rattle.std.proofs.lemmas.List.Concat.{flat_map-cons}
use Rattle.pyr_bundletext.proofs.Cuts.{some_word}
use Rattle.pyr_bundle.specs.declared.raw_instr.RawInstr.TheVariants as instrs
use Rattle.pyr_bundletext.specs.declared.plain_op.PlainOp.TheVariants as ops
use Rattle.pyr_bundletext.specs.declared.line.Line.{Line}
use Rattle.pyr_bundletext.specs.declared.line.Line.TheVariants as lines
use Rattle.pyr_bundletext.specs.declared.keyword.Keyword.{Keyword}
use Rattle.pyr_bundletext.specs.declared.keyword.Keyword.TheVariants.{Pyrros, Processors, Task, Reads, Writes, Push, Load, Store, Frame, Get, Put, Bin, Sel, Loop, Done, End, Print, Channel, Processor, Recv, Exec, Send, Stop}
use Rattle.pyr_bundletext.specs.Text.{spaced}
use Rattle.pyr_bundletext.specs.Line.{IsLine, IsNamed, AreWords, head_text, line_numbers, line_text}
use Rattle.pyr_bundletext.specs.Reading.{split, keyword_text, keyword_of, keywords, more_numbers, numbers_of, with_none, with_one, with_two, with_three, with_numbers, line_with, line_behind, numbered_line, datum_with, datum_line, line_in, line_of, lacks}
use Rattle.pyr_bundletext.proofs.WordLemmas.{joined, split_joined, joined_split, LackSpaces, decimal_lacks, name_lacks, lacks_both}

-- the line of this keyword and these numbers
pub record IsOf (k : Keyword) (ns : List ℕ) (l : Line) : Type 0 where
  pub named : IsNamed l
  pub head : head_text l ≡ keyword_text k
  pub numbers : line_numbers l ≡ ns

of_some : {k : Keyword} {ns : List ℕ} (m l : Line) → Some m ≡ Some l → IsOf k ns m → IsOf k ns l
of_some {k = k} {ns = ns} m l h is = let same : m ≡ l = cc in subst (IsOf k ns) same is

one_pyrros : (t : Bool) (n : ℕ) → (n == 1) ≡ t → (l : Line) → cond t (Some lines.Pyrros) None ≡ Some l → IsOf Pyrros (n ∷ []) l
one_pyrros true n e l h = of_some lines.Pyrros l h (record { named = tt; head = refl; numbers = ap (λ (k : ℕ). k ∷ []) (sym (eqb-true n 1 e)) })
one_pyrros false n e l h = absurd cc

none_back : (k : Keyword) (l : Line) → with_none k ≡ Some l → IsOf k ([]) l
none_back Pyrros l h = absurd cc
none_back Processors l h = absurd cc
none_back Task l h = absurd cc
none_back Reads l h = absurd cc
none_back Writes l h = absurd cc
none_back Push l h = absurd cc
none_back Load l h = absurd cc
none_back Store l h = absurd cc
none_back Frame l h = of_some (lines.Plain ops.Frame) l h (record { named = tt; head = refl; numbers = refl })
none_back Get l h = absurd cc
none_back Put l h = absurd cc
none_back (Bin operator) l h = of_some (lines.Plain (ops.Bin operator)) l h (record { named = tt; head = refl; numbers = refl })
none_back Sel l h = of_some (lines.Plain ops.Sel) l h (record { named = tt; head = refl; numbers = refl })
none_back Loop l h = absurd cc
none_back Done l h = of_some lines.Done l h (record { named = tt; head = refl; numbers = refl })
none_back End l h = of_some lines.End l h (record { named = tt; head = refl; numbers = refl })
none_back Print l h = absurd cc
none_back Channel l h = absurd cc
none_back Processor l h = absurd cc
none_back Recv l h = absurd cc
none_back Exec l h = absurd cc
none_back Send l h = absurd cc
none_back Stop l h = of_some lines.Stop l h (record { named = tt; head = refl; numbers = refl })

one_back : (k : Keyword) (n : ℕ) (l : Line) → with_one k n ≡ Some l → IsOf k (n ∷ []) l
one_back Pyrros n l h = one_pyrros (n == 1) n refl l h
one_back Processors n l h = of_some (lines.Processors n) l h (record { named = tt; head = refl; numbers = refl })
one_back Task n l h = of_some (lines.Task n) l h (record { named = tt; head = refl; numbers = refl })
one_back Reads n l h = absurd cc
one_back Writes n l h = absurd cc
one_back Push n l h = of_some (lines.Plain (ops.Push n)) l h (record { named = tt; head = refl; numbers = refl })
one_back Load n l h = of_some (lines.Plain (ops.Load n)) l h (record { named = tt; head = refl; numbers = refl })
one_back Store n l h = of_some (lines.Plain (ops.Store n)) l h (record { named = tt; head = refl; numbers = refl })
one_back Frame n l h = absurd cc
one_back Get n l h = of_some (lines.Plain (ops.Get n)) l h (record { named = tt; head = refl; numbers = refl })
one_back Put n l h = of_some (lines.Plain (ops.Put n)) l h (record { named = tt; head = refl; numbers = refl })
one_back (Bin operator) n l h = absurd cc
one_back Sel n l h = absurd cc
one_back Loop n l h = absurd cc
one_back Done n l h = absurd cc
one_back End n l h = absurd cc
one_back Print n l h = of_some (lines.Print n) l h (record { named = tt; head = refl; numbers = refl })
one_back Channel n l h = absurd cc
one_back Processor n l h = of_some (lines.Processor n) l h (record { named = tt; head = refl; numbers = refl })
one_back Recv n l h = absurd cc
one_back Exec n l h = of_some (lines.Instr (instrs.Exec n)) l h (record { named = tt; head = refl; numbers = refl })
one_back Send n l h = absurd cc
one_back Stop n l h = absurd cc

two_back : (k : Keyword) (m n : ℕ) (l : Line) → with_two k m n ≡ Some l → IsOf k (m ∷ n ∷ []) l
two_back Pyrros m n l h = absurd cc
two_back Processors m n l h = absurd cc
two_back Task m n l h = absurd cc
two_back Reads m n l h = absurd cc
two_back Writes m n l h = absurd cc
two_back Push m n l h = absurd cc
two_back Load m n l h = absurd cc
two_back Store m n l h = absurd cc
two_back Frame m n l h = absurd cc
two_back Get m n l h = absurd cc
two_back Put m n l h = absurd cc
two_back (Bin operator) m n l h = absurd cc
two_back Sel m n l h = absurd cc
two_back Loop m n l h = of_some (lines.Loop m n) l h (record { named = tt; head = refl; numbers = refl })
two_back Done m n l h = absurd cc
two_back End m n l h = absurd cc
two_back Print m n l h = absurd cc
two_back Channel m n l h = absurd cc
two_back Processor m n l h = absurd cc
two_back Recv m n l h = of_some (lines.Instr (instrs.Recv m n)) l h (record { named = tt; head = refl; numbers = refl })
two_back Exec m n l h = absurd cc
two_back Send m n l h = of_some (lines.Instr (instrs.Send m n)) l h (record { named = tt; head = refl; numbers = refl })
two_back Stop m n l h = absurd cc

three_back : (k : Keyword) (a m n : ℕ) (l : Line) → with_three k a m n ≡ Some l → IsOf k (a ∷ m ∷ n ∷ []) l
three_back Pyrros a m n l h = absurd cc
three_back Processors a m n l h = absurd cc
three_back Task a m n l h = absurd cc
three_back Reads a m n l h = absurd cc
three_back Writes a m n l h = absurd cc
three_back Push a m n l h = absurd cc
three_back Load a m n l h = absurd cc
three_back Store a m n l h = absurd cc
three_back Frame a m n l h = absurd cc
three_back Get a m n l h = absurd cc
three_back Put a m n l h = absurd cc
three_back (Bin operator) a m n l h = absurd cc
three_back Sel a m n l h = absurd cc
three_back Loop a m n l h = absurd cc
three_back Done a m n l h = absurd cc
three_back End a m n l h = absurd cc
three_back Print a m n l h = absurd cc
three_back Channel a m n l h = of_some (lines.Channel (record { from = a; to = m; capacity = n })) l h (record { named = tt; head = refl; numbers = refl })
three_back Processor a m n l h = absurd cc
three_back Recv a m n l h = absurd cc
three_back Exec a m n l h = absurd cc
three_back Send a m n l h = absurd cc
three_back Stop a m n l h = absurd cc

numbers_back : (k : Keyword) (ns : List ℕ) (l : Line) → with_numbers k ns ≡ Some l → IsOf k ns l
numbers_back k [] l h = none_back k l h
numbers_back k (n ∷ []) l h = one_back k n l h
numbers_back k (m ∷ n ∷ []) l h = two_back k m n l h
numbers_back k (a ∷ m ∷ n ∷ []) l h = three_back k a m n l h
numbers_back k (a ∷ m ∷ n ∷ o ∷ rest) l h = absurd cc

with_back : (k : Keyword) (ns : List ℕ) (l : Line) → line_with k ns ≡ Some l → IsOf k ns l
with_back Pyrros ns l h = numbers_back Pyrros ns l h
with_back Processors ns l h = numbers_back Processors ns l h
with_back Task ns l h = numbers_back Task ns l h
with_back Reads ns l h = of_some (lines.Reads ns) l h (record { named = tt; head = refl; numbers = refl })
with_back Writes ns l h = of_some (lines.Writes ns) l h (record { named = tt; head = refl; numbers = refl })
with_back Push ns l h = numbers_back Push ns l h
with_back Load ns l h = numbers_back Load ns l h
with_back Store ns l h = numbers_back Store ns l h
with_back Frame ns l h = numbers_back Frame ns l h
with_back Get ns l h = numbers_back Get ns l h
with_back Put ns l h = numbers_back Put ns l h
with_back (Bin operator) ns l h = numbers_back (Bin operator) ns l h
with_back Sel ns l h = numbers_back Sel ns l h
with_back Loop ns l h = numbers_back Loop ns l h
with_back Done ns l h = numbers_back Done ns l h
with_back End ns l h = numbers_back End ns l h
with_back Print ns l h = numbers_back Print ns l h
with_back Channel ns l h = numbers_back Channel ns l h
with_back Processor ns l h = numbers_back Processor ns l h
with_back Recv ns l h = numbers_back Recv ns l h
with_back Exec ns l h = numbers_back Exec ns l h
with_back Send ns l h = numbers_back Send ns l h
with_back Stop ns l h = numbers_back Stop ns l h

-- what a keyword's text is and isn't
keyword_read : (k : Keyword) → keyword_of (keyword_text k) ≡ Some k
keyword_read Pyrros = refl
keyword_read Processors = refl
keyword_read Task = refl
keyword_read Reads = refl
keyword_read Writes = refl
keyword_read Push = refl
keyword_read Load = refl
keyword_read Store = refl
keyword_read Frame = refl
keyword_read Get = refl
keyword_read Put = refl
keyword_read (Bin Add) = refl
keyword_read (Bin Sub) = refl
keyword_read (Bin Mul) = refl
keyword_read (Bin Div) = refl
keyword_read (Bin Rem) = refl
keyword_read (Bin And) = refl
keyword_read (Bin Or) = refl
keyword_read (Bin Xor) = refl
keyword_read (Bin Shl) = refl
keyword_read (Bin Shr) = refl
keyword_read (Bin Min) = refl
keyword_read (Bin Max) = refl
keyword_read (Bin Eq) = refl
keyword_read (Bin Lt) = refl
keyword_read Sel = refl
keyword_read Loop = refl
keyword_read Done = refl
keyword_read End = refl
keyword_read Print = refl
keyword_read Channel = refl
keyword_read Processor = refl
keyword_read Recv = refl
keyword_read Exec = refl
keyword_read Send = refl
keyword_read Stop = refl

no_datum : (k : Keyword) → bytes_eq (keyword_text k) (codes "datum") ≡ false
no_datum Pyrros = refl
no_datum Processors = refl
no_datum Task = refl
no_datum Reads = refl
no_datum Writes = refl
no_datum Push = refl
no_datum Load = refl
no_datum Store = refl
no_datum Frame = refl
no_datum Get = refl
no_datum Put = refl
no_datum (Bin Add) = refl
no_datum (Bin Sub) = refl
no_datum (Bin Mul) = refl
no_datum (Bin Div) = refl
no_datum (Bin Rem) = refl
no_datum (Bin And) = refl
no_datum (Bin Or) = refl
no_datum (Bin Xor) = refl
no_datum (Bin Shl) = refl
no_datum (Bin Shr) = refl
no_datum (Bin Min) = refl
no_datum (Bin Max) = refl
no_datum (Bin Eq) = refl
no_datum (Bin Lt) = refl
no_datum Sel = refl
no_datum Loop = refl
no_datum Done = refl
no_datum End = refl
no_datum Print = refl
no_datum Channel = refl
no_datum Processor = refl
no_datum Recv = refl
no_datum Exec = refl
no_datum Send = refl
no_datum Stop = refl

keyword_lacks_space : (k : Keyword) → lacks 32 (keyword_text k) ≡ true
keyword_lacks_space Pyrros = refl
keyword_lacks_space Processors = refl
keyword_lacks_space Task = refl
keyword_lacks_space Reads = refl
keyword_lacks_space Writes = refl
keyword_lacks_space Push = refl
keyword_lacks_space Load = refl
keyword_lacks_space Store = refl
keyword_lacks_space Frame = refl
keyword_lacks_space Get = refl
keyword_lacks_space Put = refl
keyword_lacks_space (Bin Add) = refl
keyword_lacks_space (Bin Sub) = refl
keyword_lacks_space (Bin Mul) = refl
keyword_lacks_space (Bin Div) = refl
keyword_lacks_space (Bin Rem) = refl
keyword_lacks_space (Bin And) = refl
keyword_lacks_space (Bin Or) = refl
keyword_lacks_space (Bin Xor) = refl
keyword_lacks_space (Bin Shl) = refl
keyword_lacks_space (Bin Shr) = refl
keyword_lacks_space (Bin Min) = refl
keyword_lacks_space (Bin Max) = refl
keyword_lacks_space (Bin Eq) = refl
keyword_lacks_space (Bin Lt) = refl
keyword_lacks_space Sel = refl
keyword_lacks_space Loop = refl
keyword_lacks_space Done = refl
keyword_lacks_space End = refl
keyword_lacks_space Print = refl
keyword_lacks_space Channel = refl
keyword_lacks_space Processor = refl
keyword_lacks_space Recv = refl
keyword_lacks_space Exec = refl
keyword_lacks_space Send = refl
keyword_lacks_space Stop = refl

keyword_lacks_feed : (k : Keyword) → lacks 10 (keyword_text k) ≡ true
keyword_lacks_feed Pyrros = refl
keyword_lacks_feed Processors = refl
keyword_lacks_feed Task = refl
keyword_lacks_feed Reads = refl
keyword_lacks_feed Writes = refl
keyword_lacks_feed Push = refl
keyword_lacks_feed Load = refl
keyword_lacks_feed Store = refl
keyword_lacks_feed Frame = refl
keyword_lacks_feed Get = refl
keyword_lacks_feed Put = refl
keyword_lacks_feed (Bin Add) = refl
keyword_lacks_feed (Bin Sub) = refl
keyword_lacks_feed (Bin Mul) = refl
keyword_lacks_feed (Bin Div) = refl
keyword_lacks_feed (Bin Rem) = refl
keyword_lacks_feed (Bin And) = refl
keyword_lacks_feed (Bin Or) = refl
keyword_lacks_feed (Bin Xor) = refl
keyword_lacks_feed (Bin Shl) = refl
keyword_lacks_feed (Bin Shr) = refl
keyword_lacks_feed (Bin Min) = refl
keyword_lacks_feed (Bin Max) = refl
keyword_lacks_feed (Bin Eq) = refl
keyword_lacks_feed (Bin Lt) = refl
keyword_lacks_feed Sel = refl
keyword_lacks_feed Loop = refl
keyword_lacks_feed Done = refl
keyword_lacks_feed End = refl
keyword_lacks_feed Print = refl
keyword_lacks_feed Channel = refl
keyword_lacks_feed Processor = refl
keyword_lacks_feed Recv = refl
keyword_lacks_feed Exec = refl
keyword_lacks_feed Send = refl
keyword_lacks_feed Stop = refl

-- the bytes of a line before its line feed
abbrev pub body_text : Line → List ℕ
body_text l = head_text l ++ flat_map spaced (line_numbers l)

joined_numbers : (w ns : List ℕ) → joined w (map decimal ns) ≡ w ++ flat_map spaced ns
joined_numbers w [] = sym (append-nil w)
joined_numbers w (n ∷ ns) =
    ap (λ (l : List ℕ). w ++ 32 ∷ l) (joined_numbers (decimal n) ns)
    ∙ ap (λ (l : List ℕ). w ++ l) (sym (flat_map-cons spaced n ns))

numbers_of_decimals : (ns : List ℕ) → AreWords ns → numbers_of (map decimal ns) ≡ Some ns
numbers_of_decimals [] h = refl
numbers_of_decimals (n ∷ ns) h = rw (number_of-decimal n h.0, numbers_of_decimals ns h.1) refl

decimals_lack : (ns : List ℕ) → AreWords ns → LackSpaces (map decimal ns)
decimals_lack [] h = tt
decimals_lack (n ∷ ns) h = ((decimal_lacks n h.0).0, decimals_lack ns h.1)

decimals_of_numbers : (ws : List (List ℕ)) (ns : List ℕ) → numbers_of ws ≡ Some ns → AreWords ns × (ws ≡ map decimal ns)
decimals_of_numbers [] ns h =
    let none : [] ≡ ns = cc in
    subst (λ (xs : List ℕ). AreWords xs × ([] ≡ map decimal xs)) none (tt, refl)
decimals_of_numbers (w ∷ ws) ns h = go (decimals_of_numbers ws) (number_of w) refl (numbers_of ws) refl h
  where
    go : ((rest : List ℕ) → numbers_of ws ≡ Some rest → AreWords rest × (ws ≡ map decimal rest))
        → (o : Option ℕ) → number_of w ≡ o → (r : Option (List ℕ)) → numbers_of ws ≡ r
        → more_numbers o r ≡ Some ns → AreWords ns × (w ∷ ws ≡ map decimal ns)
    go ih None e r f h = absurd cc
    go ih (Some n) e None f h = absurd cc
    go ih (Some n) e (Some rest) f h =
        let whole : n ∷ rest ≡ ns = cc in
        let first : (n < 2 ^ 64) × (w ≡ decimal n) = number_of_only w n e in
        let others : AreWords rest × (ws ≡ map decimal rest) = ih rest f in
        subst (λ (xs : List ℕ). AreWords xs × (w ∷ ws ≡ map decimal xs)) whole
        ((first.0, others.0), ap (λ (x : List ℕ). x ∷ ws) first.1 ∙ ap (λ (xs : List (List ℕ)). decimal n ∷ xs) others.1)

-- reading the bytes of a line of a keyword
keyed_read : (k : Keyword) (l : Line) → IsLine l → head_text l ≡ keyword_text k → line_with k (line_numbers l) ≡ Some l
    → line_of (body_text l) ≡ Some l
keyed_read k l is head with_k =
    let ns = line_numbers l in
    let text : body_text l ≡ joined (keyword_text k) (map decimal ns) = ap (λ (w : List ℕ). w ++ flat_map spaced ns) head ∙ sym (joined_numbers (keyword_text k) ns) in
    let words : split (body_text l) ≡ keyword_text k ∷ map decimal ns = ap split text ∙ split_joined (keyword_text k) (map decimal ns) (keyword_lacks_space k) (decimals_lack ns is.words) in
    rw (words, no_datum k, keyword_read k, numbers_of_decimals ns is.words) with_k

datum_text_is : (name n : List ℕ) → (codes "datum " ++ name) ++ ((32 ∷ n) ++ []) ≡ joined (codes "datum") (name ∷ n ∷ [])
datum_text_is name n =
    ap (λ (l : List ℕ). (codes "datum " ++ name) ++ l) (append-nil (32 ∷ n))
    ∙ append_assoc (codes "datum ") name (32 ∷ n)

datum_read : (name : List ℕ) (n : ℕ) → IsLine (lines.Datum name n) → line_of (body_text (lines.Datum name n)) ≡ Some (lines.Datum name n)
datum_read name n is =
    let named : is_name name ≡ true = is.named in
    let words : split (body_text (lines.Datum name n)) ≡ codes "datum" ∷ name ∷ decimal n ∷ [] =
    ap split (datum_text_is name (decimal n)) ∙ split_joined (codes "datum") (name ∷ decimal n ∷ []) refl ((name_lacks name named).0, ((decimal_lacks n is.words.0).0, tt)) in
    rw (words, number_of-decimal n is.words.0, named) refl

-- the bytes of a line are read as that line
pub body_read : (l : Line) → IsLine l → line_of (body_text l) ≡ Some l
body_read lines.Pyrros is = keyed_read Pyrros lines.Pyrros is refl refl
body_read (lines.Processors n) is = keyed_read Processors (lines.Processors n) is refl refl
body_read (lines.Datum name n) is = datum_read name n is
body_read (lines.Task n) is = keyed_read Task (lines.Task n) is refl refl
body_read (lines.Reads ns) is = keyed_read Reads (lines.Reads ns) is refl refl
body_read (lines.Writes ns) is = keyed_read Writes (lines.Writes ns) is refl refl
body_read (lines.Plain (ops.Push n)) is = keyed_read Push (lines.Plain (ops.Push n)) is refl refl
body_read (lines.Plain (ops.Load n)) is = keyed_read Load (lines.Plain (ops.Load n)) is refl refl
body_read (lines.Plain (ops.Store n)) is = keyed_read Store (lines.Plain (ops.Store n)) is refl refl
body_read (lines.Plain ops.Frame) is = keyed_read Frame (lines.Plain ops.Frame) is refl refl
body_read (lines.Plain (ops.Get n)) is = keyed_read Get (lines.Plain (ops.Get n)) is refl refl
body_read (lines.Plain (ops.Put n)) is = keyed_read Put (lines.Plain (ops.Put n)) is refl refl
body_read (lines.Plain (ops.Bin operator)) is = keyed_read (Bin operator) (lines.Plain (ops.Bin operator)) is refl refl
body_read (lines.Plain ops.Sel) is = keyed_read Sel (lines.Plain ops.Sel) is refl refl
body_read (lines.Loop m n) is = keyed_read Loop (lines.Loop m n) is refl refl
body_read lines.Done is = keyed_read Done lines.Done is refl refl
body_read lines.End is = keyed_read End lines.End is refl refl
body_read (lines.Print n) is = keyed_read Print (lines.Print n) is refl refl
body_read (lines.Channel c) is = keyed_read Channel (lines.Channel c) is refl refl
body_read (lines.Processor n) is = keyed_read Processor (lines.Processor n) is refl refl
body_read (lines.Instr (instrs.Recv m n)) is = keyed_read Recv (lines.Instr (instrs.Recv m n)) is refl refl
body_read (lines.Instr (instrs.Exec n)) is = keyed_read Exec (lines.Instr (instrs.Exec n)) is refl refl
body_read (lines.Instr (instrs.Send m n)) is = keyed_read Send (lines.Instr (instrs.Send m n)) is refl refl
body_read lines.Stop is = keyed_read Stop lines.Stop is refl refl

abbrev Told : List ℕ → Line → Type 0
Told bytes l = IsLine l × (bytes ≡ body_text l)

keyed_back : (bytes word : List ℕ) (others : List (List ℕ)) (l : Line) → bytes ≡ joined word others
    → (o : Option Keyword) → keyword_of word ≡ o → (r : Option (List ℕ)) → numbers_of others ≡ r
    → numbered_line o others ≡ Some l → Told bytes l
keyed_back bytes word others l text None e r f h = absurd (none-some l h)
keyed_back bytes word others l text (Some k) e None f h = absurd (none-some l (sym (ap (line_behind k) f) ∙ h))
keyed_back bytes word others l text (Some k) e (Some ns) f h =
    let behind : line_with k ns ≡ Some l = sym (ap (line_behind k) f) ∙ h in
    let is : IsOf k ns l = with_back k ns l behind in
    let word_is : keyword_text k ≡ word = (bytes_eq-Decides (keyword_text k) word).0 (found (λ (m : Keyword). bytes_eq (keyword_text m) word) keywords k e) in
    let numbers : AreWords ns × (others ≡ map decimal ns) = decimals_of_numbers others ns f in
    let text_is : bytes ≡ keyword_text k ++ flat_map spaced ns =
    text ∙ ap (λ (w : List ℕ). joined w others) (sym word_is) ∙ ap (joined (keyword_text k)) numbers.1 ∙ joined_numbers (keyword_text k) ns in (
      record { named = is.named; words = subst AreWords (sym is.numbers) numbers.0 },
      text_is ∙ ap (λ (w : List ℕ). w ++ flat_map spaced ns) (sym is.head) ∙ ap (λ (xs : List ℕ). head_text l ++ flat_map spaced xs) (sym is.numbers),
    )

named_back : (name word : List ℕ) (l : Line) (o : Option ℕ) → number_of word ≡ o → (t : Bool) → is_name name ≡ t
    → datum_with name o ≡ Some l → Told (joined (codes "datum") (name ∷ word ∷ [])) l
named_back name word l None e t f h = absurd cc
named_back name word l (Some n) e false f h = absurd (let other : datum_with name (Some n) ≡ None = rw f refl in cc)
named_back name word l (Some n) e true f h =
    let same : lines.Datum name n ≡ l = let made : datum_with name (Some n) ≡ Some (lines.Datum name n) = rw f refl in cc in
    let number : (n < 2 ^ 64) × (word ≡ decimal n) = number_of_only word n e in
    subst (Told (joined (codes "datum") (name ∷ word ∷ []))) same (
      record { named = f; words = (number.0, tt) },
      ap (λ (w : List ℕ). joined (codes "datum") (name ∷ w ∷ [])) number.1 ∙ sym (datum_text_is name (decimal n)),
    )

datum_back : (bytes : List ℕ) (others : List (List ℕ)) (l : Line) → bytes ≡ joined (codes "datum") others
    → datum_line others ≡ Some l → Told bytes l
datum_back bytes [] l text h = absurd cc
datum_back bytes (name ∷ []) l text h = absurd cc
datum_back bytes (name ∷ word ∷ []) l text h =
    subst (λ (b : List ℕ). Told b l) (sym text) (named_back name word l (number_of word) refl (is_name name) refl h)
datum_back bytes (name ∷ word ∷ other ∷ others) l text h = absurd cc

-- what bytes are read as a line are the bytes of that line
pub read_back : (bytes : List ℕ) (l : Line) → line_of bytes ≡ Some l → IsLine l × (bytes ≡ body_text l)
read_back bytes l h = go (some_word bytes)
  where
    go : (w : List ℕ) × (ws : List (List ℕ)) × (split bytes ≡ w ∷ ws) → Told bytes l
    go some = by (bytes_eq some.0 (codes "datum")) refl
      where
        text : bytes ≡ joined some.0 some.1
        text = joined_split bytes some.0 some.1 some.2

        line_is : line_in (some.0 ∷ some.1) ≡ Some l
        line_is = sym (ap line_in some.2) ∙ h

        by : (t : Bool) → bytes_eq some.0 (codes "datum") ≡ t → Told bytes l
        by true e =
            let word : some.0 ≡ codes "datum" = (bytes_eq-Decides some.0 (codes "datum")).0 e in
            datum_back bytes some.1 l (text ∙ ap (λ (w : List ℕ). joined w some.1) word) (sym (let made : line_in (some.0 ∷ some.1) ≡ datum_line some.1 = rw e refl in made) ∙ line_is)
        by false e =
            keyed_back bytes some.0 some.1 l text (keyword_of some.0) refl (numbers_of some.1) refl
            (sym (let made : line_in (some.0 ∷ some.1) ≡ numbered_line (keyword_of some.0) some.1 = rw e refl in made) ∙ line_is)

-- a line with its line feed
pub line_text_is : (l : Line) → line_text l ≡ body_text l ++ 10 ∷ []
line_text_is l = refl

spaced_lacks : (ns : List ℕ) → AreWords ns → lacks 10 (flat_map spaced ns) ≡ true
spaced_lacks [] h = refl
spaced_lacks (n ∷ ns) h =
    let parts : lacks 10 (spaced n ++ flat_map spaced ns) ≡ true = lacks_both 10 (spaced n) (flat_map spaced ns) (decimal_lacks n h.0).1 (spaced_lacks ns h.1) in
    ap (lacks 10) (flat_map-cons spaced n ns) ∙ parts

head_lacks : (l : Line) → IsLine l → lacks 10 (head_text l) ≡ true
head_lacks lines.Pyrros is = refl
head_lacks (lines.Processors n) is = refl
head_lacks (lines.Datum name n) is = lacks_both 10 (codes "datum ") name refl (name_lacks name is.named).1
head_lacks (lines.Task n) is = refl
head_lacks (lines.Reads ns) is = refl
head_lacks (lines.Writes ns) is = refl
head_lacks (lines.Plain (ops.Push n)) is = refl
head_lacks (lines.Plain (ops.Load n)) is = refl
head_lacks (lines.Plain (ops.Store n)) is = refl
head_lacks (lines.Plain ops.Frame) is = refl
head_lacks (lines.Plain (ops.Get n)) is = refl
head_lacks (lines.Plain (ops.Put n)) is = refl
head_lacks (lines.Plain (ops.Bin operator)) is = keyword_lacks_feed (Bin operator)
head_lacks (lines.Plain ops.Sel) is = refl
head_lacks (lines.Loop m n) is = refl
head_lacks lines.Done is = refl
head_lacks lines.End is = refl
head_lacks (lines.Print n) is = refl
head_lacks (lines.Channel c) is = refl
head_lacks (lines.Processor n) is = refl
head_lacks (lines.Instr (instrs.Recv m n)) is = refl
head_lacks (lines.Instr (instrs.Exec n)) is = refl
head_lacks (lines.Instr (instrs.Send m n)) is = refl
head_lacks lines.Stop is = refl

-- a line has one line feed, at its end
pub body_lacks : (l : Line) → IsLine l → lacks 10 (body_text l) ≡ true
body_lacks l is = lacks_both 10 (head_text l) (flat_map spaced (line_numbers l)) (head_lacks l is) (spaced_lacks (line_numbers l) is.words)

-- a text parts at its first line feed in one way
pub one_cut : (us vs xs ys : List ℕ) → lacks 10 us ≡ true → lacks 10 vs ≡ true → us ++ 10 ∷ xs ≡ vs ++ 10 ∷ ys → (us ≡ vs) × (xs ≡ ys)
one_cut [] [] xs ys h k e = (refl, cc)
one_cut [] (b ∷ vs) xs ys h k e = absurd (let same : 10 ≡ b = cc in let no : (not (eqb b 10) && lacks 10 vs) ≡ true = k in let yes : (not (eqb 10 10) && lacks 10 vs) ≡ true = subst (λ (c : ℕ). (not (eqb c 10) && lacks 10 vs) ≡ true) (sym same) no in cc)
one_cut (a ∷ us) [] xs ys h k e = absurd (let same : a ≡ 10 = cc in let yes : (not (eqb 10 10) && lacks 10 us) ≡ true = subst (λ (c : ℕ). (not (eqb c 10) && lacks 10 us) ≡ true) same h in cc)
one_cut (a ∷ us) (b ∷ vs) xs ys h k e =
    let first : a ≡ b = cc in
    let rest : us ++ 10 ∷ xs ≡ vs ++ 10 ∷ ys = cc in
    let ih : (us ≡ vs) × (xs ≡ ys) = one_cut us vs xs ys (both (not (eqb a 10)) (lacks 10 us) h).1 (both (not (eqb b 10)) (lacks 10 vs) k).1 rest in
    (ap (λ (c : ℕ). c ∷ us) first ∙ ap (λ (l : List ℕ). b ∷ l) ih.0, ih.1)

-- a text begins with one line at most
pub one_line : (l m : Line) (xs ys : List ℕ) → IsLine l → IsLine m → line_text l ++ xs ≡ line_text m ++ ys → (l ≡ m) × (xs ≡ ys)
one_line l m xs ys is it e =
    let parts : (body_text l ≡ body_text m) × (xs ≡ ys) =
    one_cut (body_text l) (body_text m) xs ys (body_lacks l is) (body_lacks m it)
    (sym (append_assoc (body_text l) (10 ∷ []) xs) ∙ e ∙ append_assoc (body_text m) (10 ∷ []) ys) in
    let same : Some l ≡ Some m = sym (body_read l is) ∙ ap line_of parts.0 ∙ body_read m it in
    (cc, parts.1)

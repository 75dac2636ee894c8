-- The canonical lines of a body pass their tests, and are read as that body.
use Rattle.std.proofs.Common.{◌≡◌, ℕ, ◌+◌, ◌-◌, ◌<◌, ◌≤◌, false, List, [], ◌∷◌, length, map, inl, inr, Some, None, Result, Ok, Err, refl, sym, ap, subst, ◌∙◌, arith, length-append}
use Rattle.std.specs.Prelude.{◌⊎◌}
use Rattle.std.proofs.lemmas.Bool.{cases_lt}
use Rattle.pyr_num.specs.declared.limits.TheConstants.Limits.{DEPTH, WORK}
use Rattle.pyr_num.specs.declared.name.Name.{Name}
use Rattle.pyr_lex.specs.declared.token.Token.{Token}
use Rattle.pyr_lex.specs.Depth.{depth_of}
use Rattle.pyr_lex.specs.Spacing.{canonical_line}
use Rattle.pyr_lex.proofs.Written.{written_is_read}
use Rattle.pyr_body.specs.declared.line_fault.LineFault.{LineFault as BodyFault}
use Rattle.pyr_body.specs.Tree.{Statements}
use Rattle.pyr_body.specs.Size.{statements_work}
use Rattle.pyr_body.specs.Lines.{Line as BodyLine, lines_of, loops_open}
use Rattle.pyr_body.specs.Parts.{BodyParts}
use Rattle.pyr_body.specs.Named.{line_with_names}
use Rattle.pyr_body.specs.Printed.{named_tokens, AreLineTokens as AreBodyTokens}
use Rattle.pyr_body.specs.Written.{WrittenLine}
use Rattle.pyr_body.specs.Spelling.{line_tokens}
use Rattle.pyr_body.specs.Taking.{LinesTaken, after_line}
use Rattle.pyr_body.specs.Reader.{IsOutcome as IsBodyOutcome, IsEnd, body_taken}
use Rattle.pyr_body.specs.RoundTrip.{AreRead}
use Rattle.pyr_graphtext.specs.Line.{Line, Statement}
use Rattle.pyr_graphtext.specs.Statements.{nodes_of, work_of, open_counts, numbered_lines, statement_fault, IsBodyOf}
use Rattle.pyr_graphtext.specs.Earlier.{stage_of, last_reads, last_writes, last_statements, all_nodes}
use Rattle.pyr_graphtext.specs.Faults.{is_outside, fault_behind}
use Rattle.pyr_graphtext.specs.Stands.{Stands}
use Rattle.pyr_graphtext.proofs.LinesRead.{after, Pass}
use Rattle.pyr_graphtext.proofs.Sizes.{open_counts-loops_open, work_of-statements}
use Rattle.pyr_graphtext.proofs.StatementLemmas.{taken_on}

-- a line of a body leaves what is said beside it
pub kept : {X : Type 0} (f : List Line → X) → ((w : WrittenLine) (older : List Line) → f (Statement w ∷ older) ≡ f older)
    → (g : BodyLine → WrittenLine) (said : List Line) (xs : List BodyLine) → f (after said (map (λ x. Statement (g x)) xs)) ≡ f said
kept f step g said [] = refl
kept f step g said (x ∷ xs) = kept f step g (Statement (g x) ∷ said) xs ∙ step (g x) said

abbrev taken_ok : LinesTaken → Result LinesTaken BodyFault
taken_ok next = Ok next

abbrev taken_err : BodyFault → Result LinesTaken BodyFault
taken_err fault = Err fault

abbrev body_ok : BodyParts → Result BodyParts BodyFault
body_ok body = Ok body

abbrev body_err : BodyFault → Result BodyParts BodyFault
body_err fault = Err fault

module _ (reads writes : List Name) (before : ℕ) where
  -- behind these lines of a body
  pub record IsWithin (said : List Line) (lines : List WrittenLine) : Type 0 where
    pub inside : is_outside (stage_of said) ≡ false
    pub reads_are : last_reads said ≡ reads
    pub writes_are : last_writes said ≡ writes
    pub lines_are : last_statements said ≡ lines
    pub nodes_are : all_nodes said ≡ before + nodes_of lines

  statement_passes : (said : List Line) (lines : List WrittenLine) (w : WrittenLine) → IsWithin said lines → statement_fault reads writes (before + nodes_of lines) lines w ≡ None → fault_behind said (Statement w) ≡ None
  unfolding fault_behind
  statement_passes said lines w within fine =
      rw (within.inside, within.reads_are, within.writes_are, within.lines_are, within.nodes_are) fine

  within_more : (said : List Line) (lines : List WrittenLine) (w : WrittenLine) → IsWithin said lines → IsWithin (Statement w ∷ said) (w ∷ lines)
  within_more said lines w within = record {
    inside = refl;
    reads_are = within.reads_are;
    writes_are = within.writes_are;
    lines_are = ap (λ (ls : List WrittenLine). w ∷ ls) within.lines_are;
    nodes_are = omega (arith, within.nodes_are);
  }

  -- what the lines of a body say in the end
  pub record IsWhole (lines : List WrittenLine) (body : BodyParts) : Type 0 where
    pub closed : length (open_counts lines) ≤ 0
    pub is_body : IsBodyOf (record { reads = reads; writes = writes; lines = lines }) body
    pub work_is : work_of lines ≡ statements_work body.statements
    pub few : work_of lines ≤ WORK

  same_body : (body other : BodyParts) → body_ok body ≡ Ok other → body ≡ other
  same_body body other e = cc

  pub is_whole : (lines : List WrittenLine) (last : LinesTaken) (body : BodyParts) → Stands reads writes before lines last → IsEnd last (Ok body) → IsWhole lines body
  is_whole lines last body stands end = by_loops (cases_lt 0 (loops_open last.lines)) where
    loops : length (open_counts lines) ≡ loops_open last.lines
    loops = open_counts-loops_open reads writes lines ∙ ap loops_open (sym stands.numbered)

    by_work : loops_open last.lines ≤ 0 → (ss : Statements) → lines_of ss ≡ last.lines → (WORK < statements_work ss) ⊎ (statements_work ss ≤ WORK) → IsWhole lines body
    by_work none ss of_lines (inl much) = absurd (let e : body_ok body ≡ body_err _ = end.much_work ss of_lines much in cc)
    by_work none ss of_lines (inr few) =
        let is : body ≡ body_taken last ss = same_body body (body_taken last ss) (end.body ss of_lines few) in
        let numbered : lines_of ss ≡ numbered_lines reads writes lines = of_lines ∙ stands.numbered in
        let statements : body.statements ≡ ss = ap (λ (b : BodyParts). b.statements) is in
        let work : work_of lines ≡ statements_work ss = work_of-statements reads writes lines ss numbered in
        let slots : length last.slots ≡ length reads + length writes = ap length stands.slots ∙ length-append reads writes in
        let left : length last.slots - last.reads ≡ length writes = omega (arith, slots, stands.reads_count) in
        record {
          closed = omega (arith, loops, none);
          is_body = record {
            reads = ap (λ (b : BodyParts). b.reads) is ∙ stands.reads_count;
            writes = ap (λ (b : BodyParts). b.writes) is ∙ left;
            locals = ap (λ (b : BodyParts). b.locals) is ∙ stands.locals;
            lines = ap lines_of statements ∙ numbered;
          };
          work_is = work ∙ ap statements_work (sym statements);
          few = omega (arith, work, few);
        }

    by_loops : (0 < loops_open last.lines) ⊎ (loops_open last.lines ≤ 0) → IsWhole lines body
    by_loops (inl some) = absurd (let e : body_ok body ≡ body_err _ = end.open_loop some in cc)
    by_loops (inr none) =
        let found = end.tree (omega (arith, none)) in
        by_work none found.0 found.1 (cases_lt WORK (statements_work found.0))

module _ (locals reads writes : List Name) (before : ℕ) where
  abbrev pub named : BodyLine → WrittenLine
  named x = line_with_names locals reads writes x

  -- what a line that is taken comes to
  one_taken : (taken next : LinesTaken) (x : BodyLine) (ts : List Token) → Some (line_tokens (named x)) ≡ Some ts → IsBodyOutcome taken ts (Ok next)
      → (depth_of (line_tokens (named x)) ≤ DEPTH) × (after_line taken (named x) ≡ Ok next)
  one_taken taken next x ts same outcome = by_depth (cases_lt DEPTH (depth_of ts)) where
    is : line_tokens (named x) ≡ ts
    is = cc same

    by_depth : (DEPTH < depth_of ts) ⊎ (depth_of ts ≤ DEPTH) → (depth_of (line_tokens (named x)) ≤ DEPTH) × (after_line taken (named x) ≡ Ok next)
    by_depth (inl deep) = absurd (let e : taken_ok next ≡ taken_err _ = outcome.deep deep in cc)
    by_depth (inr shallow) = (omega (arith, shallow, ap depth_of is), sym (outcome.line (named x) (sym is) shallow))

  -- lines that are taken
  pub record AreTaken (said : List Line) (xs : List BodyLine) (lines : List WrittenLine) (last : LinesTaken) : Type 0 where
    pub pass : Pass said (map (λ x. Statement (named x)) xs)
    pub within : IsWithin reads writes before (after said (map (λ x. Statement (named x)) xs)) (after lines (map named xs))
    pub stands : Stands reads writes before (after lines (map named xs)) last

  pub are_taken : (said : List Line) (xs : List BodyLine) (lines : List WrittenLine) (taken last : LinesTaken)
      → IsWithin reads writes before said lines → Stands reads writes before lines taken → AreBodyTokens locals reads writes xs
      → AreRead taken (map (λ x. canonical_line (named_tokens locals reads writes x)) xs) last → AreTaken said xs lines last
  are_taken said [] lines taken last within stands are read = record {
    pass = tt;
    within = within;
    stands = subst (Stands reads writes before lines) read stands;
  }
  are_taken said (x ∷ xs) lines taken last within stands are read =
      let ts = read.0 in
      let next = read.2.0 in
      let same : Some (line_tokens (named x)) ≡ Some ts = sym (written_is_read.canonical (line_tokens (named x)) are.0) ∙ read.1 in
      let one = one_taken taken next x ts same read.2.1 in
      let on = taken_on reads writes before lines taken next (named x) stands one.1 in
      let more = are_taken (Statement (named x) ∷ said) xs (named x ∷ lines) next last (within_more reads writes before said lines (named x) within) on.1 are.1 read.2.2 in
      record {
        pass = (statement_passes reads writes before said lines (named x) within on.0, (λ _. one.0), more.pass);
        within = more.within;
        stands = more.stands;
      }

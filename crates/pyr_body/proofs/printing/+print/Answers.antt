use Rattle.std.proofs.Common.{◌≡◌, ℕ, ◌+◌, ◌<◌, List, [], ◌∷◌, ◌++◌, length, drop, get_or, Result, refl, sym, ap, subst, rules, ◌∙◌, append_assoc}
use Rattle.std.proofs.lemmas.List.{append-nil, at_drop_all, drop_more}
use Rattle.std.specs.Result.{OnOk}
use Rattle.std.proofs.lemmas.Result.{on_ok_weaker}
use Rattle.std.proofs.lemmas.Grind.{flat_map-append}
use Rattle.pyr_num.specs.declared.name.Name.{Name}
use Rattle.pyr_lex.specs.declared.token.Token.{Token}
use Rattle.pyr_lex.specs.Token.{AreTokens}
use Rattle.pyr_lex.specs.Spacing.{canonical_line}
use Rattle.pyr_body.specs.declared.expr.Expr.{Expr as ExprValue}
use Rattle.pyr_body.specs.declared.stmt.Stmt.{Stmt as StmtValue}
use Rattle.pyr_body.specs.declared.stmt.Stmt.TheVariants as stmts
use Rattle.pyr_body.specs.declared.stmt.Stmt.TheFolds.{the_lemmas}
use Rattle.pyr_body.specs.Tree.{Statements, End, Then}
use Rattle.pyr_body.specs.Seen.{expr_of, stmt_of, statements_of}
use Rattle.pyr_body.specs.Scope.{AreScoped}
use Rattle.pyr_body.specs.Lines.{Line, SetLine, PutLine, DoneLine, stmt_lines, lines_of}
use Rattle.pyr_body.specs.Printed.{named_tokens, lines_text, AreLineTokens}
use Rattle.pyr_body.proofs.printing.+print.Goals as goal

module _ (locals reads writes : List Name) where
  lines_text-append : (xs ys : List Line) → lines_text locals reads writes (xs ++ ys) ≡ lines_text locals reads writes xs ++ lines_text locals reads writes ys
  lines_text-append xs ys = flat_map-append (λ (line : Line). canonical_line (named_tokens locals reads writes line) ++ 10 ∷ []) xs ys

  tokens-append : (xs ys : List Line) → AreLineTokens locals reads writes xs → AreLineTokens locals reads writes ys → AreLineTokens locals reads writes (xs ++ ys)
  tokens-append [] ys t u = u
  tokens-append (x ∷ xs) ys t u = (t.0, tokens-append xs ys t.1 u)

  -- the lines of the next statement were written
  written_on : (out next total : List ℕ) (ss : List StmtValue) (i : ℕ) (s : StmtValue) → statements_of (drop i ss) ≡ Then (stmt_of s) (statements_of (drop (i + 1) ss))
      → out ++ lines_text locals reads writes (lines_of (statements_of (drop i ss))) ≡ total → next ≡ out ++ lines_text locals reads writes (stmt_lines (stmt_of s))
      → next ++ lines_text locals reads writes (lines_of (statements_of (drop (i + 1) ss))) ≡ total
  written_on out next total ss i s parts left here =
      let rest : List Line = lines_of (statements_of (drop (i + 1) ss)) in
      ap (λ (n : List ℕ). n ++ lines_text locals reads writes rest) here
      ∙ append_assoc out (lines_text locals reads writes (stmt_lines (stmt_of s))) (lines_text locals reads writes rest)
      ∙ ap (λ (t : List ℕ). out ++ t) (sym (lines_text-append (stmt_lines (stmt_of s)) rest))
      ∙ ap (λ (us : Statements). out ++ lines_text locals reads writes (lines_of us)) (sym parts)
      ∙ left

  tokens_on : (ss : List StmtValue) (i : ℕ) (s : StmtValue) (Total : Type 0) → statements_of (drop i ss) ≡ Then (stmt_of s) (statements_of (drop (i + 1) ss))
      → AreLineTokens locals reads writes (stmt_lines (stmt_of s)) → (AreLineTokens locals reads writes (lines_of (statements_of (drop i ss))) → Total)
      → AreLineTokens locals reads writes (lines_of (statements_of (drop (i + 1) ss))) → Total
  tokens_on ss i s Total parts here total left =
      total (subst (λ (us : Statements). AreLineTokens locals reads writes (lines_of us)) (sym parts) (tokens-append (stmt_lines (stmt_of s)) (lines_of (statements_of (drop (i + 1) ss))) here left))

  -- the lines of all statements were written
  all_written : (out total : List ℕ) (us : Statements) → us ≡ End → out ++ lines_text locals reads writes (lines_of us) ≡ total → out ≡ total
  all_written out total us none left = sym (append-nil out) ∙ ap (λ (vs : Statements). out ++ lines_text locals reads writes (lines_of vs)) (sym none) ∙ left

  all_tokens : (us : Statements) (Total : Type 0) → us ≡ End → (AreLineTokens locals reads writes (lines_of us) → Total) → Total
  all_tokens us Total none total = total (subst (λ (vs : Statements). AreLineTokens locals reads writes (lines_of vs)) (sym none) tt)

  -- the lines of a loop were written, with its first and its last one
  loop_written : (o a b e first : List ℕ) (ls : List Line) → a ≡ o ++ first → b ≡ a ++ lines_text locals reads writes ls → e ≡ b ++ lines_text locals reads writes (DoneLine ∷ [])
      → e ≡ o ++ (first ++ lines_text locals reads writes (ls ++ DoneLine ∷ []))
  loop_written o a b e first ls begin turn done =
      done
      ∙ ap (λ (t : List ℕ). t ++ lines_text locals reads writes (DoneLine ∷ [])) (turn ∙ ap (λ (t : List ℕ). t ++ lines_text locals reads writes ls) begin)
      ∙ append_assoc (o ++ first) (lines_text locals reads writes ls) (lines_text locals reads writes (DoneLine ∷ []))
      ∙ append_assoc o first (lines_text locals reads writes ls ++ lines_text locals reads writes (DoneLine ∷ []))
      ∙ ap (λ (t : List ℕ). o ++ (first ++ t)) (sym (lines_text-append ls (DoneLine ∷ [])))

  -- one line was written, of tokens that are seen under other names
  module _ {E : Type 0} (result : Result (Unit {0}) E) where
    one_text : (old new : List ℕ) (ts us : List Token) (line : Line) (ls : List Line) → ts ≡ us → us ≡ named_tokens locals reads writes line → ls ≡ line ∷ []
        → OnOk result (new ≡ old ++ (canonical_line ts ++ 10 ∷ [])) → OnOk result (new ≡ old ++ lines_text locals reads writes ls)
    one_text old new ts us line ls same is lines =
        on_ok_weaker result (λ w. w
        ∙ ap (λ (vs : List Token). old ++ (canonical_line vs ++ 10 ∷ [])) (same ∙ is)
        ∙ ap (λ (t : List ℕ). old ++ t) (sym (append-nil (canonical_line (named_tokens locals reads writes line) ++ 10 ∷ [])))
        ∙ ap (λ (ks : List Line). old ++ lines_text locals reads writes ks) (sym lines))

    one_tokens : (ts us : List Token) (line : Line) (ls : List Line) → ts ≡ us → us ≡ named_tokens locals reads writes line → ls ≡ line ∷ []
        → OnOk result (AreTokens ts) → OnOk result (AreLineTokens locals reads writes ls)
    one_tokens ts us line ls same is lines =
        on_ok_weaker result (λ w. subst (AreLineTokens locals reads writes) (sym lines) (subst AreTokens (same ∙ is) w, tt))

set_lines : (local : ℕ) (value : ExprValue) → stmt_lines (stmt_of (stmts.Set local value)) ≡ SetLine local (expr_of value) ∷ []
set_lines local value = search (rules, the_lemmas)

put_lines : (output : ℕ) (index value : ExprValue) → stmt_lines (stmt_of (stmts.Put output index value)) ≡ PutLine output (expr_of index) (expr_of value) ∷ []
put_lines output index value = search (rules, the_lemmas)

-- the next statement, and those behind it
next_of : (ss : List StmtValue) (i : ℕ) (s : StmtValue) → i < length ss → s ≡ get_or ss i s → statements_of (drop i ss) ≡ Then (stmt_of s) (statements_of (drop (i + 1) ss))
next_of ss i s inside is =
    ap statements_of (drop_more ss i s inside) ∙ ap (λ (x : StmtValue). Then (stmt_of x) (statements_of (drop (i + 1) ss))) (sym is)

pub print_statements-loop-statement-init : goal.print_statements-loop-statement-init
print_statements-loop-statement-init t c = record { so_far = refl; tokens = λ h. h; scoped = c.requires }

pub print_statements-loop-statement-preserved : goal.print_statements-loop-statement-preserved
print_statements-loop-statement-preserved t c =
    let parts = next_of c.args.statements.now c.loop-statement.statement-index c.statement-item.result c.loop-statement-test.true c.statement-item.is in
    record {
      so_far = written_on c.args.locals.now c.args.names.now.reads c.args.names.now.writes c.loop-statement.out.items c.print_stmt.new.out.items _ c.args.statements.now c.loop-statement.statement-index c.statement-item.result parts c.loop-statement.invariant.so_far c.in_ok-print_stmt.ensures.text;
      tokens = tokens_on c.args.locals.now c.args.names.now.reads c.args.names.now.writes c.args.statements.now c.loop-statement.statement-index c.statement-item.result _ parts c.in_ok-print_stmt.ensures.tokens c.loop-statement.invariant.tokens;
      scoped = (subst (λ (us : Statements). AreScoped (length c.args.names.now.reads) (length c.args.names.now.writes) (length c.args.locals.now) us) parts c.loop-statement.invariant.scoped).1;
    }

pub print_statements-returns : goal.print_statements-returns
print_statements-returns t c =
    let none = at_drop_all statements_of c.args.statements.now c.loop-statement.statement-index c.loop-statement-test.false in
    record {
      text = all_written c.args.locals.now c.args.names.now.reads c.args.names.now.writes c.loop-statement.out.items _ _ none c.loop-statement.invariant.so_far;
      tokens = all_tokens c.args.locals.now c.args.names.now.reads c.args.names.now.writes _ _ none c.loop-statement.invariant.tokens;
    }

pub print_loop-returns : goal.print_loop-returns
print_loop-returns t c =
    let lines = lines_of (statements_of c.args.turn.now) in
    record {
      text = on_ok_weaker c.write_line-2.result (λ end. loop_written c.args.locals.now c.args.names.now.reads c.args.names.now.writes c.args.out.now.items c.write_line.new.out.items c.print_statements.new.out.items c.write_line-2.new.out.items (canonical_line c.args.first.now ++ 10 ∷ []) lines c.in_ok-write_line.ensures.text c.in_ok-print_statements.ensures.text end) c.write_line-2.ensures.text;
      first = on_ok_weaker c.write_line-2.result (λ end. c.in_ok-write_line.ensures.tokens) c.write_line-2.ensures.text;
      tokens = on_ok_weaker c.write_line-2.result (λ end. tokens-append c.args.locals.now c.args.names.now.reads c.args.names.now.writes lines (DoneLine ∷ []) c.in_ok-print_statements.ensures.tokens ((tt, tt), tt)) c.write_line-2.ensures.text;
    }

pub print_stmt-returns-in_ok-line-in-Set : goal.print_stmt-returns-in_ok-line-in-Set
print_stmt-returns-in_ok-line-in-Set t c =
    let lines = ap (λ (s : StmtValue). stmt_lines (stmt_of s)) c.in-Set.is ∙ set_lines c.in-Set.local c.in-Set.value in
    record {
      text = one_text c.args.locals.now c.args.names.now.reads c.args.names.now.writes c.write_line.result c.args.out.now.items c.write_line.new.out.items c.as_slice.result.now c.in_ok-line-in-Set.line _ _ c.as_slice.ensures c.in_ok-line-in-Set.ensures lines c.write_line.ensures.text;
      tokens = one_tokens c.args.locals.now c.args.names.now.reads c.args.names.now.writes c.write_line.result c.as_slice.result.now c.in_ok-line-in-Set.line _ _ c.as_slice.ensures c.in_ok-line-in-Set.ensures lines c.write_line.ensures.tokens;
    }

pub print_stmt-returns-in_ok-line-in-Put : goal.print_stmt-returns-in_ok-line-in-Put
print_stmt-returns-in_ok-line-in-Put t c =
    let lines = ap (λ (s : StmtValue). stmt_lines (stmt_of s)) c.in-Put.is ∙ put_lines c.in-Put.output c.in-Put.index c.in-Put.value in
    record {
      text = one_text c.args.locals.now c.args.names.now.reads c.args.names.now.writes c.write_line-in-Put.result c.args.out.now.items c.write_line-in-Put.new.out.items c.as_slice-in-Put.result.now c.in_ok-line-in-Put.line _ _ c.as_slice-in-Put.ensures c.in_ok-line-in-Put.ensures lines c.write_line-in-Put.ensures.text;
      tokens = one_tokens c.args.locals.now c.args.names.now.reads c.args.names.now.writes c.write_line-in-Put.result c.as_slice-in-Put.result.now c.in_ok-line-in-Put.line _ _ c.as_slice-in-Put.ensures c.in_ok-line-in-Put.ensures lines c.write_line-in-Put.ensures.tokens;
    }

-- What lines come to in the end.
use Rattle.std.proofs.Common.{◌≡◌, ℕ, ◌-◌, ◌<◌, ◌≤◌, ◌^◌, min, List, [], ◌∷◌, length, Result, Ok, Err, refl, sym, ap, subst, ◌∙◌, arith}
use Rattle.std.specs.Prelude.{◌≢◌}
use Rattle.pyr_num.specs.declared.limits.Quantity.TheVariants.{Work}
use Rattle.pyr_num.specs.declared.limits.TheConstants.Limits.{WORK}
use Rattle.pyr_num.specs.declared.name.Name.{Name}
use Rattle.pyr_body.specs.declared.line_fault.LineFault.{LineFault}
use Rattle.pyr_body.specs.declared.line_fault.LineFault.TheVariants.{Text, Limit}
use Rattle.pyr_num.specs.declared.work.TheConstants.{TOO_MUCH}
use Rattle.pyr_body.specs.declared.open_loop.OpenLoop.{OpenLoop}
use Rattle.pyr_body.specs.declared.stmt.Stmt.{Stmt as StmtValue}
use Rattle.pyr_body.specs.Tree.{Statements}
use Rattle.pyr_body.specs.Seen.{statements_of}
use Rattle.pyr_body.specs.Size.{statements_nodes, statements_work}
use Rattle.pyr_body.specs.Lines.{lines_of, lines_nodes, lines_depth, lines_count, loops_open, loops_from, all_numbered_after, AreInOrder}
use Rattle.pyr_body.specs.Parts.{BodyParts}
use Rattle.pyr_body.specs.Body.{IsBody, body_of}
use Rattle.pyr_body.specs.Taking.{LinesTaken}
use Rattle.pyr_body.specs.Kept.{lines_in, taken_by, IsKept}
use Rattle.pyr_body.specs.Reader.{body_taken, IsEnd}
use Rattle.pyr_body.proofs.TreeLines.{statements_nodes-lines, statements_depth-lines, statements_count-lines, statements_loops-lines, statements_opened, lines_are_one_tree}

abbrev body_ok : BodyParts → Result BodyParts LineFault
body_ok body = Ok body

-- the same values under other names
pub ends_so : (t s : LinesTaken) (b c : BodyParts) → t ≡ s → c ≡ b → IsEnd t (Ok b) → IsEnd s (Ok c)
ends_so t s b c e f h =
    subst (λ (x : LinesTaken). IsEnd x (Ok c)) e (subst (λ (x : BodyParts). IsEnd t (Ok x)) (sym f) h)

empty_length : (os : List OpenLoop) → os ≢ [] → 0 < length os
empty_length [] h = absurd (h refl)
empty_length (o ∷ os) h = omega arith

module _ (reads : ℕ) (slots : List Name) (nodes_before : ℕ) (locals : List Name) (outer : List OpenLoop) (current : List StmtValue) (nodes : ℕ) (k : IsKept (taken_by reads slots nodes_before locals outer current) (length outer) nodes) where
  abbrev taken : LinesTaken
  taken = taken_by reads slots nodes_before locals outer current

  closed_lines : (ss : Statements) → lines_of ss ≡ lines_in outer current → length outer ≡ 0
  closed_lines ss e =
      let opened : loops_open (lines_of ss) ≡ loops_open (lines_in outer current) = ap loops_open e in
      omega (arith, k.loops_counted, opened, statements_opened ss 0)

  -- a loop is open
  pub open_end : outer ≢ [] → IsEnd taken (Err Text)
  open_end some =
      let more = empty_length outer some in
      record {
        open_loop = λ _. refl;
        tree = λ e. absurd (omega (arith, e, more, k.loops_counted));
        much_work = λ ss. λ e. λ _. absurd (omega (arith, closed_lines ss e, more));
        body = λ ss. λ e. λ _. absurd (omega (arith, closed_lines ss e, more));
      }

  -- no loop is open
  module _ (none : outer ≡ []) where
    alone : lines_of (statements_of current) ≡ lines_in outer current
    alone = ap (λ os. lines_in os current) (sym none)

    none_open : loops_open (lines_in outer current) ≡ 0
    none_open = sym k.loops_counted ∙ ap (λ (os : List OpenLoop). length os) none

    the_tree : (ss : Statements) → lines_of ss ≡ lines_in outer current → ss ≡ statements_of current
    the_tree ss e = lines_are_one_tree ss (statements_of current) (e ∙ sym alone)

    pub few_nodes : (seen : List StmtValue) → seen ≡ current → statements_nodes (statements_of seen) < 2 ^ 32
    few_nodes seen is =
        let same : statements_nodes (statements_of seen) ≡ statements_nodes (statements_of current) = ap (λ ss. statements_nodes (statements_of ss)) is in
        let counted : lines_nodes (lines_of (statements_of current)) ≡ lines_nodes (lines_in outer current) = ap lines_nodes alone in
        omega (arith, same, counted, statements_nodes-lines (statements_of current), k.nodes_counted, k.few_nodes)

    module _ (seen : List StmtValue) (is : seen ≡ current) (work : ℕ) (capped : work ≡ min (statements_work (statements_of seen)) TOO_MUCH) where
      the_work : (ss : Statements) → lines_of ss ≡ lines_in outer current → work ≡ min (statements_work ss) TOO_MUCH
      the_work ss e =
          capped
          ∙ ap (λ us. min (statements_work (statements_of us)) TOO_MUCH) is
          ∙ ap (λ us. min (statements_work us) TOO_MUCH) (sym (the_tree ss e))

      -- the work passes its limit
      pub much_end : WORK < work → IsEnd taken (Err (Limit Work))
      much_end more = record {
        open_loop = λ o. absurd (omega (arith, o, none_open));
        tree = λ _. (statements_of current, alone);
        much_work = λ ss. λ e. λ _. refl;
        body = λ ss. λ e. λ few. absurd (omega (arith, few, more, the_work ss e));
      }

      module _ (few : work ≤ WORK) (count writes : ℕ) (counted : count ≡ length slots) (rest : writes ≡ count - reads) where
        same_writes : writes ≡ length slots - reads
        same_writes = rest ∙ ap (λ n. n - reads) counted

        -- the lines are a body
        pub is_body : IsBody (body_of current locals reads writes)
        is_body =
            let w = the_work (statements_of current) alone in
            let n : lines_nodes (lines_of (statements_of current)) ≡ lines_nodes (lines_in outer current) = ap lines_nodes alone in
            let d : lines_depth (lines_of (statements_of current)) ≡ lines_depth (lines_in outer current) = ap lines_depth alone in
            let c : lines_count (lines_of (statements_of current)) ≡ lines_count (lines_in outer current) = ap lines_count alone in
            let l : loops_from (lines_of (statements_of current)) 0 ≡ loops_from (lines_in outer current) 0 = ap (λ ls. loops_from ls 0) alone in
            record {
              order = subst (λ m. AreInOrder reads m (lines_of (statements_of current)) 0) (sym same_writes) (subst (λ ls. AreInOrder reads (length slots - reads) ls 0) (sym alone) k.order);
              numbered = ap (λ ls. all_numbered_after ls 0) alone ∙ k.numbered;
              names = k.distinct_locals;
              depth = omega (arith, d, statements_depth-lines (statements_of current), k.shallow);
              nodes = omega (arith, n, statements_nodes-lines (statements_of current), k.nodes_counted, k.few_nodes);
              loops = omega (arith, l, statements_loops-lines (statements_of current) 0, k.loops_nested);
              count = omega (arith, c, statements_count-lines (statements_of current), k.small_counts);
              locals = k.few_locals;
              work = omega (arith, w, few);
            }

        pub body_end : IsEnd taken (Ok (body_of current locals reads writes))
        body_end = record {
          open_loop = λ o. absurd (omega (arith, o, none_open));
          tree = λ _. (statements_of current, alone);
          much_work = λ ss. λ e. λ more. absurd (omega (arith, more, few, the_work ss e));
          body = λ ss. λ e. λ _.
              ap (λ m. body_ok (body_of current locals reads m)) same_writes
              ∙ ap (λ us. body_ok (body_taken taken us)) (sym (the_tree ss e));
        }

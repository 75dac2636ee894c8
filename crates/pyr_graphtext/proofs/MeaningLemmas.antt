-- A body changes no length of its outputs, so the tasks of a program make lists of the lengths of their data.
use Rattle.std.proofs.Common.{◌≡◌, ℕ, zero, suc, List, [], ◌∷◌, length, map, replicate, refl, sym, ◌∙◌}
use Rattle.std.proofs.lemmas.List.{length-replicate}
use Rattle.pyr_body.specs.Tree.{Stmt, Set, Put, For, Statements, End, Then}
use Rattle.pyr_body.specs.Meaning.{State, with_local, turns, expr_value, after_stmt, after_statements, body_meaning}
use Rattle.pyr_body.specs.Parts.{BodyParts}
use Rattle.pyr_body.proofs.RunLemmas.{lengths-with_word}
use Rattle.pyr_seq.specs.Sequential.{HasOneWriter}
use Rattle.pyr_seq.specs.Laws.{MakesLengths}
use Rattle.pyr_graph.specs.System.{System, length_of, writes_of}
use Rattle.pyr_graph.specs.WholeGraph.{IsGraph}
use Rattle.pyr_graphtext.specs.Program.{ProgramParts, body_at, blank_outputs, tasks_of}
use Rattle.pyr_graphtext.specs.Running.{zeros_for}

-- the lengths of the outputs
abbrev lengths : State → List ℕ
lengths state = map length state.outputs

turns_lengths : (l : ℕ) (turn : State → State) → ((state : State) → lengths (turn state) ≡ lengths state) → (k : ℕ) (state : State) → lengths (turns l turn k state) ≡ lengths state
turns_lengths l turn keeps zero state = refl
turns_lengths l turn keeps (suc k) state =
    keeps (with_local (turns l turn k state) l k) ∙ turns_lengths l turn keeps k state

module _ (frame : ℕ) (inputs : List (List ℕ)) where
  mutual
    stmt_lengths : (s : Stmt) (state : State) → lengths (after_stmt frame inputs s state) ≡ lengths state
    stmt_lengths (Set l e) state = refl
    stmt_lengths (Put output index e) state =
        lengths-with_word state.outputs output (expr_value frame inputs index state) (expr_value frame inputs e state)
    stmt_lengths (For l count turn) state =
        turns_lengths l (after_statements frame inputs turn) (statements_lengths turn) count state

    statements_lengths : (ss : Statements) (state : State) → lengths (after_statements frame inputs ss state) ≡ lengths state
    statements_lengths End state = refl
    statements_lengths (Then s rest) state =
        statements_lengths rest (after_stmt frame inputs s state) ∙ stmt_lengths s state

  pub meaning_lengths : (body : BodyParts) (outputs : List (List ℕ)) → map length (body_meaning body frame inputs outputs) ≡ map length outputs
  meaning_lengths body outputs =
      statements_lengths body.statements (record { locals = replicate (length body.locals) 0; outputs = outputs })

zeros_lengths : (graph : System) (ds : List ℕ) → map length (zeros_for graph ds) ≡ map (length_of graph) ds
zeros_lengths graph [] = refl
zeros_lengths graph (d ∷ ds) = λ i. length-replicate {A = ℕ} (length_of graph d) 0 i ∷ zeros_lengths graph ds i

-- each task makes lists of the lengths of the data that it writes
pub makes_lengths : (p : ProgramParts) (frame : ℕ) → MakesLengths (tasks_of p frame) (length_of p.graph)
makes_lengths p frame t inputs t_in =
    meaning_lengths frame inputs (body_at p t) (blank_outputs p t) ∙ zeros_lengths p.graph (writes_of p.graph t)

-- one task writes each datum
pub one_writer_of : (p : ProgramParts) (frame : ℕ) → IsGraph p.graph → HasOneWriter (tasks_of p frame)
one_writer_of p frame graph a b d a_in b_in by_a by_b =
    graph.one_writer d a (a_in, by_a) ∙ sym (graph.one_writer d b (b_in, by_b))

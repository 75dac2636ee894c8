-- The figures of a verified graph as text.
use Rattle.std.specs.Prelude.{ℕ, List, ◌∷◌, ◌++◌, codes, decimal}
use Rattle.pyr_verify.specs.declared.summary.Summary.{Summary}

-- each figure on a line, behind its name
abbrev pub summary_text : Summary → List ℕ
summary_text s =
    codes "tasks" ++ 32 ∷ decimal s.tasks
    ++ codes "\nprocessors" ++ 32 ∷ decimal s.processors
    ++ codes "\nmessages" ++ 32 ∷ decimal s.messages
    ++ codes "\nsteps" ++ 32 ∷ decimal s.steps
    ++ codes "\ntime" ++ 32 ∷ decimal s.time
    ++ codes "\nsum" ++ 32 ∷ decimal s.sum ++ codes "\n"

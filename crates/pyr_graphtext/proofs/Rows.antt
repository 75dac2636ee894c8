-- A worked row: four tasks, of which two read what the first writes, and the last reads what those two write.
use Rattle.std.proofs.Common.{◌≡◌, ℕ, [], ◌∷◌, refl}
use Rattle.pyr_num.specs.declared.arithmetic.Bin.TheVariants.{Add, Mul}
use Rattle.pyr_body.specs.Tree.{Expr, Num, Get, Bin, Put, End, Then}
use Rattle.pyr_body.specs.Parts.{BodyParts}
use Rattle.pyr_graph.specs.declared.parts.DatumParts.{DatumParts}
use Rattle.pyr_graph.specs.System.{datum_numbers}
use Rattle.pyr_seq.specs.Sequential.{outputs_of}
use Rattle.pyr_graphtext.specs.Program.{ProgramParts, tasks_of}

datum : ℕ → DatumParts
datum comm = record { length = 1; comm = comm }

-- a body that writes one word
body : ℕ → Expr → BodyParts
body reads e = record { statements = Then (Put 0 (Num 0) e) End; locals = []; reads = reads; writes = 1 }

-- x is 3, y is x and 1, z is x twice, and w is the sum of y and z
diamond : ProgramParts
diamond = record {
  graph = record {
    tasks =
        record { cost = 2; reads = []; writes = record { 0 = 0 } ∷ [] }
        ∷ record { cost = 3; reads = record { 0 = 0 } ∷ []; writes = record { 0 = 1 } ∷ [] }
        ∷ record { cost = 4; reads = record { 0 = 0 } ∷ []; writes = record { 0 = 2 } ∷ [] }
        ∷ record { cost = 1; reads = record { 0 = 1 } ∷ record { 0 = 2 } ∷ []; writes = record { 0 = 3 } ∷ [] }
        ∷ [];
    datums = datum 5 ∷ datum 1 ∷ datum 1 ∷ datum 0 ∷ [];
    prints = record { 0 = 3 } ∷ [];
  };
  datum_names = (120 ∷ []) ∷ (121 ∷ []) ∷ (122 ∷ []) ∷ (119 ∷ []) ∷ [];
  task_names = (97 ∷ []) ∷ (98 ∷ []) ∷ (99 ∷ []) ∷ (100 ∷ []) ∷ [];
  bodies =
      body 0 (Num 3)
      ∷ body 1 (Bin Add (Get 0 (Num 0)) (Num 1))
      ∷ body 1 (Bin Mul (Get 0 (Num 0)) (Num 2))
      ∷ body 2 (Bin Add (Get 0 (Num 0)) (Get 1 (Num 0)))
      ∷ [];
}

in_one_order : outputs_of (tasks_of diamond 0) (0 ∷ 1 ∷ 2 ∷ 3 ∷ []) (datum_numbers diamond.graph.prints) ≡ (10 ∷ []) ∷ []
unfolding datum body diamond
in_one_order = refl

in_another : outputs_of (tasks_of diamond 0) (0 ∷ 2 ∷ 1 ∷ 3 ∷ []) (datum_numbers diamond.graph.prints) ≡ (10 ∷ []) ∷ []
unfolding datum body diamond
in_another = refl

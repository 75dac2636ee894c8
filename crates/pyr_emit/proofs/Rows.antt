-- The emission of two worked examples, as the definitions give it.
use Rattle.std.proofs.Common.{◌≡◌, ℕ, List, [], ◌∷◌, map, refl}
use Rattle.pyr_num.specs.declared.ids.DatumId.{DatumId}
use Rattle.pyr_num.specs.declared.ids.ProcId.{ProcId}
use Rattle.pyr_graph.specs.declared.parts.TaskParts.{TaskParts}
use Rattle.pyr_graph.specs.declared.parts.DatumParts.{DatumParts}
use Rattle.pyr_graph.specs.declared.placement.Placement.{Placement}
use Rattle.pyr_graph.specs.System.{System}
use Rattle.pyr_bundle.specs.declared.raw_instr.RawInstr.{RawInstr}
use Rattle.pyr_bundle.specs.declared.raw_instr.RawInstr.TheVariants.{Recv, Exec, Send}
use Rattle.pyr_emit.specs.Emission.{codes, channels_of}

abbrev datum : ℕ → DatumId
datum d = record { 0 = d }

abbrev processor : ℕ → ProcId
processor q = record { 0 = q }

abbrev task : ℕ → List ℕ → List ℕ → TaskParts
task cost reads writes =
    record { cost = cost; reads = map datum reads; writes = map datum writes }

abbrev parts : ℕ → DatumParts
parts comm = record { length = 1; comm = comm }

abbrev on : ℕ → List ℕ → Placement
on processors tasks = record { processors = processors; of = map processor tasks }

-- a writes what b and c read, and d reads what these two write; a and b are on processor 0, c and d
-- on processor 1
abbrev diamond : System
diamond = record {
  tasks = task 2 [] (0 ∷ []) ∷ task 10 (0 ∷ []) (1 ∷ []) ∷ task 10 (0 ∷ []) (2 ∷ []) ∷ task 1 (1 ∷ 2 ∷ []) (3 ∷ []) ∷ [];
  datums = map parts (1 ∷ 1 ∷ 1 ∷ 0 ∷ []);
  prints = datum 3 ∷ [];
}

abbrev diamond_code : List (List RawInstr)
diamond_code = codes diamond (on 2 (0 ∷ 0 ∷ 1 ∷ 1 ∷ [])) (0 ∷ 1 ∷ 2 ∷ 3 ∷ [])

diamond_emitted : diamond_code ≡ (Exec 0 ∷ Send 1 0 ∷ Exec 1 ∷ Send 1 1 ∷ []) ∷ (Recv 0 0 ∷ Exec 2 ∷ Recv 0 1 ∷ Exec 3 ∷ []) ∷ []
diamond_emitted = refl

diamond_channels : channels_of diamond_code ≡ record { from = 0; to = 1; capacity = 2 } ∷ []
diamond_channels = refl

-- three columns are eliminated: two tasks on processor 0 need two columns and what was made of the
-- third on processor 1
abbrev elimination : System
elimination = record {
  tasks = task 1 [] (0 ∷ []) ∷ task 1 [] (1 ∷ []) ∷ task 1 [] (2 ∷ []) ∷ task 6 (0 ∷ 1 ∷ []) (3 ∷ []) ∷ task 6 (0 ∷ 2 ∷ []) (4 ∷ []) ∷ task 6 (3 ∷ 4 ∷ []) (5 ∷ []) ∷ [];
  datums = map parts (6 ∷ 2 ∷ 2 ∷ 4 ∷ 3 ∷ 0 ∷ []);
  prints = datum 5 ∷ datum 3 ∷ [];
}

abbrev elimination_code : List (List RawInstr)
elimination_code =
    codes elimination (on 2 (1 ∷ 1 ∷ 1 ∷ 1 ∷ 0 ∷ 0 ∷ [])) (0 ∷ 1 ∷ 3 ∷ 2 ∷ 4 ∷ 5 ∷ [])

elimination_emitted : elimination_code
    ≡ (Recv 1 0 ∷ Recv 1 2 ∷ Exec 4 ∷ Recv 1 3 ∷ Exec 5 ∷ [])
    ∷ (Exec 0 ∷ Send 0 0 ∷ Exec 1 ∷ Exec 3 ∷ Send 0 3 ∷ Exec 2 ∷ Send 0 2 ∷ []) ∷ []
elimination_emitted = refl

elimination_channels : channels_of elimination_code ≡ record { from = 1; to = 0; capacity = 3 } ∷ []
elimination_channels = refl

-- The printed data as text.
use Rattle.std.specs.Prelude.{ℕ, List, [], ◌∷◌, ◌++◌, codes, decimal, map}
use Rattle.std.specs.List.{flat_map}
use Rattle.pyr_num.specs.declared.name.Name.{Name}
use Rattle.pyr_graphtext.specs.Program.{ProgramParts, datum_name}
use Rattle.pyr_bundle.specs.Parts.{Parts, datum_at}

-- a line with the name of a datum and its words in order
abbrev pub output_line : Name → List ℕ → List ℕ
output_line name words =
    name ++ codes " =" ++ flat_map (λ word. 32 ∷ decimal word) words ++ codes "\n"

-- a line for each name, with the words at its place
abbrev pub output_lines : List Name → List (List ℕ) → List ℕ
output_lines [] lists = []
output_lines (name ∷ names) [] = []
output_lines (name ∷ names) (words ∷ lists) =
    output_line name words ++ output_lines names lists

-- the names of the printed data of a program
abbrev pub printed_names : ProgramParts → List Name
printed_names p = map (λ d. datum_name p d.0) p.graph.prints

-- these words of the printed data of a program as text
abbrev pub outputs_text : ProgramParts → List (List ℕ) → List ℕ
outputs_text p lists = output_lines (printed_names p) lists

-- the names of the printed data of a bundle
abbrev pub bundle_names : Parts → List Name
bundle_names b = map (λ d. (datum_at b d.0).name) b.prints

-- these words of the printed data of a bundle as text
abbrev pub bundle_outputs : Parts → List (List ℕ) → List ℕ
bundle_outputs b lists = output_lines (bundle_names b) lists

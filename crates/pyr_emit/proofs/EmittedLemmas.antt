-- The bundle of a plan as callers see it: its instructions, with typed numbers.
use Rattle.std.proofs.Common.{◌≡◌, ℕ, ◌<◌, List, [], ◌∷◌, length, map, refl, sym, ap, ◌∙◌, arith}
use Rattle.std.proofs.lemmas.List.{length-map, get_or-map}
use Rattle.std.proofs.lemmas.List.FromFn.{length-map-range_with_len, get_or-map-range_with_len}
use Rattle.pyr_graph.specs.declared.placement.Placement.{Placement}
use Rattle.pyr_graph.specs.declared.plan.Plan.{Plan}
use Rattle.pyr_graph.specs.System.{task_numbers}
use Rattle.pyr_graphtext.specs.Program.{ProgramParts}
use Rattle.pyr_bundle.specs.declared.raw_instr.RawInstr.{RawInstr}
use Rattle.pyr_bundle.specs.declared.instr.Instr.{Instr}
use Rattle.pyr_bundle.specs.declared.instr.Instr.TheVariants.{Recv, Exec, Send}
use Rattle.pyr_bundle.specs.Raw.{code_in}
use Rattle.pyr_bundle.specs.Parts.{Parts, raw_of, processor_count, code_at, instr_of, raw_instr_of}
use Rattle.pyr_emit.specs.Emission.{IsEmission, code_on}

instr_again : (instr : Instr) → instr_of (raw_instr_of instr) ≡ instr
instr_again (Recv from d) = refl
instr_again (Exec t) = refl
instr_again (Send to d) = refl

code_again : (code : List Instr) → map instr_of (map raw_instr_of code) ≡ code
code_again [] = refl
code_again (instr ∷ code) =
    ap (λ (x : Instr). x ∷ map instr_of (map raw_instr_of code)) (instr_again instr) ∙ ap (λ (xs : List Instr). instr ∷ xs) (code_again code)

module _ (p : ProgramParts) (placement : Placement) (plan : Plan) (b : Parts) (is : IsEmission p placement plan (raw_of b)) where
  -- as many processors as the placement has
  pub processors_are : processor_count b ≡ placement.processors
  processors_are =
      sym (length-map b.code (map raw_instr_of)) ∙ ap length is.code ∙ length-map-range_with_len (code_on p.graph placement (task_numbers plan.order)) 0 placement.processors

  -- the code of each is the blocks of its tasks
  pub code_is : (q : ℕ) → q < placement.processors → code_at b q ≡ map instr_of (code_on p.graph placement (task_numbers plan.order) q)
  code_is q inside =
      sym (code_again (code_at b q))
      ∙ ap (map instr_of) (sym (get_or-map (map raw_instr_of) b.code q [] [] (omega (arith, inside, processors_are))) ∙ ap (λ (list : List (List RawInstr)). code_in list q) is.code
      ∙ get_or-map-range_with_len (code_on p.graph placement (task_numbers plan.order)) 0 placement.processors q q [] inside (omega arith))

use Rattle.std.proofs.Common.{◌≡◌, ◌++◌, ◌&&◌, not, map}
use Rattle.std.specs.Prelude.{nat_eq}
use Rattle.std.specs.List.{filter, range_with_len}
use Rattle.pyr_bundle.specs.declared.raw_instr.RawInstr.TheVariants.{Send}
use Rattle.pyr_emit.specs.Marks.{is_marked, marks_of}
use Rattle.pyr_emit.proofs.blocks.push_sends_of.Given as goal

abbrev pub invariant-loop-to : goal.invariant-loop-to
invariant-loop-to l =
    l.code.items ≡ l.fn.code.items ++ map (λ q. Send q l.datum)
    (filter (λ q. not (nat_eq q l.home) && is_marked (marks_of l.readers q) l.datum) (range_with_len 0 l.to))

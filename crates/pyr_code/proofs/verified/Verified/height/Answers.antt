use Rattle.std.proofs.Common.{arith, ap}
use Rattle.pyr_code.specs.Seen.{code_of}
use Rattle.pyr_code.specs.Height.{greatest_height}
use Rattle.pyr_code.proofs.HeightLemmas.{greatest_height-low}
use Rattle.pyr_code.proofs.verified.Verified.height.Goals as goal

pub returns-clause-low : goal.returns-clause-low
returns-clause-low c =
    let code = c.self.inside.ops in
    let shape = c.self.inside.shape in
    omega (arith, greatest_height-low shape.reads shape.writes shape.locals (code_of code) 0 (omega arith) c.self.invariant.well_formed.fine, c.ops_heights-greatest.ensures.greatest, ap (λ ops. greatest_height (code_of ops) 0) c.as_slice.ensures)

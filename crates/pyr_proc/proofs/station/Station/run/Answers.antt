use Rattle.pyr_proc.proofs.RunningLemmas.{goes_same, goes_further}
use Rattle.pyr_proc.proofs.station.Station.run.Goals as goal

pub loop-instr-init : goal.loop-instr-init
loop-instr-init g c = goes_same c.args.frame c.args.self.now c.requires.running

pub loop-instr-preserved : goal.loop-instr-preserved
loop-instr-preserved g c = goes_further c.args.frame c.args.self.now c.loop-instr.self c.perform.new.self c.loop-instr.invariant c.perform.ensures.goes_on

use Rattle.pyr_net.proofs.PipelineRun.{goes_through}
use Rattle.pyr_net.proofs.laws.pipelines_complete.Goals as goal

pub returns : goal.returns
returns g c series n steps w h = goes_through series n steps w h

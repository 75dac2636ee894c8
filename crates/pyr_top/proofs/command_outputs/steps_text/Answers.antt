use Rattle.std.proofs.Common.{rules}
use Rattle.pyr_top.proofs.ClusterLemmas.{run_in}
use Rattle.pyr_top.proofs.command_outputs.steps_text.Goals as goal

pub cluster_report-requires : goal.cluster_report-requires
cluster_report-requires c = run_in c.args.program.now.graph c.in_ok-clustering.clustering (search rules)

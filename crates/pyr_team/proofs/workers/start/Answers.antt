use Rattle.std.proofs.Common.{subst, sym}
use Rattle.pyr_proc.specs.Seated.{Seated, HasRun}
use Rattle.pyr_team.proofs.workers.start.Goals as goal

pub spawn_with-requires-clause-keeps : goal.spawn_with-requires-clause-keeps
spawn_with-requires-clause-keeps g c κs within = λ r post e. subst (λ (s : Seated). HasRun 0 s r.0) (sym c.of.ensures) (post e)

use Rattle.pyr_loader.specs.Unreceived.{IsFirstIn}
use Rattle.pyr_loader.proofs.leftover.first_in.Given as goal

abbrev pub invariant-loop-place : goal.invariant-loop-place
invariant-loop-place l = IsFirstIn l.bundle l.from.0 l.place l.first

use Rattle.pyr_calm.proofs.Passes.{IsPassed}
use Rattle.pyr_calm.proofs.watching.viewers_after.Given as goal

abbrev pub invariant-loop-passage : goal.invariant-loop-passage
invariant-loop-passage l =
    IsPassed l.processors l.q l.passages l.passage-index l.viewers.items l.takes.items

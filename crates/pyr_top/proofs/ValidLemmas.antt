-- A valid input is not refused.
use Rattle.std.proofs.Common.{◌≡◌, ℕ, List, Result, Err, subst}
use Rattle.pyr_top.specs.declared.command.Command.{Command}
use Rattle.pyr_top.specs.declared.command.Command.TheVariants.{Seq, Cluster, Compile, Gantt, Check, Run, Make, VerifyMake}
use Rattle.pyr_top.specs.declared.refusal.Refusal.{Refusal}
use Rattle.pyr_top.specs.Answers.{Gives, Answers}
use Rattle.pyr_top.specs.Valid.{IsFit, IsValid}
use Rattle.pyr_top.proofs.OneAnswer.{stands_or_refuses, loaded_or_refused}

-- a command gives no refusal for an input that is fit for it
fit_or_refused : (command : Command) (input : List ℕ) (refusal : Refusal) → IsFit command input → Gives command input (Err refusal) → ⊥
fit_or_refused Seq input refusal fit gives = stands_or_refuses input fit.program refusal fit.stands gives
fit_or_refused Cluster input refusal fit gives = stands_or_refuses input fit.program refusal fit.stands gives
fit_or_refused (Compile processors) input refusal fit gives = stands_or_refuses input fit.program refusal fit.stands gives
fit_or_refused (Gantt processors) input refusal fit gives = stands_or_refuses input fit.program refusal fit.stands gives
fit_or_refused Check input refusal fit gives = loaded_or_refused input fit.loaded refusal fit.loads gives
fit_or_refused Run input refusal fit gives = loaded_or_refused input fit.loaded refusal fit.loads gives
fit_or_refused (Make tasks) input refusal fit gives = cc
fit_or_refused (VerifyMake tasks processors) input refusal fit gives = gives

pub valid_or_refused : (command : Command) (input : List ℕ) (given : Result (List ℕ) Refusal) (refusal : Refusal) → IsValid command input → Answers command input given → given ≡ Err refusal → ⊥
valid_or_refused command input given refusal valid answers is =
    fit_or_refused command input refusal valid.fit (subst (Gives command input) is (answers.within valid.within))

-- What holds of commands and of their answers alone.
use Rattle.std.specs.Prelude.{◌≡◌, ℕ, List, Result}
use Rattle.pyr_top.specs.declared.command.Command.{Command}
use Rattle.pyr_top.specs.declared.refusal.Refusal.{Refusal}
use Rattle.pyr_top.specs.Commands.{Spells}
use Rattle.pyr_top.specs.Answers.{Answers}

-- words spell one command at most
abbrev pub WordsSpellOneCommand : Type 0
WordsSpellOneCommand =
    (words : List (List ℕ)) (command other : Command) → Spells words command → Spells words other
    → command ≡ other

-- a command has one answer at most for an input
abbrev pub OneAnswerIsDefined : Type 0
OneAnswerIsDefined =
    (command : Command) (input : List ℕ) (given other : Result (List ℕ) Refusal)
    → Answers command input given → Answers command input other → given ≡ other

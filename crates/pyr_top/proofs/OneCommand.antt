-- Words ask for one command.
use Rattle.std.proofs.Common.{◌≡◌, ◌<◌, ◌^◌, ℕ, List, [], ◌∷◌, Option, unwrap_or, if◌then◌else◌, sym, ap, ◌∙◌, arith}
use Rattle.std.specs.Prelude.{codes, decimal, bytes_eq}
use Rattle.pyr_decimal.specs.Number.{number_of}
use Rattle.pyr_decimal.proofs.Numbers.{number_of-decimal}
use Rattle.pyr_top.specs.declared.command.Command.{Command}
use Rattle.pyr_top.specs.declared.command.Command.TheVariants.{Seq, Cluster, Compile, Gantt, Check, Run, Make, VerifyMake}
use Rattle.pyr_top.specs.Commands.{Spells}

-- the numbers that the first and the second of these words write
abbrev first_number : List (List ℕ) → ℕ
first_number [] = 0
first_number (text ∷ words) = unwrap_or (number_of text) 0

abbrev second_number : List (List ℕ) → ℕ
second_number [] = 0
second_number (text ∷ words) = first_number words

-- the command that a first word and those that come after it tell
abbrev told_by : List ℕ → List (List ℕ) → Command
told_by first rest =
    if bytes_eq first (codes "cluster") then Cluster
    else if bytes_eq first (codes "compile") then Compile (first_number rest)
    else if bytes_eq first (codes "gantt") then Gantt (first_number rest)
    else if bytes_eq first (codes "check") then Check
    else if bytes_eq first (codes "run") then Run
    else if bytes_eq first (codes "make") then Make (first_number rest)
    else if bytes_eq first (codes "verify-make") then VerifyMake (first_number rest) (second_number rest)
    else Seq

abbrev told_words : List (List ℕ) → Command
told_words [] = Seq
told_words (first ∷ rest) = told_by first rest

number_told : (n : ℕ) → n < 2 ^ 64 → unwrap_or (number_of (decimal n)) 0 ≡ n
number_told n fits = ap (λ (o : Option ℕ). unwrap_or o 0) (number_of-decimal n fits)

-- the words of a command tell it
told : (words : List (List ℕ)) (command : Command) → Spells words command → told_words words ≡ command
told words Seq spelled = ap told_words spelled.text
told words Cluster spelled = ap told_words spelled.text
told words (Compile processors) spelled =
    ap told_words spelled.text ∙ ap Compile (number_told processors (let most = spelled.range.1 in omega arith))
told words (Gantt processors) spelled =
    ap told_words spelled.text ∙ ap Gantt (number_told processors (let most = spelled.range.1 in omega arith))
told words Check spelled = ap told_words spelled.text
told words Run spelled = ap told_words spelled.text
told words (Make tasks) spelled =
    ap told_words spelled.text ∙ ap Make (number_told tasks (let most = spelled.range.1 in omega arith))
told words (VerifyMake tasks processors) spelled =
    ap told_words spelled.text
    ∙ ap (λ (n : ℕ). VerifyMake n (unwrap_or (number_of (decimal processors)) 0)) (number_told tasks (let most = spelled.range.1 in omega arith))
    ∙ ap (VerifyMake tasks) (number_told processors (let most = spelled.range.3 in omega arith))

pub one_command : (words : List (List ℕ)) (command other : Command) → Spells words command → Spells words other → command ≡ other
one_command words command other first second = sym (told words command first) ∙ told words other second

-- The commands: the words that spell each, what it reads, and whether it starts threads.
use Rattle.std.specs.Prelude.{◌≡◌, ⊤, ℕ, ◌≤◌, Bool, true, false, List, [], ◌∷◌, Option, Some, map, codes, decimal, String, string_bytes, IsTrue, if◌then◌else◌}
use Rattle.std.specs.declared.alloc.Global.{Global}
use Rattle.pyr_num.specs.declared.limits.TheConstants.Limits.{LEAST_PROCESSORS, PROCESSORS, TASKS}
use Rattle.pyr_top.specs.declared.command.Command.{Command}
use Rattle.pyr_top.specs.declared.command.Command.TheVariants.{Seq, Cluster, Compile, Gantt, Check, Run, Make, VerifyMake}

-- the bytes of each word
abbrev pub texts : List (String Global) → List (List ℕ)
texts words = map string_bytes words

-- the words of a command
abbrev pub spelling : Command → List (List ℕ)
spelling Seq = codes "seq" ∷ []
spelling Cluster = codes "cluster" ∷ []
spelling (Compile processors) = codes "compile" ∷ decimal processors ∷ []
spelling (Gantt processors) = codes "gantt" ∷ decimal processors ∷ []
spelling Check = codes "check" ∷ []
spelling Run = codes "run" ∷ []
spelling (Make tasks) = codes "make" ∷ decimal tasks ∷ []
spelling (VerifyMake tasks processors) =
    codes "verify-make" ∷ decimal tasks ∷ decimal processors ∷ []

-- the numbers of a command are in their ranges
abbrev pub IsWithinRange : Command → Type 0
IsWithinRange Seq = ⊤
IsWithinRange Cluster = ⊤
IsWithinRange (Compile processors) = (LEAST_PROCESSORS ≤ processors) × (processors ≤ PROCESSORS)
IsWithinRange (Gantt processors) = (LEAST_PROCESSORS ≤ processors) × (processors ≤ PROCESSORS)
IsWithinRange Check = ⊤
IsWithinRange Run = ⊤
IsWithinRange (Make tasks) = (1 ≤ tasks) × (tasks ≤ TASKS)
IsWithinRange (VerifyMake tasks processors) =
    (1 ≤ tasks) × (tasks ≤ TASKS) × (LEAST_PROCESSORS ≤ processors) × (processors ≤ PROCESSORS)

-- the words ask for the command
pub record Spells (words : List (List ℕ)) (command : Command) : Type 0 where
  pub text : words ≡ spelling command
  pub range : IsWithinRange command

-- the command reads the source to its end
abbrev pub has_input : Command → Bool
has_input Seq = true
has_input Cluster = true
has_input (Compile processors) = true
has_input (Gantt processors) = true
has_input Check = true
has_input Run = true
has_input (Make tasks) = false
has_input (VerifyMake tasks processors) = false

-- what it reads is a graph text, or a bundle text
abbrev pub reads_graph : Command → Bool
reads_graph Seq = true
reads_graph Cluster = true
reads_graph (Compile processors) = true
reads_graph (Gantt processors) = true
reads_graph command = false

abbrev pub reads_bundle : Command → Bool
reads_bundle Check = true
reads_bundle Run = true
reads_bundle command = false

-- the command starts threads, and may wait for them
abbrev pub uses_threads : Command → Bool
uses_threads Run = true
uses_threads command = false

-- the bytes that a command is given, where they are told: those that are left in the source, and none where it has no input
abbrev pub input_of : Command → Option (List ℕ) → Option (List ℕ)
input_of command left = if has_input command then left else Some []

-- the words ask for no command
abbrev pub NoCommand : List (List ℕ) → Type 0
NoCommand words = (command : Command) → Spells words command → ⊥

-- the words ask for a command with an input
pub record ReadsInput (words : List (List ℕ)) : Type 0 where
  pub command : Command
  pub spelled : Spells words command
  pub input : IsTrue (has_input command)

-- they ask for one that reads a graph text, or a bundle text
pub record ReadsGraph (words : List (List ℕ)) : Type 0 where
  pub command : Command
  pub spelled : Spells words command
  pub graph : IsTrue (reads_graph command)

pub record ReadsBundle (words : List (List ℕ)) : Type 0 where
  pub command : Command
  pub spelled : Spells words command
  pub bundle : IsTrue (reads_bundle command)

-- they ask for one that starts threads
pub record AsksForThreads (words : List (List ℕ)) : Type 0 where
  pub command : Command
  pub spelled : Spells words command
  pub threads : IsTrue (uses_threads command)

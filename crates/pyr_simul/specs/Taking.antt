-- What the reader of durations keeps, and what its private parts answer. No public clause cites this.
use Rattle.std.specs.Prelude.{◌≡◌, ⊤, ℕ, ◌<◌, ◌≤◌, Option, Some, None, Result, Ok, Err, List, [], ◌∷◌, length, slice_index_or, unwrap_or}
use Rattle.pyr_num.specs.declared.limits.TheConstants.Limits.{TIME, DELAY}
use Rattle.pyr_num.specs.declared.name.Name.{Name}
use Rattle.pyr_graph.specs.System.{System, task_count, datum_count, cost_of, comm_of}
use Rattle.pyr_graphtext.specs.Program.{ProgramParts, IsProgram}
use Rattle.pyr_simul.specs.declared.duration_fault.DurationFault.{DurationFault}
use Rattle.pyr_simul.specs.declared.duration_fault.DurationFault.TheVariants.{BadText, Memory}
use Rattle.pyr_simul.specs.declared.duration_line.DurationLine.{DurationLine}
use Rattle.pyr_simul.specs.declared.durations.Durations.{Durations}
use Rattle.pyr_simul.specs.declared.given.Given.{Given}
use Rattle.pyr_simul.specs.declared.reading.Reader.{Reader}
use Rattle.pyr_simul.specs.Durations.{time_of, delay_of}
use Rattle.pyr_simul.specs.Given.{time_given, delay_given}
use Rattle.pyr_simul.specs.Reading.{line_said, text_said, IsFaultOf}

-- the answer is this fault, or that there is none
abbrev pub Tells : {X : Type 0} → Result X DurationFault → Option DurationFault → Type 0
Tells (Ok x) fault = fault ≡ None
Tells (Err e) fault = fault ≡ Some e

-- what line n was read as, unless memory ran out
abbrev pub GivesLine : ℕ → Result DurationLine DurationFault → Option DurationLine → Type 0
GivesLine n (Ok line) read = read ≡ Some line
GivesLine n (Err Memory) read = ⊤
GivesLine n (Err fault) read = (read ≡ None) × (fault ≡ BadText n)

-- the numbers given to these names, none above the most
pub record AreGiven (names : List Name) (given : Name → Option ℕ) (most : ℕ) (g : Given) : Type 0 where
  pub named : g.names ≡ names
  pub full : length g.numbers.items ≡ length names
  pub each : (i : ℕ) → i < length names
      → slice_index_or g.numbers.items i None ≡ given (slice_index_or names i [])
  pub small : (i : ℕ) → unwrap_or (slice_index_or g.numbers.items i None) 0 ≤ most

-- there is a number, or none, for each name
pub record IsFull (r : Reader) : Type 0 where
  pub times : length r.times.numbers.items ≡ length r.times.names
  pub delays : length r.delays.numbers.items ≡ length r.delays.names

-- the reader has what these lines give
pub record HasTaken (p : ProgramParts) (said : List DurationLine) (r : Reader) : Type 0 where
  pub times : AreGiven p.task_names (time_given said) TIME r.times
  pub delays : AreGiven p.datum_names (delay_given said) DELAY r.delays

-- the reader took line n, or the line has this fault, whatever lines it took before
abbrev pub Takes : {X : Type 0} → Reader → List ℕ → ℕ → Result X DurationFault → Reader → Type 0
Takes old line n (Ok x) new = (p : ProgramParts) (said : List DurationLine) → IsProgram p
    → HasTaken p said old
    → (l : DurationLine) × (line_said p said n line ≡ Ok l) × HasTaken p (l ∷ said) new
Takes old line n (Err Memory) new = ⊤
Takes old line n (Err fault) new = (p : ProgramParts) (said : List DurationLine) → IsProgram p
    → HasTaken p said old → line_said p said n line ≡ Err fault

-- the reader, which had taken no line, took all lines, or the first faulty one has this fault
abbrev pub TakesText : {X : Type 0} → Reader → ℕ → List ℕ → Result X DurationFault → Reader → Type 0
TakesText old first text (Ok x) new = (p : ProgramParts) → IsProgram p → HasTaken p [] old
    → (said : List DurationLine) × (text_said p first text ≡ Ok said) × HasTaken p said new
TakesText old first text (Err fault) new =
    (p : ProgramParts) → IsProgram p → HasTaken p [] old → IsFaultOf p first text fault

-- the durations are what the reader has, else the weights of the graph
pub record AreTold (r : Reader) (s : System) (d : Durations) : Type 0 where
  pub times_full : length d.time ≡ task_count s
  pub delays_full : length d.delay ≡ datum_count s
  pub times : (t : ℕ) → t < task_count s
      → time_of d t ≡ unwrap_or (slice_index_or r.times.numbers.items t None) (cost_of s t)
  pub delays : (x : ℕ) → x < datum_count s
      → delay_of d x ≡ unwrap_or (slice_index_or r.delays.numbers.items x None) (comm_of s x)

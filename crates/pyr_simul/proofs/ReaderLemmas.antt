-- What a reader of durations does with a line, and with a text.
use Rattle.std.proofs.Common.{◌≡◌, ℕ, ◌+◌, ◌≤◌, ◌<◌, inl, inr, Option, Some, None, Result, Ok, Err, List, [], ◌∷◌, length, set, get_or, arith, refl, sym, ap, subst, ◌∙◌}
use Rattle.std.specs.Prelude.{OnOk, option_and_then, replicate, unwrap_or, slice_index}
use Rattle.std.proofs.lemmas.Bool.{cases_lt}
use Rattle.std.proofs.lemmas.List.{get_or_past}
use Rattle.pyr_num.specs.declared.limits.Quantity.TheVariants as quantities
use Rattle.pyr_num.specs.declared.limits.TheConstants.Limits.{TIME, DELAY}
use Rattle.pyr_num.specs.declared.name.Name.{Name}
use Rattle.pyr_lex.specs.Reading.{tokens_of}
use Rattle.pyr_graph.specs.System.{System, task_count, datum_count, cost_of, comm_of}
use Rattle.pyr_graph.specs.Bounds.{IsWithinLimits}
use Rattle.pyr_graphtext.specs.Lines.{lines}
use Rattle.pyr_graphtext.specs.Statements.{place_of}
use Rattle.pyr_graphtext.specs.Program.{ProgramParts, IsProgram}
use Rattle.pyr_simul.specs.declared.duration_fault.DurationFault.{DurationFault}
use Rattle.pyr_simul.specs.declared.duration_fault.DurationFault.TheVariants.{BadText, Limit, Names, Memory}
use Rattle.pyr_simul.specs.declared.duration_line.DurationLine.{DurationLine}
use Rattle.pyr_simul.specs.declared.duration_line.DurationLine.TheVariants.{Blank, Time, Delay}
use Rattle.pyr_simul.specs.declared.durations.Durations.{Durations}
use Rattle.pyr_simul.specs.declared.given.Given.{Given}
use Rattle.pyr_simul.specs.declared.reading.Reader.{Reader}
use Rattle.pyr_simul.specs.Durations.{IsFor}
use Rattle.pyr_simul.specs.Given.{said_by, time_given, delay_given}
use Rattle.pyr_simul.specs.Reading.{number_fault, line_fault, judged, line_said, lines_said, text_said, AreRead}
use Rattle.pyr_simul.specs.Taking.{Tells, GivesLine, AreGiven, HasTaken, Takes, TakesText, AreTold}
use Rattle.pyr_simul.proofs.GivenLemmas.{fine_number, same_fault, AreGiven-more, AreGiven-none}

-- what a line was read as
abbrev read_as : List ℕ → Option DurationLine
read_as line = option_and_then said_by (tokens_of line)

abbrev done : DurationLine → Result DurationLine DurationFault
done l = Ok l

abbrev failed : DurationFault → Result DurationLine DurationFault
failed fault = Err fault

said_is : (p : ProgramParts) (said : List DurationLine) (n : ℕ) (line : List ℕ) (o : Option DurationLine) → read_as line ≡ o → line_said p said n line ≡ judged p said n o
unfolding line_said
said_is p said n line o is = ap (judged p said n) is

line_fine : (p : ProgramParts) (said : List DurationLine) (n : ℕ) (line : List ℕ) (l : DurationLine) → read_as line ≡ Some l → line_fault p said n l ≡ None → line_said p said n line ≡ done l
line_fine p said n line l is fine = said_is p said n line (Some l) is ∙ rw fine refl

line_faulty : (p : ProgramParts) (said : List DurationLine) (n : ℕ) (line : List ℕ) (l : DurationLine) (fault : DurationFault) → read_as line ≡ Some l → line_fault p said n l ≡ Some fault → line_said p said n line ≡ failed fault
line_faulty p said n line l fault is wrong = said_is p said n line (Some l) is ∙ rw wrong refl

-- a fault is told whatever the lines before are
fails : (old new : Reader) (line : List ℕ) (n : ℕ) (fault : DurationFault)
    → ((p : ProgramParts) (said : List DurationLine) → IsProgram p → HasTaken p said old → line_said p said n line ≡ failed fault)
    → Takes {X = Unit {0}} old line n (Err fault) new
fails old new line n (BadText at) h = h
fails old new line n (Limit at which) h = h
fails old new line n (Names at kind name) h = h
fails old new line n Memory h = tt

-- a line without a token
pub takes_blank : (old : Reader) (line : List ℕ) (n : ℕ) → read_as line ≡ Some Blank → Takes {X = Unit {0}} old line n (Ok tt) old
takes_blank old line n is = λ p said program taken. (Blank, line_fine p said n line Blank is refl, record { times = taken.times; delays = taken.delays })

-- a line that is none of durations, and want of memory
pub takes_none : (old new : Reader) (line : List ℕ) (n : ℕ) (fault : DurationFault) → GivesLine n (Err fault) (read_as line) → Takes {X = Unit {0}} old line n (Err fault) new
takes_none old new line n (BadText at) gives = λ p said program taken. said_is p said n line None gives.0 ∙ ap failed (sym gives.1)
takes_none old new line n (Limit at which) gives = λ p said program taken. said_is p said n line None gives.0 ∙ ap failed (sym gives.1)
takes_none old new line n (Names at kind name) gives = λ p said program taken. said_is p said n line None gives.0 ∙ ap failed (sym gives.1)
takes_none old new line n Memory gives = tt

pub takes_fault : (r : Result (Unit {0}) DurationFault) (old new : Reader) (line : List ℕ) (n : ℕ) (fault : DurationFault) → r ≡ Err fault
    → GivesLine n (Err fault) (read_as line) → Takes old line n r new
takes_fault r old new line n fault is gives =
    subst (λ (x : Result (Unit {0}) DurationFault). Takes old line n x new) (sym is) (takes_none old new line n fault gives)

-- a line that gives a time
module _ (old new : Reader) (line : List ℕ) (n : ℕ) (name : Name) (time : ℕ) (is : read_as line ≡ Some (Time name time))
    (named : new.times.names ≡ old.times.names) (kept : new.delays ≡ old.delays) where
  pub takes_time : (r : Result (Unit {0}) DurationFault)
      → Tells r (number_fault n quantities.Time TIME old.times.names (get_or old.times.numbers.items (place_of old.times.names name) None) name time)
      → OnOk r (new.times.numbers.items ≡ set old.times.numbers.items (place_of old.times.names name) (Some time))
      → Takes old line n r new
  takes_time (Ok x) fine put = λ p said program taken.
      let none : line_fault p said n (Time name time) ≡ None =
      sym (same_fault p.task_names program.tasks_differ (time_given said) TIME old.times taken.times n quantities.Time name time) ∙ fine in
      let (small, known) = fine_number n quantities.Time TIME p.task_names (time_given said name) name time none in (
        Time name time,
        line_fine p said n line (Time name time) is none,
        record {
          times = AreGiven-more p.task_names program.tasks_differ (time_given said) TIME old.times taken.times name time known small new.times named put;
          delays = subst (λ (g : Given). AreGiven p.datum_names (delay_given said) DELAY g) (sym kept) taken.delays;
        },
      )
  takes_time (Err fault) wrong put = fails old new line n fault (λ p said program taken.
      line_faulty p said n line (Time name time) fault is
      (sym (same_fault p.task_names program.tasks_differ (time_given said) TIME old.times taken.times n quantities.Time name time) ∙ wrong))

-- a line that gives a delay
module _ (old new : Reader) (line : List ℕ) (n : ℕ) (name : Name) (delay : ℕ) (is : read_as line ≡ Some (Delay name delay))
    (named : new.delays.names ≡ old.delays.names) (kept : new.times ≡ old.times) where
  pub takes_delay : (r : Result (Unit {0}) DurationFault)
      → Tells r (number_fault n quantities.Delay DELAY old.delays.names (get_or old.delays.numbers.items (place_of old.delays.names name) None) name delay)
      → OnOk r (new.delays.numbers.items ≡ set old.delays.numbers.items (place_of old.delays.names name) (Some delay))
      → Takes old line n r new
  takes_delay (Ok x) fine put = λ p said program taken.
      let none : line_fault p said n (Delay name delay) ≡ None =
      sym (same_fault p.datum_names program.datums_differ (delay_given said) DELAY old.delays taken.delays n quantities.Delay name delay) ∙ fine in
      let (small, known) = fine_number n quantities.Delay DELAY p.datum_names (delay_given said name) name delay none in (
        Delay name delay,
        line_fine p said n line (Delay name delay) is none,
        record {
          times = subst (λ (g : Given). AreGiven p.task_names (time_given said) TIME g) (sym kept) taken.times;
          delays = AreGiven-more p.datum_names program.datums_differ (delay_given said) DELAY old.delays taken.delays name delay known small new.delays named put;
        },
      )
  takes_delay (Err fault) wrong put = fails old new line n fault (λ p said program taken.
      line_faulty p said n line (Delay name delay) fault is
      (sym (same_fault p.datum_names program.datums_differ (delay_given said) DELAY old.delays taken.delays n quantities.Delay name delay) ∙ wrong))

-- the lines behind one, by what is said of it
abbrev behind_line : ProgramParts → List DurationLine → ℕ → List (List ℕ) → Result DurationLine DurationFault
    → Result (List DurationLine) DurationFault
behind_line p older n ls (Ok line) = lines_said p (line ∷ older) (n + 1) ls
behind_line p older n ls (Err fault) = Err fault

by_line : (p : ProgramParts) (older : List DurationLine) (n : ℕ) (l : List ℕ) (ls : List (List ℕ)) (r : Result DurationLine DurationFault)
    → line_said p older n l ≡ r → lines_said p older n (l ∷ ls) ≡ behind_line p older n ls r
by_line p older n l ls r is = from (line_said p older n l) refl ∙ ap (behind_line p older n ls) is
  where
    from : (s : Result DurationLine DurationFault) → line_said p older n l ≡ s
        → (elim s [ Ok line ↦ lines_said p (line ∷ older) (n + 1) ls | Err fault ↦ Err fault ]) ≡ behind_line p older n ls s
    from (Ok line) e = refl
    from (Err fault) e = refl

-- what the reader, from its start on, has taken of a text whose rest begins with this line
pub record HasRead (start : Reader) (first : ℕ) (text : List ℕ) (r : Reader) (number : ℕ) (rest : List ℕ) : Type 0 where
  pub within : number + length rest ≤ first + length text
  pub read : (p : ProgramParts) → IsProgram p → HasTaken p [] start
      → (said : List DurationLine) × (text_said p first text ≡ lines_said p said number (lines rest)) × HasTaken p said r

pub HasRead-start : (start : Reader) (first : ℕ) (text : List ℕ) → HasRead start first text start first text
HasRead-start start first text = record {
  within = omega arith;
  read = λ p program taken. ([], refl, taken);
}

module _ (start : Reader) (first : ℕ) (text : List ℕ) (r : Reader) (number : ℕ) (rest : List ℕ) (has : HasRead start first text r number rest) where
  module _ (line behind : List ℕ) (cut : lines rest ≡ line ∷ lines behind) where
    -- the line behind, in what is left
    goes_on : (p : ProgramParts) (said : List DurationLine) (l : DurationLine) → line_said p said number line ≡ done l
        → lines_said p said number (lines rest) ≡ lines_said p (l ∷ said) (number + 1) (lines behind)
    goes_on p said l is = ap (lines_said p said number) cut ∙ by_line p said number line (lines behind) (Ok l) is

    stops : (p : ProgramParts) (said : List DurationLine) (fault : DurationFault) → line_said p said number line ≡ failed fault
        → lines_said p said number (lines rest) ≡ Err fault
    stops p said fault is = ap (lines_said p said number) cut ∙ by_line p said number line (lines behind) (Err fault) is

    pub HasRead-step : length behind < length rest → (new : Reader) → Takes {X = Unit {0}} r line number (Ok tt) new → HasRead start first text new (number + 1) behind
    HasRead-step shorter new takes = record {
      within = omega (arith, has.within, shorter);
      read = λ p program taken.
          let before = has.read p program taken in
          let after = takes p before.0 program before.2 in
          (after.0 ∷ before.0, before.1 ∙ goes_on p before.0 after.0 after.1, after.2);
    }

    -- a faulty line
    pub HasRead-faulty : (new : Reader) (fault : DurationFault) → Takes {X = Unit {0}} r line number (Err fault) new → TakesText {X = Unit {0}} start first text (Err fault) new
    HasRead-faulty new (BadText at) takes = λ p program taken. let before = has.read p program taken in before.1 ∙ stops p before.0 (BadText at) (takes p before.0 program before.2)
    HasRead-faulty new (Limit at which) takes = λ p program taken. let before = has.read p program taken in before.1 ∙ stops p before.0 (Limit at which) (takes p before.0 program before.2)
    HasRead-faulty new (Names at kind name) takes = λ p program taken. let before = has.read p program taken in before.1 ∙ stops p before.0 (Names at kind name) (takes p before.0 program before.2)
    HasRead-faulty new Memory takes = λ p program taken. tt

    pub stops_at : (answer : Result (Unit {0}) DurationFault) (new : Reader) (fault : DurationFault) → answer ≡ Err fault
        → Takes {X = Unit {0}} r line number (Err fault) new → TakesText start first text answer new
    stops_at answer new fault is takes =
        subst (λ (x : Result (Unit {0}) DurationFault). TakesText start first text x new) (sym is) (HasRead-faulty new fault takes)

  none_left : (rest : List ℕ) → length rest ≡ 0 → lines rest ≡ []
  unfolding lines
  none_left [] e = refl
  none_left (b ∷ bs) e = absurd (omega (arith, e))

  -- all lines were taken
  pub HasRead-end : length rest ≡ 0 → TakesText {X = Unit {0}} start first text (Ok tt) r
  HasRead-end all = λ p program taken.
      let before = has.read p program taken in
      let finished : lines_said p before.0 number (lines rest) ≡ Ok before.0 = rw (none_left rest all) refl in
      (before.0, before.1 ∙ finished, before.2)

-- a reader that took no line
pub HasTaken-none : (p : ProgramParts) (r : Reader) → r.times.names ≡ p.task_names → r.times.numbers.items ≡ replicate (length p.task_names) None
    → r.delays.names ≡ p.datum_names → r.delays.numbers.items ≡ replicate (length p.datum_names) None → HasTaken p [] r
HasTaken-none p r tasks no_times datums no_delays = record {
  times = AreGiven-none p.task_names TIME r.times tasks no_times;
  delays = AreGiven-none p.datum_names DELAY r.delays datums no_delays;
}

-- the durations of a reader at the end of a text are for its program
module _ (p : ProgramParts) (program : IsProgram p) (limits : IsWithinLimits p.graph) (said : List DurationLine) (r : Reader) (taken : HasTaken p said r) (s : System) (same : s ≡ p.graph) (d : Durations) (are : AreTold r s d) where
  above : (most weight : ℕ) (given : Option ℕ) → unwrap_or given 0 ≤ most → weight ≤ most → unwrap_or given weight ≤ most
  above most weight None small light = light
  above most weight (Some number) small light = small

  told : AreTold r p.graph d
  told = subst (λ (x : System). AreTold r x d) same are

  small_times : (t : ℕ) → slice_index d.time t ≤ TIME
  small_times t = elim (cases_lt t (task_count p.graph)) [
    | inl inside ↦ (
        let light : cost_of p.graph t ≤ TIME = limits.costs t in
        rw (told.times t inside) (above TIME (cost_of p.graph t) (get_or r.times.numbers.items t None) (taken.times.small t) light))
    | inr past ↦ rw (get_or_past d.time t 0 (omega (arith, past, told.times_full))) (omega arith)
  ]

  small_delays : (x : ℕ) → slice_index d.delay x ≤ DELAY
  small_delays x = elim (cases_lt x (datum_count p.graph)) [
    | inl inside ↦ (
        let light : comm_of p.graph x ≤ DELAY = limits.comms x in
        rw (told.delays x inside) (above DELAY (comm_of p.graph x) (get_or r.delays.numbers.items x None) (taken.delays.small x) light))
    | inr past ↦ rw (get_or_past d.delay x 0 (omega (arith, past, told.delays_full))) (omega arith)
  ]

  pub told_for : IsFor p.graph d
  told_for = record {
    times_full = told.times_full;
    delays_full = told.delays_full;
    times = small_times;
    delays = small_delays;
  }

  pub told_read : (first : ℕ) (text : List ℕ) → text_said p first text ≡ Ok said → AreRead p first text d
  told_read first text fine = record {
    said = said;
    fine = fine;
    times_full = told.times_full;
    delays_full = told.delays_full;
    times = λ t inside. told.times t inside
        ∙ ap (λ (o : Option ℕ). unwrap_or o (cost_of p.graph t)) (taken.times.each t (omega (arith, inside, program.task_names)));
    delays = λ x inside. told.delays x inside
        ∙ ap (λ (o : Option ℕ). unwrap_or o (comm_of p.graph x)) (taken.delays.each x (omega (arith, inside, program.datum_names)));
  }

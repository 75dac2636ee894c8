use Rattle.std.proofs.Common.{◌≡◌, Some, Err, rules, refl, ap, ◌∙◌}
use Rattle.std.specs.Prelude.{option_and_then}
use Rattle.pyr_lex.specs.Reading.{tokens_of}
use Rattle.pyr_simul.specs.declared.duration_line.DurationLine.TheVariants.{Blank, Time, Delay}
use Rattle.pyr_simul.specs.Given.{said_by}
use Rattle.pyr_simul.proofs.ReaderLemmas.{takes_fault, takes_blank, takes_time, takes_delay}
use Rattle.pyr_simul.proofs.reading.Reader.line.Goals as goal

pub returns-in_err-read_line-clause-takes : goal.returns-in_err-read_line-clause-takes
returns-in_err-read_line-clause-takes c =
    let e : c.from_residual.result ≡ Err c.in_err-read_line.field-0.0 = search rules in
    takes_fault c.from_residual.result c.args.self.now c.args.self.now c.args.line.now c.args.number c.in_err-read_line.field-0.0 e c.in_err-read_line.ensures

pub returns-in-Blank-clause-takes : goal.returns-in-Blank-clause-takes
returns-in-Blank-clause-takes c =
    let is : option_and_then said_by (tokens_of c.args.line.now) ≡ Some Blank = c.in_ok-read_line.ensures ∙ ap Some c.in-Blank.is in
    takes_blank c.args.self.now c.args.line.now c.args.number is

pub returns-in-Time-clause-takes : goal.returns-in-Time-clause-takes
returns-in-Time-clause-takes c =
    let is : option_and_then said_by (tokens_of c.args.line.now) ≡ Some (Time c.in-Time.name c.in-Time.time) = c.in_ok-read_line.ensures ∙ ap Some c.in-Time.is in
    takes_time c.args.self.now (record { times = c.give.new.self; delays = c.args.self.now.delays }) c.args.line.now c.args.number c.in-Time.name c.in-Time.time is c.give.ensures.names refl c.give.result c.give.ensures.fault c.give.ensures.numbers

pub returns-in-Delay-clause-takes : goal.returns-in-Delay-clause-takes
returns-in-Delay-clause-takes c =
    let is : option_and_then said_by (tokens_of c.args.line.now) ≡ Some (Delay c.in-Delay.name c.in-Delay.delay) = c.in_ok-read_line.ensures ∙ ap Some c.in-Delay.is in
    takes_delay c.args.self.now (record { times = c.args.self.now.times; delays = c.give-in-Delay.new.self }) c.args.line.now c.args.number c.in-Delay.name c.in-Delay.delay is c.give-in-Delay.ensures.names refl c.give-in-Delay.result c.give-in-Delay.ensures.fault c.give-in-Delay.ensures.numbers

use Rattle.std.proofs.Common.{◌≡◌, ◌<◌, ◌≤◌, ◌^◌, Some, None, rules, arith}
use Rattle.std.proofs.lemmas.List.{places}
use Rattle.pyr_decimal.specs.Number.{number_of}
use Rattle.pyr_top.specs.Numerals.{NoNumeralIn}
use Rattle.pyr_top.proofs.NumeralLemmas.{nothing_read, other_read}
use Rattle.pyr_top.proofs.command.number_in.Goals as goal

pub returns-in_err-number-clause-none : goal.returns-in_err-number-clause-none
returns-in_err-number-clause-none c =
    let small : c.args.most < 2 ^ 64 = search (rules, places) in
    let read : number_of c.args.text.now ≡ None = search rules in
    let none : NoNumeralIn c.args.text.now c.args.least c.args.most = nothing_read c.args.text.now c.args.least c.args.most small read in
    search (rules, none)

pub returns-in_err-found-clause-none : goal.returns-in_err-found-clause-none
returns-in_err-found-clause-none c =
    let small : c.args.most < 2 ^ 32 = search (rules, places) in
    let read : number_of c.args.text.now ≡ Some c.in_ok-number.field-0 = search rules in
    let large : 2 ^ 32 ≤ c.in_ok-number.field-0 = search (rules, places) in
    let none : NoNumeralIn c.args.text.now c.args.least c.args.most =
    other_read c.args.text.now c.args.least c.args.most c.in_ok-number.field-0 (omega (arith, small)) read (λ at_least at_most. omega (arith, small, large, at_most))
    in
    search (rules, none)

pub returns-else-contains-clause-none : goal.returns-else-contains-clause-none
returns-else-contains-clause-none c =
    let small : c.args.most < 2 ^ 64 = search (rules, places) in
    let read : number_of c.args.text.now ≡ Some c.in_ok-found.found = search rules in
    other_read c.args.text.now c.args.least c.args.most c.in_ok-found.found small read (λ at_least at_most. search (rules, places, at_least, at_most))

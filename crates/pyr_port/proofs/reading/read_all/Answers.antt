use Rattle.std.proofs.Common.{◌≡◌, ◌≢◌, ◌≤◌, ◌+◌, arith, rules, length, vec_len}
use Rattle.std.proofs.lemmas.List.{places}
use Rattle.std.proofs.lemmas.Result.{err_from_is_err_and}
use Rattle.pyr_port.proofs.Taking.{loses_more}
use Rattle.pyr_port.specs.Taking.{Loses}
use Rattle.pyr_port.specs.declared.reading.ReadFault.TheVariants.{TooLong}
use Rattle.pyr_port.proofs.reading.read_all.Goals as goal

pub returns-in_err-take_piece-clause-too_long : goal.returns-in_err-take_piece-clause-too_long
returns-in_err-take_piece-clause-too_long g c is =
    let size : vec_len c.loop-bytes.bytes ≡ length c.loop-bytes.bytes.items = search (rules, places) in
    loses_more _ _ _ c.loop-bytes.bytes.items
    (λ n. vec_len c.loop-bytes.bytes + n ≡ c.args.limit + 1) (λ n. n ≡ c.args.limit + 1)
    c.loop-bytes.invariant.0 (c.in_err-take_piece.ensures.too_long (search rules)) (λ n e. omega (arith, e, size))

pub returns-in_err-take_piece-clause-not_too_long : goal.returns-in_err-take_piece-clause-not_too_long
returns-in_err-take_piece-clause-not_too_long g c =
    let size : vec_len c.loop-bytes.bytes ≡ length c.loop-bytes.bytes.items = search (rules, places) in
    let lost : c.in_err-take_piece.field-0.0 ≢ TooLong → Loses (g.S.Source.left c.args.source.now) (g.S.Source.left c.take_piece.new.source) (λ n. n ≤ c.args.limit) =
    λ other. loses_more _ _ _ c.loop-bytes.bytes.items
    (λ n. vec_len c.loop-bytes.bytes + n ≤ c.args.limit) (λ n. n ≤ c.args.limit)
    c.loop-bytes.invariant.0 (c.in_err-take_piece.ensures.not_too_long other) (λ n e. omega (arith, e, size)) in
    let exit = err_from_is_err_and c.from_residual-in_err-take_piece.result c.from_residual-in_err-take_piece.ensures.1 in
    rw (exit.1, exit.2) lost

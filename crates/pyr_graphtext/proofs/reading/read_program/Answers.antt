use Rattle.pyr_graphtext.proofs.ReadingLemmas.{has_said, answers_program, answers_fault}
use Rattle.pyr_graphtext.proofs.reading.read_program.Goals as goal

pub finish-requires : goal.finish-requires
finish-requires c = has_said c.args.text.now c.in_ok-reader.reader c.in_ok-reader.ensures

pub returns-clause-program : goal.returns-clause-program
returns-clause-program c = answers_program c.args.text.now c.in_ok-reader.reader c.finish.result c.in_ok-reader.ensures c.finish.ensures

pub returns-clause-fault : goal.returns-clause-fault
returns-clause-fault c = answers_fault c.args.text.now c.in_ok-reader.reader c.finish.result c.in_ok-reader.ensures c.finish.ensures

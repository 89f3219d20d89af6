use Rattle.pool_calls.proofs.Reading.{reads_one}
use Rattle.pool_calls.proofs.laws.numbers_are_of_one_call.Goals as goal

pub returns : goal.returns
returns c = reads_one

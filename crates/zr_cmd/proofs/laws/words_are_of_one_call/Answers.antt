use Rattle.zr_cmd.proofs.Calls.{found, found-spelled, one-call, read-back}
use Rattle.zr_cmd.proofs.laws.words_are_of_one_call.Goals as goal

pub returns-clause-one : goal.returns-clause-one
returns-clause-one c = one-call

pub returns-clause-read_back : goal.returns-clause-read_back
returns-clause-read_back c = read-back

pub returns-clause-spelled : goal.returns-clause-spelled
returns-clause-spelled c = found-spelled

pub returns-clause-found : goal.returns-clause-found
returns-clause-found c = found

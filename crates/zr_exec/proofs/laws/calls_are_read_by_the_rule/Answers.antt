use Rattle.zr_exec.specs.Listed.{listed_by}
use Rattle.zr_exec.proofs.Answers.{answered}
use Rattle.zr_exec.proofs.Commands.{command_of-spelled, transfer_of-spelled, words_of-read}
use Rattle.zr_exec.proofs.laws.calls_are_read_by_the_rule.Goals as goal

pub returns-clause-command : goal.returns-clause-command
returns-clause-command c = command_of-spelled

pub returns-clause-words : goal.returns-clause-words
returns-clause-words c = words_of-read

pub returns-clause-transfer : goal.returns-clause-transfer
returns-clause-transfer c = transfer_of-spelled

pub returns-clause-answer : goal.returns-clause-answer
returns-clause-answer c = λ command. answered (listed_by command)

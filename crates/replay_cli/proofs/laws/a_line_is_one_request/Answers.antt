use Rattle.replay_cli.proofs.RequestLines.{one_request}
use Rattle.replay_cli.proofs.RequestTexts.{list_text}
use Rattle.replay_cli.proofs.laws.a_line_is_one_request.Goals as goal

pub returns-clause-one : goal.returns-clause-one
returns-clause-one c = one_request

pub returns-clause-list : goal.returns-clause-list
returns-clause-list c = list_text

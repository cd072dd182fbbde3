use Rattle.exam_http.proofs.TokenLaws.{all_may_ask}
use Rattle.exam_http.proofs.laws.without_a_token_all_may_ask.Goals as goal

pub returns : goal.returns
returns c = all_may_ask

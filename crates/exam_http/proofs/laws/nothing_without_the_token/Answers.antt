use Rattle.exam_http.proofs.TokenLaws.{without_the_token}
use Rattle.exam_http.proofs.laws.nothing_without_the_token.Goals as goal

pub returns : goal.returns
returns c = without_the_token

use Rattle.std.proofs.Common.{refl}
use Rattle.std.specs.Fmt.{digits}
use Rattle.serde_json.proofs.OnLiterals.{serde_json_on_literals}
use Rattle.wire_http.specs.Responses.{response, type_text}
use Rattle.exam_http.specs.Replies.{reply_body}
use Rattle.exam_http.proofs.laws.response_of_a_first_item.Goals as goal

pub returns : goal.returns
unfolding serde_json_on_literals response type_text reply_body digits
returns c = refl

use Rattle.std.proofs.Common.{◌≡◌, map, take}
use Rattle.serde_json.specs.View.{view}
use Rattle.exam_http.specs.Replies.{counts_body}
use Rattle.exam_http.proofs.body.rows_of.Given as goal

abbrev pub invariant-loop-row : goal.invariant-loop-row
invariant-loop-row l = map view l.rows.items ≡ map counts_body (take l.row-index l.counts)

use Rattle.std.specs.Int.{w32, w64, to_be_bytes}
use Rattle.std.proofs.lemmas.Result.{on_ok_weaker}
use Rattle.exam_records.specs.Spelling.{sets_bytes, list_bytes}
use Rattle.exam_records.proofs.Joins.{started_pieces}
use Rattle.exam_records.proofs.writing.push_started_with_list.Goals as goal

pub returns : goal.returns
returns c =
    let eligible = c.args.eligible.now in
    on_ok_weaker c.push_list.result (λ list. started_pieces c.args.out.now.items (to_be_bytes w32 c.args.session) (to_be_bytes w64 c.args.booking) (sets_bytes eligible.count eligible.sets) (list_bytes c.args.list.now) c.push_started.new.out.items c.push_list.new.out.items 9 eligible.count c.in_ok-push_started.ensures list) c.push_list.ensures

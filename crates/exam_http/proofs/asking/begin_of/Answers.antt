use Rattle.std.proofs.Common.{sym}
use Rattle.exam_http.specs.Asks.{no_booking, no_list, begin}
use Rattle.exam_http.proofs.asking.begin_of.Goals as goal

pub returns-in-Err : goal.returns-in-Err
returns-in-Err c = no_booking c.in-Err.fault (sym c.in-Err.ensures.value)

pub returns-in-Err-list_member : goal.returns-in-Err-list_member
returns-in-Err-list_member c = no_list c.in-Ok.booking c.in-Err-list_member.fault (sym c.in-Ok.ensures.value) c.in-Err-list_member.ensures

pub returns-in-Ok-list_member : goal.returns-in-Ok-list_member
returns-in-Ok-list_member c =
    let list = c.in-Ok-list_member.ensures in
    begin c.in-Ok.booking list.0 c.begin_with.result (sym c.in-Ok.ensures.value) list.1 (c.begin_with.ensures list.0 list.2)

use Rattle.std.proofs.Common.{◌≡◌, ◌≤◌, ◌-◌, None}
use Rattle.exam_office.specs.Payloads.{IsCursorOf}
use Rattle.exam_follower.specs.Shipping.{IsReadOnly}
use Rattle.exam_follower.proofs.office_log.go_to.Given as goal

abbrev pub invariant-records : goal.invariant-records
invariant-records g l = record {
  within : l.cursor.number ≤ l.number;
  cursor : IsCursorOf l.office.journal l.cursor;
  sure : l.office.doubt ≡ None;
  read : IsReadOnly l.fn.office l.office;
}

abbrev pub decreases-records : goal.decreases-records
decreases-records g l = l.number - l.cursor.number

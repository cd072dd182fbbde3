use Rattle.std.proofs.Common.{◌≡◌, ◌≤◌, length, map, take}
use Rattle.httparse.specs.Spans.{header_bytes}
use Rattle.wire_http.specs.Fields.{values_of, first_of}
use Rattle.wire_http.proofs.fields.count_and_first.Given as goal

abbrev pub invariant-loop-field : goal.invariant-loop-field
invariant-loop-field l = record {
  within : l.count ≤ l.field-index;
  count : l.count ≡ length (values_of l.name (take l.field-index (map (header_bytes l.bytes) l.fields)));
  first : l.first ≡ first_of (values_of l.name (take l.field-index (map (header_bytes l.bytes) l.fields)));
}

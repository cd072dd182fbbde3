use Rattle.std.proofs.Common.{rules, append_assoc}
use Rattle.std.proofs.lemmas.List.{take-append-drop}
use Rattle.record_links.proofs.kept.Kept.receive.Goals as goal

pub returns-in-Err-clause-end : goal.returns-in-Err-clause-end
returns-in-Err-clause-end g c = search rules

pub returns-in-Ok-eq0-clause-bytes : goal.returns-in-Ok-eq0-clause-bytes
returns-in-Ok-eq0-clause-bytes g c = search rules

pub returns-in-Ok-eq0-clause-same : goal.returns-in-Ok-eq0-clause-same
returns-in-Ok-eq0-clause-same g c = search rules

pub returns-in-Ok-extend_from_slice-clause-bytes : goal.returns-in-Ok-extend_from_slice-clause-bytes
returns-in-Ok-extend_from_slice-clause-bytes g c told =
    let read = c.in-Ok.ensures.takes told in
    rw (c.in-Ok-extend_from_slice.ensures.items, read.left, read.bytes, append_assoc, take-append-drop)

pub returns-in-Ok-extend_from_slice-clause-some : goal.returns-in-Ok-extend_from_slice-clause-some
returns-in-Ok-extend_from_slice-clause-some g c = search rules

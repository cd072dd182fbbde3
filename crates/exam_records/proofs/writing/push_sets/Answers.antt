use Rattle.std.proofs.Common.{sym, append_assoc}
use Rattle.std.proofs.lemmas.List.{append-nil}
use Rattle.exam_records.specs.Spelling.{sets_bytes}
use Rattle.exam_records.proofs.BandFields.{sets_more}
use Rattle.exam_records.proofs.writing.push_sets.Goals as goal

pub loop-band-init : goal.loop-band-init
unfolding sets_bytes
loop-band-init c = sym (append-nil c.args.out.now.items)

pub loop-band-preserved : goal.loop-band-preserved
loop-band-preserved c = rw (c.in_ok-push_set.ensures, c.set_in.ensures, c.loop-band.invariant, sets_more c.loop-band.band c.args.eligible.now.sets) (append_assoc c.args.out.now.items _ _)

use Rattle.std.proofs.Common.{sym, subst, refl}
use Rattle.exam_records.specs.Shape.{IsRecord}
use Rattle.exam_records.specs.Spelling.{old_payload_of}
use Rattle.exam_session.proofs.book.Book.lift.Goals as goal

pub returns-clause-spelling : goal.returns-clause-spelling
unfolding old_payload_of
returns-clause-spelling c = rw (← c.old.view_is, c.lift_entry-entry.ensures.spelling) refl

pub returns-clause-is_record : goal.returns-clause-is_record
returns-clause-is_record c = λ is.
    let was = subst IsRecord (sym c.old.view_is) is in
    record {
      goes_with = c.lift_entry-entry.ensures.goes_with _ was.goes_with;
      bands = c.lift_entry-entry.ensures.bands was.bands;
      fits = c.is_in_range.ensures;
      tree = was.tree;
    }

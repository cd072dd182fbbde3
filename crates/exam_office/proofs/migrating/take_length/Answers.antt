use Rattle.std.proofs.Common.{◌≡◌, ◌+◌, length, refl, ap, subst, arith}
use Rattle.serving_model.specs.Seats.{first_band}
use Rattle.history_model.specs.declared.entry.Entry.{Entry}
use Rattle.history_model.specs.Judging.{Record}
use Rattle.exam_records.specs.Spelling.{payload_of, old_payload_of}
use Rattle.exam_office.proofs.migrating.take_length.Goals as goal

pub returns-in-Ok-clause-taken : goal.returns-in-Ok-clause-taken
returns-in-Ok-clause-taken c =
    let book = c.args.book.now in
    let rec = c.in-Ok.rec in
    let first = first_band book.bank book.plan in
    let same : c.rec.inside.entry ≡ rec.entry = ap (λ (r : Record). r.entry) c.rec.view_is in
    let longer : length (payload_of rec) ≡ length (old_payload_of first rec) + c.growth.result =
    subst (λ (e : Entry). length (payload_of (record { entry = e; tree = rec.tree })) ≡ length (old_payload_of first (record { entry = e; tree = rec.tree })) + c.growth.result) same (c.growth.ensures.longer first rec.tree) in
    let old = ap length c.in-Ok.ensures.spelling in (
      payload_of rec,
      omega (arith, longer, old),
      record {
        last = rec;
        spells = c.in-Ok.ensures.spells;
        unlisted = c.in-Ok.ensures.unlisted;
        spelling = c.in-Ok.ensures.spelling;
        may = c.in-Ok.ensures.may;
        entries = c.in-Ok.ensures.entries;
        second_is = refl;
      },
    )

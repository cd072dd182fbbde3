use Rattle.std.proofs.Common.{◌∙◌, sym, ap, subst}
use Rattle.bank_tables.specs.Tables.{Tables}
use Rattle.form_model.specs.Plan.{Plan}
use Rattle.history_model.specs.Judging.{Record}
use Rattle.exam_office.specs.KeptVectors.{AreWith}
use Rattle.exam_office.proofs.taking.take_record.Goals as goal

pub returns-in-Ok-keep_vector-clause-taken : goal.returns-in-Ok-keep_vector-clause-taken
returns-in-Ok-keep_vector-clause-taken c =
    let r : Record = c.in-Ok.rec in
    let v = c.args.vectors.now in
    let w = c.keep_vector.new.vectors in
    record {
      taken = record {
        last = r;
        is_entry = sym (ap (λ (q : Record). q.entry) c.rec.view_is);
        spells = c.in-Ok.ensures.reads.spells;
        unlisted = c.in-Ok.ensures.reads.unlisted;
        spelling = c.in-Ok.ensures.reads.spelling;
        may = c.in-Ok-follow.ensures.may;
      };
      vectors_are =
          subst (λ (b : Tables). AreWith b c.args.book.now.plan v r w) (c.bank.ensures ∙ c.follow.ensures.bank)
          (subst (λ (p : Plan). AreWith c.bank.result.now p v r w) (c.spec.ensures ∙ c.follow.ensures.plan) c.in-Ok-keep_vector.ensures.vectors);
    }

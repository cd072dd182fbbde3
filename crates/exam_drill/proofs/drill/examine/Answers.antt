use Rattle.std.proofs.Common.{◌∙◌, refl, sym, ap, subst}
use Rattle.exam_office.specs.Running.{HandedDisk}
use Rattle.bank_tables.specs.Tables.{Tables}
use Rattle.exam_edge.specs.Images.{AllImages, latest}
use Rattle.form_model.specs.Plan.{Plan}
use Rattle.answer_journal.specs.Journal.{accounts_of}
use Rattle.answer_journal.specs.StandingLaws.{settled_left}
use Rattle.exam_office.specs.Files.{StandsSecond}
use Rattle.exam_office.specs.Marks.{history}
use Rattle.exam_drill.proofs.DrillLaws.{begins_empty, summed, unsummed}
use Rattle.exam_drill.proofs.drill.examine.Goals as goal

-- a file in memory that was just made
pub open-requires-clause-left : goal.open-requires-clause-left
open-requires-clause-left c = λ told. settled_left _ _ c.of-disk.ensures.accounts

-- an office that was just opened
pub ask_all-done-requires-clause-told : goal.ask_all-done-requires-clause-told
ask_all-done-requires-clause-told c = c.in-Ok.ensures.tells

pub ask_all-done-requires-clause-empty : goal.ask_all-done-requires-clause-empty
ask_all-done-requires-clause-empty c =
    ap (λ (d : HandedDisk). d.content) c.in-Ok.ensures.opened ∙ (c.of-disk.ensures.content ∙ c.new.ensures.items)

pub ask_all-done-requires-clause-durable : goal.ask_all-done-requires-clause-durable
ask_all-done-requires-clause-durable c =
    let opened = c.in-Ok.ensures in
    let office = c.in-Ok.office in
    record {
      sure = opened.sure;
      images = λ told.
          subst (λ (p : Plan). AllImages (StandsSecond office.bank p (history office.marks)) (latest (accounts_of office.journal))) (sym opened.plan)
          (subst (λ (b : Tables). AllImages (StandsSecond b c.args.spec.now (history office.marks)) (latest (accounts_of office.journal))) (sym opened.bank) (opened.images refl));
    }

pub returns-clause-err : goal.returns-clause-err
returns-clause-err c =
    let opened = c.in-Ok.ensures in
    let first = begins_empty _ _ _ _ (c.of-disk.ensures.content ∙ c.new.ensures.items) (opened.stands refl) in
    unsummed c.args.bank.now c.args.spec.now c.in-Ok.office c.ask_all-done.new.alone.office opened.bank opened.plan first
    c.ask_all-done.ensures.same c.args.requests.now c.in-Err-done.fault c.in-Err-done.ensures.err

pub returns-in-Ok-done-clause-ok : goal.returns-in-Ok-done-clause-ok
returns-in-Ok-done-clause-ok c =
    let opened = c.in-Ok.ensures in
    let first = begins_empty _ _ _ _ (c.of-disk.ensures.content ∙ c.new.ensures.items) (opened.stands refl) in
    summed c.args.bank.now c.args.spec.now c.in-Ok.office c.ask_all-done.new.alone.office opened.bank opened.plan first
    c.ask_all-done.ensures.same c.args.requests.now c.summary-summary.result c.in-Ok-done.ensures.ok c.summary-summary.ensures

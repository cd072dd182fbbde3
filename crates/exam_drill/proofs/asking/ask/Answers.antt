use Rattle.std.proofs.Common.{◌≡◌, ◌∙◌, ℕ, ◌+◌, List, [], map, Some, None, IsTrue, sym, ap}
use Rattle.answer_journal.specs.Journal.{start_of, tells_of}
use Rattle.answer_journal.specs.Payload.{end_of}
use Rattle.answer_journal.specs.Walk.{first_gate}
use Rattle.bank_tables.specs.Tables.{Tables}
use Rattle.exam_office.specs.Files.{AreRecordsOf}
use Rattle.exam_office.specs.Marks.{history, reach}
use Rattle.exam_office.specs.Running.{HandedDisk}
use Rattle.exam_records.specs.Spelling.{payload_of}
use Rattle.form_model.specs.Plan.{Plan}
use Rattle.exam_drill.specs.Leading.{fault_of}
use Rattle.exam_drill.proofs.AskingLaws.{as_first, becomes_so, done_so, durable_so, first_of_empty, HasFrames, short_so}
use Rattle.exam_drill.proofs.asking.ask.Goals as goal

pub returns-in-Some-clause-err : goal.returns-in-Some-clause-err
returns-in-Some-clause-err c =
    let request = c.args.request.now in
    let old = c.args.alone.now.office in
    let new = c.ask-reply.new.self.office in
    let reply = c.ask-reply.result in
    let asked = c.ask-reply.ensures.asked in
    let e : fault_of old.plan reply ≡ Some c.in-Some.fault = ap (λ (p : Plan). fault_of p reply) (sym (c.spec.ensures ∙ asked.steps.same.plan)) ∙ (sym c.fault_of.ensures ∙ c.in-Some.is) in
    let told : IsTrue (tells_of new.journal) = asked.steps.frame.tells ∙ c.requires.told in
    let empty : new.opened.content ≡ [] = ap (λ (d : HandedDisk). d.content) asked.steps.same.opened ∙ c.requires.empty in
    let first : start_of new.journal ≡ 8 = c.keeps.ensures.start told ∙ (ap first_gate empty ∙ first_of_empty) in
    let frames : HasFrames request old new old.bank old.plan = λ sure.
    let found = c.holds.ensures.records sure in
    let ends : end_of 8 (map payload_of found.records) + 1 ≡ reach new.marks =
    ap (λ (at : ℕ). end_of at (map payload_of found.records) + 1) (sym first)
    ∙ (ap (λ (ps : List (List ℕ)). end_of (start_of new.journal) ps + 1) (sym (found.holds told))
    ∙ (c.holds.ensures.frames sure told ∙ c.holds.ensures.length)) in
    (found.records, as_first (λ (b : Tables) (p : Plan). AreRecordsOf b p 2 (history new.marks) found.records) old new asked.steps.same found.are, ends) in
    short_so request old new old.bank old.plan frames reply c.in-Some.fault e (becomes_so request old new reply c.requires.durable.sure asked)

pub returns-clause-ok : goal.returns-clause-ok
returns-clause-ok c =
    let request = c.args.request.now in
    let old = c.args.alone.now.office in
    let new = c.ask-reply.new.self.office in
    let reply = c.ask-reply.result in
    let asked = c.ask-reply.ensures.asked in
    let e : fault_of old.plan reply ≡ None = ap (λ (p : Plan). fault_of p reply) (sym (c.spec.ensures ∙ asked.steps.same.plan)) ∙ (sym c.fault_of.ensures ∙ c.in-None.is) in
    done_so request old new old.bank old.plan reply e (becomes_so request old new reply c.requires.durable.sure asked)

pub returns-clause-durable : goal.returns-clause-durable
returns-clause-durable c =
    let request = c.args.request.now in
    let old = c.args.alone.now.office in
    let new = c.ask-reply.new.self.office in
    let reply = c.ask-reply.result in
    let asked = c.ask-reply.ensures.asked in
    let e : fault_of old.plan reply ≡ None = ap (λ (p : Plan). fault_of p reply) (sym (c.spec.ensures ∙ asked.steps.same.plan)) ∙ (sym c.fault_of.ensures ∙ c.in-None.is) in
    durable_so request old new old.bank old.plan reply e (becomes_so request old new reply c.requires.durable.sure asked)

pub returns-in-Some-clause-tells : goal.returns-in-Some-clause-tells
returns-in-Some-clause-tells c = c.ask-reply.ensures.asked.steps.frame.tells

pub returns-clause-tells : goal.returns-clause-tells
returns-clause-tells c = c.ask-reply.ensures.asked.steps.frame.tells

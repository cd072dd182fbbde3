use Rattle.std.proofs.Common.{◌≡◌, ◌∙◌, ◌++◌, ℕ, List, [], ◌∷◌, length, drop, refl, sym, ap, subst, arith}
use Rattle.std.specs.Option.{option_copied}
use Rattle.bank_tables.specs.Tables.{Tables}
use Rattle.form_model.specs.Validity.{IsPlanFor}
use Rattle.history_model.specs.Judging.{Record}
use Rattle.answer_journal.specs.Frames.{IsPayload}
use Rattle.exam_records.specs.Spelling.{payload_of}
use Rattle.exam_office.specs.Marks.{history}
use Rattle.exam_office.specs.Running.{Running}
use Rattle.exam_office.proofs.Backing.{has_bands}
use Rattle.exam_office.proofs.Records.{goes_with}
use Rattle.exam_office.proofs.office.Office.frame_of.Goals as goal

drop_front : (room payload : List ℕ) → drop (length room) (room ++ payload) ≡ payload
drop_front [] payload = refl
drop_front (x ∷ room) payload = drop_front room payload

-- what was written after the four bytes of the room
after_room : (room payload bytes : List ℕ) → length room ≡ 4 → bytes ≡ room ++ payload → drop 4 bytes ≡ payload
after_room room payload bytes four whole =
    ap (λ (p : List ℕ). drop 4 p) whole ∙ subst (λ (n : ℕ). drop n (room ++ payload) ≡ payload) four (drop_front room payload)

pub push_record-requires-clause-tree : goal.push_record-requires-clause-tree
push_record-requires-clause-tree g c =
    let now = c.args.self.now in
    goes_with now.bank now.plan (history now.marks) c.args.entry.now (option_copied c.args.tree) c.requires

pub push_record-requires-clause-bands : goal.push_record-requires-clause-bands
push_record-requires-clause-bands g c =
    let o = c.self.inside in
    let now = c.args.self.now in
    let kept = c.self.invariant.0 in
    let fits : IsPlanFor o.bank.now o.spec.now = subst (IsPlanFor o.bank.now) kept.plan_is (subst (λ (b : Tables). IsPlanFor b o.book.plan) kept.bank c.entries.ensures.examination.plan) in
    let fits_now : IsPlanFor now.bank now.plan = subst (λ (r : Running g.row.D.Denot). IsPlanFor r.bank r.plan) c.self.view_is fits in
    has_bands now.bank now.plan (history now.marks) fits_now c.args.entry.now (option_copied c.args.tree) c.requires

pub of-requires : goal.of-requires
of-requires g c =
    let rec : Record = record { entry = c.args.entry.now; tree = option_copied c.args.tree } in
    let is = after_room c.in_ok-bytes.bytes.items (payload_of rec) c.push_record.new.out.items c.in_ok-bytes.ensures c.in_ok-push_record.ensures.spelling in
    subst IsPayload (sym is) (record { some = c.push_record.ensures.some; few = omega (arith, c.push_record.ensures.few) })

pub returns-clause-frame : goal.returns-clause-frame
returns-clause-frame g c =
    let rec : Record = record { entry = c.args.entry.now; tree = option_copied c.args.tree } in
    c.in_ok-frame.ensures ∙ after_room c.in_ok-bytes.bytes.items (payload_of rec) c.push_record.new.out.items c.in_ok-bytes.ensures c.in_ok-push_record.ensures.spelling

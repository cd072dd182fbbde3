use Rattle.std.proofs.Common.{◌∙◌, ℕ, List, [], ◌∷◌, ◌++◌, refl, ap, subst, arith}
use Rattle.bank_tables.specs.Tables.{Tables}
use Rattle.form_model.specs.Plan.{Plan}
use Rattle.exam_office.specs.declared.mark.Mark.{Mark}
use Rattle.exam_office.specs.declared.mark.Mark.TheVariants.{Opened}
use Rattle.exam_office.specs.KeptVectors.{AreTakenWith}
use Rattle.exam_office.specs.Opening.{IsReadAnswer}
use Rattle.exam_office.proofs.Opened.{stood}
use Rattle.exam_office.proofs.taking.take_all.Goals as goal

-- out of memory
pub returns-in-Err-clause-why : goal.returns-in-Err-clause-why
returns-in-Err-clause-why g c = λ told. tt

pub returns-in-Err-clause-asked : goal.returns-in-Err-clause-asked
returns-in-Err-clause-asked g c = refl

pub returns-in-Err-clause-limit : goal.returns-in-Err-clause-limit
returns-in-Err-clause-limit g c = refl

pub returns-in-Err-clause-versions : goal.returns-in-Err-clause-versions
returns-in-Err-clause-versions g c = (refl, refl)

pub returns-in-Err-clause-size : goal.returns-in-Err-clause-size
returns-in-Err-clause-size g c = refl

pub returns-in-Err-clause-content : goal.returns-in-Err-clause-content
returns-in-Err-clause-content g c = λ told. refl

pub returns-in-Err-clause-accounts : goal.returns-in-Err-clause-accounts
returns-in-Err-clause-accounts g c = λ told. refl

pub returns-in-Err-clause-aside : goal.returns-in-Err-clause-aside
returns-in-Err-clause-aside g c = λ told. refl

pub returns-in-Err-clause-frame : goal.returns-in-Err-clause-frame
returns-in-Err-clause-frame g c = record { grows = omega arith; tells = refl; identity = refl }

-- a record is refused
pub returns-in-Err-take_records-clause-asked : goal.returns-in-Err-take_records-clause-asked
returns-in-Err-take_records-clause-asked g c = c.take_records.ensures.asked

pub returns-in-Err-take_records-clause-limit : goal.returns-in-Err-take_records-clause-limit
returns-in-Err-take_records-clause-limit g c = c.take_records.ensures.limit

pub returns-in-Err-take_records-clause-versions : goal.returns-in-Err-take_records-clause-versions
returns-in-Err-take_records-clause-versions g c = c.take_records.ensures.versions

pub returns-in-Err-take_records-clause-size : goal.returns-in-Err-take_records-clause-size
returns-in-Err-take_records-clause-size g c = c.take_records.ensures.size

pub returns-in-Err-take_records-clause-content : goal.returns-in-Err-take_records-clause-content
returns-in-Err-take_records-clause-content g c = c.take_records.ensures.content

pub returns-in-Err-take_records-clause-accounts : goal.returns-in-Err-take_records-clause-accounts
returns-in-Err-take_records-clause-accounts g c = c.take_records.ensures.accounts

pub returns-in-Err-take_records-clause-aside : goal.returns-in-Err-take_records-clause-aside
returns-in-Err-take_records-clause-aside g c = c.take_records.ensures.aside

pub returns-in-Err-take_records-clause-frame : goal.returns-in-Err-take_records-clause-frame
returns-in-Err-take_records-clause-frame g c = c.take_records.ensures.frame

pub returns-in-Err-take_records-clause-why : goal.returns-in-Err-take_records-clause-why
returns-in-Err-take_records-clause-why g c = λ told.
    let file = g.D.Disk.content c.args.walk.now.disk in
    let fault = c.in-Err-take_records.fault in
    subst (λ (b : Tables). IsReadAnswer b c.args.spec.now file fault) c.in-Ok.ensures.bank
    (subst (λ (p : Plan). IsReadAnswer c.in-Ok.book.bank p file fault) c.in-Ok.ensures.plan (c.in-Err-take_records.ensures.why told))

pub returns-in-Err-take_records-clause-cause : goal.returns-in-Err-take_records-clause-cause
returns-in-Err-take_records-clause-cause g c = c.in-Err-take_records.ensures.cause

-- all are taken
pub returns-in-Ok-note-clause-asked : goal.returns-in-Ok-note-clause-asked
returns-in-Ok-note-clause-asked g c = c.take_records.ensures.asked

pub returns-in-Ok-note-clause-limit : goal.returns-in-Ok-note-clause-limit
returns-in-Ok-note-clause-limit g c = c.take_records.ensures.limit

pub returns-in-Ok-note-clause-versions : goal.returns-in-Ok-note-clause-versions
returns-in-Ok-note-clause-versions g c = c.take_records.ensures.versions

pub returns-in-Ok-note-clause-size : goal.returns-in-Ok-note-clause-size
returns-in-Ok-note-clause-size g c = c.take_records.ensures.size

pub returns-in-Ok-note-clause-content : goal.returns-in-Ok-note-clause-content
returns-in-Ok-note-clause-content g c = c.take_records.ensures.content

pub returns-in-Ok-note-clause-accounts : goal.returns-in-Ok-note-clause-accounts
returns-in-Ok-note-clause-accounts g c = c.take_records.ensures.accounts

pub returns-in-Ok-note-clause-aside : goal.returns-in-Ok-note-clause-aside
returns-in-Ok-note-clause-aside g c = c.take_records.ensures.aside

pub returns-in-Ok-note-clause-frame : goal.returns-in-Ok-note-clause-frame
returns-in-Ok-note-clause-frame g c = c.take_records.ensures.frame

pub returns-in-Ok-note-clause-bank : goal.returns-in-Ok-note-clause-bank
returns-in-Ok-note-clause-bank g c = c.take_records.ensures.bank ∙ c.in-Ok.ensures.bank

pub returns-in-Ok-note-clause-plan : goal.returns-in-Ok-note-clause-plan
returns-in-Ok-note-clause-plan g c = c.take_records.ensures.plan ∙ c.in-Ok.ensures.plan

pub returns-in-Ok-note-clause-taken : goal.returns-in-Ok-note-clause-taken
returns-in-Ok-note-clause-taken g c =
    let walk = c.args.walk.now in
    let new = c.take_records.new.walk in
    let tells = g.D.Disk.tells walk.disk in
    let file = g.D.Disk.content walk.disk in
    let entries = c.take_records.new.book.entries in
    let vectors = c.take_records.new.vectors in
    subst (λ (b : Tables). AreTakenWith b c.args.spec.now walk.record_version walk.at tells file new.given new.at entries vectors) c.in-Ok.ensures.bank
    (subst (λ (p : Plan). AreTakenWith c.in-Ok.book.bank p walk.record_version walk.at tells file new.given new.at entries vectors) c.in-Ok.ensures.plan c.in-Ok-take_records.ensures.taken)

pub returns-in-Ok-note-clause-marks : goal.returns-in-Ok-note-clause-marks
returns-in-Ok-note-clause-marks g c =
    let marks = c.take_records.new.marks in
    c.in-Ok-note.ensures.noted
    ∙ (ap (λ (size : ℕ). marks ++ Opened size ∷ []) c.length.ensures.length
    ∙ ap (λ (ms : List Mark). ms ++ Opened c.take_records.new.walk.size ∷ []) c.in-Ok-take_records.ensures.noted)

pub returns-in-Ok-note-clause-last : goal.returns-in-Ok-note-clause-last
returns-in-Ok-note-clause-last g c = c.in-Ok-take_records.ensures.last

pub returns-in-Ok-note-clause-stands : goal.returns-in-Ok-note-clause-stands
returns-in-Ok-note-clause-stands g c = λ told.
    let walk = c.args.walk.now in
    let new = c.take_records.new.walk in
    let tells = g.D.Disk.tells walk.disk in
    let file = g.D.Disk.content walk.disk in
    let entries = c.take_records.new.book.entries in
    let vectors = c.take_records.new.vectors in
    let all : AreTakenWith c.args.bank.now c.args.spec.now walk.record_version walk.at tells file new.given new.at entries vectors =
    subst (λ (b : Tables). AreTakenWith b c.args.spec.now walk.record_version walk.at tells file new.given new.at entries vectors) c.in-Ok.ensures.bank
    (subst (λ (p : Plan). AreTakenWith c.in-Ok.book.bank p walk.record_version walk.at tells file new.given new.at entries vectors) c.in-Ok.ensures.plan c.in-Ok-take_records.ensures.taken) in
    stood c.args.bank.now c.args.spec.now walk.record_version walk.at tells file entries new.given new.at all.taken told (c.requires.version told) (c.requires.gives told) (c.in-Ok-take_records.ensures.last told)

-- no room for a mark
pub returns-clause-asked : goal.returns-clause-asked
returns-clause-asked g c = c.take_records.ensures.asked

pub returns-clause-limit : goal.returns-clause-limit
returns-clause-limit g c = c.take_records.ensures.limit

pub returns-clause-versions : goal.returns-clause-versions
returns-clause-versions g c = c.take_records.ensures.versions

pub returns-clause-size : goal.returns-clause-size
returns-clause-size g c = c.take_records.ensures.size

pub returns-clause-content : goal.returns-clause-content
returns-clause-content g c = c.take_records.ensures.content

pub returns-clause-accounts : goal.returns-clause-accounts
returns-clause-accounts g c = c.take_records.ensures.accounts

pub returns-clause-aside : goal.returns-clause-aside
returns-clause-aside g c = c.take_records.ensures.aside

pub returns-clause-frame : goal.returns-clause-frame
returns-clause-frame g c = c.take_records.ensures.frame

pub returns-clause-why : goal.returns-clause-why
returns-clause-why g c = λ told. tt

-- A file represents at most one history, and is read and opened if it represents one.
use Rattle.std.proofs.Common.{◌≡◌, inl, inr, ℕ, ◌<◌, ◌≤◌, ◌==◌, List, [], ◌∷◌, ◌++◌, length, map, Option, Some, None, Ok, Err, refl, sym, ap, ◌∙◌, subst}
use Rattle.std.specs.List.{AllByRecursion}
use Rattle.std.proofs.lemmas.Bool.{cases_Bool, eqb-true, eqb-false}
use Rattle.bank_tables.specs.Tables.{Tables}
use Rattle.form_model.specs.Plan.{Plan}
use Rattle.certificate_model.specs.ProofTrees.{ProofTree}
use Rattle.serving_model.specs.Seats.{first_band}
use Rattle.history_model.specs.declared.entry.Entry.{Entry}
use Rattle.history_model.specs.Judging.{Record, MayFollow, entries_of, Backed}
use Rattle.history_model.specs.Lifting.{IsLifted}
use Rattle.history_model.proofs.JudgingLaws.{backed_is_legal_run}
use Rattle.history_model.proofs.ReasonLaws.{no_reason_if_may}
use Rattle.history_model.proofs.RunParts.{each_may_follow}
use Rattle.exam_records.proofs.AgainLaws.{written_is_read}
use Rattle.exam_records.proofs.SecondLaws.{written_is_read as second_is_read}
use Rattle.exam_session.proofs.LiftLaws.{lifted_is_one}
use Rattle.answer_journal.specs.Frames.{payloads}
use Rattle.answer_journal.specs.Versions.{Counted, header, version_of, counted, contents, counted_in}
use Rattle.answer_journal.specs.Walk.{first_gate}
use Rattle.answer_journal.specs.Payload.{end_of}
use Rattle.answer_journal.specs.OpenFault.{fault_in}
use Rattle.answer_journal.specs.OpenFaultLaws.{first-none}
use Rattle.answer_journal.specs.declared.open_fault.OpenFault.{OpenFault as JournalFault}
use Rattle.exam_records.specs.declared.fault.RecordFault.{RecordFault}
use Rattle.exam_records.specs.Old.{old_entry, old_record}
use Rattle.exam_records.specs.Reading.{record_of, old_record_of}
use Rattle.exam_records.specs.Shape.{HasNoList, IsRecord}
use Rattle.exam_records.specs.Spelling.{payload_of, old_payload_of}
use Rattle.exam_office.specs.declared.fault.OpenFault.{OpenFault}
use Rattle.exam_office.specs.declared.fault.OpenFault.TheVariants.{Journal as OfJournal, Version, BadRecord, BadTree, Illegal, Disk, Memory}
use Rattle.exam_office.specs.Files.{payload_in, counted_of, IsRecordIn, Stands}
use Rattle.exam_office.proofs.Backing.{first_below, same_run, at}
use Rattle.exam_office.specs.Opening.{record_in, IsReadAs, IsNotTaken, IsRefusedFor, IsRefusedFile}
use Rattle.exam_office.specs.Laws.{OneHistory, StandsForLegalRun, StandingIsOpened, StandingIsRead}

some_counted : (c d : Counted) → Some c ≡ Some d → c ≡ d
some_counted c d e = cc

-- the same bytes count, by one version
module _ (b : Tables) (plan : Plan) (version other : ℕ) (R : List Record) (ps : List (List ℕ)) (e : (let one : Counted = counted_of b plan version R in let two : Counted = record { version = other; payloads = ps } in one ≡ two)) where
  same_version : version ≡ other
  same_version = ap (λ (c : Counted). c.version) e

  same_bytes : map (payload_in b plan other) R ≡ ps
  same_bytes = ap (λ (v : ℕ). map (payload_in b plan v) R) (sym same_version) ∙ ap (λ (c : Counted). c.payloads) e

pub one_history : OneHistory
one_history b plan H G file one other =
    let e : counted_of b plan one.version one.records ≡ counted_of b plan other.version other.records = some_counted (counted_of b plan one.version one.records) (counted_of b plan other.version other.records) (sym one.holds ∙ other.holds) in
    let bytes = same_bytes b plan one.version other.version one.records (map (payload_in b plan other.version) other.records) e in
    let version = same_version b plan one.version other.version one.records (map (payload_in b plan other.version) other.records) e in
    let spell = subst (λ (v : ℕ). AllByRecursion (IsRecordIn v) one.records) version one.are.spell in
    let same = same_run b plan other.version one.records other.records one.are.backed other.are.backed spell other.are.spell bytes in
    sym one.are.entries ∙ (ap entries_of same ∙ other.are.entries)

pub stands_for_legal_run : StandsForLegalRun
stands_for_legal_run b plan H file s = subst (λ (G : List Entry). Rattle.history_model.specs.Legality.LegalRun b plan G) s.are.entries (backed_is_legal_run b plan s.records s.are.backed)

-- ---- the record at the place of a payload
module _ (b : Tables) (plan : Plan) (H : List Entry) (r last : Record) (low : first_band b plan < 8) (spells : IsRecord r) (may : MayFollow b plan H r.entry r.tree) where
  -- what the first version keeps of it was read, and lifted
  read_old : HasNoList r.entry → (q : Record) → old_record_of (old_payload_of (first_band b plan) r) ≡ Ok q → IsLifted b plan H q.entry last.entry → IsRecord last → last.tree ≡ q.tree → (last.entry ≡ r.entry) × (last.tree ≡ r.tree)
  read_old unlisted q reads lifted other tree =
      let again = written_is_read (first_band b plan) r low spells in
      let old : q ≡ old_record (first_band b plan) r = cc in
      let from : IsLifted b plan H (old_entry (first_band b plan) r.entry) last.entry = subst (λ (x : Record). IsLifted b plan H x.entry last.entry) old lifted in
      (lifted_is_one b plan H r.entry last.entry r.tree spells.fits other.fits unlisted may from, tree ∙ ap (λ (x : Record). x.tree) old)

  -- it was read itself
  read_second : (q : Record) → record_of (payload_of r) ≡ Ok q → last.entry ≡ q.entry → last.tree ≡ q.tree → (last.entry ≡ r.entry) × (last.tree ≡ r.tree)
  read_second q reads entry tree =
      let again = second_is_read r spells in
      let same : q ≡ r = cc in
      (entry ∙ ap (λ (x : Record). x.entry) same, tree ∙ ap (λ (x : Record). x.tree) same)

  read_same : (version : ℕ) → (version ≡ 1 → HasNoList r.entry) → IsReadAs b plan version H (payload_in b plan version r) last → (last.entry ≡ r.entry) × (last.tree ≡ r.tree)
  read_same version unlisted is =
      let reads = is.reads in
      elim (cases_Bool (version == 1)) [
        | inl old ↦
            let e : old_record_of (old_payload_of (first_band b plan) r) ≡ Ok is.read = rw old at reads in
            read_old (unlisted (eqb-true version 1 old)) is.read e (is.lifted (eqb-true version 1 old)) is.spells is.tree
        | inr new ↦
            let e : record_of (payload_of r) ≡ Ok is.read = rw new at reads in
            read_second is.read e (is.same (eqb-false version 1 new)) is.tree
      ]

-- a payload of a record is read
reads_some : (b : Tables) (plan : Plan) (version : ℕ) (r : Record) → first_band b plan < 8 → IsRecordIn version r → (fault : RecordFault) → record_in version (payload_in b plan version r) ≡ Err fault → ⊥
reads_some b plan version r low spells fault wrong = elim (cases_Bool (version == 1)) [
  | inl old ↦
      let e : old_record_of (old_payload_of (first_band b plan) r) ≡ Err fault = rw old at wrong in
      let again = written_is_read (first_band b plan) r low spells.is_record in
      absurd (cc)
  | inr new ↦
      let e : record_of (payload_of r) ≡ Err fault = rw new at wrong in
      let again = second_is_read r spells.is_record in
      absurd (cc)
]

not_refused_for : (b : Tables) (plan : Plan) (version : ℕ) (H : List Entry) (place : ℕ) (r : Record) (fault : OpenFault) → first_band b plan < 8 → IsRecordIn version r → MayFollow b plan H r.entry r.tree → IsRefusedFor b plan version H place (payload_in b plan version r) fault → ⊥
not_refused_for b plan version H place r fault low spells may refused =
    let same = read_same b plan H r refused.last low spells.is_record may version spells.unlisted refused.reads in
    no_reason_if_may b plan H refused.last.entry refused.last.tree refused.reason refused.illegal
    (subst (λ (t : Option ProofTree). MayFollow b plan H refused.last.entry t) (sym same.1)
    (subst (λ (e : Entry). MayFollow b plan H e r.tree) (sym same.0) may))

pub not_refused : (b : Tables) (plan : Plan) (version : ℕ) (H : List Entry) (place : ℕ) (r : Record) (fault : OpenFault) → first_band b plan < 8 → IsRecordIn version r → MayFollow b plan H r.entry r.tree → IsNotTaken b plan version H place (payload_in b plan version r) fault → fault ≡ Memory
not_refused b plan version H place r (OfJournal fault) low spells may why = absurd why
not_refused b plan version H place r Version low spells may why = absurd why
not_refused b plan version H place r (BadRecord there fault) low spells may why = absurd (reads_some b plan version r low spells fault why.1)
not_refused b plan version H place r (BadTree there) low spells may why = absurd (not_refused_for b plan version H place r (BadTree there) low spells may why)
not_refused b plan version H place r (Illegal there reason) low spells may why = absurd (not_refused_for b plan version H place r (Illegal there reason) low spells may why)
not_refused b plan version H place r Disk low spells may why = absurd why
not_refused b plan version H place r Memory low spells may why = refl

file_refused : (b : Tables) (plan : Plan) (H : List Entry) (file : List ℕ) (fault : OpenFault) → Stands b plan H file → IsRefusedFile b plan file fault → fault ≡ Memory
file_refused b plan H file fault s f =
    let ps = map (payload_in b plan f.version) f.records ++ f.first ∷ f.rest in
    let both : counted_of b plan s.version s.records ≡ record { version = f.version; payloads = ps } = some_counted (counted_of b plan s.version s.records) (record { version = f.version; payloads = ps }) (sym s.holds ∙ f.gives) in
    let e : map (payload_in b plan f.version) s.records ≡ ps = same_bytes b plan s.version f.version s.records ps both in
    let spell = subst (λ (v : ℕ). AllByRecursion (IsRecordIn v) s.records) (same_version b plan s.version f.version s.records ps both) s.are.spell in
    let low = low_of s.records f.records spell s.are.backed e in
    let here = at b plan f.version low f.records s.records f.first f.rest f.are.backed s.are.backed f.are.spell spell e in
    let may = (each_may_follow b plan f.records here.last here.rest (subst (Backed b plan) here.is s.are.backed)).1 in
    let place = end_of (first_gate file) (map (payload_in b plan f.version) f.records) in
    not_refused b plan f.version f.H place here.last fault low here.spells
    (subst (λ (G : List Entry). MayFollow b plan G here.last.entry here.last.tree) f.are.entries may)
    (subst (λ (p : List ℕ). IsNotTaken b plan f.version f.H place p fault) (sym here.bytes) f.refused)
  where
    low_of : (R Q : List Record) → AllByRecursion (IsRecordIn f.version) R → Backed b plan R → map (payload_in b plan f.version) R ≡ map (payload_in b plan f.version) Q ++ f.first ∷ f.rest → first_band b plan < 8
    low_of [] [] spells backed e = absurd (cc)
    low_of [] (q ∷ Q) spells backed e = absurd (cc)
    low_of (r ∷ R) Q spells backed e = first_below b plan r R spells.0.is_record backed

-- ---- the frames
-- a file within the limit that has contents has no fault in its frames
none_by : (limit : ℕ) (file : List ℕ) (version : ℕ) (found : Option (List (List ℕ))) (c : Counted) → length file ≤ limit → payloads (header version) file ≡ found → Rattle.std.specs.Option.option_map (counted version) found ≡ Some c → Rattle.answer_journal.specs.OpenFault.first_fault (header version) limit file ≡ None
none_by limit file version (Some ps) c within is some = first-none (header version) limit file ps within is
none_by limit file version None c within is some = absurd (cc)

sound : (limit : ℕ) (file : List ℕ) (c : Counted) → length file ≤ limit → contents file ≡ Some c → fault_in limit file ≡ None
unfolding contents
sound limit file c within is = none_by limit file (version_of file) (payloads (header (version_of file)) file) c within refl is

no_journal_fault : (plan : Plan) (file : List ℕ) (c : Counted) (fault : JournalFault) → length file ≤ plan.journal → contents file ≡ Some c → fault_in plan.journal file ≡ Some fault → ⊥
no_journal_fault plan file c fault within is why = let none = sound plan.journal file c within is in absurd (cc)

pub standing_is_read : StandingIsRead
standing_is_read b plan H file (OfJournal fault) s within why = absurd (no_journal_fault plan file (counted_of b plan s.version s.records) fault within s.holds why)
standing_is_read b plan H file Version s within why = absurd why
standing_is_read b plan H file (BadRecord at fault) s within why = inr (file_refused b plan H file (BadRecord at fault) s why)
standing_is_read b plan H file (BadTree at) s within why = inr (file_refused b plan H file (BadTree at) s why)
standing_is_read b plan H file (Illegal at reason) s within why = inr (file_refused b plan H file (Illegal at reason) s why)
standing_is_read b plan H file Disk s within why = inl refl
standing_is_read b plan H file Memory s within why = inr refl

-- its records are not of the first version
not_first : (b : Tables) (plan : Plan) (H : List Entry) (file : List ℕ) (s : Stands b plan H file) → s.version ≡ 2 → (counted_in file).version ≡ 1 → ⊥
not_first b plan H file s second first =
    let is : (counted_in file).version ≡ s.version = ap (λ (o : Option Counted). (Rattle.std.specs.Prelude.unwrap_or o (Rattle.answer_journal.specs.Versions.second [])).version) s.holds in
    let clash : 1 ≡ 2 = sym first ∙ (is ∙ second) in
    absurd (cc)

pub standing_is_opened : StandingIsOpened
standing_is_opened b plan H file (OfJournal fault) s second within why = absurd (no_journal_fault plan file (counted_of b plan s.version s.records) fault within s.holds why)
standing_is_opened b plan H file Version s second within why = absurd (not_first b plan H file s second why.first)
standing_is_opened b plan H file (BadRecord at fault) s second within why = inr (file_refused b plan H file (BadRecord at fault) s why.refused)
standing_is_opened b plan H file (BadTree at) s second within why = inr (file_refused b plan H file (BadTree at) s why.refused)
standing_is_opened b plan H file (Illegal at reason) s second within why = inr (file_refused b plan H file (Illegal at reason) s why.refused)
standing_is_opened b plan H file Disk s second within why = inl refl
standing_is_opened b plan H file Memory s second within why = inr refl

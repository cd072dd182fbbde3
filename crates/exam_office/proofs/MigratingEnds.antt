-- A whole migration of a journal of the first version.
use Rattle.std.proofs.Common.{◌≡◌, inl, ℕ, Bool, true, false, nat_le, drop, None, List, [], length, map, Option, Some, refl, sym, ◌∙◌, ap, subst, arith}
use Rattle.std.specs.Prelude.{nat_lt, unwrap_or, Result, Ok, Err, is_err, IfOk, IfErr, OnOk}
use Rattle.std.proofs.lemmas.List.{length-map}
use Rattle.bank_tables.specs.Tables.{Tables}
use Rattle.form_model.specs.Plan.{Plan}
use Rattle.exam_edge.specs.Images.{Account, AtEachMoment, IsImage, latest}
use Rattle.exam_edge.specs.ImageLaws.{at_end, joined, started, weaker}
use Rattle.history_model.specs.declared.entry.Entry.{Entry}
use Rattle.history_model.specs.Judging.{Record, entries_of}
use Rattle.exam_records.specs.Spelling.{payload_of}
use Rattle.answer_journal.specs.declared.open_fault.OpenFault.{OpenFault as JournalFault}
use Rattle.answer_journal.specs.declared.open_fault.OpenFault.TheVariants.{TooLong, Header as NoHeader, Length as BadSize, Cut, Version as OfVersion, Disk as OfDevice, Memory as NoMemory}
use Rattle.answer_journal.specs.Frames.{FileHeader, Scan, Whole, BadLength, CutOff, begins, scan}
use Rattle.answer_journal.specs.OpenFault.{IsWalkAnswer, first_fault, frames_fault, scan_fault}
use Rattle.answer_journal.specs.Moving.{GivesEither, IsImageOrUnmoved, IsMovingWith, IsUnmoved}
use Rattle.answer_journal.specs.Opening.{PutsTailAside}
use Rattle.answer_journal.specs.Versions.{Counted, contents, counted_in, header, second, version_of}
use Rattle.exam_office.specs.declared.fault.OpenFault.{OpenFault}
use Rattle.exam_office.specs.declared.fault.OpenFault.TheVariants.{Journal, Version, BadRecord, BadTree, Illegal, Disk as OfDisk, Memory as OfMemory}
use Rattle.exam_office.specs.declared.migrating.MigrateFault.{MigrateFault}
use Rattle.exam_office.specs.Files.{payload_in, AreRecordsOf, IsImageOrStands, Stands, StandsSecond}
use Rattle.exam_office.specs.Migrating.{IsLeft, IsMigrateAnswer, IsMovedUpTo, IsOldFile, migrate_fault}
use Rattle.exam_office.specs.declared.migrating.Moved.{Moved}
use Rattle.exam_office.specs.Opening.{IsReadAnswer, journal_fault}
use Rattle.exam_office.proofs.Opened.{version_is, stands_second}
use Rattle.exam_office.proofs.FileLaws.{one_history}
use Rattle.exam_office.proofs.MigratingFiles.{either_stands, image_or_stands, moving_on, stands_after, while_read}
use Rattle.exam_office.proofs.MigratingPassing.{counted_first}
use Rattle.exam_office.proofs.MigratingSteps.{moved_by, old_by}

module _ (b : Tables) (plan : Plan) (file : List ℕ) (old : IsOldFile b plan file) where
  -- the payloads that count
  pub listed : (counted_in file).payloads ≡ map (payload_in b plan 1) old.records
  listed = ap (λ (o : Option Counted). (unwrap_or o (second [])).payloads) old.holds

  pub old_stands : Stands b plan old.H file
  old_stands = record { records = old.records; are = old.are; version = 1; holds = old.holds }

  -- its records are those of the history that it represents
  pub old_records : (H : List Entry) → Stands b plan H file → AreRecordsOf b plan 1 H old.records
  old_records H s = subst (λ (G : List Entry). AreRecordsOf b plan 1 G old.records) (one_history b plan old.H H file old_stands s) old.are

  module _ (H : List Entry) (s : Stands b plan H file) where
    -- the moments up to the switch
    pub moments_before : (a0 a1 : List Account) → AtEachMoment a0 a1 (IsImageOrUnmoved (latest a0) (map (payload_in b plan 1) old.records)) → AtEachMoment a0 a1 (IsImageOrStands b plan H (latest a0))
    moments_before a0 a1 moments =
        weaker (IsImageOrUnmoved (latest a0) (map (payload_in b plan 1) old.records)) (IsImageOrStands b plan H (latest a0))
        (λ file1 here. image_or_stands b plan H old.records (old_records H s) (latest a0) file1 here) a0 a1 moments

    -- and with it
    pub moments_switched : (a0 a1 a2 : List Account) → AtEachMoment a0 a1 (IsImageOrUnmoved (latest a0) (map (payload_in b plan 1) old.records)) → AtEachMoment a1 a2 (GivesEither (map (payload_in b plan 1) old.records) (map payload_of old.records))
        → AtEachMoment a0 a2 (IsImageOrStands b plan H (latest a0))
    moments_switched a0 a1 a2 moments switching =
        stands_after b plan H (latest a0) a0 a1 a2 (moments_before a0 a1 moments)
        (weaker (GivesEither (map (payload_in b plan 1) old.records) (map payload_of old.records)) (Stands b plan H)
        (λ file1 either. either_stands b plan H old.records (old_records H s) file1 either) a1 a2 switching)

  -- ---- the second pass, over another book
  module _ (b1 : Tables) (plan1 : Plan) (bank : b1 ≡ b) (same : plan1 ≡ plan) where
    pub started_move : (content waiting : List ℕ) (accounts : List Account) (gate end : ℕ) (entries : List Entry) → entries ≡ [] → IsMovingWith (counted_in file).payloads [] content waiting accounts gate end → IsMovedUpTo b1 plan1 old.records [] content waiting accounts gate end entries 8
    started_move content waiting accounts gate end entries none m =
        moved_by b b1 plan plan1 bank same old.records [] content waiting accounts gate end entries 8 (record {
          H = old.H;
          are = old.are;
          rest = old.records;
          all = refl;
          moving = subst (λ (ps : List (List ℕ)). IsMovingWith ps [] content waiting accounts gate end) listed m;
          entries_are = none;
          place = refl;
        })

    pub moments_on : (a0 a1 a2 : List Account) → AtEachMoment a0 a1 (IsImageOrUnmoved (latest a0) (counted_in file).payloads) → AtEachMoment a1 a2 (IsImageOrUnmoved (latest a1) (map (payload_in b1 plan1 1) old.records))
        → AtEachMoment a0 a2 (IsImageOrUnmoved (latest a0) (map (payload_in b plan 1) old.records))
    moments_on a0 a1 a2 starting moving =
        moving_on (map (payload_in b plan 1) old.records) a0 a1 a2
        (subst (λ (ps : List (List ℕ)). AtEachMoment a0 a1 (IsImageOrUnmoved (latest a0) ps)) listed starting)
        (subst (λ (ps : List (List ℕ)). AtEachMoment a1 a2 (IsImageOrUnmoved (latest a1) ps)) (old_by b b1 plan plan1 bank same old.records) moving)

    pub listed_by : map (payload_in b1 plan1 1) old.records ≡ (counted_in file).payloads
    listed_by = old_by b b1 plan plan1 bank same old.records ∙ sym listed

pub number_moved : (R : List Record) (entries : List Entry) → entries ≡ entries_of R → length entries ≡ length R
number_moved R entries is = ap length is ∙ length-map R (λ (r : Record). r.entry)

-- ---- a file that was only read
-- a refusal for the file
pub read_refused : (b : Tables) (plan : Plan) (file : List ℕ) (fault : OpenFault) (e : MigrateFault) → e ≡ migrate_fault fault → IsReadAnswer b plan file fault → IsMigrateAnswer b plan file e
read_refused b plan file fault e is why = subst (IsMigrateAnswer b plan file) (sym is) (by fault why)
  where
    by : (f : OpenFault) → IsReadAnswer b plan file f → IsMigrateAnswer b plan file (migrate_fault f)
    by (Journal f) reason = reason
    by Version reason = reason
    by (BadRecord at f) reason = reason
    by (BadTree at) reason = reason
    by (Illegal at f) reason = reason
    by OfDisk reason = tt
    by OfMemory reason = tt

-- the old records count in it
pub first_unmoved : (file : List ℕ) → contents file ≡ Some (counted_in file) → (counted_in file).version ≡ 1 → IsUnmoved (counted_in file).payloads file
first_unmoved file gives version = inl (gives ∙ ap Some (counted_first (counted_in file) (counted_in file).payloads version refl))

pub same_moments : (old new : List Account) → new ≡ old → AtEachMoment old new (IsImage (latest old))
same_moments old new is = subst (λ (a : List Account). AtEachMoment old a (IsImage (latest old))) (sym is) (started (IsImage (latest old)) old (λ file i. i))

pub read_moments : (b : Tables) (plan : Plan) (H : List Entry) (old new : List Account) → new ≡ old → AtEachMoment old new (IsImageOrStands b plan H (latest old))
read_moments b plan H old new is = while_read b plan H (latest old) old new (same_moments old new is)

pub puts_nothing : (before now : List ℕ) (old new : List Account) (aside aside_now : List ℕ) → now ≡ before → new ≡ old → aside_now ≡ aside → PutsTailAside before now old new aside aside_now
puts_nothing before now old new aside aside_now content accounts same = inl (record { content = content; moments = same_moments old new accounts }, same)

-- ---- a file that is no journal
scan_not : (s : Scan) → scan_fault s ≡ Some OfVersion → ⊥
scan_not (Whole ps) e = absurd (cc)
scan_not (BadLength at) e = absurd (cc)
scan_not (CutOff at) e = absurd (cc)

frames_not : (h : FileHeader) (file : List ℕ) → frames_fault h file ≡ Some OfVersion → ⊥
unfolding frames_fault
frames_not h file e = by (begins h file) refl
  where
    by : (t : Bool) → begins h file ≡ t → ⊥
    by true is = let f : scan_fault (scan (length file) 8 (drop 8 file)) ≡ Some OfVersion = rw is at e in scan_not (scan (length file) 8 (drop 8 file)) f
    by false is = let f : Some NoHeader ≡ Some OfVersion = rw is at e in absurd (cc)

-- testing frames never answers for the version
not_version : (h : FileHeader) (limit : ℕ) (file : List ℕ) → first_fault h limit file ≡ Some OfVersion → ⊥
unfolding first_fault
not_version h limit file e = by (nat_lt limit (length file)) refl
  where
    short : (t : Bool) → nat_lt limit (length file) ≡ false → nat_le (length file) 9 ≡ t → ⊥
    short true within is = let f : None ≡ Some OfVersion = rw (within, is) at e in absurd (cc)
    short false within is = let f : frames_fault h file ≡ Some OfVersion = rw (within, is) at e in frames_not h file f

    by : (t : Bool) → nat_lt limit (length file) ≡ t → ⊥
    by true is = let f : Some (TooLong (length file)) ≡ Some OfVersion = rw is at e in absurd (cc)
    by false is = short (nat_le (length file) 9) is refl

pub walk_refused : (b : Tables) (plan : Plan) (file : List ℕ) (fault : JournalFault) (e : MigrateFault) → e ≡ migrate_fault (journal_fault fault) → IsWalkAnswer plan.journal file fault → IsMigrateAnswer b plan file e
walk_refused b plan file fault e is why = subst (IsMigrateAnswer b plan file) (sym is) (by fault why)
  where
    by : (f : JournalFault) → IsWalkAnswer plan.journal file f → IsMigrateAnswer b plan file (migrate_fault (journal_fault f))
    by OfDevice reason = tt
    by NoMemory reason = tt
    by OfVersion reason = absurd (not_version (header (version_of file)) plan.journal file reason)
    by (TooLong n) reason = reason
    by NoHeader reason = reason
    by (BadSize at) reason = reason
    by (Cut at) reason = reason

-- ---- results
pub not_err : {T E P : Type 0} (r : Result T E) → is_err r ≡ false → OnOk r P → P
not_err (Ok x) e p = p
not_err (Err x) e p = absurd (cc)

pub if_ok : {T E : Type 0} (r : Result T E) {P Q : T → Type 0} → IfOk r P → ((x : T) → P x → Q x) → IfOk r Q
if_ok (Ok x) p leads = leads x p
if_ok (Err x) p leads = tt

pub both_ok : {T E : Type 0} (r : Result T E) (P Q : T → Type 0) → IfOk r P → IfOk r Q → IfOk r (λ x. P x × Q x)
both_ok (Ok x) P Q p q = (p, q)
both_ok (Err x) P Q p q = tt

pub if_err : {T E : Type 0} (r : Result T E) {P Q : E → Type 0} → IfErr r P → ((x : E) → P x → Q x) → IfErr r Q
if_err (Ok x) p leads = tt
if_err (Err x) p leads = leads x p

pub both_err : {T E : Type 0} (r : Result T E) (P Q : E → Type 0) → IfErr r P → IfErr r Q → IfErr r (λ x. P x × Q x)
both_err (Ok x) P Q p q = tt
both_err (Err x) P Q p q = (p, q)

-- ---- a call after a walk was begun
pub images_on : (old mid new : List Account) → AtEachMoment old mid (IsImage (latest old)) → AtEachMoment mid new (IsImage (latest mid)) → AtEachMoment old new (IsImage (latest old))
images_on old mid new reading more =
    joined (IsImage (latest old)) old mid new reading (weaker (IsImage (latest mid)) (IsImage (latest old)) (λ file i. at_end (IsImage (latest old)) old mid reading file i) mid new more)

-- the old records count in a file, where those of the first version do
pub first_counts : (file : List ℕ) → (counted_in file).version ≡ 1 → IsUnmoved (counted_in file).payloads file
first_counts file version = by (contents file) refl
  where
    by : (o : Option Counted) → contents file ≡ o → IsUnmoved (counted_in file).payloads file
    by None none = let clash : 2 ≡ 1 = rw none at version in absurd (omega (arith, clash))
    by (Some c) some = first_unmoved file (some ∙ ap Some (sym (ap (λ (o : Option Counted). unwrap_or o (second [])) some))) version

-- a file that was left represents what it represented, by the second version
pub left_stands : (b : Tables) (plan : Plan) (H : List Entry) (file before after : List ℕ) (done : Moved) → IsLeft b plan before after done → before ≡ file → Stands b plan H file → StandsSecond b plan H after
left_stands b plan H file before after done left is s =
    let two : (counted_in before).version ≡ 2 = sym (version_is b plan left.H before left.stands.stands) ∙ left.stands.second in
    subst (StandsSecond b plan H) (sym left.same) (stands_second b plan H before two (subst (Stands b plan H) (sym is) s))

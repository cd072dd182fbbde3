-- The history that a journal represents while it is moved.
use Rattle.std.proofs.Common.{◌≡◌, ◌⊎◌, inl, inr, ℕ, ◌+◌, false, nat_le, List, [], ◌∷◌, ◌++◌, length, map, Option, Some, refl, sym, ◌∙◌, ap, subst, arith, w32, length-append}
use Rattle.std.specs.Int.{to_be_bytes}
use Rattle.std.specs.Option.{option_map}
use Rattle.std.proofs.lemmas.Bool.{lt-leb}
use Rattle.bank_tables.specs.Tables.{Tables}
use Rattle.form_model.specs.Plan.{Plan}
use Rattle.exam_edge.specs.Images.{Account, AllImages, AtEachMoment, IsImage, IsSettled, latest}
use Rattle.exam_edge.specs.ImageLaws.{joined, weaker, at_end, only, started}
use Rattle.history_model.specs.declared.entry.Entry.{Entry}
use Rattle.history_model.specs.Judging.{Record}
use Rattle.exam_records.specs.Spelling.{payload_of}
use Rattle.answer_journal.specs.Frames.{shadowj1, frames, front}
use Rattle.answer_journal.specs.FrameLaws.{payloads-front}
use Rattle.answer_journal.specs.Moving.{GivesEither, IsImageOrUnmoved, IsMovingWith, IsUnmoved, first}
use Rattle.answer_journal.specs.Standing.{moved_records}
use Rattle.answer_journal.specs.Versions.{mark, contents, counted, counted_from, second, version_of}
use Rattle.exam_office.specs.Files.{payload_in, AreRecordsOf, IsImageOrStands, Stands, StandsSecond}
use Rattle.exam_office.specs.declared.fault.OpenFault.{OpenFault}
use Rattle.exam_office.specs.declared.fault.OpenFault.TheVariants.{Disk as OfDisk, Memory as OfMemory}
use Rattle.exam_office.specs.declared.migrating.MigrateFault.{MigrateFault}
use Rattle.exam_office.specs.declared.migrating.MigrateFault.TheVariants.{Disk, Memory}
use Rattle.exam_office.specs.Migrating.{migrate_fault}
use Rattle.exam_office.proofs.Records.{as_second}

module _ (b : Tables) (plan : Plan) (H : List Entry) (R : List Record) (are : AreRecordsOf b plan 1 H R) where
  no_records : (Q : List Record) → map (payload_in b plan 1) Q ≡ [] → map payload_of Q ≡ []
  no_records [] e = refl
  no_records (r ∷ Q) e = absurd (cc)

  -- the old records count
  pub unmoved_stands : (file : List ℕ) → IsUnmoved (map (payload_in b plan 1) R) file → Stands b plan H file
  unmoved_stands file (inl first) = record { records = R; are = are; version = 1; holds = first }
  unmoved_stands file (inr none) = record { records = R; are = as_second b plan H R are; version = 2; holds = none.1 ∙ ap (λ (ps : List (List ℕ)). Some (second ps)) (sym (no_records R none.0)) }

  -- the new records count
  pub moved_stands : (file : List ℕ) → contents file ≡ Some (second (map payload_of R)) → StandsSecond b plan H file
  moved_stands file holds = record { stands = record { records = R; are = as_second b plan H R are; version = 2; holds = holds }; second = refl }

  pub either_stands : (file : List ℕ) → GivesEither (map (payload_in b plan 1) R) (map payload_of R) file → Stands b plan H file
  either_stands file (inl old) = unmoved_stands file old
  either_stands file (inr new) = (moved_stands file new).stands

  pub image_or_stands : (before : Account) (file : List ℕ) → IsImageOrUnmoved before (map (payload_in b plan 1) R) file → IsImageOrStands b plan H before file
  image_or_stands before file (inl image) = inl image
  image_or_stands before file (inr old) = inr (unmoved_stands file old)

-- ---- the moments
module _ (b : Tables) (plan : Plan) (H : List Entry) (before : Account) where
  pub stands_after : (old mid new : List Account) → AtEachMoment old mid (IsImageOrStands b plan H before) → AtEachMoment mid new (Stands b plan H) → AtEachMoment old new (IsImageOrStands b plan H before)
  stands_after old mid new so_far more =
      joined (IsImageOrStands b plan H before) old mid new so_far (weaker (Stands b plan H) (IsImageOrStands b plan H before) (λ file s. inr s) mid new more)

  -- while the file is read
  pub while_read : (old new : List Account) → AtEachMoment old new (IsImage before) → AtEachMoment old new (IsImageOrStands b plan H before)
  while_read old new moments = weaker (IsImage before) (IsImageOrStands b plan H before) (λ file i. inl i) old new moments

-- what a crash might have left before the second of two calls, it might have left before the first
pub after_reading : (b : Tables) (plan : Plan) (H : List Entry) (old mid new : List Account) → AtEachMoment old mid (IsImage (latest old)) → AtEachMoment mid new (IsImageOrStands b plan H (latest mid))
    → AtEachMoment old new (IsImageOrStands b plan H (latest old))
after_reading b plan H old mid new reading moments =
    let P = IsImageOrStands b plan H (latest old) in
    joined P old mid new (while_read b plan H (latest old) old mid reading)
    (weaker (IsImageOrStands b plan H (latest mid)) P
    (λ file here. elim here [ inl i ↦ inl (at_end (IsImage (latest old)) old mid reading file i) | inr s ↦ inr s ]) mid new moments)

-- where a crash could leave nothing but the content before, each file represents its history
pub settled_moments : (b : Tables) (plan : Plan) (H : List Entry) (content : List ℕ) (old new : List Account) → IsSettled content old → Stands b plan H content
    → AtEachMoment old new (IsImageOrStands b plan H (latest old)) → AtEachMoment old new (Stands b plan H)
settled_moments b plan H content old new settled s moments =
    weaker (IsImageOrStands b plan H (latest old)) (Stands b plan H)
    (λ file here. elim here [ inl i ↦ subst (Stands b plan H) (sym (only (latest old) content file settled i)) s | inr stands ↦ stands ]) old new moments

-- the images of a file that was only read
pub images_read : (content : List ℕ) (old new : List Account) → AllImages (λ file. file ≡ content) (latest old) → AtEachMoment old new (IsImage (latest old)) → AllImages (λ file. file ≡ content) (latest new)
images_read content old new all moments = λ file i. all file (at_end (IsImage (latest old)) old new moments file i)

-- ---- what counts in a journal that is moved
pub moving_unmoved : (ps qs : List (List ℕ)) (content waiting : List ℕ) (accounts : List Account) (gate end : ℕ) → IsMovingWith ps qs content waiting accounts gate end → IsUnmoved ps content
unfolding contents version_of
moving_unmoved ps qs content waiting accounts gate end m = inl (ap contents m.moving.is ∙ holds)
  where
    long : nat_le (length (front shadowj1 ps ++ m.moving.byte ∷ moved_records m.here)) 9 ≡ false
    long = lt-leb (length (front shadowj1 ps ++ m.moving.byte ∷ moved_records m.here)) 9 (omega (arith, length-append (front shadowj1 ps) (m.moving.byte ∷ moved_records m.here), length-append shadowj1.bytes (frames ps), shadowj1.eight, length-append (to_be_bytes w32 (length mark)) (mark ++ frames m.here), length-append mark (frames m.here)))

    holds : contents (front shadowj1 ps ++ m.moving.byte ∷ moved_records m.here) ≡ Some (first ps)
    holds = rw long (ap (option_map (counted 1)) (payloads-front shadowj1 ps m.moving.byte (moved_records m.here) m.moving.fits m.moving.closed) ∙ ap (λ (o : Option (List (List ℕ))). Some (counted_from ps o)) m.moving.unmoved)

-- one step after another of a journal that is moved
pub moving_on : (ps : List (List ℕ)) (old mid new : List Account) → AtEachMoment old mid (IsImageOrUnmoved (latest old) ps) → AtEachMoment mid new (IsImageOrUnmoved (latest mid) ps) → AtEachMoment old new (IsImageOrUnmoved (latest old) ps)
moving_on ps old mid new so_far more =
    let P = IsImageOrUnmoved (latest old) ps in
    joined P old mid new so_far (weaker (IsImageOrUnmoved (latest mid) ps) P
    (λ file here. elim here [ inl i ↦ at_end P old mid so_far file i | inr unmoved ↦ inr unmoved ]) mid new more)

pub moving_still : (ps : List (List ℕ)) (old : List Account) → AtEachMoment old old (IsImageOrUnmoved (latest old) ps)
moving_still ps old = started (IsImageOrUnmoved (latest old) ps) old (λ file i. inl i)

pub only_unmoved : (ps : List (List ℕ)) (old new : List Account) → AtEachMoment old new (IsUnmoved ps) → AtEachMoment old new (IsImageOrUnmoved (latest old) ps)
only_unmoved ps old new moments = weaker (IsUnmoved ps) (IsImageOrUnmoved (latest old) ps) (λ file unmoved. inr unmoved) old new moments

pub moving_same : (ps qs : List (List ℕ)) (c0 c1 w0 w1 : List ℕ) (a0 a1 : List Account) (g0 g1 e0 e1 : ℕ) → c1 ≡ c0 → w1 ≡ w0 → a1 ≡ a0 → g1 ≡ g0 → e1 ≡ e0 → IsMovingWith ps qs c0 w0 a0 g0 e0 → IsMovingWith ps qs c1 w1 a1 g1 e1
moving_same ps qs c0 c1 w0 w1 a0 a1 g0 g1 e0 e1 c w a g e m =
    subst (λ (x : List ℕ). IsMovingWith ps qs x w1 a1 g1 e1) (sym c)
    (subst (λ (x : List ℕ). IsMovingWith ps qs c0 x a1 g1 e1) (sym w)
    (subst (λ (x : List Account). IsMovingWith ps qs c0 w0 x g1 e1) (sym a)
    (subst (λ (x : ℕ). IsMovingWith ps qs c0 w0 a0 x e1) (sym g)
    (subst (λ (x : ℕ). IsMovingWith ps qs c0 w0 a0 g0 x) (sym e) m))))

-- ---- faults
pub device_fault : (fault : OpenFault) (e : MigrateFault) → e ≡ migrate_fault fault → (fault ≡ OfDisk) ⊎ (fault ≡ OfMemory) → (e ≡ Disk) ⊎ (e ≡ Memory)
device_fault fault e is (inl disk) = inl (is ∙ ap migrate_fault disk)
device_fault fault e is (inr memory) = inr (is ∙ ap migrate_fault memory)

-- A replay over a disk, from its office.
use Rattle.std.proofs.Common.{◌≡◌, ℕ, ◌≤◌, inr, Bool, List, [], length, Option, None, Result, Err, IfErr, IsTrue, refl, sym, ◌∙◌, ap, subst, arith}
use Rattle.std.specs.Option.{unwrap_or}
use Rattle.bank_tables.specs.Tables.{Tables}
use Rattle.exam_edge.specs.Faults.{Rose}
use Rattle.exam_edge.specs.Images.{Account, IsImage, AtEachMoment, latest}
use Rattle.exam_edge.specs.ImageLaws.{at_end}
use Rattle.form_model.specs.Plan.{Plan}
use Rattle.history_model.specs.declared.entry.Entry.{Entry}
use Rattle.history_model.specs.declared.request.Reply.{Reply}
use Rattle.history_model.specs.declared.request.Request.{Request}
use Rattle.history_model.specs.Legality.{LegalRun}
use Rattle.exam_office.specs.declared.fault.OpenFault.{OpenFault}
use Rattle.exam_office.specs.declared.fault.OpenFault.TheVariants as fault
use Rattle.exam_office.specs.Files.{counted_of, IsImageOrStands, Stands, StandsSecond}
use Rattle.exam_office.specs.Moments.{AreOpeningMoments}
use Rattle.exam_office.specs.Marks.{history, reach}
use Rattle.exam_office.specs.Opening.{IsOpenAnswer}
use Rattle.exam_office.specs.Running.{Running}
use Rattle.exam_office.specs.Writing.{IsOneOf, as_before, with_doubt, IsMending}
use Rattle.answer_journal.specs.Journal.{tells_of, accounts_of, faults_of}
use Rattle.answer_journal.specs.Versions.{Counted, counted_in, second}
use Rattle.exam_program.specs.declared.halt.Halt.{Halt}
use Rattle.exam_program.specs.declared.halt.Halt.TheVariants as halt
use Rattle.exam_program.specs.Outside.{DiskSeen, disk_seen, IsUntouched, KeepsHistory}
use Rattle.exam_program.specs.Replays.{IsGoingOn, IsFileOnTheWay, IsLeftAt, IsOpeningFailed}
use Rattle.exam_program.specs.Stopping.{IsUnopened, refused, failed, out_of_memory, opening_halt, Stops, by_sessions, by_journal, by_disk, by_memory, by_sink, Finishes, GoesOn, IsOfficeAt, IsServed, IsUnserved, IsReplayed, Halted}

-- ---- a journal that was not opened
-- what a disk says of the moments of a call, said of the last one
module _ {D : Type 0} (tells : D → Bool) (content : D → List ℕ) (accounts : D → List Account) (faults : D → ℕ) (old new : D) where
  pub keeps_so : (b : Tables) (plan : Plan) → (IsTrue (tells old) → IsImage (latest (accounts new)) (content new))
      → (IsTrue (tells old) → (H : List Entry) → Stands b plan H (content old) → AtEachMoment (accounts old) (accounts new) (IsImageOrStands b plan H (latest (accounts old))))
      → KeepsHistory b plan (disk_seen tells content accounts faults old new)
  keeps_so b plan image each = record {
    left = λ t H stands. at_end (IsImageOrStands b plan H (latest (accounts old))) (accounts old) (accounts new) (each t H stands) (content new) (image t);
    images = λ t H stands. at_end (IsImageOrStands b plan H (latest (accounts old))) (accounts old) (accounts new) (each t H stands);
    moments = each;
  }

  pub failing_so : (b : Tables) (plan : Plan) → Rose (faults old) (faults new) → (IsTrue (tells old) → IsImage (latest (accounts new)) (content new))
      → (IsTrue (tells old) → (H : List Entry) → Stands b plan H (content old) → AtEachMoment (accounts old) (accounts new) (IsImageOrStands b plan H (latest (accounts old))))
      → IsOpeningFailed b plan (disk_seen tells content accounts faults old new)
  failing_so b plan rose image each = record { rose = rose; keeps = keeps_so b plan image each }

  pub unwritten_so : (IsTrue (tells old) → content new ≡ content old) → (IsTrue (tells old) → AtEachMoment (accounts old) (accounts new) (IsImage (latest (accounts old))))
      → IsUntouched (disk_seen tells content accounts faults old new)
  unwritten_so same each = record { left = same; images = λ t. at_end (IsImage (latest (accounts old))) (accounts old) (accounts new) (each t); moments = each }

pub unopened_so : (b : Tables) (plan : Plan) (disk : DiskSeen) (f : OpenFault) → (IsTrue disk.told → IsOpenAnswer b plan disk.found f)
    → (f ≡ fault.Disk → IsOpeningFailed b plan disk) → ((f ≡ fault.Disk → ⊥) → IsUntouched disk) → IsUnopened b plan disk (opening_halt f)
unopened_so b plan disk fault.Disk answer so untouched = failed (so refl)
unopened_so b plan disk fault.Memory answer so untouched = out_of_memory (untouched (λ e. cc))
unopened_so b plan disk (fault.Journal f) answer so untouched = refused (fault.Journal f) (record { of_file = tt; answer = answer; untouched = untouched (λ e. cc) })
unopened_so b plan disk fault.Version answer so untouched = refused fault.Version (record { of_file = tt; answer = answer; untouched = untouched (λ e. cc) })
unopened_so b plan disk (fault.BadRecord at f) answer so untouched = refused (fault.BadRecord at f) (record { of_file = tt; answer = answer; untouched = untouched (λ e. cc) })
unopened_so b plan disk (fault.BadTree at) answer so untouched = refused (fault.BadTree at) (record { of_file = tt; answer = answer; untouched = untouched (λ e. cc) })
unopened_so b plan disk (fault.Illegal at f) answer so untouched = refused (fault.Illegal at f) (record { of_file = tt; answer = answer; untouched = untouched (λ e. cc) })

pub no_sink : (f : OpenFault) → opening_halt f ≡ halt.Sink → ⊥
no_sink fault.Disk e = cc
no_sink fault.Memory e = cc
no_sink (fault.Journal f) e = cc
no_sink fault.Version e = cc
no_sink (fault.BadRecord at f) e = cc
no_sink (fault.BadTree at) e = cc
no_sink (fault.Illegal at f) e = cc

-- ---- a journal that was opened
-- the records of the second version of a file that represents a history
pub moved_so : (b : Tables) (plan : Plan) (H : List Entry) (file : List ℕ) → Stands b plan H file → (counted_in file).version ≡ 2 → StandsSecond b plan H file
moved_so b plan H file stands is =
    let counts : counted_of b plan stands.version stands.records ≡ counted_in file = ap (λ (o : Option Counted). unwrap_or o (second [])) (sym stands.holds) in
    record { stands = stands; second = ap (λ (c : Counted). c.version) counts ∙ is }

-- a file with nothing in doubt
sure_of : (b : Tables) (plan : Plan) (H : List Entry) (doubt : Option Entry) (file : List ℕ) → doubt ≡ None → IsMending b plan H doubt file → StandsSecond b plan H file
sure_of b plan H doubt file e m = subst (λ (G : List Entry). StandsSecond b plan G file) (here doubt e m.so_far m.is_one_of) m.stands
  where
    here : (doubt : Option Entry) → doubt ≡ None → (G : List Entry) → IsOneOf H doubt G → G ≡ H
    here doubt e _ (as_before _) = refl
    here _ e _ (with_doubt entry) = cc

-- what is known of an office's disk when it is handed back
pub record IsHandedBack {D : Type 0} (b : Tables) (plan : Plan) (disk : DiskSeen) (old new : Running D) : Type 0 where
  pub legal : LegalRun b plan (history old.marks)
  pub found : IsTrue disk.told → StandsSecond b plan (history old.marks) disk.found
  pub told : tells_of old.journal ≡ disk.told
  pub images : latest (accounts_of new.journal) ≡ disk.images
  pub moments : accounts_of new.journal ≡ disk.moments
  pub opening : IsTrue disk.told → AreOpeningMoments b plan (history old.marks) disk.images_before disk.moments_before (accounts_of old.journal)
  pub left : IsTrue disk.told → IsImage disk.images disk.left
  pub content : IsTrue disk.told → IsMending b plan (history new.marks) new.doubt disk.left
  pub length_is : IsTrue disk.told → new.doubt ≡ None → length disk.left ≡ reach new.marks
  pub before : disk.before ≤ faults_of old.journal
  pub after : faults_of new.journal ≡ disk.after

module _ {D : Type 0} (b : Tables) (plan : Plan) (base : List ℕ) (disk : DiskSeen) (script : List Request) (old new : Running D) (back : IsHandedBack b plan disk old new) where
  way_so : (G : List Entry) (rest : List Request) (replies : List Reply) → GoesOn b plan base script old new G rest replies → IsReplayed b plan base disk script G rest replies
  way_so G rest replies going =
      let going_on = subst (λ (t : Bool). IsGoingOn b plan base script t disk.images (history old.marks) G rest replies) back.told
      (subst (λ (a : Account). IsGoingOn b plan base script (tells_of old.journal) a (history old.marks) G rest replies) back.images going.going) in
      record {
        H = history old.marks;
        under_way = record {
          legal = back.legal;
          found = back.found;
          left = λ t. going_on.each t disk.left (back.left t);
          going_on = going_on;
          moments = λ t. record {
            opened = accounts_of old.journal;
            opening = back.opening t;
            requests =
                subst (λ (m : List Account). AtEachMoment (accounts_of old.journal) m (IsFileOnTheWay b plan base script (history old.marks))) back.moments
                (going.moments (back.told ∙ t));
          };
        };
      }

  left_so : (K : List Entry) (reached : ℕ) → IsOfficeAt new K reached → IsLeftAt b plan disk K reached
  left_so K reached at = record {
    stands = λ t. subst (λ (G : List Entry). StandsSecond b plan G disk.left) at.history_is (sure_of b plan (history new.marks) new.doubt disk.left at.sure (back.content t));
    length_is = λ t. sym (back.length_is t at.sure ∙ at.reach_is);
  }

  rose_so : Rose (faults_of old.journal) (faults_of new.journal) → Rose disk.before disk.after
  rose_so rose = omega (arith, rose, back.before, back.after)

  module _ (told : Bool) (was now : List ℕ) where
    pub finish_so : IsServed b plan base script old new told was now → Finishes (IsReplayed b plan base disk script) told was now
    finish_so f = record { G = f.G; replies = f.replies; way = way_so f.G [] f.replies f.way; written = f.written }

    stop_so : (h : Halt) → IsUnserved b plan base script old new told was now h
        → Stops b plan (IsReplayed b plan base disk script) (IsLeftAt b plan disk) (Rose disk.before disk.after) told was now h
    stop_so _ (by_sessions G request rest replies count way why written) = by_sessions G request rest replies count (way_so _ _ _ way) why written
    stop_so _ (by_journal G request rest replies K reached size way full at written) = by_journal G request rest replies K reached size (way_so _ _ _ way) full (left_so K reached at) written
    stop_so _ (by_disk G rest replies way rose written) = by_disk G rest replies (way_so _ _ _ way) (rose_so rose) written
    stop_so _ (by_memory G rest replies way written) = by_memory G rest replies (way_so _ _ _ way) written
    stop_so _ (by_sink G rest replies way part) = by_sink G rest replies (way_so _ _ _ way) part

    pub halted_so : (h : Halt) → IsUnserved b plan base script old new told was now h → Halted b plan base disk script told was now h
    halted_so h stops = inr (stop_so h stops)

-- what holds of equals
pub as_given : (P : Tables → Plan → List ℕ → Type 0) (b c : Tables) (p q : Plan) (f h : List ℕ) → b ≡ c → p ≡ q → f ≡ h → P b p f → P c q h
as_given P b c p q f h same_bank same_plan same_base is =
    subst (λ (x : Tables). P x q h) same_bank (subst (λ (y : Plan). P b y h) same_plan (subst (λ (z : List ℕ). P b p z) same_base is))

-- the halt of a result
pub at_err : {A E : Type 0} (P : E → Type 0) (r : Result A E) (h : E) → r ≡ Err h → IfErr r P → P h
at_err {A} {E} P r h is if_err = subst (λ (x : Result A E). IfErr x P) is if_err

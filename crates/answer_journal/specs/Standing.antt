-- The state of a journal's disk: at rest, or with a record in doubt.
use Rattle.std.specs.Prelude.{◌≡◌, ◌≢◌, ◌⊎◌, ℕ, ◌+◌, ◌-◌, ◌≤◌, nat_le, if◌then◌else◌}
use Rattle.std.specs.Prelude.{List, [], ◌∷◌, ◌++◌, length, take, None, Some, unwrap_or}
use Rattle.std.specs.List.{AllByRecursion}
use Rattle.exam_edge.specs.Images.{Account, latest, settled, written, dropped}
use Rattle.exam_edge.specs.Images.{IsClean, IsWithin, IsSettled, IsImage, AllImages}
use Rattle.std.specs.Int.{to_be_bytes, w32}
use Rattle.answer_journal.specs.Frames.{FileHeader, IsPayload, shadowj1, shadowj2, frame_of, frames, front, payloads}
use Rattle.answer_journal.specs.Versions.{header, mark, after_mark, contents}

-- the payloads of a file, none where a rule is broken
abbrev pub payload_list : FileHeader → List ℕ → List (List ℕ)
payload_list h file = unwrap_or (payloads h file) []

-- the file is header, frames and a closed gate, all of it on the disk
pub record IsAtRest (h : FileHeader) (content : List ℕ) (accounts : List Account)
    (size : ℕ) : Type 0 where
  pub gives : payloads h content ≡ Some (payload_list h content)
  pub gate : ℕ
  pub closed : gate ≢ 1
  pub file : content ≡ front h (payload_list h content) ++ gate ∷ []
  pub fits : AllByRecursion IsPayload (payload_list h content)
  pub size_is : size ≡ length content
  pub settled : IsSettled content accounts

-- one more record is whole after the closed gate, all of it on the disk
pub record IsStaged (h : FileHeader) (ps : List (List ℕ)) (payload content : List ℕ)
    (accounts : List Account) (size : ℕ) : Type 0 where
  pub fits : AllByRecursion IsPayload ps
  pub one : IsPayload payload
  pub size_is : size ≡ length (front h ps) + 1
  pub gate : ℕ
  pub closed : gate ≢ 1
  pub file : content ≡ front h ps ++ gate ∷ frame_of payload
  pub settled : IsSettled content accounts

-- header and frames of these payloads, a closed gate, and whatever follows it
pub record Unopened (h : FileHeader) (ps : List (List ℕ)) (file : List ℕ) : Type 0 where
  pub gate : ℕ
  pub junk : List ℕ
  pub closed : gate ≢ 1
  pub is : file ≡ front h ps ++ gate ∷ junk

-- the gate of one more payload is closed, or it is open and the whole record follows it
abbrev pub IsEither : FileHeader → List (List ℕ) → List ℕ → List ℕ → Type 0
IsEither h ps payload file = Unopened h ps file ⊎ (file ≡ front h (ps ++ payload ∷ []) ++ 0 ∷ [])

-- the file gives these payloads, or one more
abbrev pub IsBeforeOrWith : FileHeader → List (List ℕ) → List ℕ → List ℕ → Type 0
IsBeforeOrWith h ps payload file =
    (payloads h file ≡ Some ps) ⊎ (payloads h file ≡ Some (ps ++ payload ∷ []))

-- a record was being written after a closed gate, and what was written there may be suspect
pub record IsBeingWritten (h : FileHeader) (ps : List (List ℕ)) (accounts : List Account)
    (size : ℕ) : Type 0 where
  pub gate : ℕ
  pub closed : gate ≢ 1
  pub n : ℕ
  pub within : IsWithin (latest accounts)
      (dropped (written size n (settled (front h ps ++ gate ∷ []))))

-- a record is whole on the disk, its gate was being opened, and that gate may be suspect
pub record IsBeingOpened (h : FileHeader) (ps : List (List ℕ)) (payload : List ℕ)
    (accounts : List Account) (size : ℕ) : Type 0 where
  pub gate : ℕ
  pub closed : gate ≢ 1
  pub within : IsWithin (latest accounts)
      (dropped (written (size - 1) 1 (settled (front h ps ++ gate ∷ frame_of payload))))

-- how far the calls for a record in doubt came
abbrev pub IsStage : FileHeader → List (List ℕ) → List ℕ → List Account → ℕ → Type 0
IsStage h ps payload accounts size =
    IsBeingWritten h ps accounts size ⊎ IsBeingOpened h ps payload accounts size

-- a record may have been added or not, and the file ends after its gate or after the next
pub record IsInDoubt (h : FileHeader) (ps : List (List ℕ)) (payload : List ℕ)
    (accounts : List Account) (size with_it : ℕ) : Type 0 where
  pub fits : AllByRecursion IsPayload ps
  pub one : IsPayload payload
  pub size_is : size ≡ length (front h ps) + 1
  pub with_is : with_it ≡ size + 5 + length payload
  pub each : AllImages (IsEither h ps payload) (latest accounts)
  pub stage : IsStage h ps payload accounts size

-- one record is in doubt
pub record HasDoubt (h : FileHeader) (accounts : List Account) : Type 0 where
  pub before : List (List ℕ)
  pub payload : List ℕ
  pub size : ℕ
  pub with_it : ℕ
  pub doubt : IsInDoubt h before payload accounts size with_it

-- an empty journal was being made of a file of at most nine bytes, and what was written may be
-- suspect
pub record IsBeingMade (accounts : List Account) : Type 0 where
  pub bytes : List ℕ
  pub few : length bytes ≤ 9
  pub within : IsWithin (latest accounts) (dropped (written 0 9 (settled bytes)))

-- what follows the closed gate of a journal of the first version that is being moved: the mark, and
-- records of the second version so far, each but the mark after an open gate
abbrev pub moved_records : List (List ℕ) → List ℕ
moved_records ps = to_be_bytes w32 (length mark) ++ (mark ++ frames ps)

-- the frames of the mark and of all records are after that gate, on the disk, and it was being
-- opened: it may be suspect
pub record IsBeingSwitched (accounts : List Account) : Type 0 where
  pub before : List (List ℕ)
  pub after : List (List ℕ)
  pub fits : AllByRecursion IsPayload before
  pub after_fits : AllByRecursion IsPayload after
  pub unmoved : after_mark before ≡ None
  pub gate : ℕ
  pub closed : gate ≢ 1
  pub within : IsWithin (latest accounts)
      (dropped (written (length (front shadowj1 before)) 1
      (settled (front shadowj1 before ++ gate ∷ (moved_records after ++ 0 ∷ [])))))

-- one record of a journal of some version is in doubt
pub record HasSomeDoubt (accounts : List Account) : Type 0 where
  pub version : ℕ
  pub doubt : HasDoubt (header version) accounts

-- a journal or its opening was interrupted: one record is in doubt, or the header was being
-- written, or the gate that moves the journal was being opened
abbrev pub IsInterrupted : List Account → Type 0
IsInterrupted accounts =
    HasSomeDoubt accounts ⊎ (IsBeingMade accounts ⊎ IsBeingSwitched accounts)

-- a disk as a reboot or a journal left it: nothing is suspect, or the journal was interrupted
abbrev pub IsAsLeft : List Account → Type 0
IsAsLeft accounts = IsClean (latest accounts) ⊎ IsInterrupted accounts

-- such a disk after a sync that succeeded: it is settled, or the journal was interrupted
abbrev pub IsSettledOrInterrupted : List ℕ → List Account → Type 0
IsSettledOrInterrupted content accounts = IsSettled content accounts ⊎ IsInterrupted accounts

-- a file that a crash might have left before, or one that gives the same payloads
abbrev pub IsImageOrGives : FileHeader → Account → List ℕ → List ℕ → Type 0
IsImageOrGives h before content file = IsImage before file ⊎ (payloads h file ≡ payloads h content)

-- a file that a crash might have left before, or one in which the same payloads count
abbrev pub IsImageOrHolds : Account → List ℕ → List ℕ → Type 0
IsImageOrHolds before content file = IsImage before file ⊎ (contents file ≡ contents content)

-- the content of the disk once a file is opened: so many of the file's first bytes, or an empty
-- journal of the second version where the file had at most nine bytes
unfoldable pub opened_file : List ℕ → ℕ → List ℕ
opened_file file size =
    if nat_le (length file) 9 then shadowj2.bytes ++ 0 ∷ [] else take size file

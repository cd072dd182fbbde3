-- What the links of a server must allow, at each moment.
use Rattle.std.specs.Prelude.{ℕ, Bool, IsTrue, List, ◌++◌, Option, Contains}
use Rattle.exam_headline.specs.Conversations.{Examination, MayBeWritten}
use Rattle.history_model.specs.declared.entry.Entry.{Entry}
use Rattle.turn_lock.specs.Histories.{StartsWith}

-- each link that a door may give allows what may have been written to it after a history that
-- begins with the one found
abbrev pub AreFair : {K D : Type 0} → Option (List ℕ) → (K → Bool) → (K → List ℕ) → (K → List ℕ)
    → (K → List ℕ → Type 0) → (D → Bool) → (D → List K) → List D → Examination → List Entry
    → Type 0
AreFair {K} {D} token tells left written allows door_tells coming doors exam found =
    (door : D) (link : K) (start : List Entry) (text : List ℕ) → Contains doors door
    → (IsTrue (door_tells door) → Contains (coming door) link) → IsTrue (tells link)
    → StartsWith start found → MayBeWritten exam token start (left link) text
    → allows link (written link ++ text)

-- The words for refusals.
use Rattle.std.specs.Prelude.{ℕ, List, codes}
use Rattle.history_model.specs.declared.refusal.Refusal.{Refusal}
use Rattle.history_model.specs.declared.refusal.Refusal.TheVariants.{NoSession, WrongStep, Other, BadResponse, IsClosed, Stale, OtherList, NoItem, SessionsFull, NoForm, NoneFound, JournalFull, Disk, Memory, OtherBooking}

-- the word for a refusal, in replies of each kind
abbrev pub refusal_word : Refusal → List ℕ
refusal_word (NoSession count) = codes "no-session"
refusal_word OtherBooking = codes "other-booking"
refusal_word (WrongStep step) = codes "wrong-step"
refusal_word (Other response) = codes "other"
refusal_word (BadResponse categories) = codes "bad-response"
refusal_word (IsClosed place) = codes "is-closed"
refusal_word (Stale place aside) = codes "stale"
refusal_word (OtherList session) = codes "other-list"
refusal_word (NoItem count) = codes "no-item"
refusal_word (SessionsFull count) = codes "sessions-full"
refusal_word NoForm = codes "no-form"
refusal_word NoneFound = codes "none-found"
refusal_word (JournalFull length) = codes "journal-full"
refusal_word Disk = codes "disk"
refusal_word Memory = codes "memory"

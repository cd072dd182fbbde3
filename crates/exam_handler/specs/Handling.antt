-- What a reply may be.
use Rattle.std.specs.Prelude.{⊤}
use Rattle.history_model.specs.declared.place.Place.{Place}
use Rattle.history_model.specs.declared.place.Place.TheVariants.{Pending, Waiting, Complete, Closed}
use Rattle.history_model.specs.declared.refusal.Refusal.{Refusal}
use Rattle.history_model.specs.declared.refusal.Refusal.TheVariants.{NoSession, WrongStep, Other, BadResponse, IsClosed, Stale, OtherList, NoItem, SessionsFull, NoForm, NoneFound, JournalFull, Disk, Memory, OtherBooking}
use Rattle.history_model.specs.declared.request.Reply.{Reply}
use Rattle.history_model.specs.declared.request.Reply.TheVariants.{At, Exposure, Refused}

-- the session has ended
abbrev pub IsEnd : Place → Type 0
IsEnd (Pending step) = ⊥
IsEnd (Waiting step item proved) = ⊥
IsEnd Complete = ⊤
IsEnd Closed = ⊤

-- never Stale, and the place of IsClosed is an end
abbrev pub IsRefusal : Refusal → Type 0
IsRefusal (NoSession count) = ⊤
IsRefusal OtherBooking = ⊤
IsRefusal (WrongStep step) = ⊤
IsRefusal (Other response) = ⊤
IsRefusal (BadResponse categories) = ⊤
IsRefusal (IsClosed place) = IsEnd place
IsRefusal (Stale place aside) = ⊥
IsRefusal (OtherList session) = ⊤
IsRefusal (NoItem count) = ⊤
IsRefusal (SessionsFull count) = ⊤
IsRefusal NoForm = ⊤
IsRefusal NoneFound = ⊤
IsRefusal (JournalFull length) = ⊤
IsRefusal Disk = ⊤
IsRefusal Memory = ⊤

-- a reply of one who answers requests
abbrev pub IsReply : Reply → Type 0
IsReply (At session place fresh) = ⊤
IsReply (Exposure counts) = ⊤
IsReply (Refused refusal) = IsRefusal refusal

-- why the health of an examination was not found: the disk failed, or memory ran out
abbrev pub IsProbeRefusal : Refusal → Type 0
IsProbeRefusal Disk = ⊤
IsProbeRefusal Memory = ⊤
IsProbeRefusal refusal = ⊥

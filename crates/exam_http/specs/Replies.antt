-- The statuses, bodies and texts of responses.
use Rattle.std.specs.Prelude.{◌≡◌, ℕ, Bool, true, List, [], map, codes, Result, Ok, Err, if◌then◌else◌}
use Rattle.serde_json.specs.Data.{Data, boolean, number, unsigned, string, array, object, no_items, item, no_members, member}
use Rattle.serde_json.specs.View.{items_of}
use Rattle.serde_json.specs.Written.{compact_text}
use Rattle.history_model.specs.declared.counts.Counts.{Counts}
use Rattle.history_model.specs.declared.place.Place.{Place}
use Rattle.history_model.specs.declared.place.Place.TheVariants as place
use Rattle.history_model.specs.declared.request.Exposure as exposure
use Rattle.history_model.specs.declared.refusal.Refusal.{Refusal}
use Rattle.history_model.specs.declared.refusal.Refusal.TheVariants as refusal
use Rattle.history_model.specs.declared.request.Reply.{Reply}
use Rattle.history_model.specs.declared.request.Reply.TheVariants.{At, Exposure, Refused}
use Rattle.history_model.specs.Words.{refusal_word}
use Rattle.exam_handler.specs.declared.health.Health.{Health}
use Rattle.wire_http.specs.declared.message.WireFault.{WireFault}
use Rattle.wire_http.specs.declared.message.WireFault.TheVariants as wire
use Rattle.exam_http.specs.declared.message_fault.MessageFault.{MessageFault}
use Rattle.exam_http.specs.declared.message_fault.MessageFault.TheVariants.{NoRoute, NoMethod, BadJson, BadBody, Unauthorized}
use Rattle.wire_http.specs.Responses.{response}

-- ---- bodies: members are in the byte order of their names

abbrev pub whole_number : ℕ → Data
whole_number n = number (unsigned n)

abbrev pub state_body : ℕ → List ℕ → Data
state_body session word = object (member (codes "session") (whole_number session)
    (member (codes "state") (string word) no_members))

abbrev pub place_body : ℕ → Place → Data
place_body session (place.Pending step) =
    object (
    member (codes "session") (whole_number session) (
    member (codes "state") (string (codes "pending")) (
    member (codes "step") (whole_number step) no_members)))
place_body session (place.Waiting step it proved) =
    object (
    member (codes "item") (whole_number it) (
    member (codes "proved") (boolean proved) (
    member (codes "session") (whole_number session) (
    member (codes "state") (string (codes "waiting")) (
    member (codes "step") (whole_number step) no_members)))))
place_body session place.Complete = state_body session (codes "complete")
place_body session place.Closed = state_body session (codes "closed")

-- how often an item was shown, and how often it was eligible
abbrev pub counts_body : Counts → Data
counts_body c = array (item (whole_number c.alpha) (item (whole_number c.eps) no_items))

abbrev pub exposure_body : exposure.Exposure → Data
exposure_body e =
    object (
    member (codes "finished") (whole_number e.finished) (
    member (codes "rows") (array (items_of (map counts_body e.rows))) no_members))

-- how the examination is: how many workers are busy, its entries, its open sessions, and the bytes
-- by which the journal may still grow
abbrev pub health_body : ℕ → Health → Data
health_body busy h =
    object (
    member (codes "busy") (whole_number busy) (
    member (codes "entries") (whole_number h.entries) (
    member (codes "open") (whole_number h.open) (
    member (codes "room") (whole_number h.room) no_members))))

-- an error of this name
abbrev pub error_body : List ℕ → Data
error_body name = object (member (codes "error") (string name) no_members)

-- an error of this name with a value
abbrev pub error_body_with : List ℕ → Data → Data
error_body_with name value =
    object (member (codes "error") (string name) (member (codes "value") value no_members))

-- the word for the end of a session
abbrev pub end_word : Place → List ℕ
end_word (place.Pending step) = codes "closed"
end_word (place.Waiting step it proved) = codes "closed"
end_word place.Complete = codes "complete"
end_word place.Closed = codes "closed"

abbrev pub refusal_body : Refusal → Data
refusal_body (refusal.NoSession sessions) =
    error_body_with (refusal_word (refusal.NoSession sessions)) (whole_number sessions)
refusal_body refusal.OtherBooking = error_body (refusal_word refusal.OtherBooking)
refusal_body (refusal.WrongStep step) =
    error_body_with (refusal_word (refusal.WrongStep step)) (whole_number step)
refusal_body (refusal.Other response) =
    error_body_with (refusal_word (refusal.Other response)) (whole_number response)
refusal_body (refusal.BadResponse categories) =
    error_body_with (refusal_word (refusal.BadResponse categories)) (whole_number categories)
refusal_body (refusal.IsClosed place) =
    error_body_with (refusal_word (refusal.IsClosed place)) (string (end_word place))
refusal_body (refusal.Stale place aside) = error_body (refusal_word (refusal.Stale place aside))
refusal_body (refusal.OtherList session) =
    error_body_with (refusal_word (refusal.OtherList session)) (whole_number session)
refusal_body (refusal.NoItem items) =
    error_body_with (refusal_word (refusal.NoItem items)) (whole_number items)
refusal_body (refusal.SessionsFull sessions) =
    error_body_with (refusal_word (refusal.SessionsFull sessions)) (whole_number sessions)
refusal_body refusal.NoForm = error_body (refusal_word refusal.NoForm)
refusal_body refusal.NoneFound = error_body (refusal_word refusal.NoneFound)
refusal_body (refusal.JournalFull length) =
    error_body_with (refusal_word (refusal.JournalFull length)) (whole_number length)
refusal_body refusal.Disk = error_body (refusal_word refusal.Disk)
refusal_body refusal.Memory = error_body (refusal_word refusal.Memory)

unfoldable pub reply_body : Reply → Data
reply_body (At session place fresh) = place_body session place
reply_body (Exposure counts) = exposure_body counts
reply_body (Refused refusal) = refusal_body refusal

-- the name of the error of a message that asks nothing
abbrev pub fault_name : MessageFault → List ℕ
fault_name NoRoute = codes "no-route"
fault_name NoMethod = codes "no-method"
fault_name BadJson = codes "bad-json"
fault_name BadBody = codes "bad-body"
fault_name Unauthorized = codes "unauthorized"

-- ---- statuses

abbrev pub refusal_status : Refusal → ℕ
refusal_status (refusal.NoSession sessions) = 404
refusal_status refusal.OtherBooking = 409
refusal_status (refusal.WrongStep step) = 409
refusal_status (refusal.Other response) = 409
refusal_status (refusal.BadResponse categories) = 422
refusal_status (refusal.IsClosed place) = 409
refusal_status (refusal.Stale place aside) = 409
refusal_status (refusal.OtherList session) = 409
refusal_status (refusal.NoItem items) = 422
refusal_status (refusal.SessionsFull sessions) = 507
refusal_status refusal.NoForm = 422
refusal_status refusal.NoneFound = 422
refusal_status (refusal.JournalFull length) = 507
refusal_status refusal.Disk = 503
refusal_status refusal.Memory = 500

abbrev pub reply_status : Reply → ℕ
reply_status (At session place fresh) = if fresh then 201 else 200
reply_status (Exposure counts) = 200
reply_status (Refused refusal) = refusal_status refusal

abbrev pub fault_status : MessageFault → ℕ
fault_status NoRoute = 404
fault_status NoMethod = 405
fault_status BadJson = 400
fault_status BadBody = 422
fault_status Unauthorized = 401

-- ---- texts

-- the response of a reply
abbrev pub reply_text : Reply → Bool → List ℕ
reply_text reply close = response (reply_status reply) (compact_text (reply_body reply)) close

-- the response of an examination's health, with so many busy workers
abbrev pub health_text : ℕ → Health → Bool → List ℕ
health_text busy h close = response 200 (compact_text (health_body busy h)) close

-- the response of a look at the health, with some number of busy workers; why there is no health
-- is told as a request's refusal is
abbrev pub IsHealthText : Result Health Refusal → Bool → List ℕ → Type 0
IsHealthText (Ok h) close text = (busy : ℕ) × (text ≡ health_text busy h close)
IsHealthText (Err why) close text = text ≡ reply_text (Refused why) close

-- the response to a message that asks nothing
abbrev pub message_fault_text : MessageFault → Bool → List ℕ
message_fault_text fault close =
    response (fault_status fault) (compact_text (error_body (fault_name fault))) close

-- the response to bytes that begin with no message: nothing where they end within one
abbrev pub wire_fault_text : WireFault → List ℕ
wire_fault_text wire.BadHead = response 400 (compact_text (error_body (codes "bad-head"))) true
wire_fault_text wire.HeadTooLong = response 413 (compact_text (error_body (codes "too-long"))) true
wire_fault_text wire.NoLength = response 411 (compact_text (error_body (codes "no-length"))) true
wire_fault_text wire.BodyTooLong = response 413 (compact_text (error_body (codes "too-long"))) true
wire_fault_text wire.Cut = []
wire_fault_text wire.Link = []
wire_fault_text wire.Memory = []

-- What a server writes to a connection.
use Rattle.std.specs.Prelude.{◌≡◌, ◌⊎◌, ℕ, Bool, List, [], ◌++◌, Result, Ok, Err, Option}
use Rattle.bank_tables.specs.Tables.{Tables}
use Rattle.exam_headline.specs.Requests.{AreEntriesOf, AreWell, Tells}
use Rattle.exam_http.specs.Asks.{Asks}
use Rattle.exam_http.specs.declared.asked.Asked.{Asked}
use Rattle.exam_http.specs.declared.asked.Asked.TheVariants as ask
use Rattle.exam_http.specs.declared.message_fault.MessageFault.{MessageFault}
use Rattle.exam_http.specs.Replies.{reply_text, IsHealthText, message_fault_text, wire_fault_text}
use Rattle.exam_http.specs.Serving.{Begins}
use Rattle.form_model.specs.Plan.{Plan}
use Rattle.headline_model.specs.Legal.{IsLegal}
use Rattle.history_model.specs.declared.entry.Entry.{Entry}
use Rattle.exam_handler.specs.declared.health.Health.{Health}
use Rattle.history_model.specs.declared.refusal.Refusal.{Refusal}
use Rattle.history_model.specs.declared.request.Reply.{Reply}
use Rattle.history_model.specs.declared.request.Request.{Request}
use Rattle.turn_lock.specs.Histories.{StartsWith}
use Rattle.wire_http.specs.declared.message.Message.{Message}
use Rattle.wire_http.specs.declared.message.WireFault.{WireFault}
use Rattle.wire_http.specs.Messages.{IsMessage, IsFault}

-- the examination of a server: its bank, plan and base form
pub record Examination : Type 0 where
  pub bank : Tables
  pub plan : Plan
  pub base : List ℕ

-- a request led from a history to one that begins with it, perhaps with entries of other requests
-- among them; it is legal and has the entries of this request, which are good; the reply is true of
-- it
pub record IsTrueReply (x : Examination) (old : List Entry) (request : Request) (reply : Reply)
    (new : List Entry) : Type 0 where
  pub grows : StartsWith new old
  pub legal : IsLegal x.bank x.plan new
  pub own : List Entry
  pub are : AreEntriesOf new request own
  pub well : AreWell x.bank x.plan x.base new own
  pub tells : Tells x.bank x.plan request new own reply

-- the text answers what was asked
abbrev pub Answers : Examination → Result Asked MessageFault → Bool → List Entry → List ℕ
    → List Entry → Type 0
Answers x (Ok (ask.Request request)) close old text new =
    (reply : Reply) × IsTrueReply x old request reply new × (text ≡ reply_text reply close)
Answers x (Ok ask.Health) close old text new =
    (found : Result Health Refusal) × StartsWith new old × IsHealthText found close text
Answers x (Err fault) close old text new = text ≡ message_fault_text fault close

-- the text is the response to the message that the bytes begin with, and the rest follows it
pub record Responds (x : Examination) (token : Option (List ℕ)) (old : List Entry)
    (bytes text rest : List ℕ) (new : List Entry) : Type 0 where
  pub message : Message
  pub reads : IsMessage bytes message rest
  pub asked : Result Asked MessageFault
  pub asks : Asks token message asked
  pub answers : Answers x asked message.close old text new

-- the responses to the first messages that come, in order, each right for a history that begins
-- with that of the one before
pub data Converses (x : Examination) (token : Option (List ℕ)) (start : List Entry)
    (bytes : List ℕ) : List ℕ → List ℕ → List Entry → Type 0 where
  begun : Converses x token start bytes [] bytes start
  one_more : (texts rest text left : List ℕ) (old new later : List Entry)
      → Converses x token start bytes texts rest old → Responds x token old rest text left new
      → StartsWith later new → Converses x token start bytes (texts ++ text) left later

-- what may have been written when the link is cut off, at any byte: such responses, and a beginning
-- of the next one, or of the text of a fault
pub record MayBeWritten (x : Examination) (token : Option (List ℕ)) (start : List Entry)
    (bytes text : List ℕ) : Type 0 where
  pub texts : List ℕ
  pub rest : List ℕ
  pub last : List ℕ
  pub old : List Entry
  pub converses : Converses x token start bytes texts rest old
  pub cut_off : (last ≡ []) ⊎ (((whole : List ℕ) × (left : List ℕ) × (new : List Entry)
      × Begins last whole × Responds x token old rest whole left new)
      ⊎ ((fault : WireFault) × IsFault rest fault × Begins last (wire_fault_text fault)))
  pub whole : text ≡ texts ++ last

-- What a connection gets.
use Rattle.std.specs.Prelude.{◌≡◌, ℕ, ◌⊎◌, Bool, true, false, List, [], ◌++◌, Option, Result, Ok, Err}
use Rattle.history_model.specs.declared.refusal.Refusal.{Refusal}
use Rattle.history_model.specs.declared.request.Request.{Request}
use Rattle.history_model.specs.declared.request.Reply.{Reply}
use Rattle.exam_handler.specs.declared.health.Health.{Health}
use Rattle.wire_http.specs.declared.message.Message.{Message}
use Rattle.wire_http.specs.declared.message.WireFault.{WireFault}
use Rattle.wire_http.specs.Messages.{IsMessage, IsFault}
use Rattle.exam_http.specs.declared.asked.Asked.{Asked}
use Rattle.exam_http.specs.declared.asked.Asked.TheVariants as ask
use Rattle.exam_http.specs.declared.ended.Ended.{Ended}
use Rattle.exam_http.specs.declared.ended.Ended.TheVariants.{Done, BadInput, Link, Memory}
use Rattle.exam_http.specs.declared.ended.AfterMessage.{AfterMessage}
use Rattle.exam_http.specs.declared.ended.AfterMessage.TheVariants.{Answered, Over}
use Rattle.exam_http.specs.declared.message_fault.MessageFault.{MessageFault}
use Rattle.exam_http.specs.Asks.{Asks}
use Rattle.exam_http.specs.Replies.{reply_text, IsHealthText, message_fault_text, wire_fault_text}

-- the text is a beginning of the whole
abbrev pub Begins : List ℕ → List ℕ → Type 0
Begins text whole = (rest : List ℕ) × (whole ≡ text ++ rest)

-- what became of a fault
abbrev pub Refuses : WireFault → List ℕ → AfterMessage → Type 0
Refuses fault text Answered = ⊥
Refuses fault text (Over Done) = ⊥
Refuses fault text (Over (BadInput found)) = (found ≡ fault) × (text ≡ wire_fault_text fault)
Refuses fault text (Over Link) = Begins text (wire_fault_text fault)
Refuses fault text (Over Memory) = text ≡ []

-- `token` is what messages have to bear, if there is one. `does old request reply new` is what a
-- request does to the handler, `probes old found new` what a look at the health does, and
-- `idles old new` what idle time does
module _ {H : Type 0} (token : Option (List ℕ)) (does : H → Request → Reply → H → Type 0)
    (probes : H → Result Health Refusal → H → Type 0) where
  -- what is asked is done, and the text is the response of its reply; a message that asks nothing
  -- changes nothing
  abbrev pub Gets : Result Asked MessageFault → Bool → H → List ℕ → H → Type 0
  Gets (Ok (ask.Request request)) close old text new =
      (reply : Reply) × does old request reply new × (text ≡ reply_text reply close)
  Gets (Ok ask.Health) close old text new =
      (found : Result Health Refusal) × probes old found new × IsHealthText found close text
  Gets (Err fault) close old text new = (new ≡ old) × (text ≡ message_fault_text fault close)

  -- the text is the response to a message
  pub record IsResponse (old : H) (m : Message) (text : List ℕ) (new : H) : Type 0 where
    pub asked : Result Asked MessageFault
    pub asks : Asks token m asked
    pub gets : Gets asked m.close old text new

  -- the text is a beginning of the response to the message that the bytes begin with, whose time
  -- wasn't idle yet
  pub record IsBegun (old : H) (bytes text : List ℕ) (new : H) : Type 0 where
    pub message : Message
    pub left : List ℕ
    pub reads : IsMessage bytes message left
    pub whole : List ℕ
    pub response : IsResponse old message whole new
    pub begins : Begins text whole

  -- no response to the message or the fault that the bytes begin with is written whole: nothing is
  -- done and nothing written; or the message is answered; or the bytes have a fault
  abbrev pub IsCutOff : H → List ℕ → List ℕ → H → Type 0
  IsCutOff old bytes text new =
      ((new ≡ old) × (text ≡ []))
      ⊎ (IsBegun old bytes text new
      ⊎ ((new ≡ old) × (fault : WireFault) × IsFault bytes fault
      × Begins text (wire_fault_text fault)))

  -- nothing is done and nothing written, or the text is a beginning of the response to a message
  abbrev pub IsPartOfResponse : H → Message → List ℕ → H → Type 0
  IsPartOfResponse old m text new =
      ((new ≡ old) × (text ≡ [])) ⊎ ((whole : List ℕ) × Begins text whole
      × IsResponse old m whole new)

  -- after what was written, whatever may be written of the response to a message is allowed
  abbrev pub AllowsResponse : (List ℕ → Type 0) → H → Message → List ℕ → Type 0
  AllowsResponse allowed old m written =
      (text : List ℕ) (new : H) → IsPartOfResponse old m text new → allowed (written ++ text)

  -- after what was written, whatever may be written of the response to the message or the fault
  -- that the bytes begin with is allowed
  abbrev pub AllowsNext : (List ℕ → Type 0) → H → List ℕ → List ℕ → Type 0
  AllowsNext allowed old bytes written =
      (text : List ℕ) (new : H) → IsCutOff old bytes text new → allowed (written ++ text)

  module _ (idles : H → H → Type 0) where
    -- the text is the response to a message, and idle time followed it
    pub record IsAnswer (old : H) (m : Message) (text : List ℕ) (new : H) : Type 0 where
      pub answered : H
      pub response : IsResponse old m text answered
      pub idle : idles answered new

    -- the same of the message that the bytes begin with
    pub record IsAnswered (close : Bool) (old : H) (bytes text left : List ℕ)
        (new : H) : Type 0 where
      pub message : Message
      pub reads : IsMessage bytes message left
      pub closes : message.close ≡ close
      pub answer : IsAnswer old message text new

    -- the responses to the messages that the bytes begin with, none of which asks to close, and
    -- what is left after them
    pub data Serves (start : H) (bytes : List ℕ) : List ℕ → List ℕ → H → Type 0 where
      begun : Serves start bytes [] bytes start
      one_more : (texts rest text left : List ℕ) (old new : H) → Serves start bytes texts rest old
          → IsAnswered false old rest text left new → Serves start bytes (texts ++ text) left new

    -- how a connection ends, and its last text
    abbrev pub Ends : H → List ℕ → List ℕ → H → Ended → Type 0
    Ends old bytes text new Done =
        ((bytes ≡ []) × (text ≡ []) × (new ≡ old)) ⊎ ((left : List ℕ)
        × IsAnswered true old bytes text left new)
    Ends old bytes text new (BadInput fault) =
        IsFault bytes fault × (text ≡ wire_fault_text fault) × (new ≡ old)
    Ends old bytes text new Link = IsCutOff old bytes text new
    Ends old bytes text new Memory = (text ≡ []) × IsCutOff old bytes text new

    -- a whole connection: some messages that were answered, and its end
    pub record IsServed (start : H) (bytes text : List ℕ) (final : H) (ended : Ended) : Type 0 where
      pub state : H
      pub rest : List ℕ
      pub texts : List ℕ
      pub last : List ℕ
      pub serves : Serves start bytes texts rest state
      pub ends : Ends state rest last final ended
      pub whole : text ≡ texts ++ last

    -- after what was written, whatever a connection that its link cuts off at any byte may have
    -- had written is allowed: the responses to some messages, in order, and then a beginning of the
    -- next response, or of a fault's
    abbrev pub AllowsServed : (List ℕ → Type 0) → H → List ℕ → List ℕ → Type 0
    AllowsServed allowed start bytes written = (text : List ℕ) (final : H)
        → IsServed start bytes text final Link → allowed (written ++ text)

    -- ---- one message of the loop

    -- what became of the message that the bytes begin with
    abbrev pub IsAfter : H → List ℕ → List ℕ → List ℕ → H → AfterMessage → Type 0
    IsAfter old bytes text left new Answered = IsAnswered false old bytes text left new
    IsAfter old bytes text left new (Over ended) = Ends old bytes text new ended

    -- what became of a message
    abbrev pub Becomes : H → Message → List ℕ → H → AfterMessage → Type 0
    Becomes old m text new Answered = (m.close ≡ false) × IsAnswer old m text new
    Becomes old m text new (Over Done) = (m.close ≡ true) × IsAnswer old m text new
    Becomes old m text new (Over (BadInput fault)) = ⊥
    Becomes old m text new (Over Link) = IsPartOfResponse old m text new
    Becomes old m text new (Over Memory) = (text ≡ []) × IsPartOfResponse old m text new

-- `does`, `probes` and `idles` are those of a handler, as above
module _ {H : Type 0} (does : H → Request → Reply → H → Type 0)
    (probes : H → Result Health Refusal → H → Type 0) (idles : H → H → Type 0) where
  -- requests that were done, looks at the health and idle times that passed, one after another,
  -- lead from a handler to another. It is what is known of a handler where the link does not tell
  -- its bytes
  pub data LeadsTo (start : H) : H → Type 0 where
    unchanged : LeadsTo start start
    then_asked : (request : Request) (reply : Reply) (old new : H) → LeadsTo start old
        → does old request reply new
        → LeadsTo start new
    then_probed : (found : Result Health Refusal) (old new : H) → LeadsTo start old
        → probes old found new
        → LeadsTo start new
    then_idle : (old new : H) → LeadsTo start old → idles old new → LeadsTo start new

-- What is after one message, and the loop over messages.
use Rattle.std.proofs.Common.{◌≡◌, ℕ, ◌+◌, ◌≤◌, ◌⊎◌, Bool, List, [], ◌++◌, Option, length, take, drop, arith, refl, sym, ap, subst, ◌∙◌, inl, inr, append_assoc}
use Rattle.std.specs.Prelude.{Result, Ok, Err, OnErr}
use Rattle.std.proofs.Math.Seq.{take-append-add}
use Rattle.std.proofs.lemmas.List.{take-append-drop, length-take-le, take_all}
use Rattle.exam_edge.specs.Allowing.{MayWrite}
use Rattle.exam_handler.specs.declared.health.Health.{Health}
use Rattle.history_model.specs.declared.refusal.Refusal.{Refusal}
use Rattle.history_model.specs.declared.request.Request.{Request}
use Rattle.history_model.specs.declared.request.Reply.{Reply}
use Rattle.wire_http.specs.declared.message.Message.{Message}
use Rattle.wire_http.specs.declared.message.WireFault.{WireFault}
use Rattle.wire_http.specs.Messages.{IsMessage, IsFault, IsFree}
use Rattle.exam_http.specs.declared.ended.Ended.TheVariants.{Done, BadInput, Link, Memory}
use Rattle.exam_http.specs.declared.ended.AfterMessage.{AfterMessage}
use Rattle.exam_http.specs.declared.ended.AfterMessage.TheVariants.{Answered, Over}
use Rattle.history_model.specs.declared.request.Reply.TheVariants.{Refused}
use Rattle.exam_http.specs.Replies.{reply_text, health_text, IsHealthText, wire_fault_text}
use Rattle.exam_http.specs.declared.asked.Asked.{Asked}
use Rattle.exam_http.specs.declared.asked.Asked.TheVariants as ask
use Rattle.exam_http.specs.declared.message_fault.MessageFault.{MessageFault}
use Rattle.exam_http.specs.Serving as serving
use Rattle.exam_http.specs.Serving.{AllowsNext, AllowsResponse, AllowsServed, Begins, Serves, IsCutOff, IsAfter, Becomes, IsPartOfResponse, Refuses, Gets, IsResponse, LeadsTo, unchanged, then_asked, then_probed}

pub on_err : {T E : Type 0} (r : Result T E) (P : Type 0) → P → OnErr r P
on_err (Ok x) P p = tt
on_err (Err e) P p = p

-- a look at the health has a response
pub some_text : (found : Result Health Refusal) (close : Bool) → (text : List ℕ) × IsHealthText found close text
some_text (Ok h) close = (health_text 0 h close, (0, refl))
some_text (Err why) close = (reply_text (Refused why) close, refl)

-- one piece more of a text
pub piece_more : (text : List ℕ) (d k : ℕ) → d ≤ length text → take d text ++ take k (drop d text) ≡ take (d + k) text
piece_more text d k le =
    sym (take-append-add (take d text) (drop d text) k)
    ∙ ap (λ (x : List ℕ). take (length (take d text) + k) x) (take-append-drop d text)
    ∙ ap (λ n. take (n + k) text) (length-take-le d text le)

-- what a piece adds to what was written of a text
pub written_more : (first now text piece : List ℕ) (d k : ℕ) → now ≡ first ++ take d text → piece ≡ drop d text → d ≤ length text
    → now ++ take k piece ≡ first ++ take (d + k) text
written_more first now text piece d k is back le =
    ap (λ (x : List ℕ). x ++ take k piece) is ∙ append_assoc first (take d text) (take k piece)
    ∙ ap (λ (x : List ℕ). first ++ (take d text ++ take k x)) back
    ∙ ap (λ (x : List ℕ). first ++ x) (piece_more text d k le)

-- the first bytes of a text begin it
pub begins_by : (text : List ℕ) (k : ℕ) → Begins (take k text) text
begins_by text k = (drop k text, sym (take-append-drop k text))

module _ {H : Type 0} (does : H → Request → Reply → H → Type 0)
    (probes : H → Result Health Refusal → H → Type 0) (idles : H → H → Type 0) where
  pub nothing_leads : (start : H) → LeadsTo does probes idles start start
  nothing_leads start = unchanged

  pub leads_through : (start middle new : H) → LeadsTo does probes idles start middle → LeadsTo does probes idles middle new
      → LeadsTo does probes idles start new
  leads_through start middle _ before serving.unchanged = before
  leads_through start middle _ before (serving.then_asked request reply old new after asked) =
      then_asked request reply old new (leads_through start middle old before after) asked
  leads_through start middle _ before (serving.then_probed found old new after probed) =
      then_probed found old new (leads_through start middle old before after) probed
  leads_through start middle _ before (serving.then_idle old new after idle) =
      serving.then_idle old new (leads_through start middle old before after) idle

module _ {H : Type 0} (token : Option (List ℕ)) (does : H → Request → Reply → H → Type 0)
    (probes : H → Result Health Refusal → H → Type 0) (idles : H → H → Type 0) where
  pub refused_after : (bytes text left : List ℕ) (old : H) (fault : WireFault) (after : AfterMessage) → IsFault bytes fault
      → Refuses fault text after → IsAfter token does probes idles old bytes text left old after
  refused_after bytes text left old fault Answered f r = absurd r
  refused_after bytes text left old fault (Over Done) f r = absurd r
  refused_after bytes text left old fault (Over (BadInput found)) f r =
      (subst (λ (x : WireFault). IsFault bytes x) (sym r.0) f, r.1 ∙ ap wire_fault_text (sym r.0), refl)
  refused_after bytes text left old fault (Over Link) f r = inr (inr (refl, fault, f, r))
  refused_after bytes text left old fault (Over Memory) f r = (r, inl (refl, r))

  pub part_cut : (bytes text left : List ℕ) (old new : H) (m : Message) → IsMessage bytes m left
      → IsPartOfResponse token does probes old m text new → IsCutOff token does probes old bytes text new
  part_cut bytes text left old new m reads (inl x) = inl x
  part_cut bytes text left old new m reads (inr x) =
      inr (inl (record { message = m; left = left; reads = reads; whole = x.0; response = x.2; begins = x.1 }))

  pub answered_after : (bytes text left : List ℕ) (old new : H) (m : Message) (after : AfterMessage) → IsMessage bytes m left
      → Becomes token does probes idles old m text new after → IsAfter token does probes idles old bytes text left new after
  answered_after bytes text left old new m Answered reads b = record { message = m; reads = reads; closes = b.0; answer = b.1 }
  answered_after bytes text left old new m (Over Done) reads b =
      inr (left, record { message = m; reads = reads; closes = b.0; answer = b.1 })
  answered_after bytes text left old new m (Over (BadInput fault)) reads b = absurd b
  answered_after bytes text left old new m (Over Link) reads b = part_cut bytes text left old new m reads b
  answered_after bytes text left old new m (Over Memory) reads b = (b.0, part_cut bytes text left old new m reads b.1)

  -- what a message asked leads to the handler after it
  gets_leads : (asked : Result Asked MessageFault) (close : Bool) (old : H) (text : List ℕ) (new : H)
      → Gets token does probes asked close old text new → LeadsTo does probes idles old new
  gets_leads (Ok (ask.Request request)) close old text new g = then_asked request g.0 old new unchanged g.1
  gets_leads (Ok ask.Health) close old text new g = then_probed g.0 old new unchanged g.1
  gets_leads (Err fault) close old text new g = subst (λ h. LeadsTo does probes idles old h) (sym g.0) unchanged

  pub response_leads : (old : H) (m : Message) (text : List ℕ) (new : H) → IsResponse token does probes old m text new
      → LeadsTo does probes idles old new
  response_leads old m text new r = gets_leads r.asked m.close old text new r.gets

-- what was written by two calls
pub joined : (first middle last texts text : List ℕ) → middle ≡ first ++ texts → last ≡ middle ++ text
    → last ≡ first ++ (texts ++ text)
joined first middle last texts text a b = b ∙ ap (λ (x : List ℕ). x ++ text) a ∙ append_assoc first texts text

-- ---- what a link allows

-- a fault of no bytes has no response
nothing_of : (fault : WireFault) → IsFree fault → (k : ℕ) → take k (wire_fault_text fault) ≡ []
nothing_of fault (inl is) k = ap (λ (f : WireFault). take k (wire_fault_text f)) is ∙ take_all k [] (omega arith)
nothing_of fault (inr is) k = ap (λ (f : WireFault). take k (wire_fault_text f)) is ∙ take_all k [] (omega arith)

module _ {H : Type 0} (token : Option (List ℕ)) (does : H → Request → Reply → H → Type 0)
    (probes : H → Result Health Refusal → H → Type 0) (idles : H → H → Type 0) where
  -- of a whole response each beginning
  pub may_respond : (allowed : List ℕ → Type 0) (old : H) (m : Message) (written text : List ℕ) (new : H)
      → AllowsResponse token does probes allowed old m written → IsResponse token does probes old m text new
      → MayWrite allowed written text
  may_respond allowed old m written text new h r k = h (take k text) new (inr (text, begins_by text k, r))

  -- of the response to the message that was read
  pub may_answer : (allowed later : List ℕ → Type 0) (old : H) (bytes left was now : List ℕ) (m : Message)
      → AllowsNext token does probes allowed old bytes was → ((text : List ℕ) → allowed text → later text) → now ≡ was
      → IsMessage bytes m left → AllowsResponse token does probes later old m now
  may_answer allowed later old bytes left was now m h still same reads text new part =
      subst (λ (x : List ℕ). later (x ++ text)) (sym same)
      (still (was ++ text) (h text new (part_cut token does probes idles bytes text left old new m reads part)))

  -- of the response of the fault that was read
  pub may_refuse : (allowed later : List ℕ → Type 0) (old : H) (bytes was now : List ℕ) (fault : WireFault)
      → AllowsNext token does probes allowed old bytes was → ((text : List ℕ) → allowed text → later text) → now ≡ was
      → IsFree fault ⊎ IsFault bytes fault → MayWrite later now (wire_fault_text fault)
  may_refuse allowed later old bytes was now fault h still same (inl free) k =
      let text = take k (wire_fault_text fault) in
      subst (λ (x : List ℕ). later (x ++ text)) (sym same)
      (still (was ++ text) (h text old (inl (refl, nothing_of fault free k))))
  may_refuse allowed later old bytes was now fault h still same (inr is) k =
      let text = take k (wire_fault_text fault) in
      subst (λ (x : List ℕ). later (x ++ text)) (sym same)
      (still (was ++ text) (h text old (inr (inr (refl, fault, is, begins_by (wire_fault_text fault) k)))))

  -- of the message that follows those that were answered
  pub may_go_on : (allowed later : List ℕ → Type 0) (start old : H) (bytes texts rest was now : List ℕ)
      → AllowsServed token does probes idles allowed start bytes was → ((text : List ℕ) → allowed text → later text)
      → now ≡ was ++ texts → Serves token does probes idles start bytes texts rest old
      → AllowsNext token does probes later old rest now
  may_go_on allowed later start old bytes texts rest was now h still is serves text new cut =
      let more : now ++ text ≡ was ++ (texts ++ text) = ap (λ (x : List ℕ). x ++ text) is ∙ append_assoc was texts text in
      subst (λ (x : List ℕ). later x) (sym more)
      (still (was ++ (texts ++ text))
      (h (texts ++ text) new (record { state = old; rest = rest; texts = texts; last = text; serves = serves; ends = cut; whole = refl })))

-- A request from what it does first.
use Rattle.std.proofs.Common.{◌≡◌, ◌⊎◌, ℕ, Bool, true, false, List, Option, Some, Result, Ok, Err, IfOk, IfErr, refl, sym, ap, subst, inl, inr}
use Rattle.history_model.specs.declared.entry.Entry.{Entry}
use Rattle.history_model.specs.declared.place.Place.{Place}
use Rattle.history_model.specs.declared.place.Place.TheVariants.{Pending}
use Rattle.history_model.specs.declared.refusal.Refusal.{Refusal}
use Rattle.history_model.specs.declared.request.Request.{Request}
use Rattle.history_model.specs.declared.request.Request.TheVariants as request
use Rattle.history_model.specs.declared.request.Reply.{Reply}
use Rattle.history_model.specs.declared.request.Reply.TheVariants as reply
use Rattle.history_model.specs.Entries.{holder, is_started}
use Rattle.history_model.specs.Places.{place}
use Rattle.history_model.specs.Refusals.{refusal_of}
use Rattle.exam_office.specs.declared.begun.Begun.{Begun}
use Rattle.exam_office.specs.Asking.{IsDurable, Steps, IsBegunBy, IsAskedSurely, reply_of}
use Rattle.exam_office.specs.Calls.{FindsAnswer, FindsStart, FindsStartWithout, FindsClosing, IsStartFor, IsStartWithout, IsFreshlyBy}
use Rattle.exam_office.specs.Leading.{IsCall, IsBegunReply, IsPlaceOf, IsCountedReply, IsLead}
use Rattle.exam_office.specs.Marks.{history}
use Rattle.exam_office.specs.Running.{Running}
use Rattle.exam_office.proofs.Advancing.{settled_unless, stayed, stayed_along}
use Rattle.exam_office.proofs.Asked.{first_fails, first_led, led_and_served, durable_on, closed_so, look_leads, no_steps, refused_here, exposed, unexposed}
use Rattle.exam_office.proofs.Firsts.{DoneLeading, DoneClosing, held_is_started, answer_first, answer_steps, closing_first, closing_steps, start_first, start_steps, start_unstarted}
use Rattle.exam_office.proofs.FirstsWithList.{list_first, list_steps, list_unstarted}

-- the session that a booking has is started
pub booked_is_started : (booking : ℕ) (H : List Entry) (begun : Result Begun Refusal) → IfOk begun (λ b. holder H booking ≡ Some b.session) → IfOk begun (λ b. is_started H b.session ≡ true)
booked_is_started booking H (Ok b) held = held_is_started booking b.session H held
booked_is_started booking H (Err r) held = tt

-- the first entry of a request for a session lasts, and the session is at this place
pub record IsReady {D : Type 0} (old mid : Running D) (asked : Request) (s : ℕ) (at : Place) (fresh : Bool) : Type 0 where
  pub steps : Steps (IsBegunBy old.bank old.plan old.base (history old.marks) asked) old mid
  pub leading : DoneLeading old.bank old.plan (history old.marks) asked s fresh (history mid.marks)
  pub lasts : IsDurable old.bank old.plan mid
  pub stands : place mid.plan (history mid.marks) s ≡ Some at

-- a request is led to its session, or it is done
abbrev pub IsLedOrDone : {D : Type 0} → Running D → Running D → Request → Reply → Type 0
IsLedOrDone old mid asked (reply.At s at fresh) = IsReady old mid asked s at fresh ⊎ IsAskedSurely old asked (reply.At s at fresh) mid
IsLedOrDone old mid asked answer = IsAskedSurely old asked answer mid

module _ {D : Type 0} (old mid : Running D) (durable : IsDurable old.bank old.plan old) where
  start_led : (booking : ℕ) (begun : Result Begun Refusal) (answer : Reply) → IsCall (FindsStart old.bank old.plan booking) old mid begun → IfOk begun (λ b. holder (history mid.marks) booking ≡ Some b.session)
      → IfOk begun (λ b. IsFreshlyBy old mid (IsStartFor booking) b.fresh) → IsBegunReply mid.plan (history mid.marks) begun answer → IsLedOrDone old mid (request.Begin booking) answer
  start_led booking (Ok b) answer c held fresh is =
      let asked = request.Begin booking in
      let first = start_first booking old mid durable c.frame c.moments b.session held b.fresh fresh c.images c.call in
      let led = first_led asked (DoneLeading old.bank old.plan (history old.marks) asked b.session b.fresh) old mid first in
      subst (λ (r : Reply). IsLedOrDone old mid asked r) (sym is.2)
      (inl (record { steps = start_steps booking old mid durable c.frame c.moments c.same; leading = led.0; lasts = led.1; stands = is.1 }))
  start_led booking (Err q) answer c held fresh is =
      let asked = request.Begin booking in
      subst (λ (r : Reply). IsLedOrDone old mid asked r) (sym is)
      (first_fails asked old mid (λ G. Unit {0}) (Some q) q refl (start_unstarted booking old mid durable c.frame c.moments q c.call) (start_steps booking old mid durable c.frame c.moments c.same))

  list_led : (booking : ℕ) (items : List ℕ) (witness : Result (List ℕ) Refusal) (begun : Result Begun Refusal) (answer : Reply) → IsCall (FindsStartWithout old.bank old.plan booking items witness) old mid begun
      → IfOk begun (λ b. holder (history mid.marks) booking ≡ Some b.session) → IfOk begun (λ b. IsFreshlyBy old mid (IsStartWithout booking items witness) b.fresh) → IsBegunReply mid.plan (history mid.marks) begun answer
      → IsLedOrDone old mid (request.BeginWithout booking items) answer
  list_led booking items witness (Ok b) answer c held fresh is =
      let asked = request.BeginWithout booking items in
      let first = list_first booking items witness old mid durable c.frame c.moments b.session held b.fresh fresh c.images c.call in
      let led = first_led asked (DoneLeading old.bank old.plan (history old.marks) asked b.session b.fresh) old mid first in
      subst (λ (r : Reply). IsLedOrDone old mid asked r) (sym is.2)
      (inl (record { steps = list_steps booking items witness old mid durable c.frame c.moments c.same; leading = led.0; lasts = led.1; stands = is.1 }))
  list_led booking items witness (Err q) answer c held fresh is =
      let asked = request.BeginWithout booking items in
      subst (λ (r : Reply). IsLedOrDone old mid asked r) (sym is)
      (first_fails asked old mid (λ G. Unit {0}) (Some q) q refl (list_unstarted booking items witness old mid durable c.frame c.moments q c.call) (list_steps booking items witness old mid durable c.frame c.moments c.same))

  answer_led : (s step response : ℕ) (booking : Option ℕ) (found : Result Place Refusal) → IsCall (FindsAnswer old.bank old.plan s step response booking) old mid found → IsPlaceOf mid s found → IsLedOrDone old mid (request.Answer s step response booking) (reply_of s false found)
  answer_led s step response booking (Ok at) c stands =
      let asked = request.Answer s step response booking in
      let led = first_led asked (DoneLeading old.bank old.plan (history old.marks) asked s false) old mid (answer_first s step response booking old mid durable c.frame c.moments (Ok at) c.images c.call) in
      inl (record { steps = answer_steps s step response booking old mid durable c.frame c.moments c.same; leading = led.0; lasts = led.1; stands = stands })
  answer_led s step response booking (Err q) c stands =
      let asked = request.Answer s step response booking in
      first_fails asked old mid (DoneLeading old.bank old.plan (history old.marks) asked s false) (Some q) q refl (answer_first s step response booking old mid durable c.frame c.moments (Err q) c.images c.call)
      (answer_steps s step response booking old mid durable c.frame c.moments c.same)

  closing_led : (s : ℕ) (booking : Option ℕ) (found : Result Place Refusal) → IsCall (FindsClosing old.bank old.plan s booking) old mid found → IsPlaceOf mid s found → IsLedOrDone old mid (request.Close s booking) (reply_of s false found)
  closing_led s booking (Ok at) c stands =
      inr (closed_so s booking old mid at (closing_first s booking old mid durable c.frame c.moments (Ok at) c.images c.call) (closing_steps s booking old mid durable c.frame c.moments c.same) stands)
  closing_led s booking (Err q) c stands =
      first_fails (request.Close s booking) old mid (DoneClosing old.bank old.plan (history old.marks) s booking) (Some q) q refl (closing_first s booking old mid durable c.frame c.moments (Err q) c.images c.call)
      (closing_steps s booking old mid durable c.frame c.moments c.same)

-- a request that only looks
module _ {D : Type 0} (office : Running D) (durable : IsDurable office.bank office.plan office) where
  look_led : (s : ℕ) (found : Result Place Refusal) → IsPlaceOf office s found → IfErr found (λ r. refusal_of office.bank office.plan (history office.marks) (request.Look s) ≡ Some r)
      → IsLedOrDone office office (request.Look s) (reply_of s false found)
  look_led s (Ok at) stands refused =
      let led = look_leads office.bank office.plan (history office.marks) s at stands in
      inl (record { steps = no_steps office durable (request.Look s); leading = led; lasts = durable; stands = stands })
  look_led s (Err q) stands refused = refused_here office durable (request.Look s) q refused

  counted : (answer : Reply) → IsCountedReply office answer → IsLedOrDone office office request.Exposure answer
  counted (reply.Exposure exposure) is = exposed office durable exposure is
  counted (reply.Refused q) is = unexposed office durable q is
  counted (reply.At s at fresh) is = absurd is

-- each request
module _ {D : Type 0} (old mid : Running D) (durable : IsDurable old.bank old.plan old) where
  pub led_or_done : (asked : Request) (witness : Result (List ℕ) Refusal) (answer : Reply) → IsLead asked witness old mid answer → IsLedOrDone old mid asked answer
  led_or_done (request.Begin booking) witness answer l = start_led old mid durable booking l.begun answer l.call l.session l.fresh l.reply_is
  led_or_done (request.BeginWithout booking items) witness answer l = list_led old mid durable booking items witness l.begun answer l.call l.session l.fresh l.reply_is
  led_or_done (request.Answer s step response booking) witness answer l =
      subst (λ (r : Reply). IsLedOrDone old mid (request.Answer s step response booking) r) (sym l.reply_is) (answer_led old mid durable s step response booking l.found l.call l.at)
  led_or_done (request.Close s booking) witness answer l = subst (λ (r : Reply). IsLedOrDone old mid (request.Close s booking) r) (sym l.reply_is) (closing_led old mid durable s booking l.found l.call l.at)
  led_or_done (request.Look s) witness answer l =
      let look = l.1 in
      subst (λ (m : Running D). IsLedOrDone old m (request.Look s) answer) (sym l.0)
      (subst (λ (r : Reply). IsLedOrDone old old (request.Look s) r) (sym look.reply_is) (look_led old durable s look.found look.at look.refused))
  led_or_done request.Exposure witness answer l = subst (λ (m : Running D). IsLedOrDone old m request.Exposure answer) (sym l.0) (counted old durable answer l.1)

  -- a session that waits for an item was led to
  ready : (asked : Request) (s k : ℕ) (fresh : Bool) → IsLedOrDone old mid asked (reply.At s (Pending k) fresh) → IsReady old mid asked s (Pending k) fresh
  ready asked s k fresh (inl is) = is
  ready asked s k fresh (inr is) = absurd is.settled

  pub waits_so : (asked : Request) (witness : Result (List ℕ) Refusal) (answer : Reply) (s : ℕ) (at : Place) (fresh : Bool) (k : ℕ) → IsLead asked witness old mid answer → answer ≡ reply.At s at fresh → at ≡ Pending k → IsReady old mid asked s (Pending k) fresh
  waits_so asked witness answer s at fresh k l is waits =
      ready asked s k fresh
      (subst (λ (p : Place). IsLedOrDone old mid asked (reply.At s p fresh)) waits (subst (λ (r : Reply). IsLedOrDone old mid asked r) is (led_or_done asked witness answer l)))

  -- any other reply is that of the request
  settled_so : (asked : Request) (answer : Reply) → IsLedOrDone old mid asked answer → ((s k : ℕ) (fresh : Bool) → answer ≡ reply.At s (Pending k) fresh → ⊥) → IsAskedSurely old asked answer mid
  settled_so asked (reply.At s at fresh) (inl is) never =
      let here = durable_on old mid is.steps.same is.lasts in
      let settled = settled_unless at (λ k e. never s k fresh (ap (λ (p : Place). reply.At s p fresh) e)) in
      led_and_served asked old mid mid s fresh is.steps is.leading is.lasts (stayed_along s mid here) (Ok at) (stayed s mid at is.stands settled here) is.stands settled
  settled_so asked (reply.At s at fresh) (inr is) never = is
  settled_so asked (reply.Exposure exposure) is never = is
  settled_so asked (reply.Refused q) is never = is

  pub done_so : (asked : Request) (witness : Result (List ℕ) Refusal) (answer : Reply) → IsLead asked witness old mid answer → ((s k : ℕ) (fresh : Bool) → answer ≡ reply.At s (Pending k) fresh → ⊥) → IsAskedSurely old asked answer mid
  done_so asked witness answer l never = settled_so asked answer (led_or_done asked witness answer l) never

  pub placed_so : (asked : Request) (witness : Result (List ℕ) Refusal) (answer : Reply) (s : ℕ) (at : Place) (fresh : Bool) → IsLead asked witness old mid answer → answer ≡ reply.At s at fresh → ((k : ℕ) → at ≡ Pending k → ⊥)
      → IsAskedSurely old asked (reply.At s at fresh) mid
  placed_so asked witness answer s at fresh l is never =
      settled_so asked (reply.At s at fresh) (subst (λ (r : Reply). IsLedOrDone old mid asked r) is (led_or_done asked witness answer l)) (λ n k flag e. never k (cc))

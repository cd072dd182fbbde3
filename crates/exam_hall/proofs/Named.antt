-- The session of an answer or a closing that names a booking.
use Rattle.std.proofs.Common.{◌≡◌, ℕ, Bool, true, false, not, List, ◌++◌, Option, Some, None, refl, ap}
use Rattle.std.proofs.lemmas.Bool.{eqb-true}
use Rattle.bank_tables.specs.Tables.{Tables}
use Rattle.form_model.specs.Plan.{Plan}
use Rattle.history_model.specs.declared.entry.Entry.{Entry}
use Rattle.history_model.specs.declared.place.Place.{Place}
use Rattle.history_model.specs.declared.refusal.Refusal.{Refusal}
use Rattle.history_model.specs.declared.request.Request.TheVariants.{Answer, Close}
use Rattle.history_model.specs.Entries.{holder}
use Rattle.history_model.specs.Places.{place}
use Rattle.history_model.specs.Refusals.{recorded, is_session, is_of_another, unless_other, refusal_of_answer, refusal_of_closing, in_session, refusal_of}
use Rattle.history_model.proofs.Staying.{holder_stays}
use Rattle.exam_hall.specs.Parts.{IsOfNamed}

is_it : (s : ℕ) (o : Option ℕ) → is_session s o ≡ true → o ≡ Some s
is_it s None e = absurd (cc)
is_it s (Some other) e = ap Some (eqb-true other s e)

held_if : (t : Bool) → not t ≡ false → t ≡ true
held_if true e = refl
held_if false e = absurd (cc)

-- a test that finds no other booking finds that the booking has the session
named_there : (H : List Entry) (booking : Option ℕ) (s : ℕ) → is_of_another H s booking ≡ false → IsOfNamed H booking s
named_there H None s e = tt
named_there H (Some booking) s e = is_it s (holder H booking) (held_if (is_session s (holder H booking)) e)

no_other : (t : Bool) (why : Option Refusal) → unless_other t why ≡ None → t ≡ false
no_other true why e = absurd (cc)
no_other false why e = refl

named_in : (H : List Entry) (o : Option Place) (s : ℕ) (booking : Option ℕ) (why : Place → Option Refusal) → in_session H o (λ at. unless_other (is_of_another H s booking) (why at)) ≡ None → IsOfNamed H booking s
named_in H None s booking why e = absurd (cc)
named_in H (Some at) s booking why e = named_there H booking s (no_other (is_of_another H s booking) (why at) e)

-- a request that is not refused is of the booking that it names
pub named_answer : (b : Tables) (plan : Plan) (H : List Entry) (s step response : ℕ) (booking : Option ℕ) → refusal_of b plan H (Answer s step response booking) ≡ None → IsOfNamed H booking s
named_answer b plan H s step response booking e = named_in H (place plan H s) s booking (λ (at : Place). refusal_of_answer b step response at (recorded H s step)) e

pub named_closing : (b : Tables) (plan : Plan) (H : List Entry) (s : ℕ) (booking : Option ℕ) → refusal_of b plan H (Close s booking) ≡ None → IsOfNamed H booking s
named_closing b plan H s booking e = named_in H (place plan H s) s booking refusal_of_closing e

-- it stays so
pub named_later : (H G : List Entry) (booking : Option ℕ) (s : ℕ) → IsOfNamed H booking s → IsOfNamed (H ++ G) booking s
named_later H G None s h = tt
named_later H G (Some booking) s h = holder_stays H G booking s h

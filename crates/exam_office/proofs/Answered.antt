-- What an answer does to an office.
use Rattle.std.proofs.Common.{◌≡◌, ℕ, List, [], ◌∷◌, ◌++◌, Option, Some, None, Result, Ok, Err, IfErr, refl, sym, ◌∙◌, ap, subst}
use Rattle.bank_tables.specs.Tables.{Tables}
use Rattle.form_model.specs.Plan.{Plan}
use Rattle.history_model.specs.declared.entry.Entry.{Entry}
use Rattle.history_model.specs.declared.place.Place.{Place}
use Rattle.history_model.specs.Places.{place}
use Rattle.exam_office.specs.declared.mark.Mark.{Mark}
use Rattle.exam_office.specs.declared.mark.Mark.TheVariants.{Own}
use Rattle.history_model.specs.declared.refusal.Refusal.{Refusal}
use Rattle.history_model.specs.declared.request.Request.TheVariants.{Answer, Close, Look}
use Rattle.exam_office.specs.Marks.{history}
use Rattle.history_model.specs.Refusals.{recorded, is_of_another, unless_other, refusal_of, refusal_of_answer, refusal_of_closing, in_session}
use Rattle.exam_office.specs.Running.{Running}
use Rattle.exam_office.specs.Writing.{IsSameOffice}
use Rattle.exam_office.specs.Calls.{Finding, refused_with}
use Rattle.exam_office.proofs.Sessions.{stays_there}
use Rattle.exam_office.proofs.Marking.{history-own}

-- ---- what the tests found holds of the office as the call began: its bank and plan are the same
pub finds_there : {D : Type 0} (old mid : Running D) (same : IsSameOffice old mid) (F : Tables → Plan → List Entry → Finding → Type 0) (H : List Entry) (finding : Finding) → F mid.bank mid.plan H finding → F old.bank old.plan H finding
finds_there old mid same F H finding says = subst (λ (p : Plan). F old.bank p H finding) same.plan (subst (λ (b : Tables). F b mid.plan H finding) same.bank says)

-- ---- the place of the session then
pub stands_by : (H : List Entry) (o : Option Place) (refusal_where : Place → Option Refusal) → in_session H o refusal_where ≡ None → (at : Place) × (o ≡ Some at)
stands_by H (Some at) refusal_where e = (at, refl)
stands_by H None refusal_where e = absurd (cc)

pub answer_stands : (b : Tables) (plan : Plan) (H : List Entry) (s step response : ℕ) (booking : Option ℕ) → refusal_of b plan H (Answer s step response booking) ≡ None → (at : Place) × (place plan H s ≡ Some at)
answer_stands b plan H s step response booking e =
    stands_by H (place plan H s) (λ (at : Place). unless_other (is_of_another H s booking) (refusal_of_answer b step response at (recorded H s step))) e

pub closing_stands : (b : Tables) (plan : Plan) (H : List Entry) (s : ℕ) (booking : Option ℕ) → refusal_of b plan H (Close s booking) ≡ None → (at : Place) × (place plan H s ≡ Some at)
closing_stands b plan H s booking e = stands_by H (place plan H s) (λ (at : Place). unless_other (is_of_another H s booking) (refusal_of_closing at)) e

pub looked : (b : Tables) (plan : Plan) (H : List Entry) (s : ℕ) (at : Place) (result : Result Place Refusal) → place plan H s ≡ Some at → IfErr result (λ refusal. refusal_of b plan H (Look s) ≡ Some refusal) → None ≡ refused_with result
looked b plan H s at (Ok there) stands why = refl
looked b plan H s at (Err refusal) stands why =
    let e : in_session H (Some at) (λ (p : Place). None) ≡ Some refusal = ap (λ (o : Option Place). in_session H o (λ (p : Place). None)) (sym stands) ∙ why in
    absurd (cc)

pub stands_still : (plan : Plan) (H : List Entry) (e : Entry) (s : ℕ) (at : Place) → place plan H s ≡ Some at → (there : Place) × (place plan (H ++ e ∷ []) s ≡ Some there)
stands_still plan H e s at stands = by (place plan (H ++ e ∷ []) s) refl
  where
    by : (o : Option Place) → place plan (H ++ e ∷ []) s ≡ o → (there : Place) × (o ≡ Some there)
    by (Some there) is = (there, refl)
    by None is = absurd (stays_there plan H e s at stands is)

pub stands_written : (plan : Plan) (M N : List Mark) (e : Entry) (size s : ℕ) (at : Place) → place plan (history M) s ≡ Some at → N ≡ M ++ Own e size ∷ [] → (there : Place) × (place plan (history N) s ≡ Some there)
stands_written plan M N e size s at stands is =
    let still = stands_still plan (history M) e s at stands in
    (still.0, ap (λ (H : List Entry). place plan H s) (ap history is ∙ history-own M e size) ∙ still.1)

-- The seat that the entries make is that of the history; places by it.
use Rattle.std.proofs.Common.{◌≡◌, ℕ, ◌<◌, inl, inr, Bool, true, false, cond, ◌||◌, List, [], ◌∷◌, length, slice_get, Option, Some, None, refl, sym, ap, ◌∙◌, subst}
use Rattle.std.specs.Prelude.{nat_le}
use Rattle.std.proofs.lemmas.List.Sums.{fold-append}
use Rattle.std.proofs.lemmas.Bool.{cases_lt, le-leb}
use Rattle.std.proofs.Math.Bool.{true≢false}
use Rattle.bank_tables.specs.Tables.{Tables}
use Rattle.form_model.specs.Plan.{Plan}
use Rattle.serving_model.specs.declared.seat.Seat.{Seat}
use Rattle.history_model.specs.declared.entry.Entry.{Entry}
use Rattle.history_model.specs.declared.place.Place.{Place}
use Rattle.history_model.specs.declared.place.Place.TheVariants.{Waiting, Complete, Closed}
use Rattle.history_model.specs.Entries.{seat_of, sessions}
use Rattle.history_model.specs.Laws.{no_seat, seat_with, seat_place, step_place}
use Rattle.history_model.specs.Legality.{LegalRun, empty, more, GoesOn}
use Rattle.history_model.specs.Places.{place, is_over as place_is_over, is_finished}
use Rattle.history_model.proofs.Running.{the_seat_goes_on, sessions_are_numbered, place_is_of_seat}
use Rattle.history_model.proofs.Standing.{there}
use Rattle.headline_model.specs.Sessions.{seat_after, is_over}

pub seat_is : (b : Tables) (plan : Plan) (H : List Entry) (s : ℕ) → LegalRun b plan H → seat_of H s ≡ seat_after H s
seat_is b plan H s empty = refl
seat_is b plan H s (more before e run legal) =
    the_seat_goes_on b plan before e s run legal
    ∙ (ap (λ (seat : Seat). seat_with s seat e) (seat_is b plan before s run) ∙ sym (fold-append (seat_with s) no_seat before (e ∷ [])))

-- ---- the place of a seat
place_same : (p q : Place) → ◌≡◌ {A = Option Place} (Some p) (Some q) → p ≡ q
place_same p q e = cc

pub started : (b : Tables) (plan : Plan) (H : List Entry) (s : ℕ) (p : Place) → LegalRun b plan H → place plan H s ≡ Some p → s < sessions H
started b plan H s p run e = (sessions_are_numbered b plan H s run).0 (there plan H s p e)

pub place_of_seat : (b : Tables) (plan : Plan) (H : List Entry) (s : ℕ) (p : Place) → LegalRun b plan H → place plan H s ≡ Some p → seat_place plan (seat_after H s) ≡ p
place_of_seat b plan H s p run e =
    place_same _ _ (ap (λ (seat : Seat). Some (seat_place plan seat)) (sym (seat_is b plan H s run)) ∙ (sym (place_is_of_seat b plan H s run (there plan H s p e)) ∙ e))

step_by : (k : ℕ) (item : Option ℕ) (mark : Bool) → place_is_over (Some (step_place k item mark)) ≡ false
step_by k None mark = refl
step_by k (Some item) mark = refl

over_by : (closed full : Bool) (k : ℕ) (item : Option ℕ) (mark : Bool) → place_is_over (Some (cond closed Closed (cond full Complete (step_place k item mark)))) ≡ (closed || full)
over_by true full k item mark = refl
over_by false true k item mark = refl
over_by false false k item mark = step_by k item mark

pub finished_is : (b : Tables) (plan : Plan) (H : List Entry) (s : ℕ) → LegalRun b plan H → s < sessions H → is_finished plan H s ≡ is_over plan (seat_after H s)
finished_is b plan H s run w =
    ap (λ (p : Option Place). place_is_over p) (place_is_of_seat b plan H s run ((sessions_are_numbered b plan H s run).1 w))
    ∙ (over_by (seat_of H s).closed (nat_le plan.length (length (seat_of H s).responses)) (length (seat_of H s).responses) (slice_get (seat_of H s).shown (length (seat_of H s).responses)) (seat_of H s).proved
    ∙ ap (λ (seat : Seat). is_over plan seat) (seat_is b plan H s run))

below_of : (n m : ℕ) → nat_le n m ≡ false → m < n
below_of n m e = elim (cases_lt m n) [ inl below ↦ below | inr not_below ↦ absurd (true≢false (sym (le-leb n m not_below) ∙ e)) ]

-- ---- a seat whose item waits for its answer
pub record Waits (closed : Bool) (n k item : ℕ) (shown : Option ℕ) : Type 0 where
  pub not_closed : closed ≡ false
  pub number : k ≡ n
  pub is : shown ≡ Some item

step_waits : (n k item : ℕ) (shown : Option ℕ) (mark proved : Bool) → step_place n shown mark ≡ Waiting k item proved → Waits false n k item shown
step_waits n k item None mark proved e = absurd (cc)
step_waits n k item (Some x) mark proved e = record { not_closed = refl; number = cc; is = cc }

pub waits : (closed full : Bool) (n k item : ℕ) (shown : Option ℕ) (mark proved : Bool) → cond closed Closed (cond full Complete (step_place n shown mark)) ≡ Waiting k item proved → Waits closed n k item shown
waits true full n k item shown mark proved e = absurd (cc)
waits false true n k item shown mark proved e = absurd (cc)
waits false false n k item shown mark proved e = step_waits n k item shown mark proved e

-- ---- a seat that goes on
pub goes : (closed full : Bool) (n : ℕ) (shown : Option ℕ) (mark : Bool) (p : Place) → cond closed Closed (cond full Complete (step_place n shown mark)) ≡ p → GoesOn p → (closed ≡ false) × (full ≡ false)
goes true full n shown mark p e g = absurd (subst (λ (q : Place). GoesOn q) (sym e) g)
goes false true n shown mark p e g = absurd (subst (λ (q : Place). GoesOn q) (sym e) g)
goes false false n shown mark p e g = (refl, refl)

pub not_full : (n m : ℕ) → nat_le n m ≡ false → m < n
not_full = below_of

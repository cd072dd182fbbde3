-- Where a session was, step by step.
use Rattle.std.proofs.Common.{◌≡◌, ℕ, ◌+◌, ◌<◌, Bool, true, false, ◌&&◌, ◌||◌, ◌==◌, [], length, get_or, slice_get, take, Some, refl, sym, ap, ◌∙◌, subst, add-one, arith}
use Rattle.std.proofs.lemmas.Option.{get_or_from_slice_get}
use Rattle.std.specs.Prelude.{slice_index_or}
use Rattle.bank_tables.specs.Items.{Set, has}
use Rattle.bank_tables.specs.Sums.{any_below}
use Rattle.bank_tables.specs.Tables.{Tables}
use Rattle.serving_model.specs.declared.seat.Seat.{Seat}
use Rattle.form_model.specs.Plan.{Plan, band_of}
use Rattle.form_model.specs.Ability.{IsPosteriorMode}
use Rattle.serving_model.specs.Seats.{answers, band_at, first_band}
use Rattle.form_model.proofs.SomeMode.{mode_is_mode_of}
use Rattle.exam_session.specs.declared.bands.BandVisits.{BandVisits}
use Rattle.exam_session.specs.Visits.{BeginsIn, NotesVisit, AreVisits}

-- a step more
pub any_more : (n : ℕ) (p : Set) → any_below (n + 1) p ≡ (any_below n p || p n)
any_more n p = rw add-one refl

-- the band of a posterior mode is that of the estimate
pub band_is : (b : Tables) (plan : Plan) (seat : Seat) (step theta band : ℕ) → 0 < b.grid → IsPosteriorMode b plan.prior (take step (answers seat)) theta → band ≡ band_of plan theta → band ≡ band_at b plan seat step
band_is b plan seat step theta band points mode is = is ∙ ap (λ (g : ℕ). band_of plan g) ((mode_is_mode_of b plan.prior (take step (answers seat)) theta points).0 mode)

pub first_is : (b : Tables) (plan : Plan) (theta band : ℕ) → 0 < b.grid → IsPosteriorMode b plan.prior [] theta → band ≡ band_of plan theta → band ≡ first_band b plan
first_is b plan theta band points mode is = is ∙ ap (λ (g : ℕ). band_of plan g) ((mode_is_mode_of b plan.prior [] theta points).0 mode)

pub swapped_both : (x : Bool) (k band i item : ℕ) → (((k == band) && (i == item)) || x) ≡ (x || ((item == i) && (band == k)))
swapped_both x k band i item = grind arith

pub swapped_or : (f x : Bool) (k band : ℕ) → ((k == band) || (f || x)) ≡ (f || (x || (band == k)))
swapped_or f x k band = grind arith

-- ---- where a session was, in the items shown so far
pub record VisitedSoFar (b : Tables) (plan : Plan) (seat : Seat) (n : ℕ) (found : BandVisits) : Type 0 where
  pub shown : (k i : ℕ) → k < 8 → has (get_or found.shown k []) i ≡ any_below n (λ step. (slice_index_or seat.shown step 0 == i) && (band_at b plan seat step == k))
  pub there : (k : ℕ) → k < 8 → get_or found.there k false ≡ ((first_band b plan == k) || any_below n (λ step. band_at b plan seat step == k))

pub begins : (b : Tables) (plan : Plan) (seat : Seat) (found : BandVisits) (band : ℕ) → band ≡ first_band b plan → BeginsIn found band → VisitedSoFar b plan seat 0 found
begins b plan seat found band first is = record {
  shown = is.shown;
  there = λ k lt. is.there k lt ∙ (ap (λ (n : ℕ). n == k) first ∙ or_false (first_band b plan == k));
}
  where
    or_false : (t : Bool) → t ≡ (t || false)
    or_false true = refl
    or_false false = refl

pub step_noted : (b : Tables) (plan : Plan) (seat : Seat) (n band item : ℕ) (old new : BandVisits) → band ≡ band_at b plan seat n → slice_get seat.shown n ≡ Some item → NotesVisit old new band item → VisitedSoFar b plan seat n old → VisitedSoFar b plan seat (n + 1) new
step_noted b plan seat n band item old new band_so there_so notes so_far = record { shown = shown; there = there }
  where
    item_is : item ≡ slice_index_or seat.shown n 0
    item_is = sym (get_or_from_slice_get seat.shown n item 0 there_so)

    shown : (k i : ℕ) → k < 8 → has (get_or new.shown k []) i ≡ any_below (n + 1) (λ step. (slice_index_or seat.shown step 0 == i) && (band_at b plan seat step == k))
    shown k i lt =
        let before : Bool = any_below n (λ step. (slice_index_or seat.shown step 0 == i) && (band_at b plan seat step == k)) in
        notes.shown k i lt
        ∙ (ap (λ (x : Bool). ((k == band) && (i == item)) || x) (so_far.shown k i lt)
        ∙ (swapped_both before k band i item
        ∙ (ap (λ (x : ℕ). before || ((x == i) && (band == k))) item_is
        ∙ (ap (λ (x : ℕ). before || ((slice_index_or seat.shown n 0 == i) && (x == k))) band_so
        ∙ sym (any_more n (λ step. (slice_index_or seat.shown step 0 == i) && (band_at b plan seat step == k)))))))

    there : (k : ℕ) → k < 8 → get_or new.there k false ≡ ((first_band b plan == k) || any_below (n + 1) (λ step. band_at b plan seat step == k))
    there k lt =
        let before : Bool = any_below n (λ step. band_at b plan seat step == k) in
        notes.there k lt
        ∙ (ap (λ (x : Bool). (k == band) || x) (so_far.there k lt)
        ∙ (swapped_or (first_band b plan == k) before k band
        ∙ (ap (λ (x : ℕ). (first_band b plan == k) || (before || (x == k))) band_so
        ∙ sym (ap (λ (x : Bool). (first_band b plan == k) || x) (any_more n (λ step. band_at b plan seat step == k))))))

pub all_visited : (b : Tables) (plan : Plan) (seat : Seat) (n : ℕ) (found : BandVisits) → n ≡ length seat.shown → VisitedSoFar b plan seat n found → AreVisits b plan seat found
all_visited b plan seat n found all so_far = subst (λ (m : ℕ). VisitedSoFar b plan seat m found → AreVisits b plan seat found) (sym all) (λ so. record { shown = λ band i. so.shown band i; there = so.there }) so_far

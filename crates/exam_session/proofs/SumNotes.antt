-- The sums that the seats of a book keep.
use Rattle.std.proofs.Common.{◌≡◌, ℕ, ◌≤◌, inl, inr, arith, Bool, true, false, ◌==◌, List, [], ◌∷◌, ◌++◌, length, set, slice_get, Option, Some, None, refl, sym, ap, ◌∙◌, subst}
use Rattle.std.specs.Prelude.{IfSome, IsSome}
use Rattle.std.specs.List.{zip}
use Rattle.std.proofs.Math.Bool.{true≢false}
use Rattle.std.proofs.lemmas.Bool.{eqb-true, eq-eqb}
use Rattle.bank_tables.specs.Tables.{Tables}
use Rattle.serving_model.specs.declared.seat.Seat.{Seat}
use Rattle.form_model.specs.Ability.{AnswerList}
use Rattle.form_model.specs.Plan.{Plan}
use Rattle.serving_model.specs.Seats.{answers}
use Rattle.ability_grid.specs.Running.{Running, IsSumsOf}
use Rattle.history_model.specs.declared.entry.Bands.{Bands}
use Rattle.history_model.specs.declared.entry.Without.{Without}
use Rattle.exam_session.specs.declared.kept_seat.KeptSeat.{KeptSeat}
use Rattle.exam_session.specs.KeptSeats.{seat_kept, IsSpare, HasSums, HaveSums, StartsSeat}
use Rattle.exam_session.proofs.Lists.{pushed}
use Rattle.exam_session.proofs.SeatNotes.{same_place, other_place}

-- an answer more
pub answer_more : (shown responses : List ℕ) (item response : ℕ) → slice_get shown (length responses) ≡ Some item → zip shown (responses ++ response ∷ []) ≡ zip shown responses ++ (item, response) ∷ []
answer_more [] [] item response e = absurd (cc)
answer_more [] (y ∷ ys) item response e = absurd (cc)
answer_more (x ∷ []) [] item response e = let same : x ≡ item = cc in ap (λ (n : ℕ). let one : ℕ × ℕ = (n, response) in let list : List (ℕ × ℕ) = one ∷ [] in list) same
answer_more (x ∷ z ∷ xs) [] item response e = let same : x ≡ item = cc in ap (λ (n : ℕ). let one : ℕ × ℕ = (n, response) in let list : List (ℕ × ℕ) = one ∷ [] in list) same
answer_more (x ∷ xs) (y ∷ ys) item response e = ap (λ (rest : List (ℕ × ℕ)). let one : ℕ × ℕ = (x, y) in one ∷ rest) (answer_more xs ys item response e)

-- an item more that waits
pub item_more : (shown responses : List ℕ) (item : ℕ) → length responses ≤ length shown → zip (shown ++ item ∷ []) responses ≡ zip shown responses
item_more [] [] item few = refl
item_more (x ∷ xs) [] item few = refl
item_more [] (y ∷ ys) item few = absurd (omega arith)
item_more (x ∷ xs) (y ∷ ys) item few = ap (λ (rest : List (ℕ × ℕ)). let one : ℕ × ℕ = (x, y) in one ∷ rest) (item_more xs ys item (omega arith))

-- ---- an entry of a session that goes on
pub sums_changed : (b : Tables) (plan : Plan) (seats : List KeptSeat) (s : ℕ) (kept after : KeptSeat) → slice_get seats s ≡ Some kept → (HasSums b plan kept → HasSums b plan after) → HaveSums b plan seats → HaveSums b plan (set seats s after)
sums_changed b plan seats s kept after there goes_on have k x at = by (s == k) refl
  where
    by : (t : Bool) → (s == k) ≡ t → HasSums b plan x
    by true f =
        let same : s ≡ k = eqb-true s k f in
        let this : x ≡ after = same_place seats s after x (ap (slice_get (set seats s after)) same ∙ at) in
        subst (HasSums b plan) (sym this) (goes_on (have s kept there))
    by false f = have k x (sym (other_place seats s k after (λ same. true≢false (sym (eq-eqb s k same) ∙ f))) ∙ at)

-- ---- a start
spare_sums : (b : Tables) (plan : Plan) (spare : KeptSeat) → b.grid ≡ length plan.prior → IsSpare plan spare → HasSums b plan spare
spare_sums b plan spare grid ready = subst (λ (list : AnswerList). IsSumsOf b plan.prior list spare.sums) (sym (ap (λ (x : Seat). answers x) ready.unused.empty)) (ready.sums b grid)

pub sums_started : (b : Tables) (plan : Plan) (seats new : List KeptSeat) (eligible : Bands) (without : Option Without) (spare : Option KeptSeat) → b.grid ≡ length plan.prior → IsSome spare → IfSome spare (IsSpare plan) → IfSome spare (StartsSeat seats eligible without new) → HaveSums b plan seats → HaveSums b plan new
sums_started b plan seats new eligible without None grid some ready starts_seat have = absurd (true≢false (sym some))
sums_started b plan seats new eligible without (Some spare) grid some ready start have = λ s k at. elim (pushed seats start.seat k s (ap (λ (xs : List KeptSeat). slice_get xs s) (sym start.is) ∙ at)) [
  | inl here ↦ have s k here
  | inr last ↦ subst (HasSums b plan) (sym last.1) first
]
  where
    same : answers (seat_kept start.seat) ≡ answers (seat_kept spare)
    same = ap (λ (x : Seat). answers x) start.starts

    first : HasSums b plan start.seat
    first =
        subst (λ (list : AnswerList). IsSumsOf b plan.prior list start.seat.sums) (sym same)
        (subst (λ (sums : Running). IsSumsOf b plan.prior (answers (seat_kept spare)) sums) (sym start.sums) (spare_sums b plan spare grid ready))

-- The responses that a book has recorded.
use Rattle.std.proofs.Common.{◌≡◌, ℕ, Bool, true, false, cond, List, slice_get, Option, Some, None, refl, ap}
use Rattle.bank_tables.specs.Tables.{Tables}
use Rattle.serving_model.specs.declared.seat.Seat.{Seat}
use Rattle.form_model.specs.Plan.{Plan}
use Rattle.history_model.specs.declared.entry.Entry.{Entry}
use Rattle.history_model.specs.Entries.{is_started, seat_of}
use Rattle.history_model.specs.Legality.{LegalRun}
use Rattle.history_model.specs.Refusals.{recorded}
use Rattle.history_model.proofs.Running.{seat_before_start}
use Rattle.exam_session.proofs.BookLaws.{seat_if_started, is_there}

not_started : (H : List Entry) (s : ℕ) → None ≡ seat_if_started H s → is_started H s ≡ false
not_started H s e = by (is_started H s) e
  where
    by : (t : Bool) → ◌≡◌ {A = Option Seat} None (cond t (Some (seat_of H s)) None) → t ≡ false
    by true same = absurd (cc)
    by false same = refl

-- a session that isn't started has no response
pub none_recorded : (b : Tables) (plan : Plan) (H : List Entry) (s step : ℕ) → LegalRun b plan H → None ≡ seat_if_started H s → recorded H s step ≡ None
none_recorded b plan H s step run e = ap (λ (seat : Seat). slice_get seat.responses step) (seat_before_start b plan H s run (not_started H s e))

-- the response of a seat is the recorded one
pub recorded_in : (H : List Entry) (s step : ℕ) (seat : Seat) → Some seat ≡ seat_if_started H s → slice_get seat.responses step ≡ recorded H s step
recorded_in H s step seat e = ap (λ (x : Seat). slice_get x.responses step) (is_there H s seat e).1

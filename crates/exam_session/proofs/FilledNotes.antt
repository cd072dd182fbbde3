-- The sets of the bands of a kept seat, and the seat that a start gives.
use Rattle.std.proofs.Common.{◌≡◌, ℕ, zero, suc, ◌≤◌, ◌<◌, inl, inr, Bool, false, List, [], length, take, get_or, Option, refl, sym, ◌∙◌, arith}
use Rattle.std.proofs.lemmas.Bool.{cases_lt}
use Rattle.std.proofs.lemmas.List.{get_or-take, get_or_past, get_or_default, length-take-le}
use Rattle.serving_model.specs.declared.seat.Seat.{Seat}
use Rattle.serving_model.specs.Seats.{eight}
use Rattle.history_model.specs.declared.entry.Bands.{Bands}
use Rattle.exam_records.specs.Sets.{no_items}
use Rattle.exam_records.specs.Shape.{AreEligible, AreSets}
use Rattle.exam_records.proofs.SetLaws.{words_again}
use Rattle.exam_session.specs.Flags.{flags_of}
use Rattle.exam_session.specs.KeptSeats.{filled}
use Rattle.exam_session.proofs.LiftLaws.{same_lists}

-- what eight things have at a band
pub eight_at : {A : Type 0} (f : ℕ → A) (k : ℕ) (d : A) → k < 8 → get_or (eight f) k d ≡ f k
eight_at f zero d lt = refl
eight_at f (suc zero) d lt = refl
eight_at f (suc (suc zero)) d lt = refl
eight_at f (suc (suc (suc zero))) d lt = refl
eight_at f (suc (suc (suc (suc zero)))) d lt = refl
eight_at f (suc (suc (suc (suc (suc zero))))) d lt = refl
eight_at f (suc (suc (suc (suc (suc (suc zero)))))) d lt = refl
eight_at f (suc (suc (suc (suc (suc (suc (suc zero))))))) d lt = refl
eight_at f (suc (suc (suc (suc (suc (suc (suc (suc k)))))))) d lt = absurd (omega arith)

-- the sets that count fill up to the eight of a start
pub filled_is : (eligible : Bands) → AreEligible eligible → AreSets eligible → filled (take eligible.count eligible.sets) ≡ eligible.sets
filled_is eligible are sets = same_lists (filled (take eligible.count eligible.sets)) eligible.sets (sym sets.eight) each
  where
    at : (k : ℕ) → k < 8 → get_or (take eligible.count eligible.sets) k no_items ≡ get_or eligible.sets k []
    at k lt = elim (cases_lt k eligible.count) [
      | inl here ↦
          let within : k < length eligible.sets = let eight = sets.eight in omega arith in
          get_or-take eligible.count eligible.sets k no_items here ∙ get_or_default eligible.sets k no_items [] within
      | inr past ↦
          let few = are.few in
          let long : eligible.count ≤ length eligible.sets = let eight = sets.eight in omega arith in
          let number = length-take-le eligible.count eligible.sets long in
          let beyond : length (take eligible.count eligible.sets) ≤ k = omega arith in
          get_or_past (take eligible.count eligible.sets) k no_items beyond
          ∙ sym (words_again (get_or eligible.sets k []) (λ _. false) (sets.each k lt) (λ i below. are.none_past k past i))
    ]

    each : (k : ℕ) → k < 8 → get_or (filled (take eligible.count eligible.sets)) k [] ≡ get_or eligible.sets k []
    each zero lt = at 0 lt
    each (suc zero) lt = at 1 lt
    each (suc (suc zero)) lt = at 2 lt
    each (suc (suc (suc zero))) lt = at 3 lt
    each (suc (suc (suc (suc zero)))) lt = at 4 lt
    each (suc (suc (suc (suc (suc zero))))) lt = at 5 lt
    each (suc (suc (suc (suc (suc (suc zero)))))) lt = at 6 lt
    each (suc (suc (suc (suc (suc (suc (suc zero))))))) lt = at 7 lt
    each (suc (suc (suc (suc (suc (suc (suc (suc k)))))))) lt = absurd (omega arith)

-- ---- the seat that a start gives, without a list and with one
pub starts_with : (shown responses : List ℕ) (aside : ℕ) (proved closed : Bool) (filled sets : List (List ℕ)) (list without form witness : Option (List ℕ)) → filled ≡ sets → list ≡ without → form ≡ witness
    → (let one : Seat = record { shown = shown; responses = responses; eligible = filled; aside = flags_of aside; without = list; form = form; proved = proved; closed = closed } in
    let other : Seat = record { shown = shown; responses = responses; eligible = sets; aside = flags_of aside; without = without; form = witness; proved = proved; closed = closed } in one ≡ other)
starts_with shown responses aside proved closed filled sets list without form witness e f g = rw (e, f, g) refl

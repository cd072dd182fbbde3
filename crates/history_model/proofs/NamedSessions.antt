-- What a request that names a booking is refused for, and what it shows of its session where it is
-- not.
use Rattle.std.proofs.Common.{◌≡◌, ℕ, suc, Bool, true, false, cond, not, ◌==◌, List, [], ◌∷◌, Contains, slice_get, filter_map, Option, Some, None, refl, ap, ◌∙◌, arith}
use Rattle.std.specs.List.{cons_option}
use Rattle.std.proofs.lemmas.Bool.{eqb-true}
use Rattle.history_model.specs.declared.entry.Bands.{Bands}
use Rattle.history_model.specs.declared.entry.Entry.{Entry}
use Rattle.history_model.specs.declared.entry.Entry.TheVariants.{Started, SetAside, Served, Answered, Closed}
use Rattle.history_model.specs.declared.entry.Without.{Without}
use Rattle.history_model.specs.declared.place.Place.{Place}
use Rattle.history_model.specs.declared.refusal.Refusal.{Refusal}
use Rattle.history_model.specs.Entries.{holder_of, holder}
use Rattle.history_model.specs.Laws.{NamedHasBooking}
use Rattle.history_model.specs.Places.{place}
use Rattle.history_model.specs.Refusals.{is_session, is_of_another, unless_other, in_session}

abbrev IsHeld : List Entry → ℕ → ℕ → Type 0
IsHeld H booking s = (eligible : Bands) × (without : Option Without) × Contains H (Started s booking eligible without)

later : (x : Entry) (H : List Entry) (booking s : ℕ) → IsHeld H booking s → IsHeld (x ∷ H) booking s
later x H booking s h = (let lt = h.2.1 in (h.0, h.1, (suc h.2.0, omega arith, h.2.2)))

held : (H : List Entry) (booking s : ℕ) → holder H booking ≡ Some s → IsHeld H booking s
held [] booking s e = absurd (cc)
held (SetAside session step band cause nodes ∷ H) booking s e = later (SetAside session step band cause nodes) H booking s (held H booking s e)
held (Served session step item form proved nodes ∷ H) booking s e = later (Served session step item form proved nodes) H booking s (held H booking s e)
held (Answered session step response ∷ H) booking s e = later (Answered session step response) H booking s (held H booking s e)
held (Closed session ∷ H) booking s e = later (Closed session) H booking s (held H booking s e)
held (Started session other eligible without ∷ H) booking s e = by (other == booking) refl (held H booking s) e
  where
    by : (t : Bool) → (other == booking) ≡ t → (slice_get (filter_map (holder_of booking) H) 0 ≡ Some s → IsHeld H booking s) → slice_get (cons_option (cond t (Some session) None) (filter_map (holder_of booking) H)) 0 ≡ Some s → IsHeld (Started session other eligible without ∷ H) booking s
    by true is ih f =
        let this : session ≡ s = cc in
        let same : other ≡ booking = eqb-true other booking is in
        (eligible, without, (0, omega arith, ap (λ n. Started n other eligible without) this ∙ ap (λ n. Started s n eligible without) same))
    by false is ih f = later (Started session other eligible without) H booking s (ih f)

is_it : (session : ℕ) (o : Option ℕ) → is_session session o ≡ true → o ≡ Some session
is_it session None e = absurd (cc)
is_it session (Some other) e = ap Some (eqb-true other session e)

of_its : (t : Bool) (why : Option Refusal) → unless_other (not t) why ≡ None → t ≡ true
of_its true why e = refl
of_its false why e = absurd (cc)

in_its : (H : List Entry) (at : Option Place) (session booking : ℕ) (why : Place → Option Refusal) → in_session H at (λ p. unless_other (is_of_another H session (Some booking)) (why p)) ≡ None → holder H booking ≡ Some session
in_its H None session booking why e = absurd (cc)
in_its H (Some at) session booking why e = is_it session (holder H booking) (of_its (is_session session (holder H booking)) (why at) e)

pub named_has_booking : NamedHasBooking
named_has_booking b plan H session booking =
    (λ step response e. held H booking session (in_its H (place plan H session) session booking _ e), λ e. held H booking session (in_its H (place plan H session) session booking _ e))

-- What a session's list of items gives: none of them is shown, served or counted, and there is a
-- form without them.
use Rattle.std.proofs.Common.{◌≡◌, ℕ, zero, suc, ◌⊎◌, inl, inr, Bool, true, false, cond, not, ◌&&◌, ◌==◌, List, [], ◌∷◌, ◌++◌, slice_get, Option, Some, None, refl, sym, ap, ◌∙◌, subst, nat_lt}
use Rattle.std.specs.List.{filter_map}
use Rattle.std.specs.Option.{option_map, option_map_or}
use Rattle.std.proofs.Math.Bool.{true≢false}
use Rattle.std.proofs.lemmas.Bool.{lt-ltb}
use Rattle.std.proofs.lemmas.List.Elements.{filter_map-append}
use Rattle.bank_tables.specs.Items.{Set, has}
use Rattle.bank_tables.specs.Sums.{any_below}
use Rattle.bank_tables.specs.Tables.{Tables, size}
use Rattle.form_model.specs.Plan.{Plan, band_of, bands_of}
use Rattle.form_model.specs.Problem.{Problem}
use Rattle.form_model.specs.Forms.{Form}
use Rattle.serving_model.specs.Seats.{is_shown, is_of_stimulus_left_behind, is_withheld, is_available_in, is_unavailable_in, visits, seat_problem}
use Rattle.form_model.proofs.SumLaws.{either, both, or_left, or_right}
use Rattle.history_model.specs.declared.entry.Entry.{Entry}
use Rattle.history_model.specs.declared.entry.Entry.TheVariants.{Started, SetAside, Served, Answered, Closed}
use Rattle.history_model.specs.declared.entry.Without.{Without}
use Rattle.history_model.specs.Entries.{without_of, list_of, seat_of}
use Rattle.history_model.specs.Counts.{opens_in}
use Rattle.history_model.specs.Legality.{Legal, empty, more}
use Rattle.history_model.specs.Lists.{IsLegalList}
use Rattle.history_model.specs.Laws.{ListHasForm, NoneShownOfList, NoneServedOfList, NoneOpenOfList, ListIsLegal, ListStays}
use Rattle.history_model.proofs.Running.{seat_is_seat, last_form_stays}

-- the items of the list are withheld in the seat
seat_without : (H : List Entry) (s : ℕ) (list : Without) → list_of H s ≡ Some list → (seat_of H s).without ≡ Some list.items
seat_without H s list e = ap (option_map (λ (list : Without). list.items)) e

withheld : (H : List Entry) (s i : ℕ) (list : Without) → list_of H s ≡ Some list → has list.items i ≡ true → is_withheld (seat_of H s) i ≡ true
withheld H s i list e h = ap (λ (o : Option (List ℕ)). option_map_or (λ words. has words i) o false) (seat_without H s list e) ∙ h

-- ---- a form
pub list_has_form : ListHasForm
list_has_form b plan H s theta list run e = by (seat_of H s).form refl
  where
    some_none : (o : Option (List ℕ)) (words : List ℕ) → o ≡ Some words → o ≡ None → ⊥
    some_none o words f g = cc

    by : (o : Option (List ℕ)) → (seat_of H s).form ≡ o → Rattle.history_model.specs.Laws.HasFormOnceAside b plan H s theta
    by (Some words) there = record { words = words; of_seat = there; is_form = last_form_stays b plan H s theta words run there }
    by None none = absurd (some_none (seat_of H s).without list.items (seat_without H s list e) ((seat_is_seat b plan H s run).list_form none))

-- ---- its items
pub none_shown_of_list : NoneShownOfList
none_shown_of_list b plan H s item list run e h = elim (either (is_shown (seat_of H s) item)) [
  | inl shown ↦ absurd (true≢false (sym (withheld H s item list e h) ∙ (seat_is_seat b plan H s run).not_withheld item shown))
  | inr not_shown ↦ not_shown
]

pub none_served_of_list : NoneServedOfList
none_served_of_list b plan H session step item form proved nodes i list run legal e h = elim (either (has form i)) [
  | inl held ↦
      let seat = seat_of H session in
      let theta = legal.is_problem.of_seat.theta in
      let is_form : Form (seat_problem b plan session seat theta) (has form) = subst (λ (P : Problem). Form P (has form)) legal.is_problem.of_seat.is legal.is_form in
      let in_bank : nat_lt i (size b) ≡ true = lt-ltb i (size b) (is_form.meets.right_length.in_bank i held) in
      let not_shown : not (is_shown seat i) ≡ true = ap not (none_shown_of_list b plan H session i list run e h) in
      let kept = or_right (is_of_stimulus_left_behind b seat i) _ (or_left (is_withheld seat i) (is_unavailable_in seat (band_of plan theta) i) (withheld H session i list e h)) in
      absurd (true≢false (sym held ∙ is_form.holds_no_barred i (both _ _ in_bank (both _ _ not_shown kept))))
  | inr not_held ↦ not_held
]

-- ---- its counts
none_below : (n : ℕ) (p : Set) → ((k : ℕ) → p k ≡ false) → any_below n p ≡ false
none_below zero p none = refl
none_below (suc n) p none = rw (none_below n p none, none n) refl

pub none_open_of_list : NoneOpenOfList
none_open_of_list b plan H s item band list e h = (here band, none_below (bands_of plan) (λ k. opens_in b plan k item (seat_of H s)) here)
  where
    closed : (t u : Bool) → (t && (u && not true)) ≡ false
    closed true true = refl
    closed true false = refl
    closed false u = refl

    here : (k : ℕ) → opens_in b plan k item (seat_of H s) ≡ false
    here k =
        ap (λ (t : Bool). visits b plan (seat_of H s) k && (is_available_in (seat_of H s) k item && not t)) (withheld H s item list e h)
        ∙ closed (visits b plan (seat_of H s) k) (is_available_in (seat_of H s) k item)

-- ---- along a run, and in a longer history
first_of : (xs ys : List Without) (list : Without) → slice_get (xs ++ ys) 0 ≡ Some list → (slice_get xs 0 ≡ Some list) ⊎ (slice_get ys 0 ≡ Some list)
first_of [] ys list e = inr e
first_of (x ∷ xs) ys list e = inl e

entry_list : (b : Tables) (plan : Plan) (H : List Entry) (entry : Entry) (s : ℕ) (list : Without) → Legal b plan H entry → slice_get (filter_map (without_of s) (entry ∷ [])) 0 ≡ Some list → IsLegalList b plan list
entry_list b plan H (Started session booking eligible None) s list legal e = by (session == s) e
  where
    by : (this : Bool) → slice_get (filter_map (λ (o : Option Without). o) (cond this None None ∷ [])) 0 ≡ Some list → IsLegalList b plan list
    by true f = absurd cc
    by false f = absurd cc
entry_list b plan H (Started session booking eligible (Some own)) s list legal e = by (session == s) e
  where
    by : (this : Bool) → slice_get (filter_map (λ (o : Option Without). o) (cond this (Some own) None ∷ [])) 0 ≡ Some list → IsLegalList b plan list
    by true f = let same : own ≡ list = cc in subst (λ (l : Without). IsLegalList b plan l) same legal.listed
    by false f = absurd cc
entry_list b plan H (SetAside session step band cause nodes) s list legal e = absurd cc
entry_list b plan H (Served session step item form proved nodes) s list legal e = absurd cc
entry_list b plan H (Answered session step response) s list legal e = absurd cc
entry_list b plan H (Closed session) s list legal e = absurd cc

pub list_is_legal : ListIsLegal
list_is_legal b plan H s list empty e = absurd cc
list_is_legal b plan H s list (more before entry run legal) e =
    elim (first_of (filter_map (without_of s) before) (filter_map (without_of s) (entry ∷ [])) list (ap (λ (xs : List Without). slice_get xs 0) (sym (filter_map-append (without_of s) before (entry ∷ []))) ∙ e)) [
      | inl old ↦ list_is_legal b plan before s list run old
      | inr new ↦ entry_list b plan before entry s list legal new
    ]

still_first : (xs ys : List Without) (list : Without) → slice_get xs 0 ≡ Some list → slice_get (xs ++ ys) 0 ≡ Some list
still_first [] ys list e = absurd cc
still_first (x ∷ xs) ys list e = e

pub list_stays : ListStays
list_stays H later s list e = ap (λ (xs : List Without). slice_get xs 0) (filter_map-append (without_of s) H later) ∙ still_first (filter_map (without_of s) H) (filter_map (without_of s) later) list e

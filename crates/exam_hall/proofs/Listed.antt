-- The list that a session was started with.
use Rattle.std.proofs.Common.{◌≡◌, ℕ, Bool, true, false, cond, ◌==◌, List, [], ◌∷◌, ◌++◌, slice_get, Option, Some, None, Result, refl, sym, ap, ◌∙◌, subst, ⊎_elim, arith}
use Rattle.std.specs.Prelude.{nat_eq}
use Rattle.std.specs.Cmp.Lexicographic.{pointwise}
use Rattle.std.specs.List.{filter_map}
use Rattle.std.specs.Option.{option_map}
use Rattle.std.proofs.lemmas.Bool.{eq-eqb, cases_Bool}
use Rattle.std.proofs.lemmas.Cmp.{nat_list_eq_equiv}
use Rattle.std.proofs.lemmas.List.Elements.{filter_map-append}
use Rattle.bank_tables.specs.Tables.{Tables}
use Rattle.form_model.specs.Plan.{Plan}
use Rattle.serving_model.specs.declared.seat.Seat.{Seat}
use Rattle.history_model.specs.declared.entry.Bands.{Bands}
use Rattle.history_model.specs.declared.entry.Entry.{Entry}
use Rattle.history_model.specs.declared.entry.Entry.TheVariants.{Started}
use Rattle.history_model.specs.declared.entry.Without.{Without}
use Rattle.history_model.specs.Entries.{sessions, holder_of, holder, is_started, list_of, without_of}
use Rattle.history_model.specs.Legality.{Legal, LegalRun}
use Rattle.history_model.specs.Refusals.{has_list, refusal_of_list, refusal_of}
use Rattle.history_model.specs.declared.refusal.Refusal.{Refusal}
use Rattle.history_model.specs.declared.refusal.Refusal.TheVariants.{OtherList}
use Rattle.history_model.specs.declared.request.Request.TheVariants.{BeginWithout}
use Rattle.exam_office.specs.Calls.{IsStartWithout}
use Rattle.history_model.proofs.ListLaws.{list_stays}
use Rattle.history_model.proofs.RunParts.{each_is_legal}
use Rattle.history_model.proofs.Running.{seat_before_start, sessions_are_numbered}

-- ---- later
by_list : (items : List ℕ) (o q : Option Without) → ((list : Without) → o ≡ Some list → q ≡ Some list) → has_list items o ≡ true → has_list items q ≡ true
by_list items None q stays h = absurd cc
by_list items (Some list) q stays h = ap (has_list items) (stays list refl) ∙ h

-- it stays
pub listed_later : (H G : List Entry) (s : ℕ) (items : List ℕ) → has_list items (list_of H s) ≡ true → has_list items (list_of (H ++ G) s) ≡ true
listed_later H G s items h = by_list items (list_of H s) (list_of (H ++ G) s) (list_stays H G s) h

-- ---- a start
first_none : (xs : List Without) → slice_get xs 0 ≡ None → xs ≡ []
first_none [] e = refl
first_none (x ∷ xs) e = absurd cc

none_of : (o : Option Without) → option_map (λ (list : Without). list.items) o ≡ None → o ≡ None
none_of None e = refl
none_of (Some list) e = absurd cc

-- the list of a session that is new
list_new : (b : Tables) (plan : Plan) (H : List Entry) (s booking : ℕ) (eligible : Bands) (list : Without) → LegalRun b plan H → s ≡ sessions H → list_of (H ++ Started s booking eligible (Some list) ∷ []) s ≡ Some list
list_new b plan H s booking eligible list run number =
    let start : List Entry = Started s booking eligible (Some list) ∷ [] in
    let not_yet : is_started H s ≡ false = ⊎_elim (λ t. absurd (let below = (sessions_are_numbered b plan H s run).0 t in omega arith)) (λ f. f) (cases_Bool (is_started H s)) in
    let none : list_of H s ≡ None = none_of (list_of H s) (ap (λ (x : Seat). x.without) (seat_before_start b plan H s run not_yet)) in
    let empty : filter_map (without_of s) H ≡ [] = first_none (filter_map (without_of s) H) none in
    let same : (s == s) ≡ true = eq-eqb s s refl in
    ap (λ (xs : List Without). slice_get xs 0) (filter_map-append (without_of s) H start ∙ ap (λ (xs : List Without). xs ++ filter_map (without_of s) start) empty) ∙ rw same refl

-- the session of a booking that had none
first_number : (xs : List ℕ) → slice_get xs 0 ≡ None → xs ≡ []
first_number [] e = refl
first_number (x ∷ xs) e = absurd cc

holder_new : (H : List Entry) (s booking : ℕ) (eligible : Bands) (list : Without) → holder H booking ≡ None → holder (H ++ Started s booking eligible (Some list) ∷ []) booking ≡ Some s
holder_new H s booking eligible list none =
    let start : List Entry = Started s booking eligible (Some list) ∷ [] in
    let empty : filter_map (holder_of booking) H ≡ [] = first_number (filter_map (holder_of booking) H) none in
    let same : (booking == booking) ≡ true = eq-eqb booking booking refl in
    ap (λ (xs : List ℕ). slice_get xs 0) (filter_map-append (holder_of booking) H start ∙ ap (λ (xs : List ℕ). xs ++ filter_map (holder_of booking) start) empty) ∙ rw same refl

same_number : (n s : ℕ) → Some n ≡ Some s → n ≡ s
same_number n s e = cc

-- a session that was started for the request has its list
pub listed_new : (b : Tables) (plan : Plan) (H : List Entry) (e : Entry) (booking session : ℕ) (items : List ℕ) (witness : Result (List ℕ) Refusal) → LegalRun b plan (H ++ e ∷ []) → holder H booking ≡ None → IsStartWithout booking items witness e
    → holder (H ++ e ∷ []) booking ≡ Some session → has_list items (list_of (H ++ e ∷ []) session) ≡ true
listed_new b plan H e booking session items witness run none start held =
    let n = start.session in
    let list = start.list in
    let both = each_is_legal b plan H e [] run in
    let legal : Legal b plan H (Started n booking start.eligible (Some list)) = subst (λ x. Legal b plan H x) start.is both.1 in
    let session_is : n ≡ session = same_number n session (sym (holder_new H n booking start.eligible list none) ∙ (ap (λ x. holder (H ++ x ∷ []) booking) (sym start.is) ∙ held)) in
    let here : list_of (H ++ e ∷ []) session ≡ Some list =
    ap (λ k. list_of (H ++ e ∷ []) k) (sym session_is) ∙ (ap (λ x. list_of (H ++ x ∷ []) n) start.is ∙ list_new b plan H n booking start.eligible list both.0 legal.number.next) in
    ap (has_list items) here ∙ (ap (λ l. pointwise nat_eq l items) start.items_are ∙ nat_list_eq_equiv.refl items)

-- ---- a session that is there
-- a request that isn't refused has the list of its booking's session
pub listed_there : (b : Tables) (plan : Plan) (H : List Entry) (booking session : ℕ) (items : List ℕ) → refusal_of b plan H (BeginWithout booking items) ≡ None → holder H booking ≡ Some session
    → has_list items (list_of H session) ≡ true
listed_there b plan H booking session items none held = by (has_list items (list_of H session)) refl (sym (ap (refusal_of_list b plan H items) held) ∙ none)
  where
    by : (t : Bool) → has_list items (list_of H session) ≡ t → refusal_of_list b plan H items (Some session) ≡ None → has_list items (list_of H session) ≡ true
    by true is e = is
    by false is e =
        let other : ◌≡◌ {A = Option Refusal} (Some (OtherList session)) None = sym (ap (λ (t : Bool). cond t None (Some (OtherList session))) is) ∙ e in
        absurd cc

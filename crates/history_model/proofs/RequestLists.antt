-- A request with a list: what the test of its list means, and what a place as its reply shows.
use Rattle.std.proofs.Common.{◌≡◌, ℕ, ◌<◌, inl, inr, Bool, true, false, cond, not, ◌&&◌, ◌==◌, List, [], ◌∷◌, ◌++◌, slice_get, Option, Some, None, refl, sym, ap, ◌∙◌, subst, arith, append_assoc}
use Rattle.std.specs.Prelude.{nat_eq, nat_le}
use Rattle.std.specs.List.{filter_map}
use Rattle.std.specs.Option.{option_map}
use Rattle.std.specs.Cmp.Lexicographic.{pointwise}
use Rattle.std.proofs.Math.Bool.{true≢false}
use Rattle.std.proofs.lemmas.Bool.{cases_lt, eq-eqb, leb-true, le-leb}
use Rattle.std.proofs.lemmas.List.{append-nil}
use Rattle.std.proofs.lemmas.List.Elements.{filter_map-append}
use Rattle.bank_tables.specs.Items.{Set, has, AreWords}
use Rattle.bank_tables.specs.Sums.{any_below}
use Rattle.bank_tables.specs.Tables.{Tables, size}
use Rattle.bank_tables.specs.Validity.{HoldsItems}
use Rattle.bank_tables.proofs.Bits.{has_past}
use Rattle.form_model.specs.Plan.{Plan}
use Rattle.form_model.proofs.SumLaws.{either, both, and_true, any_intro, any_elim}
use Rattle.serving_model.specs.declared.seat.Seat.{Seat}
use Rattle.history_model.specs.declared.entry.Bands.{Bands}
use Rattle.history_model.specs.declared.entry.Entry.{Entry}
use Rattle.history_model.specs.declared.entry.Entry.TheVariants.{Started}
use Rattle.history_model.specs.declared.entry.Without.{Without}
use Rattle.history_model.specs.declared.place.Place.{Place}
use Rattle.history_model.specs.declared.place.Place.TheVariants.{Pending, Waiting, Complete, Closed}
use Rattle.history_model.specs.declared.refusal.Refusal.{Refusal}
use Rattle.history_model.specs.declared.refusal.Refusal.TheVariants.{OtherList}
use Rattle.history_model.specs.declared.request.Reply.TheVariants.{At}
use Rattle.history_model.specs.declared.request.Request.{Request}
use Rattle.history_model.specs.declared.request.Request.TheVariants.{BeginWithout}
use Rattle.history_model.specs.Entries.{sessions, is_started, holder_of, holder, without_of, list_of}
use Rattle.history_model.specs.Places.{place}
use Rattle.history_model.specs.Legality.{LegalRun}
use Rattle.history_model.specs.Lists.{IsListFor}
use Rattle.history_model.specs.Laws.{ListByWords, PlaceHasList}
use Rattle.history_model.specs.Refusals.{is_list, has_list, refusal_of, refusal_of_list}
use Rattle.history_model.specs.Requests.{BeginsWithout, Leads, by_begin, by_begin_without, by_answer, by_look, at_once, after_setting_aside, AdvancesFrom, IsServedBy, DoesUnless}
use Rattle.history_model.proofs.ListLaws.{list_stays}
use Rattle.history_model.proofs.Running.{sessions_are_numbered, seat_before_start}
use Rattle.history_model.proofs.Staying.{holder_stays}

-- ---- the test of the words
not_true : (t : Bool) → not t ≡ true → t ≡ false
not_true true e = absurd (true≢false (sym e))
not_true false e = refl

false_not : (t : Bool) → (t ≡ true → ⊥) → not t ≡ true
false_not true never = absurd (never refl)
false_not false never = refl

below_512 : (items : List ℕ) → AreWords items → (i : ℕ) → has items i ≡ true → i < 512
below_512 items are i h = elim (cases_lt i 512) [
  | inl lt ↦ lt
  | inr past ↦ absurd (true≢false (sym h ∙ has_past items i are.eight past))
]

beyond : Tables → List ℕ → Set
beyond b items = λ i. has items i && nat_le (size b) i

pub list_by_words : ListByWords
list_by_words b items are = (found, shown)
  where
    found : is_list b items ≡ true → IsListFor b (has items)
    found e =
        let two = and_true (any_below 512 (has items)) (not (any_below 512 (λ i. has items i && nat_le (size b) i))) e in
        let some = any_elim 512 (has items) two.0 in
        record { item = some.0; listed = some.2; of_bank = within (not_true _ two.1) }
      where
        within : any_below 512 (λ i. has items i && nat_le (size b) i) ≡ false → HoldsItems b (has items)
        within none i h = elim (cases_lt i (size b)) [
          | inl lt ↦ lt
          | inr past ↦ absurd (true≢false (sym (any_intro 512 (λ k. has items k && nat_le (size b) k) i (below_512 items are i h) (both (has items i) (nat_le (size b) i) h (le-leb (size b) i past))) ∙ none))
        ]

    shown : IsListFor b (has items) → is_list b items ≡ true
    shown is = both (any_below 512 (has items)) (not (any_below 512 (λ i. has items i && nat_le (size b) i)))
        (any_intro 512 (has items) is.item (below_512 items are is.item is.listed) is.listed)
        (false_not (any_below 512 (λ i. has items i && nat_le (size b) i)) none)
      where
        none : any_below 512 (λ i. has items i && nat_le (size b) i) ≡ true → ⊥
        none e =
            let at = any_elim 512 (λ i. has items i && nat_le (size b) i) e in
            let two = and_true (has items at.0) (nat_le (size b) at.0) at.2 in
            let lt = is.of_bank at.0 two.0 in
            let le = leb-true (size b) at.0 two.1 in
            omega (arith, lt, le)

-- ---- a session that is started with a list
first_none : {A : Type 0} (xs : List A) → slice_get xs 0 ≡ None → xs ≡ []
first_none [] e = refl
first_none (x ∷ xs) e = absurd cc

no_option : (o : Option Without) → option_map (λ (list : Without). list.items) o ≡ None → o ≡ None
no_option None e = refl
no_option (Some list) e = absurd cc

same_items : (items : List ℕ) → pointwise nat_eq items items ≡ true
same_items [] = refl
same_items (x ∷ xs) = both (nat_eq x x) (pointwise nat_eq xs xs) (eq-eqb x x refl) (same_items xs)

module _ (b : Tables) (plan : Plan) (H : List Entry) (run : LegalRun b plan H) where
  not_started : (s : ℕ) → s ≡ sessions H → is_started H s ≡ false
  not_started s e = elim (either (is_started H s)) [
    | inl there ↦ absurd (let lt = (sessions_are_numbered b plan H s run).0 there in omega (arith, lt, e))
    | inr not_there ↦ not_there
  ]

  unlisted : (s : ℕ) → s ≡ sessions H → list_of H s ≡ None
  unlisted s e = no_option (list_of H s) (ap (λ (seat : Seat). seat.without) (seat_before_start b plan H s run (not_started s e)))

  list_then : (s booking : ℕ) (eligible : Bands) (list : Without) → s ≡ sessions H → list_of (H ++ Started s booking eligible (Some list) ∷ []) s ≡ Some list
  list_then s booking eligible list e =
      let none : filter_map (without_of s) H ≡ [] = first_none (filter_map (without_of s) H) (unlisted s e) in
      let same : (s == s) ≡ true = eq-eqb s s refl in
      ap (λ (xs : List Without). slice_get xs 0) (filter_map-append (without_of s) H (Started s booking eligible (Some list) ∷ []) ∙ ap (λ (xs : List Without). xs ++ filter_map (without_of s) (Started s booking eligible (Some list) ∷ [])) none) ∙ rw same refl

held_then : (H : List Entry) (s booking : ℕ) (eligible : Bands) (list : Option Without) → holder H booking ≡ None → holder (H ++ Started s booking eligible list ∷ []) booking ≡ Some s
held_then H s booking eligible list none =
    let empty : filter_map (holder_of booking) H ≡ [] = first_none (filter_map (holder_of booking) H) none in
    let same : (booking == booking) ≡ true = eq-eqb booking booking refl in
    ap (λ (xs : List ℕ). slice_get xs 0) (filter_map-append (holder_of booking) H (Started s booking eligible list ∷ []) ∙ ap (λ (xs : List ℕ). xs ++ filter_map (holder_of booking) (Started s booking eligible list ∷ [])) empty) ∙ rw same refl

-- the booking has the session, and that has the list
abbrev Has : ℕ → List ℕ → ℕ → List Entry → Type 0
Has booking items s G = (holder G booking ≡ Some s) × (has_list items (list_of G s) ≡ true)

listed_there : (items : List ℕ) (s : ℕ) (o : Option Without) → cond (has_list items o) None (Some (OtherList s)) ≡ None → has_list items o ≡ true
listed_there items s o e = by (has_list items o) e
  where
    by : (t : Bool) → ◌≡◌ {A = Option Refusal} (cond t None (Some (OtherList s))) None → t ≡ true
    by true f = refl
    by false f = absurd cc

has_begun : (b : Tables) (plan : Plan) (H : List Entry) (booking : ℕ) (items : List ℕ) (s : ℕ) (fresh : Bool) (G : List Entry) → LegalRun b plan H → refusal_of_list b plan H items (holder H booking) ≡ None → BeginsWithout b plan H booking items s fresh G → Has booking items s G
has_begun b plan H booking items s fresh G run none (BeginsWithout.is_there n held) =
    (held, listed_there items n (list_of H n) (ap (λ (o : Option ℕ). refusal_of_list b plan H items o) (sym held) ∙ none))
has_begun b plan H booking items s fresh G run none (BeginsWithout.is_new n eligible list free same legal) =
    let there = list_then b plan H run n booking eligible list legal.number.next in
    let is : has_list items (Some list) ≡ true = subst (λ (xs : List ℕ). pointwise nat_eq list.items xs ≡ true) same (same_items list.items) in
    (held_then H n booking eligible (Some list) free, ap (has_list items) there ∙ is)

-- ---- and it stays so
has_later : (booking : ℕ) (items : List ℕ) (s : ℕ) (G more : List Entry) → Has booking items s G → Has booking items s (G ++ more)
has_later booking items s G more has_it = (holder_stays G more booking s has_it.0, by (list_of G s) refl has_it.1)
  where
    by : (o : Option Without) → list_of G s ≡ o → has_list items o ≡ true → has_list items (list_of (G ++ more) s) ≡ true
    by None there e = absurd (true≢false (sym e))
    by (Some list) there e = ap (has_list items) (list_stays G more s list there) ∙ e

after : (b : Tables) (plan : Plan) (G : List Entry) (s : ℕ) (o : Option Place) (H2 : List Entry) → AdvancesFrom o b plan G s H2 → (more : List Entry) × (H2 ≡ G ++ more)
after b plan G s (Some (Pending step)) H2 (at_once entry firm) = (entry ∷ [], refl)
after b plan G s (Some (Pending step)) H2 (after_setting_aside aside entry setting firm) = (aside ∷ entry ∷ [], append_assoc G (aside ∷ []) (entry ∷ []))
after b plan G s (Some (Waiting step item proved)) H2 same = ([], same ∙ sym (append-nil G))
after b plan G s (Some Complete) H2 same = ([], same ∙ sym (append-nil G))
after b plan G s (Some Closed) H2 same = ([], same ∙ sym (append-nil G))
after b plan G s None H2 same = ([], same ∙ sym (append-nil G))

has_led : (b : Tables) (plan : Plan) (H : List Entry) (booking : ℕ) (items : List ℕ) (asked : Request) (s : ℕ) (fresh : Bool) (G : List Entry) → LegalRun b plan H → refusal_of b plan H asked ≡ None → asked ≡ BeginWithout booking items → Leads b plan H asked s fresh G → Has booking items s G
has_led b plan H booking items asked s fresh G run none is (by_begin k n flag K begins) = absurd cc
has_led b plan H booking items asked s fresh G run none is (by_begin_without k xs n flag K begins) =
    let one : k ≡ booking = cc in
    let two : xs ≡ items = cc in
    let here = has_begun b plan H k xs n flag K run none begins in
    subst (λ (m : ℕ). Has m items n K) one (subst (λ (ys : List ℕ). Has k ys n K) two here)
has_led b plan H booking items asked s fresh G run none is (by_answer n step response named K records) = absurd cc
has_led b plan H booking items asked s fresh G run none is (by_look n) = absurd cc

pub place_has_list : PlaceHasList
place_has_list b plan H booking items H2 session at fresh run does = by (refusal_of b plan H (BeginWithout booking items)) refl does
  where
    served : refusal_of b plan H (BeginWithout booking items) ≡ None → IsServedBy b plan H (BeginWithout booking items) H2 (At session at fresh) → Has booking items session H2
    served none is =
        let later = after b plan is.begun is.session (place plan is.begun is.session) H2 is.advances in
        let here = has_led b plan H booking items (BeginWithout booking items) is.session is.fresh is.begun run none refl is.leads in
        let one : is.session ≡ session = let e = is.reply in cc in
        subst (λ (s : ℕ). Has booking items s H2) one
        (subst (λ (K : List Entry). Has booking items is.session K) (sym later.1) (has_later booking items is.session is.begun later.0 here))

    by : (o : Option Refusal) → refusal_of b plan H (BeginWithout booking items) ≡ o → DoesUnless o b plan H (BeginWithout booking items) H2 (At session at fresh) → Has booking items session H2
    by (Some r) e done = absurd (let is = done.1 in cc)
    by None e (inl is) = served e is
    by None e (inr is) = absurd (let r = is.reply in cc)

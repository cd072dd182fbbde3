-- A session that is to be started.
use Rattle.std.proofs.Common.{◌≡◌, inl, inr, ℕ, ◌<◌, ◌≤◌, Result, Ok, Err, Bool, true, false, cond, ◌==◌, List, [], ◌∷◌, ◌++◌, slice_get, Option, Some, None, refl, sym, ap, ◌∙◌, subst, arith}
use Rattle.std.specs.Prelude.{nat_le}
use Rattle.std.specs.List.{filter_map}
use Rattle.std.proofs.lemmas.Bool.{eq-eqb, le-leb}
use Rattle.std.proofs.lemmas.List.Elements.{filter_map-append}
use Rattle.bank_tables.specs.Items.{has}
use Rattle.bank_tables.specs.Tables.{Tables, size}
use Rattle.form_model.specs.Plan.{Plan}
use Rattle.history_model.specs.declared.entry.Bands.{Bands}
use Rattle.history_model.specs.declared.entry.Entry.{Entry}
use Rattle.history_model.specs.declared.entry.Entry.TheVariants.{Started}
use Rattle.history_model.specs.declared.entry.Without.{Without}
use Rattle.history_model.specs.Draws.{AreDrawn}
use Rattle.history_model.specs.Entries.{sessions, holder_of, holder, list_of}
use Rattle.history_model.specs.Judging.{MayFollow}
use Rattle.history_model.specs.Legality.{Legal}
use Rattle.history_model.specs.declared.refusal.Refusal.{Refusal}
use Rattle.history_model.specs.declared.refusal.Refusal.TheVariants.{OtherList, NoItem, SessionsFull}
use Rattle.history_model.specs.declared.request.Request.TheVariants.{BeginWithout}
use Rattle.history_model.specs.Lists.{IsListFor, IsFormWithout}
use Rattle.exam_office.specs.declared.mark.Mark.{Mark}
use Rattle.exam_office.specs.declared.mark.Mark.TheVariants.{Own}
use Rattle.exam_office.specs.Marks.{history}
use Rattle.history_model.specs.Refusals.{refusal_of, refusal_of_new, refusal_of_list, is_list, has_list}
use Rattle.exam_office.specs.Calls.{refuse, IsStartFound, IsStartWithoutFound, FindsStartWithout, LacksWitness}
use Rattle.exam_office.proofs.Marking.{history-own}

first_none : (xs : List ℕ) → slice_get xs 0 ≡ None → xs ≡ []
first_none [] e = refl
first_none (x ∷ xs) e = absurd (cc)

pub held_so : (H : List Entry) (session booking : ℕ) (eligible : Bands) (list : Option Without) → holder H booking ≡ None → holder (H ++ Started session booking eligible list ∷ []) booking ≡ Some session
held_so H session booking eligible list none =
    let empty : filter_map (holder_of booking) H ≡ [] = first_none (filter_map (holder_of booking) H) none in
    let same : (booking == booking) ≡ true = eq-eqb booking booking refl in
    ap (λ (xs : List ℕ). slice_get xs 0) (filter_map-append (holder_of booking) H (Started session booking eligible list ∷ []) ∙ ap (λ (xs : List ℕ). xs ++ filter_map (holder_of booking) (Started session booking eligible list ∷ [])) empty) ∙ rw same refl

pub held_then : (H : List Entry) (session booking : ℕ) (eligible : Bands) → holder H booking ≡ None → holder (H ++ Started session booking eligible None ∷ []) booking ≡ Some session
held_then H session booking eligible none = held_so H session booking eligible None none

not_refused : (plan : Plan) (H : List Entry) (o : Option ℕ) → o ≡ None → sessions H < plan.sessions → refusal_of_new plan H o ≡ None
not_refused plan H (Some s) e lt = absurd (cc)
not_refused plan H None e lt = by (nat_le plan.sessions (sessions H)) refl
  where
    by : (t : Bool) → nat_le plan.sessions (sessions H) ≡ t → ◌≡◌ {A = Option Refusal} (cond (nat_le plan.sessions (sessions H)) (Some (SessionsFull (sessions H))) None) None
    by true is = absurd (omega (arith, Rattle.std.proofs.lemmas.Bool.leb-true plan.sessions (sessions H) is))
    by false is = rw is refl

pub start_found : (b : Tables) (plan : Plan) (H : List Entry) (session booking : ℕ) (eligible : Bands) → None ≡ holder H booking → session ≡ sessions H → session < plan.sessions → AreDrawn b plan H (sessions H) eligible
    → IsStartFound b plan H booking session (Some (Started session booking eligible None))
start_found b plan H session booking eligible none number within is_drawn = (
  (
    not_refused plan H (holder H booking) (sym none) (subst (λ (n : ℕ). n < plan.sessions) number within),
    sym none,
    record { session = session; eligible = eligible; is = refl },
    record {
      number = record { next = number; within = within };
      not_booked = sym none;
      drawn = subst (λ (n : ℕ). AreDrawn b plan H n eligible) (sym number) is_drawn;
      listed = tt;
    },
  ),
  held_then H session booking eligible (sym none),
)

-- the booking has its session once the start is written
pub held_written : (M N : List Mark) (entry : Entry) (size session booking : ℕ) → N ≡ M ++ Own entry size ∷ [] → holder (history M ++ entry ∷ []) booking ≡ Some session → holder (history N) booking ≡ Some session
held_written M N entry size session booking is held = ap (λ (H : List Entry). holder H booking) (ap history is ∙ history-own M entry size) ∙ held

-- what is found to start a session may follow
pub may_start : (b : Tables) (plan : Plan) (H : List Entry) (booking : ℕ) (entry : Entry) (session : ℕ) → IsStartFound b plan H booking session (Some entry) → MayFollow b plan H entry None
may_start b plan H booking entry session found =
    let e = found.0.2.is in
    subst (λ (x : Entry). MayFollow b plan H x None) (sym e) (subst (λ (x : Entry). Legal b plan H x) e found.0.3, refl)

-- ---- with a list
module _ (b : Tables) (plan : Plan) (H : List Entry) (booking : ℕ) (items : List ℕ) (witness : Result (List ℕ) Refusal) where
  refusal_here : (o : Option ℕ) → holder H booking ≡ o → refusal_of b plan H (BeginWithout booking items) ≡ refusal_of_list b plan H items o
  refusal_here o is = ap (refusal_of_list b plan H items) is

  -- the booking has a session, with that list or not
  pub list_is_there : (session : ℕ) → Some session ≡ holder H booking → has_list items (list_of H session) ≡ true → IsStartWithoutFound b plan H booking items witness session None
  list_is_there session held listed = ((refusal_here (Some session) (sym held) ∙ rw listed refl, (session, sym held)), sym held)

  pub other_is_there : (session : ℕ) → Some session ≡ holder H booking → has_list items (list_of H session) ≡ false → FindsStartWithout b plan booking items witness H (refuse (OtherList session))
  other_is_there session held unlisted = inl (refusal_here (Some session) (sym held) ∙ rw unlisted refl)

  -- it has none, and may not have one
  pub is_no_list : None ≡ holder H booking → is_list b items ≡ false → FindsStartWithout b plan booking items witness H (refuse (NoItem (size b)))
  is_no_list none unlisted = inl (refusal_here None (sym none) ∙ rw unlisted refl)

  pub list_is_full : None ≡ holder H booking → is_list b items ≡ true → plan.sessions ≤ sessions H → FindsStartWithout b plan booking items witness H (refuse (SessionsFull (sessions H)))
  list_is_full none listed full = inl (refusal_here None (sym none) ∙ rw (listed, le-leb plan.sessions (sessions H) full) refl)

  nothing_refuses : None ≡ holder H booking → is_list b items ≡ true → sessions H < plan.sessions → refusal_of b plan H (BeginWithout booking items) ≡ None
  nothing_refuses none listed within = refusal_here None (sym none) ∙ (rw listed refl ∙ not_refused plan H None refl within)

  pub witness_is_lacking : (r : Refusal) → None ≡ holder H booking → is_list b items ≡ true → sessions H < plan.sessions → witness ≡ Err r → LacksWitness b plan items r → FindsStartWithout b plan booking items witness H (refuse r)
  witness_is_lacking r none listed within is lacks = inr (nothing_refuses none listed within, sym none, is, lacks)

  -- one is to be started
  pub start_without_found : (session : ℕ) (eligible : Bands) (form : List ℕ) → None ≡ holder H booking → is_list b items ≡ true → session ≡ sessions H → session < plan.sessions → AreDrawn b plan H (sessions H) eligible → IsListFor b (has items) → witness ≡ Ok form
      → IsFormWithout b plan (has items) (has form) → IsStartWithoutFound b plan H booking items witness session (Some (Started session booking eligible (Some (record { items = items; form = form }))))
  start_without_found session eligible form none listed number within is_drawn is_list_for is is_form =
      let list : Without = record { items = items; form = form } in (
        (
          nothing_refuses none listed (subst (λ (n : ℕ). n < plan.sessions) number within),
          sym none,
          record { session = session; eligible = eligible; list = list; items_are = refl; form_is = is; is = refl },
          record {
            number = record { next = number; within = within };
            not_booked = sym none;
            drawn = subst (λ (n : ℕ). AreDrawn b plan H n eligible) (sym number) is_drawn;
            listed = record { items = is_list_for; witness = is_form };
          },
        ),
        held_so H session booking eligible (Some list) (sym none),
      )

  -- what is found to start a session may follow
  pub may_start_without : (entry : Entry) (session : ℕ) → IsStartWithoutFound b plan H booking items witness session (Some entry) → MayFollow b plan H entry None
  may_start_without entry session found =
      let e = found.0.2.is in
      subst (λ (x : Entry). MayFollow b plan H x None) (sym e) (subst (λ (x : Entry). Legal b plan H x) e found.0.3, refl)

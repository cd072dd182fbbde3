-- Each step keeps the rule.
use Rattle.std.proofs.Common.{◌≡◌, ◌≢◌, ℕ, zero, suc, ◌+◌, ◌%◌, ◌^◌, ◌<◌, ◌≤◌, ◌==◌, Bool, true, false, List, [], ◌∷◌, ◌++◌, length, set, refl, sym, ap, ◌∙◌, subst, inl, inr, ⊎_elim, arith, Option, Some, None, slice_index, length-append}
use Rattle.std.proofs.lemmas.Bool.{cases_Bool, eqb-true, true≢false}
use Rattle.std.proofs.lemmas.List.{get_or-set_other, get_or-set_same, set-get_or, set_comm}
use Rattle.std.proofs.lemmas.List.Elements.{All-append, Contains-append_left, Contains-append_right}
use Rattle.std.proofs.lemmas.List.Sums.{sum_by_push}
use Rattle.std.proofs.Math.ListN.{length-set}
use lib.ListN.{get_elem?}
use mathlib.Core.Option.{some, none, some-injective, some-ne-none}
use Rattle.atomic_table.specs.Table.{State, Me, Allows, Splits, Joins, keeps, takes, gives, put_back, opening, Final, Seen}
use Rattle.atomic_table.proofs.Lists.{at_set, set_again, set_else}
use Rattle.turn_lock.specs.declared.view.View.{View}
use Rattle.turn_lock.specs.declared.view.BeforeJoin.{BeforeJoin}
use Rattle.atomic_table.specs.Seated.{TableId}
use Rattle.turn_lock.specs.Passes.{KnowsAll}
use Rattle.turn_lock.specs.Histories.{StartsWith, AreComparable, ArePlacesIn, longer_of}
use Rattle.turn_lock.specs.Rule.{Each, Pairs, Fits, AreApart, IsPlaced, AreAllThere, AreInTurn, Holds, tickets_of, one_ticket}
use Rattle.turn_lock.specs.Seats.{Agrees, known_of, first_view, split_view, new_view, joined_view, spent_view, raised_view, ended_view}
use Rattle.turn_lock.specs.Plays.{Draws, Serves, Reaches, Raises, Leaves, Learns}
use Rattle.turn_lock.proofs.Lists.{all_of, places_range, all_more, disjoint_append, disjoint_new, starts_length, starts_longer, starts_itself, comparable, longer_length, longer_begins, contains_nothing, at_end}
use Rattle.turn_lock.proofs.Passing.{passes_set, passes_same, passes_split, passes_join, passes_open, owns_all, has_seen_all, places_contain}
use Rattle.turn_lock.proofs.Views.{at_again, holds_set, near, apart_turned, placed_set, placed_end, at_home, nobody_else, total_set, each_set, pairs_set}

some_is : {A : Type 0} {a b : A} → Some a ≡ Some b → a ≡ b
some_is e = cc

first_of : {A : Type 0} {a b : A} {l m : List A} → a ∷ l ≡ b ∷ m → a ≡ b
first_of e = cc

pair_is : {A : Type 0} {p q : ℕ × A} → p ≡ q → p.1 ≡ q.1
pair_is {A} e = ap (λ (p : ℕ × A). p.1) e

none_some : {A : Type 0} {a : A} → None ≡ Some a → ⊥
none_some e = grind arith

-- two tickets less than 2 ^ 64 apart with one remainder are one
same_ticket : (f t : ℕ) → f ≤ t → t < f + 2 ^ 64 → f % 2 ^ 64 ≡ t % 2 ^ 64 → t ≡ f
same_ticket f t le lt e = omega arith

module _ {V E : Type 0} (history : V → List E) where
  -- a ticket is drawn
  pub draws : (slots id : ℕ) (me : Me (Option V) (View E)) → me.0.live ≡ true → me.0.ticket ≡ None → me.0.served ≡ false → me.0.out ≡ false
      → Allows (Holds history) slots id me 0 (λ n. (n + 1) % 2 ^ 64) (λ found after. Draws me found after)
  draws slots id me alive bare unserved inside s whole sized at fits =
      let h = whole.turns in
      let w : View E = record me.0 { ticket = Some h.to } in
      let old = h.each id me.0 at in (
        w,
        keeps,
        tt,
        record {
          turns = holds_set history s h id me.0 w at (set s.words 0 ((slice_index s.words 0 + 1) % 2 ^ 64)) s.homes h.log h.from (h.to + 1)
              (simp length-set h.long)
              (get_or-set_same s.words 0 _ 0 (omega (arith, h.long)) ∙ omega (arith, h.ticket))
              (get_or-set_other s.words 0 1 _ 0 (λ e. omega arith) ∙ h.serving)
              (get_or-set_other s.words 0 2 _ 0 (λ e. omega arith) ∙ h.count)
              (let none_waits : tickets_of me.0 ≡ 0 = ap one_ticket bare in omega arith)
              (λ l. (l, refl))
              (record {
                seen = old.seen;
                mine = old.mine;
                ticket = λ t e. (let is : h.to ≡ t = some_is e in omega (arith, h.busy));
                served = λ e. absurd (grind (arith, e, unserved));
                out = λ e. absurd (grind (arith, e, inside));
                number = old.number;
                join = old.join;
              })
              (λ j u ne e f. record {
                seen = f.seen;
                mine = f.mine;
                ticket = λ t k. (let r = f.ticket t k in
                    (r.0, omega arith));
                served = f.served;
                out = f.out;
                number = f.number;
                join = f.join;
              })
              (λ j u ne e. record {
                tickets = λ t a b. (let r = (h.each j u e).ticket t b in let is : h.to ≡ t = some_is a in omega arith);
                places = (h.pairs id j me.0 u (λ k. ne (sym k)) at e).places;
              })
              (placed_set history s id me.0 w at inside inside h.log (set s.words 0 ((slice_index s.words 0 + 1) % 2 ^ 64)) h.place);
          passes = passes_same h.log s.views whole.passes id me.0 w at refl refl refl (omega arith) (λ _ _. alive) refl;
        },
        (h.to, sym h.ticket, refl),
      )

  -- the ticket that is served is loaded
  module _ (id : ℕ) (me : Me (Option V) (View E)) (t : ℕ) (has : me.0.ticket ≡ Some t) (inside : me.0.out ≡ false) (s : State
      (Option V) (View E)) (whole : Holds history s) (at : get_elem? s.views id ≡ some me.0) where
    abbrev h : AreInTurn history s
    h = whole.turns

    abbrev same_words : set s.words 1 (slice_index s.words 1) ≡ s.words
    same_words = set-get_or s.words 1 0

    is_served : (slice_index s.words 1 == t % 2 ^ 64) ≡ true → t ≡ h.from
    is_served mine =
        let eqn : h.from % 2 ^ 64 ≡ t % 2 ^ 64 = sym h.serving ∙ eqb-true _ _ mine in
        let range = (h.each id me.0 at).ticket t has in
        same_ticket h.from t range.0 (omega (arith, range.1, near history s h)) eqn

    -- nothing changes
    unchanged : Holds history record { words = set s.words 1 (slice_index s.words 1); homes = s.homes; views = set s.views id me.0 }
    unchanged =
        let P : List ℕ → List (View E) → Type 0 = λ ws vs. Holds history record { words = ws; homes = s.homes; views = vs } in
        subst (λ ws. P ws (set s.views id me.0)) (sym same_words) (subst (λ vs. P s.words vs) (sym (set_again s.views id me.0 at)) whole)

    -- the view knows that it is served
    pub served_at : (seen : List E) (b : Bool) → t ≡ h.from → StartsWith h.log seen → length me.0.seen ≤ length seen → (b ≡ true
        → seen ≡ h.log)
        → (homes : List (mathlib.Core.Option.Option (Option V)))
        → IsPlaced history h.log (record {
          words = set s.words 1 (slice_index s.words 1);
          homes = homes;
          views = set s.views id
              (record me.0 { seen = seen; served = true; out = b });
        })
        → Holds history record {
          words = set s.words 1 (slice_index s.words 1);
          homes = homes;
          views = set s.views id
              (record me.0 { seen = seen; served = true; out = b });
        }
    served_at seen b here begins longer all homes place =
        let w : View E = record me.0 { seen = seen; served = true; out = b } in
        let old = h.each id me.0 at in
        record {
          turns = holds_set history s h id me.0 w at (set s.words 1 (slice_index s.words 1)) homes h.log h.from h.to
              (simp length-set h.long)
              (ap (λ ws. slice_index ws 0) same_words ∙ h.ticket)
              (ap (λ ws. slice_index ws 1) same_words ∙ h.serving)
              (ap (λ ws. slice_index ws 2) same_words ∙ h.count)
              (omega arith)
              (λ l. (l, refl))
              (record {
                seen = begins;
                mine = all_more (length me.0.seen) (length seen) me.0.mine longer old.mine;
                ticket = old.ticket;
                served = λ e. has ∙ ap Some here;
                out = λ e. (refl, all e);
                number = old.number;
                join = old.join;
              })
              (λ j u ne e f. f)
              (λ j u ne e. (let p = h.pairs id j me.0 u (λ k. ne (sym k)) at e in record { tickets = p.tickets; places = p.places }))
              place;
          passes = passes_same h.log s.views whole.passes id me.0 w at refl refl refl longer (whole.passes.each id me.0 at).alive refl;
        }

  pub serves : (slots id : ℕ) (me : Me (Option V) (View E)) (t : ℕ) → me.0.ticket ≡ Some t → me.0.out ≡ false
      → Allows (Holds history) slots id me 1 (λ n. n) (λ found after. (u : ℕ) → me.0.ticket ≡ Some u → Serves history u me found after)
  serves slots id me t has inside s whole sized at fits = elim (cases_Bool (slice_index s.words 1 == t % 2 ^ 64)) [
    | inl mine ↦
        let here = is_served id me t has inside s whole at mine in
        let h = whole.turns in
        let p = at_home history s h id me.0 at inside (has ∙ ap Some here) in
        let w : View E = record me.0 { seen = history p.0; served = true; out = true } in
        let old = h.each id me.0 at in
        let begins : StartsWith (history p.0) me.0.seen = (old.seen.0, p.2 ∙ old.seen.1) in (
          w,
          takes 0 (Some p.0),
          ap (λ (hs : List (mathlib.Core.Option.Option (Option V))). get_elem? hs 0) p.1,
          served_at id me t has inside s whole at (history p.0) true here
              (subst (λ l. StartsWith h.log l) (sym p.2) (starts_itself h.log))
              (starts_length (history p.0) me.0.seen begins)
              (λ _. p.2) (set s.homes 0 none)
              (inr (
                id,
                w,
                at_again s.views id me.0 w at,
                refl,
                ap (λ (hs : List (mathlib.Core.Option.Option
                    (Option V))). set hs 0 none) p.1,
              )),
          λ u hu.
              let same : u ≡ t = some_is (sym hu ∙ has) in
              let yes : (slice_index s.words 1 == u % 2 ^ 64) ≡ true = ap (λ k. slice_index s.words 1 == k % 2 ^ 64) same ∙ mine in
              rw yes (p.0, (begins, refl)),
        )
    | inr other ↦ (
      me.0,
      keeps,
      tt,
      unchanged id me t has inside s whole at,
      λ u hu.
          let same : u ≡ t = some_is (sym hu ∙ has) in
          let no : (slice_index s.words 1 == u % 2 ^ 64) ≡ false = ap (λ k. slice_index s.words 1 == k % 2 ^ 64) same ∙ other in
          rw no refl,
    )
  ]

  pub reaches : (slots id : ℕ) (me : Me (Option V) (View E)) (t : ℕ) → me.0.ticket ≡ Some t → me.0.out ≡ false
      → Allows (Holds history) slots id me 1 (λ n. n) (λ found after. (u : ℕ) → me.0.ticket ≡ Some u → Reaches u me found after)
  reaches slots id me t has inside s whole sized at fits = elim (cases_Bool (slice_index s.words 1 == t % 2 ^ 64)) [
    | inl mine ↦
        let here = is_served id me t has inside s whole at mine in
        let h = whole.turns in
        let w : View E = record me.0 { served = true } in
        let old = h.each id me.0 at in (
          w,
          keeps,
          tt,
          served_at id me t has inside s whole at me.0.seen me.0.out here old.seen (omega arith) (λ e. absurd (true≢false (sym e
              ∙ inside))) s.homes
              (placed_set history s id me.0 w at inside inside h.log (set s.words 1 (slice_index s.words 1)) h.place),
          λ u hu.
              let same : u ≡ t = some_is (sym hu ∙ has) in
              let yes : (slice_index s.words 1 == u % 2 ^ 64) ≡ true = ap (λ k. slice_index s.words 1 == k % 2 ^ 64) same ∙ mine in
              rw yes refl,
        )
    | inr other ↦ (
      me.0,
      keeps,
      tt,
      unchanged id me t has inside s whole at,
      λ u hu.
          let same : u ≡ t = some_is (sym hu ∙ has) in
          let no : (slice_index s.words 1 == u % 2 ^ 64) ≡ false = ap (λ k. slice_index s.words 1 == k % 2 ^ 64) same ∙ other in
          rw no refl,
    )
  ]

  -- what the view knows that the value is out with
  module _ (id : ℕ) (me : Me (Option V) (View E)) (inside : me.0.out ≡ true) (s : State (Option V) (View E)) (h : AreInTurn history s)
      (at : get_elem? s.views id ≡ some me.0) where
    pub mine_is_served : me.0.ticket ≡ Some h.from
    mine_is_served = (h.each id me.0 at).served ((h.each id me.0 at).out inside).0

    pub away : s.homes ≡ none ∷ []
    away = elim h.place [
      | inl p ↦ absurd (true≢false (sym inside ∙ p.3 id me.0 at))
      | inr p ↦ p.4
    ]

    pub others_wait : (j : ℕ) (u : View E) → j ≢ id → get_elem? s.views j ≡ some u → u.served ≡ true → ⊥
    others_wait = nobody_else history s h id me.0 at mine_is_served

  -- the count is stored, while the pass carries the value with its new history
  pub raises : (slots id : ℕ) (me : Me (Option V) (View E)) → me.0.out ≡ true → (x : V) (more : List E) → me.1 ≡ (0, Some x) ∷ []
      → history x ≡ me.0.seen ++ more
      → (new : ℕ) → new ≡ length (history x) → Allows (Holds history) slots id me 2 (λ _. new) (λ _ after. Raises history me after)
  raises slots id me inside x more carries grown new counted s whole sized at fits =
      let h = whole.turns in
      let w : View E = raised_view me.0 (history x) in
      let old = h.each id me.0 at in
      let is : me.0.seen ≡ h.log = (old.out inside).1 in
      let longer : history x ≡ h.log ++ more = grown ∙ ap (λ (l : List E). l ++ more) is in
      let much : length (history x) ≡ length me.0.seen + length more = ap length grown ∙ length-append me.0.seen more in
      let same : length me.0.seen ≡ length h.log = ap length is in
      let begins : (u : List E) → StartsWith h.log u
      → StartsWith (history x) u = λ u p. subst (λ l. StartsWith l u) (sym longer) (starts_longer h.log u more p) in
      let within : ArePlacesIn w.mine w.seen = All-append (λ k. k < length (history x)) me.0.mine _
      (all_more (length me.0.seen) (length (history x)) me.0.mine (omega arith) old.mine)
      (all_of (λ k. k < length (history x)) _ (λ k c. (let r = places_range _ (length me.0.seen) k c in let lt = r.1 in omega arith))) in (
        w,
        keeps,
        tt,
        record {
          turns = holds_set history s h id me.0 w at (set s.words 2 new) s.homes (history x) h.from h.to
              (simp length-set h.long)
              (get_or-set_other s.words 2 0 new 0 (λ e. omega arith) ∙ h.ticket)
              (get_or-set_other s.words 2 1 new 0 (λ e. omega arith) ∙ h.serving)
              (get_or-set_same s.words 2 new 0 (omega (arith, h.long)) ∙ counted)
              (omega arith)
              (λ l. (l, refl))
              (record {
                seen = starts_itself (history x);
                mine = within;
                ticket = old.ticket;
                served = old.served;
                out = λ e. ((old.out e).0, refl);
                number = old.number;
                join = old.join;
              })
              (λ j u ne e f. record {
                seen = begins u.seen f.seen;
                mine = f.mine;
                ticket = f.ticket;
                served = f.served;
                out = λ o. absurd (others_wait id me inside s h at j u ne e (f.out o).0);
                number = f.number;
                join = f.join;
              })
              (λ j u ne e.
              let p = h.pairs id j me.0 u (λ k. ne (sym k)) at e in
              let f = h.each j u e in
              record {
                tickets = p.tickets;
                places = disjoint_append me.0.mine _ u.mine p.places (disjoint_new (length me.0.seen) _ u.mine (length u.seen) f.mine
                    (let le = starts_length h.log u.seen f.seen in omega arith));
              })
              (inr (id, w, at_again s.views id me.0 w at, inside, away id me inside s h at));
          passes = (let ticket = (whole.passes.each id me.0 at).alive in
              passes_set h.log (history x) s.views whole.passes id me.0 w at refl refl refl (omega arith) ticket
              (λ k c. Contains-append_left me.0.mine _ k c)
              (λ k late below. (
                ticket h.from (mine_is_served id me inside s h at),
                Contains-append_right me.0.mine _ k (places_contain _ (length me.0.seen) k (omega arith) (omega arith)),
              )));
        },
        (λ y e. (let one : x ≡ y = some_is (pair_is (first_of (sym carries
            ∙ e))) in (ap (λ z. (raised_view me.0 (history z), me.1)) one, within))),
      )

  -- the turn is ended_view
  pub leaves : (slots id : ℕ) (me : Me (Option V) (View E)) → me.0.out ≡ true → (x : V) → me.1 ≡ (0, Some x) ∷ [] → history x ≡ me.0.seen
      → Allows (Holds history) slots id me 1 (λ n. (n + 1) % 2 ^ 64) (λ _ after. Leaves me after)
  leaves slots id me inside x carries seen s whole sized at fits =
      let h = whole.turns in
      let w : View E = ended_view me.0 in
      let old = h.each id me.0 at in
      let mine = mine_is_served id me inside s h at in
      let others = others_wait id me inside s h at in
      let one : tickets_of me.0 ≡ 1 = ap one_ticket mine in (
        w,
        gives,
        tt,
        record {
          turns = holds_set history s h id me.0 w at (set s.words 1 ((slice_index s.words 1 + 1) % 2 ^ 64)) (put_back s.homes me.1) h.log
              (h.from + 1) h.to
              (simp length-set h.long)
              (get_or-set_other s.words 1 0 _ 0 (λ e. omega arith) ∙ h.ticket)
              (get_or-set_same s.words 1 _ 0 (omega (arith, h.long)) ∙ omega (arith, h.serving))
              (get_or-set_other s.words 1 2 _ 0 (λ e. omega arith) ∙ h.count)
              (omega arith)
              (λ l. (l, refl))
              (record {
                seen = old.seen;
                mine = old.mine;
                ticket = λ t e. absurd (none_some e);
                served = λ e. absurd (true≢false (sym e));
                out = λ e. absurd (true≢false (sym e));
                number = old.number;
                join = old.join;
              })
              (λ j u ne e f. record {
                seen = f.seen;
                mine = f.mine;
                ticket = λ t k. (
                    let r = f.ticket t k in
                    let apart : h.from ≢ t = λ same. (h.pairs id j me.0 u (λ i. ne (sym i)) at e).tickets t (mine ∙ ap Some same) k in
                    (let a = r.0 in omega arith, r.1));
                served = λ o. absurd (others j u ne e o);
                out = λ o. absurd (others j u ne e (f.out o).0);
                number = f.number;
                join = f.join;
              })
              (λ j u ne e. (let p = h.pairs id j me.0 u (λ k. ne (sym k)) at e in
              record { tickets = λ t k. absurd (none_some k); places = p.places }))
              (inl (
                x,
                ap (put_back s.homes) carries
                    ∙ ap (λ (hs : List (mathlib.Core.Option.Option (Option V))). set hs 0 (some (Some x))) (away id me inside s h at),
                seen ∙ (old.out inside).1,
                each_set (λ _ _. Unit {0}) (λ _ u. u.out ≡ false) s.views id w (λ _ _ _. tt) refl
                    (λ j u ne e _. ⊎_elim (λ o. absurd (others j u ne e ((h.each j u e).out o).0)) (λ o. o) (cases_Bool u.out)),
              ));
          passes = passes_same h.log s.views whole.passes id me.0 w at refl refl refl (omega arith) (λ t e. absurd (none_some e)) refl;
        },
        refl,
      )

  -- a pass is split from the first one
  pub splits : (id : ℕ) (v : View E) → v.live ≡ true → v.number ≡ 0 → v.splits < 65535 → v.out ≡ false
      → Splits (Holds history) id v (split_view v) (new_view v)
  splits id v alive zero_is few inside s whole at =
      let h = whole.turns in
      let l : View E = split_view v in
      let r : View E = new_view v in
      let old = h.each id v at in
      let home : id ≡ 0 = sym (old.number alive) ∙ zero_is in
      let many : length s.views ≡ v.splits + 1 = h.first v (ap (λ k. get_elem? s.views k) (sym home) ∙ at) alive in
      let left : List (View E) = set s.views id l in
      let size : length left ≡ length s.views = length-set s.views id l in
      let each_left : Each (Fits h.log h.from h.to) left = each_set (Fits h.log h.from h.to) (Fits h.log h.from h.to) s.views id l h.each
      (record {
        seen = old.seen;
        mine = old.mine;
        ticket = old.ticket;
        served = old.served;
        out = old.out;
        number = old.number;
        join
            = old.join;
      }) (λ j u ne e f. f) in
      let pairs_left : Pairs AreApart left = pairs_set AreApart s.views id l apart_turned h.pairs
      (λ j u ne e. (let p = h.pairs id j v u (λ k. ne (sym k)) at e in record { tickets = p.tickets; places = p.places })) in
      let new : (u : View E)
      → AreApart r u = λ u. record { tickets = λ t k. absurd (none_some k); places = λ k c. absurd (contains_nothing k c) } in
      record {
        turns = record {
          log = h.log;
          from = h.from;
          to = h.to;
          long = h.long;
          ticket = h.ticket;
          serving = h.serving;
          count = h.count;
          busy = (let t = total_set tickets_of s.views id v l at in let u = sum_by_push tickets_of left r in omega (arith, h.busy));
          few = omega (arith, length-append left (r ∷ []));
          first = λ u e _. ⊎_elim
              (λ t. ⊎_elim
              (λ i. length-append left (r ∷ []) ∙ (let n : u.splits ≡ v.splits + 1 = ap (λ (z : View E). z.splits) (sym i.1) in omega arith))
              (λ i. absurd (i.0 (sym home)))
              (at_set s.views id 0 l u t))
              (λ t. absurd (let n = t.0 in omega arith))
              (at_end left r u 0 e);
          each = λ j u e. ⊎_elim (λ t. each_left j u t)
              (λ t. subst (λ k. Fits h.log h.from h.to k u) (sym t.0) (subst (λ z. Fits h.log h.from h.to (length left) z) t.1 (record {
                seen = old.seen;
                mine = λ k d lt. absurd (omega arith);
                ticket = λ t k. absurd (none_some k);
                served = λ e. absurd (true≢false (sym e));
                out = λ e. absurd (true≢false (sym e));
                number = λ _. omega arith;
                join = λ x k. absurd (none_some k);
              })))
              (at_end left r u j e);
          pairs = λ i j a b ne ei ej. ⊎_elim
              (λ t. ⊎_elim (λ q. pairs_left i j a b ne t q) (λ q. subst (λ z. AreApart a z) q.1 (apart_turned r a (new a)))
              (at_end left r b j ej))
              (λ t. ⊎_elim (λ q. subst (λ z. AreApart z b) t.1 (new b)) (λ q. absurd (ne (t.0 ∙ sym q.0))) (at_end left r b j ej))
              (at_end left r a i ei);
          place = placed_end history s.words s.homes left r refl h.log (placed_set history s id v l at inside inside h.log s.words h.place);
        };
        passes = passes_split h.log s.views whole.passes id v at alive;
      }

  -- two passes are joined_view
  pub joins : (id : ℕ) (v : View E) (other : ℕ) (w : View E) → v.live ≡ true → w.live ≡ true → v.out ≡ false → w.out ≡ false → w.ticket ≡ None
      → Joins (Holds history) id v other w (joined_view v w) spent_view
  joins id v other w alive alive' inside inside' bare s whole at ne at' =
      let h = whole.turns in
      let there : get_elem? s.views other ≡ some w = ⊎_elim (λ t. absurd (ne t.0)) (λ t. t.1) (at_set s.views id other
      (joined_view v w) w at') in
      let fv = h.each id v at in
      let fw = h.each other w there in
      let p = h.pairs id other v w (λ k. ne (sym k)) at there in
      let none_waits : tickets_of w ≡ 0 = ap one_ticket bare in
      let spent : AreInTurn history record { words = s.words; homes = s.homes; views = set s.views other spent_view } =
      holds_set history s h other w spent_view there s.words s.homes h.log h.from h.to h.long h.ticket h.serving h.count
      (omega arith)
      (λ l. absurd (true≢false (sym l)))
      (record {
        seen = (h.log, refl);
        mine = λ k d lt. absurd (omega arith);
        ticket = λ t k. absurd (none_some k);
        served = λ e. absurd (true≢false (sym e));
        out = λ e. absurd (true≢false (sym e));
        number = λ e. absurd (true≢false (sym e));
        join = λ x k. absurd (none_some k);
      })
      (λ j u ne e f. f)
      (λ j u ne e. record { tickets = λ t k. absurd (none_some k); places = λ k c. absurd (contains_nothing k c) })
      (placed_set history s other w spent_view there inside' refl h.log s.words h.place) in
      let s' : State (Option V) (View E) = record { words = s.words; homes = s.homes; views = set s.views other spent_view } in
      let at2 : get_elem? s'.views id ≡ some v = set_else s.views other id spent_view (λ k. ne (sym k)) ∙ at in
      let near_each : AreComparable v.seen w.seen = comparable h.log v.seen w.seen fv.seen fw.seen in
      let b : View E = joined_view v w in
      let done : AreInTurn history record { words = s.words; homes = s.homes; views = set s'.views id b } =
      holds_set history s' spent id v b at2 s.words s.homes spent.log spent.from spent.to spent.long spent.ticket spent.serving spent.count
      (omega arith)
      (λ l. (l, refl))
      (record {
        seen = longer_begins spent.log v.seen w.seen fv.seen fw.seen;
        mine = (let le = longer_length v.seen w.seen near_each in
            All-append (λ k. k < length (longer_of v.seen w.seen)) v.mine w.mine (all_more (length v.seen) _ v.mine le.0 fv.mine)
            (all_more (length w.seen) _ w.mine le.1 fw.mine));
        ticket = fv.ticket;
        served = fv.served;
        out = λ e. absurd (true≢false (sym e ∙ inside));
        number = fv.number;
        join = λ x k. subst (λ (z : BeforeJoin E). Agrees z) (some_is k) (near_each, p.places);
      })
      (λ j u ne e f. f)
      (λ j u ne' e. ⊎_elim
      (λ t. subst (λ z. AreApart b z) t.1 (record {
        tickets = λ t k l. absurd (none_some l);
        places = λ k a c. absurd
            (contains_nothing k c);
      }))
      (λ t.
      let pv = h.pairs id j v u (λ k. ne' (sym k)) at t.1 in
      let pw = h.pairs other j w u (λ k. t.0 (sym k)) there t.1 in
      record { tickets = pv.tickets; places = disjoint_append v.mine w.mine u.mine pv.places pw.places })
      (at_set s.views other j spent_view u e))
      (placed_set history s' id v b at2 inside inside spent.log s.words spent.place) in
      let turn = set_comm s.views other id spent_view b ne in
      let joined : Holds history record { words = s.words; homes = s.homes; views = set s'.views id b } = record {
        turns = done;
        passes = subst (λ vs. AreAllThere h.log vs) (sym turn)
            (passes_join h.log s.views whole.passes id v other w at there ne alive alive' near_each);
      } in
      subst (λ vs. Holds history record { words = s.words; homes = s.homes; views = vs }) turn joined

  -- what two joined_view passes had in common
  pub learns : (slots id : ℕ) (me : Me (Option V) (View E)) → Allows (Holds history) slots id me 0 (λ n. n) (λ _ after. Learns me after)
  learns slots id me s whole sized at fits =
      let h = whole.turns in
      let P : List ℕ → List (View E) → Type 0 = λ ws vs. Holds history record { words = ws; homes = s.homes; views = vs } in (
        me.0,
        keeps,
        tt,
        subst (λ ws. P ws (set s.views id me.0)) (sym (set-get_or s.words 0 0)) (subst (λ vs. P s.words vs) (sym
            (set_again s.views id me.0 at)) whole),
        (refl, (h.each id me.0 at).join, (h.each id me.0 at).mine),
      )

  -- the lock as it is made
  pub opens : (x : V) (n : ℕ) → n ≡ length (history x) → Holds history (opening (0 ∷ 0 ∷ n ∷ []) (Some x ∷ []) (first_view (history x)))
  opens x n counted = record {
    turns = record {
      log = history x;
      from = 0;
      to = 0;
      long = refl;
      ticket = refl;
      serving = refl;
      count = counted;
      busy = refl;
      few = omega arith;
      first = λ u e _. ap (λ (z : View E). z.splits + 1) (only 0 u e).1;
      each = λ j u e. (let o = only j u e in
          subst (λ k. Fits (history x) 0 0 k u) (sym o.0) (subst (λ z. Fits (history x) 0 0 0 z) o.1 (record {
            seen = starts_itself (history x);
            mine = λ k d lt. absurd (omega arith);
            ticket = λ t k. absurd (none_some k);
            served = λ e. absurd (true≢false (sym e));
            out = λ e. absurd (true≢false (sym e));
            number = λ _. refl;
            join = λ x k. absurd (none_some k);
          })));
      pairs = λ i j a b ne ei ej. absurd (ne ((only i a ei).0 ∙ sym (only j b ej).0));
      place = inl (x, refl, refl, λ j u e. ap (λ (z : View E). z.out) (sym (only j u e).1));
    };
    passes = passes_open (history x);
  }
    where
      only : (j : ℕ) (u : View E) → get_elem? (first_view (history x) ∷ []) j ≡ some u → (j ≡ 0) × (first_view (history x) ≡ u)
      only zero u e = (refl, some-injective (first_view (history x)) u e)
      only (suc j) u e = absurd (some-ne-none u (sym e))

  -- the value that is found at the end
  pub closes : (id : ℕ) (v : View E) (t : ℕ) → v.ticket ≡ Some t → v.served ≡ true → v.out ≡ false
      → (ws : List ℕ) (xs : List (Option V)) → Final (Seen (Holds history) id v) ws xs
      → (x : V) × (get_elem? xs 0 ≡ some (Some x)) × StartsWith (history x) v.seen × ((turn : TableId) → KnowsAll (history x) (known_of turn v))
  closes id v t has served inside ws xs final =
      let s = final.0 in
      let whole = final.1.0 in
      let h = whole.turns in
      let at = final.1.1 in
      let f = h.each id v at in
      let p = at_home history s h id v at inside (f.served served) in (
        p.0,
        final.4 0 (Some p.0) (ap (λ (hs : List (mathlib.Core.Option.Option (Option V))). get_elem? hs 0) p.1),
        (
          f.seen.0,
          p.2
              ∙ f.seen.1,
        ),
        λ turn (first : v.number ≡ 0) (all : v.splits ≤ v.joined).
            let alive = (whole.passes.each id v at).alive t has in
            let home : id ≡ 0 = sym (f.number alive) ∙ first in
            let count : length s.views ≡ v.splits + 1 = h.first v (ap (λ k. get_elem? s.views k) (sym home) ∙ at) alive in
            let many : length s.views ≤ v.joined + 1 = omega arith in (
              p.2 ∙ has_seen_all h.log s.views whole.passes id v at alive many f.seen f.mine,
              λ k from below. owns_all h.log s.views whole.passes id v at alive many k from (subst (λ l. k < length l) p.2 below),
            ),
      )

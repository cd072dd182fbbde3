-- The eligible items are of the bank, and the sessions are at most as many as the plan allows.
use Rattle.std.proofs.Common.{◌≡◌, ℕ, zero, suc, ◌+◌, ◌%◌, ◌≤◌, ◌<◌, Bool, true, false, cond, ◌==◌, List, [], ◌∷◌, ◌++◌, sym, ap, ◌∙◌, arith, nat_lt, get_or, Some}
use Rattle.std.specs.Option.{option_map}
use Rattle.std.proofs.Math.Bool.{true≢false}
use Rattle.std.proofs.lemmas.Bool.{ltb-true}
use Rattle.std.proofs.lemmas.Nat.Bits.{bit_at-zero}
use Rattle.bank_tables.specs.Items.{Set, has}
use Rattle.bank_tables.specs.Sums.{count_in}
use Rattle.bank_tables.specs.Tables.{Tables, size}
use Rattle.serving_model.specs.declared.seat.Seat.{Seat}
use Rattle.form_model.specs.Plan.{Plan, bands_of}
use Rattle.serving_model.specs.Seats.{eligible_in}
use Rattle.form_model.proofs.SumLaws.{and_true}
use Rattle.history_model.specs.declared.entry.Entry.{Entry}
use Rattle.history_model.specs.declared.entry.Without.{Without}
use Rattle.history_model.specs.declared.entry.Entry.TheVariants.{Started, SetAside, Served, Answered, Closed}
use Rattle.history_model.specs.Entries.{sessions, seat_of}
use Rattle.history_model.specs.Places.{is_finished}
use Rattle.history_model.specs.Legality.{Legal, empty, more}
use Rattle.history_model.specs.Laws.{raised, seat_with, EligibleIsOfBank, SessionsAreFew, FinishedAreFew}
use Rattle.history_model.proofs.Pushed.{sessions-push}
use Rattle.history_model.proofs.Running.{the_seat_goes_on}

no_item : (i : ℕ) → has [] i ≡ false
unfolding has
no_item i = ap (λ (bit : ℕ). bit == 1) (bit_at-zero (i % 64))

pub no_set : (k i : ℕ) → has (get_or [] k []) i ≡ false
no_set k i = no_item i

module _ (b : Tables) (plan : Plan) (H : List Entry) (s k : ℕ) (before : (i : ℕ) → eligible_in (seat_of H s) k i ≡ true → i < size b) where
  of_bank : (e : Entry) → Legal b plan H e → (i : ℕ) → eligible_in (seat_with s (seat_of H s) e) k i ≡ true → i < size b
  of_bank (Started session booking eligible without) legal i = by (session == s)
    where
      by : (this : Bool) → (let seat : Seat = cond this (record (seat_of H s) { eligible = eligible.sets; without = option_map (λ (list : Without). list.items) without; form = option_map (λ (list : Without). list.form) without }) (seat_of H s) in eligible_in seat k i ≡ true) → i < size b
      by true h = ltb-true i (size b) (and_true (nat_lt i (size b)) _ (and_true (nat_lt k (bands_of plan)) _ (sym (legal.drawn.each k i) ∙ h)).1).0
      by false h = before i h
  of_bank (SetAside session step band cause nodes) legal i = by (session == s)
    where
      by : (this : Bool) → (let seat : Seat = cond this (record (seat_of H s) { aside = raised (seat_of H s).aside band }) (seat_of H s) in eligible_in seat k i ≡ true) → i < size b
      by true h = before i h
      by false h = before i h
  of_bank (Served session step item form proved nodes) legal i = by (session == s)
    where
      by : (this : Bool) → (let seat : Seat = cond this (record (seat_of H s) { shown = (seat_of H s).shown ++ item ∷ []; form = Some form; proved = proved }) (seat_of H s) in eligible_in seat k i ≡ true) → i < size b
      by true h = before i h
      by false h = before i h
  of_bank (Answered session step response) legal i = by (session == s)
    where
      by : (this : Bool) → (let seat : Seat = cond this (record (seat_of H s) { responses = (seat_of H s).responses ++ response ∷ [] }) (seat_of H s) in eligible_in seat k i ≡ true) → i < size b
      by true h = before i h
      by false h = before i h
  of_bank (Closed session) legal i = by (session == s)
    where
      by : (this : Bool) → (let seat : Seat = cond this (record (seat_of H s) { closed = true }) (seat_of H s) in eligible_in seat k i ≡ true) → i < size b
      by true h = before i h
      by false h = before i h

pub eligible_is_of_bank : EligibleIsOfBank
eligible_is_of_bank b plan H s k empty i h = absurd (true≢false (sym h ∙ no_set k i))
eligible_is_of_bank b plan H s k (more before e run legal) i h =
    of_bank b plan before s k (eligible_is_of_bank b plan before s k run) e legal i (ap (λ (seat : Seat). eligible_in seat k i) (sym (the_seat_goes_on b plan before e s run legal)) ∙ h)

few_more : (b : Tables) (plan : Plan) (H : List Entry) (e : Entry) → sessions H ≤ plan.sessions → Legal b plan H e → sessions (H ++ e ∷ []) ≤ plan.sessions
few_more b plan H (Started session booking eligible without) few legal = let m = sessions-push H (Started session booking eligible without) in let n = legal.number.next in let w = legal.number.within in omega arith
few_more b plan H (SetAside session step band cause nodes) few legal = let m = sessions-push H (SetAside session step band cause nodes) in omega arith
few_more b plan H (Served session step item form proved nodes) few legal = let m = sessions-push H (Served session step item form proved nodes) in omega arith
few_more b plan H (Answered session step response) few legal = let m = sessions-push H (Answered session step response) in omega arith
few_more b plan H (Closed session) few legal = let m = sessions-push H (Closed session) in omega arith

pub sessions_are_few : SessionsAreFew
sessions_are_few b plan H empty = omega arith
sessions_are_few b plan H (more before e run legal) = few_more b plan before e (sessions_are_few b plan before run) legal

at_most_all : (n : ℕ) (X : Set) → count_in n X (λ _. true) ≤ n
at_most_all zero X = omega arith
at_most_all (suc n) X = let before = at_most_all n X in elim (X n) as (λ t. count_in n X (λ _. true) + cond t 1 0 ≤ suc n) [ true ↦ omega arith | false ↦ omega arith ]

pub finished_are_few : FinishedAreFew
finished_are_few plan H = at_most_all (sessions H) (is_finished plan H)

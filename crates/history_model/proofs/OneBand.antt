-- A plan without points has one band, whose counts are those in all.
use Rattle.std.proofs.Common.{◌≡◌, ℕ, zero, suc, ◌+◌, Bool, true, false, ◌&&◌, ◌||◌, ◌==◌, List, [], ◌∷◌, length, refl, sym, ap, ◌∙◌}
use Rattle.std.specs.Prelude.{count_by, nat_le, slice_index_or}
use Rattle.std.specs.List.{list_any}
use Rattle.bank_tables.specs.Items.{Set}
use Rattle.bank_tables.specs.Sums.{count_in, any_below}
use Rattle.bank_tables.specs.Tables.{Tables}
use Rattle.serving_model.specs.declared.seat.Seat.{Seat}
use Rattle.form_model.specs.Plan.{Plan, band_of}
use Rattle.serving_model.specs.Seats.{band_at, visits}
use Rattle.history_model.specs.declared.counts.Counts.{Counts}
use Rattle.history_model.specs.declared.entry.Entry.{Entry}
use Rattle.history_model.specs.Entries.{sessions, seat_of}
use Rattle.history_model.specs.Places.{is_finished}
use Rattle.history_model.specs.Counts.{finished_with, shows, opens, shows_in, opens_in}
use Rattle.history_model.specs.Laws.{OneBandIsAll}

same_counts : (a b c d : ℕ) → a ≡ c → b ≡ d → (let x : Counts = record { alpha = a; eps = b } in let y : Counts = record { alpha = c; eps = d } in x ≡ y)
same_counts a b c d e f = cc

or_assoc : (s t u : Bool) → ((s || t) || u) ≡ (s || (t || u))
or_assoc true t u = refl
or_assoc false t u = refl

or_swap : (t : Bool) → (false || t) ≡ (t || false)
or_swap true = refl
or_swap false = refl

-- the first number can be tested first
any_front : (n : ℕ) (p : Set) → any_below (suc n) p ≡ (p 0 || any_below n (λ k. p (suc k)))
any_front zero p = or_swap (p 0)
any_front (suc n) p = ap (λ (t : Bool). t || p (suc n)) (any_front n p) ∙ or_assoc (p 0) (any_below n (λ k. p (suc k))) (p (suc n))

and_is : (s t : Bool) → t ≡ true → (s && t) ≡ s
and_is true t is = is
and_is false t is = refl

-- an element of the list, by its places
any_place : (xs : List ℕ) (i : ℕ) (q : Set) → ((k : ℕ) → q k ≡ true) → any_below (length xs) (λ k. (slice_index_or xs k 0 == i) && q k) ≡ list_any (λ x. x == i) xs
any_place [] i q all = refl
any_place (x ∷ xs) i q all =
    any_front (length xs) (λ k. (slice_index_or (x ∷ xs) k 0 == i) && q k)
    ∙ (ap (λ (t : Bool). t || any_below (length xs) (λ k. (slice_index_or xs k 0 == i) && q (suc k))) (and_is (x == i) (q 0) (all 0))
    ∙ ap (λ (t : Bool). (x == i) || t) (any_place xs i (λ k. q (suc k)) (λ k. all (suc k))))

same_number : (n : ℕ) (X p q : Set) → ((s : ℕ) → p s ≡ q s) → count_in n X p ≡ count_in n X q
same_number zero X p q same = refl
same_number (suc n) X p q same = rw (same_number n X p q same, same n) refl

module _ (b : Tables) (plan : Plan) (none : plan.bands ≡ []) where
  only : (g : ℕ) → (band_of plan g == 0) ≡ true
  only g = ap (λ (points : List ℕ). count_by (λ point. nat_le point g) points == 0) none

  visits_it : (seat : Seat) → visits b plan seat 0 ≡ true
  visits_it seat = ap (λ (t : Bool). t || any_below (length seat.shown) (λ step. band_at b plan seat step == 0)) (only _)

  shows_there : (i : ℕ) (seat : Seat) → shows_in b plan 0 i seat ≡ shows i seat
  shows_there i seat = any_place seat.shown i (λ step. band_at b plan seat step == 0) (λ step. only _)

  opens_there : (i : ℕ) (seat : Seat) → opens_in b plan 0 i seat ≡ opens b plan i seat
  opens_there i seat = ap (λ (points : List ℕ). any_below (length points + 1) (λ band. opens_in b plan band i seat)) (sym none)

  same_finished : (H : List Entry) (one other : Seat → Bool) → ((seat : Seat) → one seat ≡ other seat) → finished_with plan H one ≡ finished_with plan H other
  same_finished H one other same = same_number (sessions H) (is_finished plan H) (λ s. one (seat_of H s)) (λ s. other (seat_of H s)) (λ s. same (seat_of H s))

pub one_band_is_all : OneBandIsAll
one_band_is_all b plan H i none = (
  same_counts _ _ _ _
      (same_finished b plan none H (shows_in b plan 0 i) (shows i) (shows_there b plan none i))
      (same_finished b plan none H (opens_in b plan 0 i) (opens b plan i) (opens_there b plan none i)),
  same_finished b plan none H (λ seat. visits b plan seat 0) (λ seat. true) (visits_it b plan none),
)

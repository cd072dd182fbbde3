-- The counts are those of the seats that the entries make.
use Rattle.std.proofs.Common.{◌≡◌, ℕ, zero, suc, ◌<◌, Bool, cond, List, refl, ap, ◌∙◌, arith}
use Rattle.bank_tables.specs.Items.{Set}
use Rattle.bank_tables.specs.Sums.{count_in}
use Rattle.bank_tables.specs.Tables.{Tables}
use Rattle.form_model.specs.Plan.{Plan}
use Rattle.serving_model.specs.declared.seat.Seat.{Seat}
use Rattle.history_model.specs.declared.counts.Counts.{Counts}
use Rattle.history_model.specs.declared.entry.Entry.{Entry}
use Rattle.history_model.specs.Counts.{finished_with, shows, opens, shows_in, opens_in, band_counts, counts}
use Rattle.history_model.specs.Entries.{sessions, seat_of}
use Rattle.history_model.specs.Legality.{LegalRun}
use Rattle.history_model.specs.Places.{is_finished}
use Rattle.headline_model.specs.Counts.{over_with, counts_in, counts_of}
use Rattle.headline_model.specs.Sessions.{seat_after, is_over}
use Rattle.headline_model.proofs.Seats.{seat_is, finished_is}

abbrev term : Set → Set → ℕ → ℕ
term X p t = cond (X t) (cond (p t) 1 0) 0

same_sum : (n : ℕ) (X p Y q : Set) → ((t : ℕ) → t < n → term X p t ≡ term Y q t) → count_in n X p ≡ count_in n Y q
same_sum zero X p Y q same = refl
same_sum (suc n) X p Y q same = let before = same_sum n X p Y q (λ t w. same t (omega arith)) in let here = same n (omega arith) in omega arith

pub over_is : (b : Tables) (plan : Plan) (H : List Entry) (test : Seat → Bool) → LegalRun b plan H → finished_with plan H test ≡ over_with plan H test
over_is b plan H test run =
    same_sum (sessions H) (λ s. is_finished plan H s) (λ s. test (seat_of H s)) (λ s. is_over plan (seat_after H s)) (λ s. test (seat_after H s))
    (λ t w. ap (λ (c : Bool). cond c (cond (test (seat_of H t)) 1 0) 0) (finished_is b plan H t run w)
    ∙ ap (λ (seat : Seat). cond (is_over plan (seat_after H t)) (cond (test seat) 1 0) 0) (seat_is b plan H t run))

counts_by : (x y z w : ℕ) → x ≡ y → z ≡ w → ◌≡◌ {A = Counts} (record { alpha = x; eps = z }) (record { alpha = y; eps = w })
counts_by x y z w e f = ap (λ (n : ℕ). record { alpha = n; eps = z }) e ∙ ap (λ (n : ℕ). record { alpha = y; eps = n }) f

pub counts_in_is : (b : Tables) (plan : Plan) (H : List Entry) (band i : ℕ) → LegalRun b plan H → band_counts b plan H band i ≡ counts_in b plan H band i
counts_in_is b plan H band i run = counts_by _ _ _ _ (over_is b plan H (shows_in b plan band i) run) (over_is b plan H (opens_in b plan band i) run)

pub counts_is : (b : Tables) (plan : Plan) (H : List Entry) (i : ℕ) → LegalRun b plan H → counts b plan H i ≡ counts_of b plan H i
counts_is b plan H i run = counts_by _ _ _ _ (over_is b plan H (shows i) run) (over_is b plan H (opens b plan i) run)

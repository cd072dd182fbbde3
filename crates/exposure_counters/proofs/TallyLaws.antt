-- A session more at the end of a list.
use Rattle.std.proofs.Common.{◌≡◌, ℕ, ◌+◌, Bool, cond, List, [], ◌∷◌, ◌++◌, sym, ap, ◌∙◌, arith, length-append}
use Rattle.std.specs.Prelude.{count_by}
use Rattle.std.proofs.lemmas.List.Sums.{sum_by-append}
use Rattle.bank_tables.specs.Items.{Set}
use Rattle.exposure_counters.specs.Tallies.{Tally, counts_at, counted, FinishedSession, IsTallyOf}

count_more : (p : FinishedSession → Bool) (xs : List FinishedSession) (x : FinishedSession) → count_by p (xs ++ x ∷ []) ≡ count_by p xs + cond (p x) 1 0
count_more p xs x = omega (arith, sum_by-append (λ (y : FinishedSession). cond (p y) 1 0) xs (x ∷ []))

pub one_more : (old new : Tally) (X Y : Set) → ((i : ℕ) → counts_at new i ≡ counted (counts_at old i) (X i) (Y i)) → new.finished ≡ old.finished + 1
    → (sessions : List FinishedSession) → IsTallyOf sessions old → IsTallyOf (sessions ++ record { shown = X; eligible = Y } ∷ []) new
one_more old new X Y each next sessions tally =
    let session : FinishedSession = record { shown = X; eligible = Y } in
    let number = length-append sessions (session ∷ []) in
    let before = tally.number in
    record {
      alpha = λ i. ap (λ c. c.alpha) (each i) ∙ (ap (λ (n : ℕ). n + cond (X i) 1 0) (tally.alpha i) ∙ sym (count_more (λ (s : FinishedSession). s.shown i) sessions session));
      eps = λ i. ap (λ c. c.eps) (each i) ∙ (ap (λ (n : ℕ). n + cond (Y i) 1 0) (tally.eps i) ∙ sym (count_more (λ (s : FinishedSession). s.eligible i) sessions session));
      number = omega arith;
    }

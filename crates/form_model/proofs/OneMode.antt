-- A list of answers has at most one posterior mode.
use Rattle.std.proofs.Common.{◌≡◌, ℕ, ◌<◌, inl, inr, List, ℤ, ◌≤ℤ◌, ◌<ℤ◌, arith}
use Rattle.std.proofs.lemmas.Int.{ints}
use Rattle.std.proofs.lemmas.Bool.{cases_lt}
use Rattle.bank_tables.specs.Tables.{Tables}
use Rattle.form_model.specs.Ability.{AnswerList, log_posterior, IsPosteriorMode}

not_below : (b : Tables) (prior : List ℤ) (A : AnswerList) (g h : ℕ) → IsPosteriorMode b prior A g → IsPosteriorMode b prior A h → g < h → ⊥
not_below b prior A g h m n lt =
    let low : log_posterior b prior A g <ℤ log_posterior b prior A h = n.lowest g lt in
    let high : log_posterior b prior A h ≤ℤ log_posterior b prior A g = m.greatest h n.within in
    omega (arith, ints)

pub one_mode : (b : Tables) (prior : List ℤ) (A : AnswerList) (g h : ℕ) → IsPosteriorMode b prior A g → IsPosteriorMode b prior A h → g ≡ h
one_mode b prior A g h m n = elim (cases_lt g h) [ inl lt ↦ absurd (not_below b prior A g h m n lt) | inr le ↦ elim (cases_lt h g) [ inl lt ↦ absurd (not_below b prior A h g n m lt) | inr ge ↦ omega arith ] ]

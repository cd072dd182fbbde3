-- Sets that a loop collects.
use Rattle.std.proofs.Common.{◌≡◌, ℕ, ◌+◌, ◌<◌, ◌≤◌, inl, inr, Bool, true, false, not, ◌&&◌, ◌||◌, ◌==◌, nat_lt, ◌∙◌, refl, sym, ap, arith}
use Rattle.std.proofs.lemmas.Bool.{lt-ltb, le-ltb, cases_lt, cases_eq, eq-eqb, ne_eqb}
use Rattle.form_model.proofs.SumLaws.{either}
use Rattle.bank_tables.specs.Items.{Set}

-- X are the numbers below n that pass
pub record IsCollected (n : ℕ) (test X : Set) : Type 0 where
  pub same : (j : ℕ) → X j ≡ (nat_lt j n && test j)

swapped : (a b : Bool) → (a && not b) ≡ (not b && a)
swapped true true = refl
swapped true false = refl
swapped false true = refl
swapped false false = refl

pub both_tests : (a b a' b' : Bool) → a ≡ a' → b ≡ b' → (a && not b) ≡ (not b' && a')
both_tests a b a' b' e f = ap (λ (x : Bool). x && not b) e ∙ ap (λ (x : Bool). a' && not x) f ∙ swapped a' b'

-- once the loop is past each number that passes, the set has these
pub all_collected : (n i : ℕ) (test X : Set) → n ≤ i → IsCollected i test X → ((j : ℕ) → test j ≡ true → j < n) → (j : ℕ) → X j ≡ test j
all_collected n i test X past is below j =
    elim (either (test j)) [
      | inl passes ↦
          let w : j < n = below j passes in
          let w' : j < i = omega arith in
          is.same j ∙ ap (λ (b : Bool). b && test j) (lt-ltb j i w')
      | inr fails ↦ is.same j ∙ ap (λ (b : Bool). nat_lt j i && b) fails ∙ none (nat_lt j i) ∙ sym fails
    ]
  where
    none : (b : Bool) → (b && false) ≡ false
    none true = refl
    none false = refl

-- the next number passes and goes in, or fails and stays out
before_or_not : (i j : ℕ) (ne : (j ≡ i) → ⊥) → nat_lt j i ≡ nat_lt j (i + 1)
before_or_not i j ne =
    elim (cases_lt j i) [
      | inl before ↦ lt-ltb j i before ∙ sym (lt-ltb j (i + 1) (omega arith))
      | inr past ↦
          let w : i + 1 ≤ j = omega arith in
          le-ltb j i past ∙ sym (le-ltb j (i + 1) w)
    ]

pub taken_one : (i : ℕ) (test X X' : Set) → IsCollected i test X → test i ≡ true → ((j : ℕ) → X' j ≡ (j == i || X j)) → IsCollected (i + 1) test X'
taken_one i test X X' is passes more =
    record {
      same = λ j.
          elim (cases_eq j i) [
            | inl here ↦
                let w : j < i + 1 = omega arith in
                more j ∙ ap (λ (b : Bool). b || X j) (eq-eqb j i here) ∙ sym (ap (λ (b : Bool). b && test j) (lt-ltb j (i + 1) w) ∙ ap test here ∙ passes)
            | inr ne ↦ more j ∙ ap (λ (b : Bool). b || X j) (ne_eqb j i ne) ∙ is.same j ∙ ap (λ (b : Bool). b && test j) (before_or_not i j ne)
          ];
    }

pub skipped_one : (i : ℕ) (test X : Set) → IsCollected i test X → test i ≡ false → IsCollected (i + 1) test X
skipped_one i test X is fails =
    record {
      same = λ j.
          elim (cases_eq j i) [
            | inl here ↦
                let w : j < i + 1 = omega arith in
                let out : test j ≡ false = ap test here ∙ fails in
                is.same j ∙ ap (λ (b : Bool). nat_lt j i && b) out ∙ no_and (nat_lt j i) ∙ sym (ap (λ (b : Bool). nat_lt j (i + 1) && b) out ∙ no_and (nat_lt j (i + 1)))
            | inr ne ↦ is.same j ∙ ap (λ (b : Bool). b && test j) (before_or_not i j ne)
          ];
    }
  where
    no_and : (b : Bool) → (b && false) ≡ false
    no_and true = refl
    no_and false = refl

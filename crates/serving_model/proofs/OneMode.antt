-- A form has at most one next item.
use Rattle.std.proofs.Common.{◌≡◌, ℕ, inl, inr, arith}
use Rattle.std.proofs.lemmas.Bool.{cases_lt}
use Rattle.bank_tables.specs.Items.{Set}
use Rattle.form_model.specs.Problem.{Problem}
use Rattle.serving_model.specs.Serving.{IsNext}

pub one_next : (P : Problem) (X : Set) (i j : ℕ) → IsNext P X i → IsNext P X j → i ≡ j
one_next P X i j m n = elim (cases_lt i j) [
  | inl lt ↦ absurd (omega (arith, n.lowest i m.candidate lt, m.greatest j n.candidate))
  | inr le ↦ elim (cases_lt j i) [ inl lt ↦ absurd (omega (arith, m.lowest j n.candidate lt, n.greatest i m.candidate)) | inr ge ↦ omega arith ]
]

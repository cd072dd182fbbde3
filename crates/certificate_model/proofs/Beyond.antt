-- Past the last row number no row is impossible.
use Rattle.std.proofs.Common.{◌≡◌, ℕ, zero, suc, ◌+◌, ◌≤◌, inl, inr, true, length, arith, nat_lt}
use Rattle.std.proofs.lemmas.Bool.{ltb-true, and_parts}
use Rattle.form_model.specs.Problem.{Problem}
use Rattle.form_model.specs.Forms.{stimuli_of}
use Rattle.certificate_model.specs.Paths.{Path}
use Rattle.certificate_model.specs.Counting.{is_impossible}
use Rattle.form_model.proofs.SumLaws.{either}

pub impossible_within : (P : Problem) (p : Path) (r : ℕ) → is_impossible P p r ≡ true → r ≤ length P.plan.rows + stimuli_of P.bank
unfolding is_impossible
impossible_within P p zero e = omega arith
impossible_within P p (suc r) e =
    elim (either (nat_lt r (length P.plan.rows))) [
      | inl row ↦ omega (arith, ltb-true _ _ row)
      | inr beyond ↦ omega (arith, ltb-true _ _ (and_parts (nat_lt r (length P.plan.rows + stimuli_of P.bank)) _ (rw beyond at e)).0)
    ]

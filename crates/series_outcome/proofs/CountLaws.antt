-- Rows by number, and the rows of the forms one after the other.
use Rattle.std.proofs.Common.{◌≡◌, ℕ, zero, suc, ◌+◌, ◌<◌, ◌≤◌, ◌⊎◌, false, length, nat_lt, refl, arith}
use Rattle.std.proofs.lemmas.Bool.{le-ltb}
use Rattle.bank_tables.specs.Tables.{Tables, size, stimulus}
use Rattle.bank_tables.specs.Validity.{IsBank}
use Rattle.bank_tables.proofs.BankLaws.{greatest_at_most}
use Rattle.certificate_model.specs.Counting.{is_impossible}
use Rattle.certificate_model.specs.Paths.{Path}
use Rattle.form_model.specs.Forms.{stimuli_of}
use Rattle.form_model.specs.Problem.{Problem}

-- past the rows and stimuli none is impossible
pub past_rows : (P : Problem) (p : Path) (r : ℕ) → length P.plan.rows + stimuli_of P.bank < r → is_impossible P p r ≡ false
unfolding is_impossible
past_rows P p zero past = absurd (omega arith)
past_rows P p (suc r) past =
    let rows : nat_lt r (length P.plan.rows) ≡ false = le-ltb r (length P.plan.rows) (omega arith) in
    let stimuli : nat_lt r (length P.plan.rows + stimuli_of P.bank) ≡ false = le-ltb r (length P.plan.rows + stimuli_of P.bank) (omega arith) in
    rw (rows, stimuli) refl

pub few_stimuli : (b : Tables) → IsBank b → stimuli_of b ≤ 64
few_stimuli b bank = greatest_at_most (size b) 64 (stimulus b) bank.stimulus_high

pub last_or : (i n : ℕ) → i < n + 1 → (i < n) ⊎ (i ≡ n)
last_or i n w = grind arith

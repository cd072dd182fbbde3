-- Five items of which the three best are enemies of one another: a bank, a plan, and a form of it.
use Rattle.std.proofs.Common.{◌≡◌, ℕ, zero, suc, ◌<◌, inl, inr, true, false, ◌==◌, [], ◌∷◌, pos, negsuc, None, Some, refl, sym, arith}
use Rattle.std.specs.Prelude.{replicate}
use Rattle.std.proofs.Math.Dec.{lit≤}
use Rattle.std.proofs.Math.Bool.{true≢false}
use Rattle.std.proofs.lemmas.Bool.{eqb-true}
use Rattle.bank_tables.specs.Items.{has}
use Rattle.bank_tables.specs.Faults.{bank_fault, item_fault}
use Rattle.bank_tables.specs.Tables.{Tables, Item}
use Rattle.bank_tables.specs.Validity.{IsBank}
use Rattle.bank_tables.proofs.BankLaws.{bank_is}
use Rattle.form_model.specs.declared.row.Row.TheVariants.{Enemies}
use Rattle.form_model.specs.Plan.{Plan, row_at}
use Rattle.form_model.specs.Problem.{Problem, whole}
use Rattle.form_model.specs.Forms.{Form, Firm, HoldsAllButOne, objective}
use Rattle.form_model.specs.Validity.{IsRow, IsPlanFor}
use Rattle.form_model.proofs.SumLaws.{or_true, or_left}
use Rattle.form_model.proofs.Computed.{these, these_below, one_word, word_below, logliks_are, form_is}

-- ---- the bank and the plan
unfoldable pub item_e : ℕ → Item
item_e info = record { stimulus = 0; categories = 2; quantities = []; info = info ∷ []; loglik = negsuc 0 ∷ negsuc 0 ∷ [] }

unfoldable pub bank_e : Tables
unfolding item_e
bank_e = record { grid = 1; quantities = 0; items = item_e 10 ∷ item_e 9 ∷ item_e 8 ∷ item_e 2 ∷ item_e 1 ∷ [] }

is_bank_e : IsBank bank_e
unfolding bank_e item_e bank_fault item_fault
is_bank_e = bank_is bank_e refl

-- two items, and no two of 0, 1 and 2
unfoldable pub plan_e : Plan
plan_e =
    record {
      length = 2;
      prior = pos 0 ∷ [];
      rows = Enemies (one_word 3) ∷ Enemies (one_word 6) ∷ Enemies (one_word 5) ∷ [];
      bounds = [];
      rate = record { num = 1; den = 1 };
      key = replicate 32 0;
      bands = [];
      budget = 1;
      base_budget = 4095;
      sessions = 1000;
      journal = 67108864;
      base = None;
    }

is_plan_e : IsPlanFor bank_e plan_e
unfolding bank_e item_e plan_e has
is_plan_e =
    record {
      some_items = lit≤ tt;
      few_items = lit≤ tt;
      prior_number = refl;
      prior_range = logliks_are (pos 0 ∷ []) refl;
      few_rows = lit≤ tt;
      rows = rows;
      each_stimulus = refl;
      some_low = λ s first last. absurd (omega arith);
      low_high = λ s first last. absurd (omega arith);
      high = λ s first last. absurd (omega arith);
      some_rate = lit≤ tt;
      rate = lit≤ tt;
      rate_high = lit≤ tt;
      bands = record { few = lit≤ tt; some = λ k w. absurd (omega arith); within = λ k w. absurd (omega arith); rising = λ j k w v. absurd (omega arith) };
      budget = record { uneven = refl; high = lit≤ tt };
      base_budget = record { uneven = refl; high = lit≤ tt };
      some_sessions = lit≤ tt;
      few_sessions = lit≤ tt;
      journal_low = lit≤ tt;
      journal_high = lit≤ tt;
      base_meets = λ words e. absurd (cc);
    }
  where
    rows : (r : ℕ) → r < 3 → IsRow bank_e (row_at plan_e r)
    rows zero w = record { member = 0; is_member = refl; items = word_below 5 3 refl refl }
    rows (suc zero) w = record { member = 1; is_member = refl; items = word_below 5 6 refl refl }
    rows (suc (suc zero)) w = record { member = 0; is_member = refl; items = word_below 5 5 refl refl }
    rows (suc (suc (suc r))) w = absurd (omega arith)

-- the problem of the plan alone, with the form of items 0 and 3 as its start
unfoldable pub problem_e : Problem
problem_e = record (whole bank_e plan_e 0) { start = Some (these (0 ∷ 3 ∷ [])) }

form_23 : Form problem_e (these (2 ∷ 3 ∷ []))
unfolding problem_e bank_e item_e plan_e has
form_23 = form_is problem_e (these (2 ∷ 3 ∷ [])) (these_below 5 (2 ∷ 3 ∷ []) refl) (λ i e. absurd (cc)) refl

objectives_e : (objective problem_e (these (0 ∷ 3 ∷ [])) ≡ 12) × (objective problem_e (these (2 ∷ 4 ∷ [])) ≡ 9) × (objective problem_e (these (2 ∷ 3 ∷ [])) ≡ 10)
unfolding problem_e bank_e item_e
objectives_e = (refl, refl, refl)

not_firm_24 : Firm problem_e (these (2 ∷ 4 ∷ [])) → ⊥
not_firm_24 firm =
    let least = firm.exchanges (these (2 ∷ 3 ∷ [])) form_23 exchange in
    omega (arith, objectives_e.1, objectives_e.2)
  where
    kept : (i : ℕ) → these (2 ∷ 4 ∷ []) i ≡ true → (i ≡ 4 → ⊥) → these (2 ∷ 3 ∷ []) i ≡ true
    kept i e other =
        elim (or_true (2 == i) _ e) [
          | inl two ↦ or_left (2 == i) _ two
          | inr rest ↦ elim (or_true (4 == i) false rest) [ inl four ↦ absurd (other (sym (eqb-true 4 i four))) | inr none ↦ absurd (true≢false (sym none)) ]
        ]

    exchange : HoldsAllButOne (these (2 ∷ 4 ∷ [])) (these (2 ∷ 3 ∷ []))
    exchange = record { exchanged = 4; others = kept }

-- Six items without stimuli: a bank, a plan, a form, and sets that are none.
use Rattle.std.proofs.Common.{◌≡◌, ℕ, zero, suc, ◌<◌, List, [], ◌∷◌, ℤ, pos, negsuc, None, Some, refl, arith}
use Rattle.std.specs.Prelude.{replicate}
use Rattle.std.proofs.Math.Dec.{lit≤}
use Rattle.bank_tables.specs.Items.{has}
use Rattle.bank_tables.specs.Faults.{bank_fault, item_fault}
use Rattle.bank_tables.specs.Tables.{Tables, Item}
use Rattle.bank_tables.specs.Validity.{IsBank}
use Rattle.bank_tables.proofs.BankLaws.{bank_is}
use Rattle.form_model.specs.declared.row.Row.{Row}
use Rattle.form_model.specs.declared.row.Row.TheVariants.{Count, Enemies}
use Rattle.form_model.specs.declared.breach.Breach.TheVariants.{Row as RowBreach, Length}
use Rattle.form_model.specs.Plan.{Plan, row_at}
use Rattle.form_model.specs.Problem.{Problem, whole}
use Rattle.form_model.specs.Forms.{RowHolds, objective}
use Rattle.form_model.specs.Breaches.{IsFirstBreach}
use Rattle.form_model.specs.Ability.{IsPosteriorMode}
use Rattle.form_model.specs.Validity.{IsRow, IsPlanFor, IsWhole}
use Rattle.form_model.proofs.Computed.{these, these_below, one_word, word_below, logliks_are, mode_is}

-- ---- the bank
unfoldable pub item_a : List ℕ → List ℤ → Item
item_a info loglik = record { stimulus = 0; categories = 2; quantities = []; info = info; loglik = loglik }

-- log-likelihoods of -7 at each of six places
unfoldable pub sevens : List ℤ
sevens = negsuc 6 ∷ negsuc 6 ∷ negsuc 6 ∷ negsuc 6 ∷ negsuc 6 ∷ negsuc 6 ∷ []

unfoldable pub bank_a : Tables
unfolding item_a sevens
bank_a =
    record {
      grid = 3;
      quantities = 0;
      items =
          item_a (9 ∷ 5 ∷ 1 ∷ []) sevens
          ∷ item_a (7 ∷ 8 ∷ 2 ∷ []) sevens
          ∷ item_a (4 ∷ 9 ∷ 3 ∷ []) (negsuc 6 ∷ negsuc 6 ∷ negsuc 6 ∷ negsuc 29 ∷ negsuc 14 ∷ negsuc 0 ∷ [])
          ∷ item_a (2 ∷ 6 ∷ 8 ∷ []) sevens
          ∷ item_a (1 ∷ 4 ∷ 9 ∷ []) (pos 0 ∷ negsuc 0 ∷ negsuc 19 ∷ negsuc 6 ∷ negsuc 6 ∷ negsuc 6 ∷ [])
          ∷ item_a (3 ∷ 7 ∷ 5 ∷ []) sevens
          ∷ [];
    }

is_bank_a : IsBank bank_a
unfolding bank_a item_a sevens bank_fault item_fault
is_bank_a = bank_is bank_a refl

-- ---- the plan: three items, one of 0 and 1, and not both of 2 and 5
unfoldable pub plan_of_rows : List Row → Plan
plan_of_rows rows =
    record {
      length = 3;
      prior = negsuc 9 ∷ pos 0 ∷ negsuc 9 ∷ [];
      rows = rows;
      bounds = [];
      rate = record { num = 1; den = 1 };
      key = replicate 32 0;
      bands = [];
      budget = 2001;
      base_budget = 4095;
      sessions = 1000;
      journal = 67108864;
      base = None;
    }

unfoldable pub plan_a : Plan
unfolding plan_of_rows
plan_a = plan_of_rows (Count (one_word 3) 1 1 ∷ Enemies (one_word 36) ∷ [])

is_plan_a : IsPlanFor bank_a plan_a
unfolding bank_a item_a plan_of_rows plan_a has
is_plan_a =
    record {
      some_items = lit≤ tt;
      few_items = lit≤ tt;
      prior_number = refl;
      prior_range = logliks_are (negsuc 9 ∷ pos 0 ∷ negsuc 9 ∷ []) refl;
      few_rows = lit≤ tt;
      rows = rows;
      each_stimulus = refl;
      some_low = λ s first last. absurd (omega arith);
      low_high = λ s first last. absurd (omega arith);
      high = λ s first last. absurd (omega arith);
      some_rate = lit≤ tt;
      rate = lit≤ tt;
      rate_high = lit≤ tt;
      bands = record { few = lit≤ tt; some = λ k w. absurd (omega arith); within = λ k w. absurd (omega arith); rising = λ j k w v. absurd (omega arith) };
      budget = record { uneven = refl; high = lit≤ tt };
      base_budget = record { uneven = refl; high = lit≤ tt };
      some_sessions = lit≤ tt;
      few_sessions = lit≤ tt;
      journal_low = lit≤ tt;
      journal_high = lit≤ tt;
      base_meets = λ words e. absurd (cc);
    }
  where
    rows : (r : ℕ) → r < 2 → IsRow bank_a (row_at plan_a r)
    rows zero w = (lit≤ tt, lit≤ tt, record { member = 0; is_member = refl; items = word_below 6 3 refl refl })
    rows (suc zero) w = record { member = 2; is_member = refl; items = word_below 6 36 refl refl }
    rows (suc (suc r)) w = absurd (omega arith)

-- ---- the problem that has only the plan: the mode of the prior is point 1
unfoldable pub problem_a : Problem
problem_a = whole bank_a plan_a 1

prior_mode_a : IsPosteriorMode bank_a plan_a.prior [] 1
unfolding bank_a plan_of_rows plan_a
prior_mode_a = mode_is bank_a plan_a.prior [] 1 refl

whole_a : IsWhole bank_a plan_a problem_a
unfolding problem_a
whole_a = record { theta = 1; mode = prior_mode_a; is = refl }

objective_123 : (objective problem_a (these (1 ∷ 2 ∷ 3 ∷ [])) ≡ 23) × (objective problem_a (these (1 ∷ 2 ∷ 5 ∷ [])) ≡ 24)
unfolding problem_a bank_a item_a
objective_123 = (refl, refl)

breach_125 : IsFirstBreach problem_a (these (1 ∷ 2 ∷ 5 ∷ [])) (Some (RowBreach 1 2))
unfolding problem_a bank_a item_a plan_of_rows plan_a has
breach_125 = (
  record { in_bank = these_below 6 (1 ∷ 2 ∷ 5 ∷ []) refl; n_items = refl },
  before,
  lit≤ tt,
  λ holds. absurd (let high = holds.high in omega arith),
  refl,
)
  where
    before : (q : ℕ) → q < 1 → RowHolds bank_a plan_a (these (1 ∷ 2 ∷ 5 ∷ [])) q
    before zero w = record { low = lit≤ tt; high = lit≤ tt }
    before (suc q) w = absurd (omega arith)

-- a set with an item beyond the bank hasn't the length, though it has three items
breach_beyond : IsFirstBreach problem_a (these (1 ∷ 2 ∷ 6 ∷ [])) (Some (Length 3))
unfolding problem_a bank_a item_a plan_of_rows plan_a Rattle.bank_tables.specs.Sums.size_of
breach_beyond = (λ right. absurd (let w = right.in_bank 6 refl in omega arith), refl)

-- Five items, three of them of one stimulus: a bank and a plan.
use Rattle.std.proofs.Common.{ℕ, zero, suc, ◌≤◌, ◌<◌, List, [], ◌∷◌, ℤ, pos, negsuc, None, refl, arith}
use Rattle.std.specs.Prelude.{replicate}
use Rattle.std.proofs.Math.Dec.{lit≤}
use Rattle.bank_tables.specs.Faults.{bank_fault, item_fault}
use Rattle.bank_tables.specs.Tables.{Tables, Item}
use Rattle.bank_tables.specs.Validity.{IsBank}
use Rattle.bank_tables.proofs.BankLaws.{bank_is}
use Rattle.form_model.specs.Plan.{Plan, bound_at}
use Rattle.form_model.specs.Validity.{IsPlanFor}
use Rattle.form_model.proofs.Computed.{logliks_are}

-- ---- the bank and the plan
unfoldable pub item_s : ℕ → List ℕ → List ℤ → Item
item_s stimulus info loglik = record { stimulus = stimulus; categories = 2; quantities = []; info = info; loglik = loglik }

unfoldable pub ones : List ℤ
ones = negsuc 0 ∷ negsuc 0 ∷ negsuc 0 ∷ negsuc 0 ∷ []

unfoldable pub bank_s : Tables
unfolding item_s ones
bank_s =
    record {
      grid = 2;
      quantities = 0;
      items =
          item_s 1 (9 ∷ 1 ∷ []) ones
          ∷ item_s 1 (3 ∷ 1 ∷ []) ones
          ∷ item_s 1 (2 ∷ 90 ∷ []) ones
          ∷ item_s 0 (8 ∷ 1 ∷ []) (negsuc 0 ∷ negsuc 0 ∷ negsuc 8 ∷ negsuc 0 ∷ [])
          ∷ item_s 0 (7 ∷ 1 ∷ []) ones
          ∷ [];
    }

is_bank_s : IsBank bank_s
unfolding bank_s item_s ones bank_fault item_fault
is_bank_s = bank_is bank_s refl

-- four items; stimulus 1 has two or three of them, or none
unfoldable pub plan_s : Plan
plan_s =
    record {
      length = 4;
      prior = pos 0 ∷ negsuc 0 ∷ [];
      rows = [];
      bounds = record { low = 2; high = 3 } ∷ [];
      rate = record { num = 1; den = 1 };
      key = replicate 32 0;
      bands = [];
      budget = 2001;
      base_budget = 4095;
      sessions = 1000;
      journal = 67108864;
      base = None;
    }

is_plan_s : IsPlanFor bank_s plan_s
unfolding bank_s item_s plan_s
is_plan_s =
    record {
      some_items = lit≤ tt;
      few_items = lit≤ tt;
      prior_number = refl;
      prior_range = logliks_are (pos 0 ∷ negsuc 0 ∷ []) refl;
      few_rows = lit≤ tt;
      rows = λ r w. absurd (omega arith);
      each_stimulus = refl;
      some_low = some_low;
      low_high = low_high;
      high = high;
      some_rate = lit≤ tt;
      rate = lit≤ tt;
      rate_high = lit≤ tt;
      bands = record { few = lit≤ tt; some = λ k w. absurd (omega arith); within = λ k w. absurd (omega arith); rising = λ j k w v. absurd (omega arith) };
      budget = record { uneven = refl; high = lit≤ tt };
      base_budget = record { uneven = refl; high = lit≤ tt };
      some_sessions = lit≤ tt;
      few_sessions = lit≤ tt;
      journal_low = lit≤ tt;
      journal_high = lit≤ tt;
      base_meets = λ words e. absurd (cc);
    }
  where
    some_low : (s : ℕ) → 0 < s → s ≤ 1 → 0 < (bound_at plan_s s).low
    some_low zero first last = absurd (omega arith)
    some_low (suc zero) first last = lit≤ tt
    some_low (suc (suc s)) first last = absurd (omega arith)

    low_high : (s : ℕ) → 0 < s → s ≤ 1 → (bound_at plan_s s).low ≤ (bound_at plan_s s).high
    low_high zero first last = absurd (omega arith)
    low_high (suc zero) first last = lit≤ tt
    low_high (suc (suc s)) first last = absurd (omega arith)

    high : (s : ℕ) → 0 < s → s ≤ 1 → (bound_at plan_s s).high ≤ 512
    high zero first last = absurd (omega arith)
    high (suc zero) first last = lit≤ tt
    high (suc (suc s)) first last = absurd (omega arith)

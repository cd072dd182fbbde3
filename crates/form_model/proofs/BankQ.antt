-- Four items of ten words each, and room for fifteen words in a test of two: a bank and a plan.
use Rattle.std.proofs.Common.{ℕ, zero, suc, ◌<◌, [], ◌∷◌, length, pos, negsuc, None, refl, arith}
use Rattle.std.specs.Prelude.{replicate}
use Rattle.std.proofs.Math.Dec.{lit≤}
use Rattle.bank_tables.specs.Items.{has}
use Rattle.bank_tables.specs.Faults.{bank_fault, item_fault}
use Rattle.bank_tables.specs.Tables.{Tables, Item}
use Rattle.bank_tables.specs.Validity.{IsBank}
use Rattle.bank_tables.proofs.BankLaws.{bank_is}
use Rattle.form_model.specs.declared.row.Row.TheVariants.{Quantity}
use Rattle.form_model.specs.Plan.{Plan, row_at}
use Rattle.form_model.specs.Validity.{IsRow, IsPlanFor}
use Rattle.form_model.proofs.Computed.{one_word, word_below, logliks_are}

unfoldable pub item_q : Item
item_q = record { stimulus = 0; categories = 2; quantities = 10 ∷ []; info = 5 ∷ []; loglik = negsuc 0 ∷ negsuc 0 ∷ [] }

unfoldable pub bank_q : Tables
unfolding item_q
bank_q = record { grid = 1; quantities = 1; items = item_q ∷ item_q ∷ item_q ∷ item_q ∷ [] }

is_bank_q : IsBank bank_q
unfolding bank_q item_q bank_fault item_fault
is_bank_q = bank_is bank_q refl

unfoldable pub plan_q : Plan
plan_q =
    record {
      length = 2;
      prior = pos 0 ∷ [];
      rows = Quantity 0 (one_word 15) 0 15 ∷ [];
      bounds = [];
      rate = record { num = 1; den = 1 };
      key = replicate 32 0;
      bands = [];
      budget = 2001;
      base_budget = 4095;
      sessions = 1000;
      journal = 67108864;
      base = None;
    }

is_plan_q : IsPlanFor bank_q plan_q
unfolding bank_q item_q plan_q has
is_plan_q =
    record {
      some_items = lit≤ tt;
      few_items = lit≤ tt;
      prior_number = refl;
      prior_range = logliks_are (pos 0 ∷ []) refl;
      few_rows = lit≤ tt;
      rows = rows;
      each_stimulus = refl;
      some_low = λ s first last. absurd (omega arith);
      low_high = λ s first last. absurd (omega arith);
      high = λ s first last. absurd (omega arith);
      some_rate = lit≤ tt;
      rate = lit≤ tt;
      rate_high = lit≤ tt;
      bands = record { few = lit≤ tt; some = λ k w. absurd (omega arith); within = λ k w. absurd (omega arith); rising = λ j k w v. absurd (omega arith) };
      budget = record { uneven = refl; high = lit≤ tt };
      base_budget = record { uneven = refl; high = lit≤ tt };
      some_sessions = lit≤ tt;
      few_sessions = lit≤ tt;
      journal_low = lit≤ tt;
      journal_high = lit≤ tt;
      base_meets = λ words e. absurd (cc);
    }
  where
    rows : (r : ℕ) → r < 1 → IsRow bank_q (row_at plan_q r)
    rows zero w = (lit≤ tt, lit≤ tt, record { member = 0; is_member = refl; items = word_below 4 15 refl refl }, lit≤ tt)
    rows (suc r) w = absurd (omega arith)

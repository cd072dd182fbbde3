-- Six items, three of them one passage that is taken whole or not at all: a bank, a plan, and a
-- form of it.
use Rattle.std.proofs.Common.{◌≡◌, ℕ, [], ◌∷◌, pos, negsuc, None, refl}
use Rattle.std.specs.Prelude.{replicate}
use Rattle.bank_tables.specs.Tables.{Tables, Item}
use Rattle.form_model.specs.Plan.{Plan}
use Rattle.form_model.specs.Problem.{Problem, whole}
use Rattle.form_model.specs.Forms.{Form, objective}
use Rattle.form_model.proofs.Computed.{these, these_below, form_is}

-- ---- the bank and the plan
unfoldable pub item_c : ℕ → ℕ → Item
item_c stimulus info = record { stimulus = stimulus; categories = 2; quantities = []; info = info ∷ []; loglik = negsuc 0 ∷ negsuc 0 ∷ [] }

-- the passage has information 9, 1 and 1, the items alone 5, 4 and 4
unfoldable pub bank_c : Tables
unfolding item_c
bank_c = record { grid = 1; quantities = 0; items = item_c 1 9 ∷ item_c 1 1 ∷ item_c 1 1 ∷ item_c 0 5 ∷ item_c 0 4 ∷ item_c 0 4 ∷ [] }

-- three items; the passage has all three of its items in the form, or none
unfoldable pub plan_c : Plan
plan_c =
    record {
      length = 3;
      prior = pos 0 ∷ [];
      rows = [];
      bounds = record { low = 3; high = 3 } ∷ [];
      rate = record { num = 1; den = 1 };
      key = replicate 32 0;
      bands = [];
      budget = 2001;
      base_budget = 4095;
      sessions = 1000;
      journal = 67108864;
      base = None;
    }

unfoldable pub problem_c : Problem
problem_c = whole bank_c plan_c 0

form_012 : Form problem_c (these (0 ∷ 1 ∷ 2 ∷ []))
unfolding problem_c bank_c item_c plan_c
form_012 = form_is problem_c (these (0 ∷ 1 ∷ 2 ∷ [])) (these_below 6 (0 ∷ 1 ∷ 2 ∷ []) refl) (λ i e. absurd (cc)) refl

objectives : (objective problem_c (these (3 ∷ 4 ∷ 5 ∷ [])) ≡ 13) × (objective problem_c (these (0 ∷ 1 ∷ 2 ∷ [])) ≡ 11)
unfolding problem_c bank_c item_c
objectives = (refl, refl)

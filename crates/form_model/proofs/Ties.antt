-- Ties: the estimate is the lowest grid point; a bank whose items have the same information.
use Rattle.std.proofs.Common.{[], ◌∷◌, pos, negsuc, None, refl, arith}
use Rattle.std.specs.Prelude.{replicate}
use Rattle.std.proofs.lemmas.Int.{ints}
use Rattle.std.proofs.Math.Dec.{lit≤}
use Rattle.bank_tables.specs.Faults.{bank_fault, item_fault}
use Rattle.bank_tables.specs.Tables.{Tables, Item}
use Rattle.bank_tables.specs.Validity.{IsBank}
use Rattle.bank_tables.proofs.BankLaws.{bank_is}
use Rattle.form_model.specs.declared.row.Row.TheVariants.{Count}
use Rattle.form_model.specs.Plan.{Plan}
use Rattle.form_model.specs.Problem.{Problem, whole}
use Rattle.form_model.specs.Ability.{IsPosteriorMode}
use Rattle.form_model.proofs.Computed.{one_word, mode_is}

-- ---- the estimate is the lowest point of the greatest sum
unfoldable pub three_points : Tables
three_points = record { grid = 3; quantities = 0; items = [] }

lowest_of_three : IsPosteriorMode three_points (negsuc 3 ∷ negsuc 3 ∷ negsuc 3 ∷ []) [] 0
unfolding three_points
lowest_of_three = mode_is three_points (negsuc 3 ∷ negsuc 3 ∷ negsuc 3 ∷ []) [] 0 refl

lowest_of_two : IsPosteriorMode three_points (negsuc 4 ∷ negsuc 3 ∷ negsuc 3 ∷ []) [] 1
unfolding three_points
lowest_of_two = mode_is three_points (negsuc 4 ∷ negsuc 3 ∷ negsuc 3 ∷ []) [] 1 refl

not_the_highest : IsPosteriorMode three_points (negsuc 4 ∷ negsuc 3 ∷ negsuc 3 ∷ []) [] 2 → ⊥
unfolding three_points
not_the_highest is = let less = is.lowest 1 (lit≤ tt) in omega (arith, ints)

-- past the grid there is no point, whatever the list has there
not_past_the_grid : IsPosteriorMode three_points (negsuc 4 ∷ negsuc 3 ∷ negsuc 3 ∷ pos 9 ∷ []) [] 3 → ⊥
unfolding three_points
not_past_the_grid is = let w = is.within in omega arith

-- ---- three items of information 5: two items, one of them item 0
unfoldable pub item_t : Item
item_t = record { stimulus = 0; categories = 2; quantities = []; info = 5 ∷ []; loglik = negsuc 0 ∷ negsuc 0 ∷ [] }

unfoldable pub bank_t : Tables
unfolding item_t
bank_t = record { grid = 1; quantities = 0; items = item_t ∷ item_t ∷ item_t ∷ [] }

is_bank_t : IsBank bank_t
unfolding bank_t item_t bank_fault item_fault
is_bank_t = bank_is bank_t refl

unfoldable pub plan_t : Plan
plan_t =
    record {
      length = 2;
      prior = pos 0 ∷ [];
      rows = Count (one_word 1) 1 1 ∷ [];
      bounds = [];
      rate = record { num = 1; den = 1 };
      key = replicate 32 0;
      bands = [];
      budget = 2001;
      base_budget = 4095;
      sessions = 1000;
      journal = 67108864;
      base = None;
    }

unfoldable pub problem_t : Problem
problem_t = whole bank_t plan_t 0

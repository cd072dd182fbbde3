-- The first fault of a draft.
use Rattle.std.proofs.Common.{◌≡◌, ℕ, zero, suc, Bool, true, false, Option, Some, None, List, length, get_or, ◌+◌, subst, refl}
use Rattle.exam_text.specs.First.{fault_where, ◌orelse◌, first_below}
use Rattle.bank_tables.specs.Tables.{Tables}
use Rattle.form_model.specs.declared.row.Row.{Row}
use Rattle.form_model.specs.declared.row.Row.TheVariants.{Count, Quantity, Enemies, Stimuli}
use Rattle.form_model.specs.Plan.{Plan, row_at, no_bound}
use Rattle.form_model.specs.Forms.{stimuli_of}
use Rattle.constraint_model.specs.declared.spec_fault.SpecFault.{SpecFault}
use Rattle.constraint_model.specs.declared.spec_fault.SpecFault.TheVariants.{Length, BadPrior, TooManyRows, RowBounds, EmptySet, BadItem, BadQuantity, BadStimulus, BadRate, BadBands, BadBudget, BadLimit, BadBase, Memory}
use Rattle.constraint_model.specs.Faults.{set_fault, row_fault, front_fault, bound_fault, bounds_fault, limits_fault, numbers_fault, IsSpecFault}

-- the tests of numbers give neither a breach of the base nor lack of memory
abbrev IsOfNumbers : SpecFault → Type 0
IsOfNumbers (BadBase breach) = ⊥
IsOfNumbers Memory = ⊥
IsOfNumbers fault = Unit {0}

record GivesNumbers (found : Option SpecFault) : Type 0 where
  each : (fault : SpecFault) → found ≡ Some fault → IsOfNumbers fault

where_gives : (b : Bool) (fault : SpecFault) → IsOfNumbers fault → GivesNumbers (fault_where b fault)
where_gives true fault h = record { each = λ other e. let same : fault ≡ other = cc in subst IsOfNumbers same h }
where_gives false fault h = record { each = λ other e. absurd cc }

orelse_gives : (a b : Option SpecFault) → GivesNumbers a → GivesNumbers b → GivesNumbers (a orelse b)
orelse_gives None b h k = k
orelse_gives (Some fault) b h k = h

first_gives : (n : ℕ) (f : ℕ → Option SpecFault) → ((i : ℕ) → GivesNumbers (f i)) → GivesNumbers (first_below n f)
first_gives zero f h = record { each = λ fault e. absurd cc }
first_gives (suc n) f h = orelse_gives (first_below n f) (f n) (first_gives n f h) (h n)

set_gives : (b : Tables) (r : ℕ) (set : List ℕ) → GivesNumbers (set_fault b r set)
set_gives b r set = orelse_gives _ _ (where_gives _ (EmptySet r) tt) (where_gives _ (BadItem r) tt)

row_gives : (b : Tables) (r : ℕ) (row : Row) → GivesNumbers (row_fault b r row)
unfolding row_fault
row_gives b r (Count set low high) = orelse_gives _ _ (where_gives _ (RowBounds r) tt) (set_gives b r set)
row_gives b r (Quantity which set low high) = orelse_gives _ _ (where_gives _ (RowBounds r) tt) (orelse_gives _ _ (set_gives b r set) (where_gives _ (BadQuantity r) tt))
row_gives b r (Enemies set) = set_gives b r set
row_gives b r (Stimuli low high) = where_gives _ (RowBounds r) tt

front_gives : (b : Tables) (plan : Plan) → GivesNumbers (front_fault b plan)
unfolding front_fault
front_gives b plan =
    orelse_gives _ _ (where_gives _ Length tt)
    (orelse_gives _ _ (where_gives _ BadPrior tt)
    (orelse_gives _ _ (where_gives _ TooManyRows tt)
    (first_gives (length plan.rows) (λ r. row_fault b r (row_at plan r)) (λ r. row_gives b r (row_at plan r)))))

bounds_gives : (b : Tables) (plan : Plan) → GivesNumbers (bounds_fault b plan)
unfolding bounds_fault
bounds_gives b plan =
    orelse_gives _ _ (where_gives _ (BadStimulus (length plan.bounds + 1)) tt)
    (orelse_gives _ _ (where_gives _ (BadStimulus (stimuli_of b + 1)) tt)
    (first_gives (stimuli_of b) (λ k. bound_fault (k + 1) (get_or plan.bounds k no_bound)) (λ k. where_gives _ (BadStimulus (k + 1)) tt)))

limits_gives : (b : Tables) (plan : Plan) → GivesNumbers (limits_fault b plan)
unfolding limits_fault
limits_gives b plan =
    orelse_gives _ _ (where_gives _ BadRate tt)
    (orelse_gives _ _ (where_gives _ BadBands tt)
    (orelse_gives _ _ (where_gives _ BadBudget tt) (where_gives _ BadLimit tt)))

numbers_give : (b : Tables) (plan : Plan) → GivesNumbers (numbers_fault b plan)
numbers_give b plan = orelse_gives _ _ (front_gives b plan) (orelse_gives _ _ (bounds_gives b plan) (limits_gives b plan))

-- so the fault that they give is the first
pub numbers_first : (b : Tables) (plan : Plan) (fault : SpecFault) → numbers_fault b plan ≡ Some fault → IsSpecFault b plan fault
numbers_first b plan (BadBase breach) e = absurd ((numbers_give b plan).each (BadBase breach) e)
numbers_first b plan Memory e = (numbers_give b plan).each Memory e
numbers_first b plan fault e = e

-- past the tests of the front only the others are left
pub after_front : (b : Tables) (plan : Plan) → front_fault b plan ≡ None → numbers_fault b plan ≡ (bounds_fault b plan orelse limits_fault b plan)
after_front b plan e = rw e refl

-- a fault of the front is the first
pub front_first : (b : Tables) (plan : Plan) (fault : SpecFault) → front_fault b plan ≡ Some fault → IsSpecFault b plan fault
front_first b plan fault e = numbers_first b plan fault (rw e refl)

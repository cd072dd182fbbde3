-- Rows that are impossible by counting.
use Rattle.std.specs.Prelude.{ℕ, zero, suc, ◌+◌, ◌-◌, ◌<◌, Bool, IsTrue, IsFalse, ◌&&◌, ◌||◌, length, nat_lt, if◌then◌else◌, Option, Some, None}
use Rattle.bank_tables.specs.Items.{Set}
use Rattle.form_model.specs.declared.row.Row.{Row}
use Rattle.form_model.specs.Plan.{row_at, bound_at}
use Rattle.form_model.specs.Problem.{Problem}
use Rattle.form_model.specs.Forms.{activity, lower_bound, upper_bound, items_of, stimuli_of, size_in}
use Rattle.certificate_model.specs.Paths.{Path, is_free, is_chosen, is_open}

-- the items taken or free
abbrev pub taken_or_free : Problem → Path → Set
taken_or_free P p i = p.taken i || is_free P p i

-- the stimuli chosen or open
abbrev pub chosen_or_open : Problem → Path → Set
chosen_or_open P p s = is_chosen P p s || is_open P p s

-- more items are taken than the test has, or fewer are taken or free
abbrev pub length_impossible : Problem → Path → Bool
length_impossible P p = nat_lt P.plan.length (size_in P.bank p.taken)
    || nat_lt (size_in P.bank (taken_or_free P p)) P.plan.length

-- what is taken exceeds the upper bound, or what is taken or free is below the lower
abbrev pub row_impossible : Problem → Path → Row → Bool
row_impossible P p row = nat_lt (upper_bound row) (activity P.bank row p.taken (is_chosen P p))
    || nat_lt (activity P.bank row (taken_or_free P p) (chosen_or_open P p)) (lower_bound row)

-- the same for the items of a stimulus, which has no lower bound unless it is chosen
abbrev pub stimulus_impossible : Problem → Path → ℕ → Bool
stimulus_impossible P p s = nat_lt (bound_at P.plan s).high (items_of P.bank s p.taken)
    || (is_chosen P p s && nat_lt (items_of P.bank s (taken_or_free P p)) (bound_at P.plan s).low)

-- rows by number: 0 is the length, then the rows of the plan, then the stimuli; there is none past
-- these
unfoldable pub is_impossible : Problem → Path → ℕ → Bool
is_impossible P p zero = length_impossible P p
is_impossible P p (suc r) =
    if nat_lt r (length P.plan.rows) then row_impossible P p (row_at P.plan r)
    else (nat_lt r (length P.plan.rows + stimuli_of P.bank)
    && stimulus_impossible P p (suc r - length P.plan.rows))

-- the lowest row that is impossible by counting, or none
abbrev pub IsFirstImpossible : Problem → Path → Option ℕ → Type 0
IsFirstImpossible P p None = (r : ℕ) → IsFalse (is_impossible P p r)
IsFirstImpossible P p (Some r) =
    IsTrue (is_impossible P p r) × ((q : ℕ) → q < r → IsFalse (is_impossible P p q))

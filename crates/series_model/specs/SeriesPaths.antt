-- A path of branches through the lists of sets (branch and bound over several forms).
use Rattle.std.specs.Prelude.{ℕ, ◌*◌, ◌<◌, Bool, true, false, not, ◌&&◌, ◌||◌, ◌==◌, nat_lt, IsTrue, IsFalse}
use Rattle.bank_tables.specs.Items.{Set}
use Rattle.bank_tables.specs.Sums.{any_below}
use Rattle.bank_tables.specs.Tables.{size}
use Rattle.form_model.specs.Forms.{size_in}
use Rattle.form_model.specs.Problem.{Problem, whole}
use Rattle.certificate_model.specs.Paths.{Path, is_free}
use Rattle.series_model.specs.Series.{SeriesProblem, Forms, IsSeries}

-- the items in each form, those put out of it, and the items that are used: each is to be in some
-- form
pub record SeriesPath : Type 0 where
  pub taken : ℕ → Set
  pub out : ℕ → Set
  pub used : Set

abbrev pub root : SeriesPath
root = record { taken = λ _ _. false; out = λ _ _. false; used = λ _. false }

-- the problem that each form is to meet: the plan alone; the grid point of an estimate plays no
-- part
abbrev pub form_problem : SeriesProblem → Problem
form_problem Q = whole Q.bank Q.plan 0

-- the item is in another form than f
abbrev pub in_another : SeriesProblem → SeriesPath → ℕ → Set
in_another Q p f i = any_below Q.forms (λ g. not (g == f) && p.taken g i)

-- the path of one form: an item that is in another form is out of it
abbrev pub form_path : SeriesProblem → SeriesPath → ℕ → Path
form_path Q p f = record { taken = p.taken f; out = λ i. p.out f i || in_another Q p f i; branched_on = λ _. false }

-- the item is neither in the form nor out of it
abbrev pub is_free_in : SeriesProblem → SeriesPath → ℕ → Set
is_free_in Q p f = is_free (form_problem Q) (form_path Q p f)

-- a branch on an item and a form: it is in that form, and so out of the others, or it is put out of
-- that form
abbrev pub with_form : SeriesPath → ℕ → ℕ → Bool → SeriesPath
with_form p f i true = record p { taken = λ g j. (g == f && j == i) || p.taken g j }
with_form p f i false = record p { out = λ g j. (g == f && j == i) || p.out g j }

-- the item is in some form
abbrev pub is_placed : SeriesProblem → SeriesPath → Set
is_placed Q p i = any_below Q.forms (λ f. p.taken f i)

-- the item is free in some form
abbrev pub is_live : SeriesProblem → SeriesPath → Set
is_live Q p i = any_below Q.forms (λ f. is_free_in Q p f i)

-- a branch on the use of an item: it is used, or it is put out of each form
abbrev pub with_use : SeriesProblem → SeriesPath → ℕ → Bool → SeriesPath
with_use Q p i true = record p { used = λ j. j == i || p.used j }
with_use Q p i false = record p { out = λ f j. (nat_lt f Q.forms && j == i) || p.out f j }

-- a used item is in no form and free in none
abbrev pub is_use_lost : SeriesProblem → SeriesPath → Bool
is_use_lost Q p = any_below (size Q.bank) (λ i. p.used i && not (is_placed Q p i || is_live Q p i))

-- more items are in a form or used than the forms have
abbrev pub are_uses_many : SeriesProblem → SeriesPath → Bool
are_uses_many Q p = nat_lt (Q.forms * Q.plan.length) (size_in Q.bank (λ i. is_placed Q p i || p.used i))

-- S is a series on the path p
pub record OnPath (Q : SeriesProblem) (p : SeriesPath) (S : Forms) : Type 0 where
  pub series : IsSeries Q S
  pub holds_taken : (f i : ℕ) → f < Q.forms → IsTrue (p.taken f i) → IsTrue (S f i)
  pub holds_no_out : (f i : ℕ) → f < Q.forms → IsTrue (p.out f i) → IsFalse (S f i)
  pub holds_used : (i : ℕ) → IsTrue (p.used i) → (f : ℕ) × (f < Q.forms) × IsTrue (S f i)

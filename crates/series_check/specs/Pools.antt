-- The relaxed maximum of the pool in parts, one for each form.
use Rattle.std.specs.Prelude.{◌≡◌, ℕ, suc, ◌+◌, ◌*◌, ◌<◌, ◌⊎◌, Bool, cond, not, ◌&&◌, ◌||◌, IsTrue, Option, Some, None, ℤ, pos, ◌+ℤ◌, ◌*ℤ◌, ◌-ℤ◌, ◌≤ℤ◌}
use Rattle.bank_tables.specs.Items.{Set, has}
use Rattle.bank_tables.specs.Sums.{any_below, sum_in_z, total_z}
use Rattle.bank_tables.specs.Tables.{Tables, size}
use Rattle.form_model.specs.Forms.{size_in, stimuli_of}
use Rattle.certificate_model.specs.Counting.{taken_or_free}
use Rattle.certificate_model.specs.Ranges.{IsWithin, at}
use Rattle.certificate_model.specs.Relaxed.{Multipliers, multiplier}
use Rattle.certificate_model.specs.Weights.{price, rows_constant}
use Rattle.certificate_check.specs.Tops.{IsTopOf}
use Rattle.series_model.specs.Series.{SeriesProblem}
use Rattle.series_model.specs.SeriesBounds.{multipliers_of, uses}
use Rattle.series_model.specs.SeriesPaths.{SeriesPath, form_problem, form_path}
use Rattle.series_model.specs.SeriesPools.{length_side}
use Rattle.series_check.specs.Gains.{gain_of}
use Rattle.series_check.specs.Maximum.{weight_at}
use Rattle.series_check.specs.Tops.{item_top}
use Rattle.series_check.specs.declared.pool.Part.{Part}

-- what a form adds beside its items is no further from 0
abbrev pub share_top : ℕ
share_top = 100000000000000000000000

-- nor is the same of all forms
abbrev pub rest_top : ℕ
rest_top = 500000000000000000000000

-- the multipliers of the rows and stimuli of form f
abbrev pub own_multiplier : Multipliers → ℕ → ℕ → ℕ
own_multiplier v f = multiplier (multipliers_of f v)

-- the form has the item, or the item is free in it
abbrev pub holds : SeriesProblem → SeriesPath → ℕ → Set
holds Q p f = taken_or_free (form_problem Q) (form_path Q p f)

-- what an item counts in form f: what it weighs there, less the price of the form's length
abbrev pub count_at : SeriesProblem → Multipliers → Bool → ℕ → ℕ → ℤ
count_at Q v ray f i = weight_at Q (multiplier v) (own_multiplier v f) ray f i -ℤ price (multiplier v) (length_side f)

-- what form f adds beside its items: its length times that price, the constant of its rows, and
-- what its stimuli add
abbrev pub share_of : SeriesProblem → SeriesPath → Multipliers → ℕ → ℤ
share_of Q p v f =
    (price (multiplier v) (length_side f) *ℤ pos Q.plan.length)
    +ℤ (rows_constant (form_problem Q) (own_multiplier v f) +ℤ total_z (stimuli_of Q.bank) (λ k. gain_of (form_problem Q) (form_path Q p f) (own_multiplier v f) (suc k)))

-- the part of form f
pub record IsPart (Q : SeriesProblem) (p : SeriesPath) (v : Multipliers) (ray : Bool) (f : ℕ) (part : Part) : Type 0 where
  pub holders : (i : ℕ) → has part.holds i ≡ holds Q p f i
  pub counts : (i : ℕ) → i < size Q.bank → at part.counts i ≡ count_at Q v ray f i
  pub rest : part.rest ≡ share_of Q p v f

-- form f, below k, has item i or may have it, and the item counts c there
pub record CountsIn (Q : SeriesProblem) (p : SeriesPath) (v : Multipliers) (ray : Bool) (k i : ℕ) (c : ℤ) (f : ℕ) : Type 0 where
  pub form : f < k
  pub holder : IsTrue (holds Q p f i)
  pub count : c ≡ count_at Q v ray f i

-- the parts of the forms below k together: of each item the greatest count in a form that has it or
-- may have it
pub record IsPoolTo (Q : SeriesProblem) (p : SeriesPath) (v : Multipliers) (ray : Bool) (k : ℕ) (part : Part) : Type 0 where
  pub holders : (i : ℕ) → has part.holds i ≡ any_below k (λ f. holds Q p f i)
  pub reached : (i : ℕ) → i < size Q.bank → IsTrue (has part.holds i) → (f : ℕ) × CountsIn Q p v ray k i (at part.counts i) f
  pub greatest : (f i : ℕ) → f < k → i < size Q.bank → IsTrue (holds Q p f i) → count_at Q v ray f i ≤ℤ at part.counts i
  pub rest : part.rest ≡ pos (uses Q v) +ℤ total_z k (share_of Q p v)

-- the counts of the first n items and what is beside them are near 0
pub record IsPartNear (n top : ℕ) (part : Part) : Type 0 where
  pub counts : (i : ℕ) → i < n → IsWithin item_top (at part.counts i)
  pub rest : IsWithin top part.rest

-- what an item counts, if the form has it or may have it
abbrev pub held_count : Part → ℕ → Option ℤ
held_count part i = cond (has part.holds i) (Some (at part.counts i)) None

-- c is the greater of two counts, of those that there are; else 0
abbrev pub IsGreater : Option ℤ → Option ℤ → ℤ → Type 0
IsGreater None None c = c ≡ pos 0
IsGreater None (Some b) c = c ≡ b
IsGreater (Some a) None c = c ≡ a
IsGreater (Some a) (Some b) c = ((c ≡ a) × (b ≤ℤ a)) ⊎ ((c ≡ b) × (a ≤ℤ b))

-- two parts together
pub record IsJoined (n : ℕ) (first second part : Part) : Type 0 where
  pub holders : (i : ℕ) → has part.holds i ≡ (has first.holds i || has second.holds i)
  pub counts : (i : ℕ) → i < n → IsGreater (held_count first i) (held_count second i) (at part.counts i)
  pub within : (i : ℕ) → i < n → IsWithin item_top (at part.counts i)
  pub rest : part.rest ≡ first.rest +ℤ second.rest

-- the items that may be taken beside the sure ones
abbrev pub others_of : Part → Set → Set
others_of part sure i = has part.holds i && not (sure i)

-- r is what is beside the items, with the counts of the sure items and the greatest counts of
-- others, so many in all; without r there are not so many items
abbrev pub IsFilled : Tables → ℕ → Part → Set → Option ℤ → Type 0
IsFilled b all part sure None = (all < size_in b sure) ⊎ (size_in b sure + size_in b (others_of part sure) < all)
IsFilled b all part sure (Some r) =
    (T : Set) × (k : ℕ) × IsTopOf (size b) part.counts (others_of part sure) k T × (size_in b sure + k ≡ all)
    × (r ≡ part.rest +ℤ (sum_in_z (size b) sure (at part.counts) +ℤ sum_in_z (size b) T (at part.counts)))

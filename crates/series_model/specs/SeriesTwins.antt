-- Forms in equal state on a path, which a series may exchange (orbital branching; Ostrowski,
-- Linderoth, Rossi and Smriglio, 2011).
use Rattle.std.specs.Prelude.{ℕ, Bool, not, ◌&&◌, ◌||◌, ◌==◌, nat_lt}
use Rattle.bank_tables.specs.Items.{Set}
use Rattle.bank_tables.specs.Sums.{any_below}
use Rattle.bank_tables.specs.Tables.{size}
use Rattle.series_model.specs.Series.{SeriesProblem}
use Rattle.series_model.specs.SeriesPaths.{SeriesPath, is_free_in}

-- two sets have the same numbers below n
abbrev pub same_items : ℕ → Set → Set → Bool
same_items n X Y = not (any_below n (λ i. (X i && not (Y i)) || (not (X i) && Y i)))

-- form g has the same items and the same free items as form f
abbrev pub is_twin : SeriesProblem → SeriesPath → ℕ → ℕ → Bool
is_twin Q p f g = nat_lt g Q.forms && (same_items (size Q.bank) (p.taken f) (p.taken g) && same_items (size Q.bank) (is_free_in Q p f) (is_free_in Q p g))

-- the item is put out of the form and of each twin of it
abbrev pub without_twins : SeriesProblem → SeriesPath → ℕ → ℕ → SeriesPath
without_twins Q p f i = record p { out = λ g j. (is_twin Q p f g && j == i) || p.out g j }

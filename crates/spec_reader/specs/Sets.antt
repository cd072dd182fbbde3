-- The items of a set in words.
use Rattle.std.specs.Prelude.{ℕ, zero, suc, ◌+◌, Bool, not, ◌&&◌, if◌then◌else◌, List, [], ◌∷◌, ◌++◌, length}
use Rattle.bank_tables.specs.Items.{Set}
use Rattle.bank_tables.specs.Sums.{any_below}
use Rattle.exam_text.specs.declared.run.Run.{Run}
use Rattle.exam_text.specs.Words.{word}
use Rattle.exam_text.specs.Runs.{run_of, in_run}

-- item x is in one of the runs
unfoldable pub in_set : List (List ℕ) → Set
in_set words x = any_below (length words) (λ i. in_run x (run_of (word words i)))

-- the lowest item from which on all items below n are in X, or n if item n - 1 is not
abbrev pub start_of : Set → ℕ → ℕ
start_of X zero = 0
start_of X (suc n) = if X n then start_of X n else (n + 1)

-- item n is in X, and the next one isn't
abbrev pub is_last : Set → ℕ → Bool
is_last X n = X n && not (X (n + 1))

-- the maximal runs of X that end below n, ascending
abbrev pub runs_below : ℕ → Set → List Run
runs_below zero X = []
runs_below (suc n) X =
    if is_last X n then (runs_below n X ++ record { low = start_of X n; high = n } ∷ [])
    else runs_below n X

-- the maximal runs of a set of items, ascending
unfoldable pub runs_of : Set → List Run
runs_of X = runs_below 512 X

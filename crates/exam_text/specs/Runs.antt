-- A set of items in words: runs, ascending and apart.
use Rattle.std.specs.Prelude.{ℕ, ◌+◌, ◌≤◌, Bool, ◌&&◌, ◌==◌, nat_lt, nat_le, if◌then◌else◌, List, ◌∷◌, ◌++◌, length, zero, suc, false, take, drop, Option, Some, None, position}
use Rattle.std.specs.Option.{option_map}
use Rattle.std.specs.Fmt.{decimal}
use Rattle.exam_text.specs.First.{all_below}
use Rattle.exam_text.specs.Numbers.{number_of}
use Rattle.exam_text.specs.Words.{word}
use Rattle.exam_text.specs.declared.run.Run.{Run}

-- the word of a run: `a` for one item, `a-b` for more
abbrev pub run_word : Run → List ℕ
run_word r = if (r.low == r.high) then decimal r.low else (decimal r.low ++ 45 ∷ decimal r.high)

abbrev pub run_between : Option ℕ → Option ℕ → Option Run
run_between None b = None
run_between (Some low) None = None
run_between (Some low) (Some high) = if nat_lt low high then Some (record { low = low; high = high }) else None

-- the place of the first dash
abbrev pub dash_at : List ℕ → Option ℕ
dash_at text = position (λ b. b == 45) text

abbrev pub run_at : List ℕ → Option ℕ → Option Run
run_at text None = option_map (λ n. record { low = n; high = n }) (number_of 511 text)
run_at text (Some k) = run_between (number_of 511 (take k text)) (number_of 511 (drop (k + 1) text))

-- the run of a word: a number, or two with a dash between them, the second greater
unfoldable pub run_of : List ℕ → Option Run
run_of text = run_at text (dash_at text)

-- the run is there, and begins at `from` or later
abbrev pub is_run_from : ℕ → Option Run → Bool
is_run_from from None = false
is_run_from from (Some r) = nat_le from r.low

-- the lowest item that may follow a run
abbrev pub behind_run : Option Run → ℕ
behind_run None = 0
behind_run (Some r) = r.high + 1

-- the lowest item that the run of word i may begin with
abbrev pub behind : List (List ℕ) → ℕ → ℕ
behind words zero = 0
behind words (suc i) = behind_run (run_of (word words i))

-- word i is a run, and begins after the run of the word before it
abbrev pub fits : List (List ℕ) → ℕ → Bool
fits words i = is_run_from (behind words i) (run_of (word words i))

-- item x is in the run
abbrev pub in_run : ℕ → Option Run → Bool
in_run x None = false
in_run x (Some r) = nat_le r.low x && nat_le x r.high

-- these words are a set of items: one or more runs, ascending and apart
unfoldable pub is_set : List (List ℕ) → Bool
is_set words = nat_lt 0 (length words) && all_below (length words) (fits words)

-- the items from low to high, of those below 512
pub record IsRun (r : Run) : Type 0 where
  pub order : r.low ≤ r.high
  pub high : r.high ≤ 511

-- The grammar of a plan text, line by line: which words mean what.
use Rattle.std.specs.Prelude.{◌≡◌, ℕ, ◌+◌, ◌<◌, ◌≤◌, ◌⊎◌, true, false, IsTrue, List, [], ◌∷◌, ◌++◌, length, map, get_or, codes, Some, ℤ, pos}
use Rattle.std.specs.Fmt.{decimal, signed_decimal}
use Rattle.hex.specs.Hex.{encode_lower, IsBytes}
use Rattle.bank_tables.specs.Items.{Set}
use Rattle.bank_tables.specs.Sums.{any_below}
use Rattle.exam_text.specs.Numbers.{magnitude}
use Rattle.exam_text.specs.declared.run.Run.{Run}
use Rattle.exam_text.specs.Runs.{IsRun, run_word, in_run}
use Rattle.exam_text.specs.Words.{words_of}
use Rattle.spec_reader.specs.Rules.{Said, Length, Prior, Rate, Key, Bands, Budget, BaseBudget, Sessions, Journal, Count, Quantity, Enemies, Stimuli, Stimulus, Base}
use Rattle.spec_reader.specs.Lines.{is_skipped, mark_of, stands}

-- the greatest number that a text may write: nine digits
abbrev pub most : ℕ
most = 999999999

abbrev pub no_run : Run
no_run = record { low = 0; high = 0 }

abbrev pub run : List Run → ℕ → Run
run runs i = get_or runs i no_run

-- the items of runs
abbrev pub in_runs : List Run → Set
in_runs runs x = any_below (length runs) (λ i. in_run x (Some (run runs i)))

-- one run or more, ascending and apart
pub record AreRuns (runs : List Run) : Type 0 where
  pub some : 0 < length runs
  pub each : (i : ℕ) → i < length runs → IsRun (run runs i)
  pub apart : (i : ℕ) → i + 1 < length runs → (run runs i).high < (run runs (i + 1)).low

-- a set of items that can be written: it has one, and each is below 512
pub record IsSet (X : Set) : Type 0 where
  pub member : ℕ
  pub is_member : IsTrue (X member)
  pub few : (x : ℕ) → IsTrue (X x) → x < 512

-- these words in front, and then a set of items: a word for each of its runs
pub record WritesSet (front words : List (List ℕ)) (X : Set) : Type 0 where
  pub runs : List Run
  pub are : AreRuns runs
  pub items : (x : ℕ) → X x ≡ in_runs runs x
  pub spelling : words ≡ front ++ map run_word runs

-- these words, and numbers of at most nine digits
pub record WritesNumber (front words : List (List ℕ)) (n : ℕ) : Type 0 where
  pub small : n ≤ most
  pub spelling : words ≡ front ++ decimal n ∷ []

-- the same with two numbers
pub record WritesNumbers (front words : List (List ℕ)) (n m : ℕ) : Type 0 where
  pub first : n ≤ most
  pub second : m ≤ most
  pub spelling : words ≡ front ++ decimal n ∷ decimal m ∷ []

-- signed numbers of at most nine digits, one or more
pub record WritesPrior (words : List (List ℕ)) (values : List ℤ) : Type 0 where
  pub some : 0 < length values
  pub each : (i : ℕ) → i < length values → magnitude (get_or values i (pos 0)) ≤ most
  pub spelling : words ≡ codes "prior" ∷ map signed_decimal values

-- grid points of at most 255, one or more
pub record WritesBands (words : List (List ℕ)) (points : List ℕ) : Type 0 where
  pub some : 0 < length points
  pub each : (i : ℕ) → i < length points → get_or points i 0 ≤ 255
  pub spelling : words ≡ codes "bands" ∷ map decimal points

-- the 64 lower-case hexadecimal digits of 32 bytes
pub record WritesKey (words : List (List ℕ)) (key : List ℕ) : Type 0 where
  pub count : length key ≡ 32
  pub bytes : IsBytes key
  pub spelling : words ≡ codes "key" ∷ encode_lower key ∷ []

-- the words of a line mean this rule
abbrev pub Says : List (List ℕ) → Said → Type 0
Says words (Length n) = WritesNumber (codes "length" ∷ []) words n
Says words (Prior values) = WritesPrior words values
Says words (Rate n d) = WritesNumbers (codes "rate" ∷ []) words n d
Says words (Key key) = WritesKey words key
Says words (Bands points) = WritesBands words points
Says words (Budget n) = WritesNumber (codes "budget" ∷ []) words n
Says words (BaseBudget n) = WritesNumber (codes "base-budget" ∷ []) words n
Says words (Sessions n) = WritesNumber (codes "sessions" ∷ []) words n
Says words (Journal n) = WritesNumber (codes "journal" ∷ []) words n
Says words (Count low high s) =
    (low ≤ most) × (high ≤ most)
    × WritesSet (codes "count" ∷ decimal low ∷ decimal high ∷ []) words s
Says words (Quantity q low high s) =
    (q ≤ 255) × (low ≤ most) × (high ≤ most)
    × WritesSet (codes "quantity" ∷ decimal q ∷ decimal low ∷ decimal high ∷ []) words s
Says words (Enemies s) = WritesSet (codes "enemies" ∷ []) words s
Says words (Stimuli low high) = WritesNumbers (codes "stimuli" ∷ []) words low high
Says words (Stimulus s low high) =
    (s ≤ 255) × WritesNumbers (codes "stimulus" ∷ decimal s ∷ []) words low high
Says words (Base s) = WritesSet (codes "base" ∷ []) words s

-- the rules before the lines and those that the lines mean are these rules in all: a line that is
-- empty or begins with `#` means no rule, any other line means one, and it may not repeat an
-- earlier rule that may occur only once
abbrev pub SayBehind : List Said → List (List ℕ) → List Said → Type 0
SayBehind before [] rules = before ≡ rules
SayBehind before (line ∷ lines) rules =
    ((is_skipped line ≡ true) × SayBehind before lines rules)
    ⊎ ((is_skipped line ≡ false)
    × ((rule : Said) × Says (words_of line) rule × (stands (mark_of rule) before ≡ false)
    × SayBehind (before ++ rule ∷ []) lines rules))

-- a rule that a canonical line can mean: its numbers are short enough, and its set can be written
abbrev pub IsPrinted : Said → Type 0
IsPrinted (Length n) = n ≤ most
IsPrinted (Prior values) =
    (0 < length values)
    × ((i : ℕ) → i < length values → magnitude (get_or values i (pos 0)) ≤ most)
IsPrinted (Rate n d) = (n ≤ most) × (d ≤ most)
IsPrinted (Key key) = (length key ≡ 32) × IsBytes key
IsPrinted (Bands points) =
    (0 < length points) × ((i : ℕ) → i < length points → get_or points i 0 ≤ 255)
IsPrinted (Budget n) = n ≤ most
IsPrinted (BaseBudget n) = n ≤ most
IsPrinted (Sessions n) = n ≤ most
IsPrinted (Journal n) = n ≤ most
IsPrinted (Count low high s) = (low ≤ most) × (high ≤ most) × IsSet s
IsPrinted (Quantity q low high s) = (q ≤ 255) × (low ≤ most) × (high ≤ most) × IsSet s
IsPrinted (Enemies s) = IsSet s
IsPrinted (Stimuli low high) = (low ≤ most) × (high ≤ most)
IsPrinted (Stimulus s low high) = (s ≤ 255) × (low ≤ most) × (high ≤ most)
IsPrinted (Base s) = IsSet s

-- each of the rules can be printed
abbrev pub ArePrinted : List Said → Type 0
ArePrinted [] = Unit {0}
ArePrinted (rule ∷ rules) = IsPrinted rule × ArePrinted rules

-- no rule that may occur only once occurs twice among these, or among these and those before
abbrev pub AreFresh : List Said → List Said → Type 0
AreFresh before [] = Unit {0}
AreFresh before (rule ∷ rules) =
    (stands (mark_of rule) before ≡ false) × AreFresh (before ++ rule ∷ []) rules

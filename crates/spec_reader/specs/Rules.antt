-- What a line of a plan means.
use Rattle.std.specs.Prelude.{ℕ, ◌+◌, ◌-◌, not, ◌&&◌, if◌then◌else◌, List, length, drop, bytes_eq, Option, Some, None, Result, Ok, Err, ℤ}
use Rattle.hex.specs.Hex.{encode_lower, decode_sized}
use Rattle.hex.specs.declared.error.FromHexError.{FromHexError}
use Rattle.bank_tables.specs.Items.{Set, has}
use Rattle.exam_text.specs.Numbers.{number_of, signed_of}
use Rattle.exam_text.specs.First.{fault_where, ◌>>=◌, or_fault, unless, each_below}
use Rattle.spec_reader.specs.declared.line_fault.Kind.TheVariants as kind
use Rattle.spec_reader.specs.declared.line_fault.LineFault.{LineFault}
use Rattle.spec_reader.specs.declared.line_fault.LineFault.TheVariants.{Line}
use Rattle.spec_reader.specs.declared.keyword.Setting.{Setting}
use Rattle.spec_reader.specs.declared.keyword.Setting.TheVariants as setting
use Rattle.spec_reader.specs.declared.keyword.Constraint.{Constraint}
use Rattle.spec_reader.specs.declared.keyword.Constraint.TheVariants as constraint
use Rattle.spec_reader.specs.declared.keyword.Keyword.{Keyword}
use Rattle.spec_reader.specs.declared.keyword.Keyword.TheVariants as keyword
use Rattle.spec_reader.specs.declared.rule.Rule.{Rule}
use Rattle.spec_reader.specs.declared.rule.Rule.TheVariants as rule
use Rattle.spec_reader.specs.Keywords.{keyword_of, fits_count}
use Rattle.exam_text.specs.Words.{word, none_empty}
use Rattle.exam_text.specs.Runs.{is_set}
use Rattle.spec_reader.specs.Sets.{in_set}

-- what a line means: a set of items is a test on items
pub data Said : Type 0 where
  Length : ℕ → Said
  Prior : List ℤ → Said
  Rate : ℕ → ℕ → Said
  Key : List ℕ → Said
  Bands : List ℕ → Said
  Budget : ℕ → Said
  BaseBudget : ℕ → Said
  Sessions : ℕ → Said
  Journal : ℕ → Said
  Count : ℕ → ℕ → Set → Said
  Quantity : ℕ → ℕ → ℕ → Set → Said
  Enemies : Set → Said
  Stimuli : ℕ → ℕ → Said
  Stimulus : ℕ → ℕ → ℕ → Said
  Base : Set → Said

abbrev pub said : Rule → Said
said (rule.Length n) = Length n
said (rule.Prior v) = Prior v.items
said (rule.Rate n d) = Rate n d
said (rule.Key k) = Key k
said (rule.Bands v) = Bands v.items
said (rule.Budget n) = Budget n
said (rule.BaseBudget n) = BaseBudget n
said (rule.Sessions n) = Sessions n
said (rule.Journal n) = Journal n
said (rule.Count low high s) = Count low high (has s)
said (rule.Quantity q low high s) = Quantity q low high (has s)
said (rule.Enemies s) = Enemies (has s)
said (rule.Stimuli low high) = Stimuli low high
said (rule.Stimulus s low high) = Stimulus s low high
said (rule.Base s) = Base (has s)

-- a number at most `most` in word i
abbrev pub number_in : ℕ → ℕ → ℕ → List (List ℕ) → Result ℕ LineFault
number_in at most i words = or_fault (number_of most (word words i)) (Line at kind.Number)

-- signed numbers in the words after the first
abbrev pub signeds_in : ℕ → List (List ℕ) → Result (List ℤ) LineFault
signeds_in at words =
    each_below (length words - 1)
    (λ i. or_fault (signed_of 999999999 (word words (i + 1))) (Line at kind.Number))

-- grid points, which are numbers of at most 255, in the words after the first
abbrev pub points_in : ℕ → List (List ℕ) → Result (List ℕ) LineFault
points_in at words =
    each_below (length words - 1)
    (λ i. or_fault (number_of 255 (word words (i + 1))) (Line at kind.Number))

abbrev pub key_where : List ℕ → Result (List ℕ) FromHexError → Option (List ℕ)
key_where text (Ok bytes) = if bytes_eq text (encode_lower bytes) then Some bytes else None
key_where text (Err e) = None

-- the 32 bytes that a word writes as 64 lower-case hexadecimal digits
unfoldable pub key_of : List ℕ → Option (List ℕ)
key_of text = key_where text (decode_sized text 32)

abbrev pub key_in : ℕ → List (List ℕ) → Result (List ℕ) LineFault
key_in at words = or_fault (key_of (word words 1)) (Line at kind.Number)

-- a set of items in the words from word `from` on
abbrev pub set_in : ℕ → ℕ → List (List ℕ) → Result Set LineFault
set_in at from words =
    if is_set (drop from words) then Ok (in_set (drop from words)) else Err (Line at kind.Set)

-- what the words of a line with this setting mean
unfoldable pub setting_said : ℕ → Setting → List (List ℕ) → Result Said LineFault
setting_said at setting.Length words = number_in at 999999999 1 words >>= λ n. Ok (Length n)
setting_said at setting.Prior words = signeds_in at words >>= λ vs. Ok (Prior vs)
setting_said at setting.Rate words =
    number_in at 999999999 1 words >>= λ n. number_in at 999999999 2 words >>= λ d. Ok (Rate n d)
setting_said at setting.Key words = key_in at words >>= λ k. Ok (Key k)
setting_said at setting.Bands words = points_in at words >>= λ points. Ok (Bands points)
setting_said at setting.Budget words = number_in at 999999999 1 words >>= λ n. Ok (Budget n)
setting_said at setting.BaseBudget words = number_in at 999999999 1 words >>= λ n. Ok (BaseBudget n)
setting_said at setting.Sessions words = number_in at 999999999 1 words >>= λ n. Ok (Sessions n)
setting_said at setting.Journal words = number_in at 999999999 1 words >>= λ n. Ok (Journal n)
setting_said at setting.Base words = set_in at 1 words >>= λ s. Ok (Base s)

unfoldable pub constraint_said : ℕ → Constraint → List (List ℕ) → Result Said LineFault
constraint_said at constraint.Count words =
    number_in at 999999999 1 words >>= λ low. number_in at 999999999 2 words >>= λ high.
    set_in at 3 words >>= λ s. Ok (Count low high s)
constraint_said at constraint.Quantity words =
    number_in at 255 1 words >>= λ q.
    number_in at 999999999 2 words >>= λ low. number_in at 999999999 3 words >>= λ high.
    set_in at 4 words >>= λ s. Ok (Quantity q low high s)
constraint_said at constraint.Enemies words = set_in at 1 words >>= λ s. Ok (Enemies s)
constraint_said at constraint.Stimuli words =
    number_in at 999999999 1 words >>= λ low. number_in at 999999999 2 words >>= λ high.
    Ok (Stimuli low high)
constraint_said at constraint.Stimulus words =
    number_in at 255 1 words >>= λ s.
    number_in at 999999999 2 words >>= λ low. number_in at 999999999 3 words >>= λ high.
    Ok (Stimulus s low high)

abbrev pub rule_said : ℕ → Keyword → List (List ℕ) → Result Said LineFault
rule_said at (keyword.Setting s) words = setting_said at s words
rule_said at (keyword.Constraint c) words = constraint_said at c words

-- what a line of these words means, or the first of its four kinds of fault
unfoldable pub line_of : ℕ → List (List ℕ) → Result Said LineFault
line_of at words =
    or_fault (keyword_of (word words 0)) (Line at kind.Word) >>= λ first.
    unless
    (fault_where (not (fits_count first (length words) && none_empty words)) (Line at kind.Shape))
    (rule_said at first words)

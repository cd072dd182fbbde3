-- What the lines of a plan mean.
use Rattle.std.specs.Prelude.{ℕ, ◌+◌, Bool, false, ◌||◌, ◌==◌, not, ◌&&◌, if◌then◌else◌, List, [], ◌∷◌, ◌++◌, length, get_or, slice_index, Option, Some, None, Result, Ok}
use Rattle.std.specs.List.{list_any}
use Rattle.exam_text.specs.First.{fault_where, ◌orelse◌, ◌>>=◌, unless, steps_below}
use Rattle.spec_reader.specs.declared.plan_fault.Name.{Name}
use Rattle.spec_reader.specs.declared.plan_fault.Name.TheVariants as name
use Rattle.spec_reader.specs.declared.line_fault.LineFault.{LineFault}
use Rattle.spec_reader.specs.declared.line_fault.LineFault.TheVariants.{Twice}
use Rattle.exam_text.specs.Words.{words_of}
use Rattle.spec_reader.specs.Rules.{Said, Length, Prior, Rate, Key, Bands, Budget, BaseBudget, Sessions, Journal, Count, Quantity, Enemies, Stimuli, Stimulus, Base, line_of}

-- an empty line, or one that begins with `#`
abbrev pub is_skipped : List ℕ → Bool
is_skipped line = (length line == 0) || (slice_index line 0 == 35)

-- the number of a line; two lines may not have the same number, and the line of a row has none
abbrev pub mark_of : Said → Option ℕ
mark_of (Length n) = Some 0
mark_of (Prior vs) = Some 1
mark_of (Rate n d) = Some 2
mark_of (Key k) = Some 3
mark_of (Bands points) = Some 4
mark_of (Budget n) = Some 5
mark_of (BaseBudget n) = Some 6
mark_of (Sessions n) = Some 7
mark_of (Journal n) = Some 8
mark_of (Count low high s) = None
mark_of (Quantity q low high s) = None
mark_of (Enemies s) = None
mark_of (Stimuli low high) = None
mark_of (Stimulus s low high) = Some (10 + s)
mark_of (Base s) = Some 9

abbrev pub is_mark : ℕ → Option ℕ → Bool
is_mark m None = false
is_mark m (Some n) = n == m

-- an earlier line has this number
abbrev pub has_mark : ℕ → List Said → Bool
has_mark m rules = list_any (λ r. is_mark m (mark_of r)) rules

abbrev pub stands : Option ℕ → List Said → Bool
stands None rules = false
stands (Some m) rules = has_mark m rules

-- the rules so far, with that of one more line if it has one, or the fault of that line
unfoldable pub next_rule : ℕ → List ℕ → List Said → Result (List Said) LineFault
next_rule at line rules =
    if is_skipped line then Ok rules else
    line_of at (words_of line) >>= λ rule.
    unless (fault_where (stands (mark_of rule) rules) (Twice at)) (Ok (rules ++ rule ∷ []))

-- what the lines of a text mean, in order, or the first faulty line's fault; lines count from 1
unfoldable pub rules_of : List (List ℕ) → Result (List Said) LineFault
rules_of lines =
    steps_below (length lines) (λ i rules. next_rule (i + 1) (get_or lines i []) rules) []

-- the first line that is missing: a length, a prior, or a key if there is a rate
unfoldable pub missing : List Said → Option Name
missing rules =
    fault_where (not (has_mark 0 rules)) name.Length
    orelse fault_where (not (has_mark 1 rules)) name.Prior
    orelse fault_where (has_mark 2 rules && not (has_mark 3 rules)) name.Key

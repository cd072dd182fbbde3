-- The canonical text of a plan.
use Rattle.std.specs.Prelude.{ℕ, zero, suc, ◌+◌, List, [], ◌∷◌, ◌++◌, length, map, get_or, codes, Option, Some, None}
use Rattle.std.specs.Fmt.{decimal, signed_decimal}
use Rattle.std.specs.List.{flat_map}
use Rattle.hex.specs.Hex.{encode_lower}
use Rattle.bank_tables.specs.Items.{Set}
use Rattle.form_model.specs.declared.row.StimulusBound.{StimulusBound}
use Rattle.form_model.specs.Plan.{Plan, no_bound}
use Rattle.exam_text.specs.Words.{spaced}
use Rattle.exam_text.specs.Runs.{run_word}
use Rattle.spec_reader.specs.Sets.{runs_of}
use Rattle.spec_reader.specs.Rules.{Said, Length, Prior, Rate, Key, Bands, Budget, BaseBudget, Sessions, Journal, Count, Quantity, Enemies, Stimuli, Stimulus, Base}
use Rattle.spec_reader.specs.Plans.{SaidPlan, plan_said}

-- a set is written as its maximal runs
abbrev pub set_words : Set → List (List ℕ)
set_words X = map run_word (runs_of X)

-- the words of a line
abbrev pub line_words : Said → List (List ℕ)
line_words (Length n) = codes "length" ∷ decimal n ∷ []
line_words (Prior vs) = codes "prior" ∷ map signed_decimal vs
line_words (Rate n d) = codes "rate" ∷ decimal n ∷ decimal d ∷ []
line_words (Key k) = codes "key" ∷ encode_lower k ∷ []
line_words (Bands points) = codes "bands" ∷ map decimal points
line_words (Budget n) = codes "budget" ∷ decimal n ∷ []
line_words (BaseBudget n) = codes "base-budget" ∷ decimal n ∷ []
line_words (Sessions n) = codes "sessions" ∷ decimal n ∷ []
line_words (Journal n) = codes "journal" ∷ decimal n ∷ []
line_words (Count low high s) = codes "count" ∷ decimal low ∷ decimal high ∷ set_words s
line_words (Quantity q low high s) =
    codes "quantity" ∷ decimal q ∷ decimal low ∷ decimal high ∷ set_words s
line_words (Enemies s) = codes "enemies" ∷ set_words s
line_words (Stimuli low high) = codes "stimuli" ∷ decimal low ∷ decimal high ∷ []
line_words (Stimulus s low high) =
    codes "stimulus" ∷ decimal s ∷ decimal low ∷ decimal high ∷ []
line_words (Base s) = codes "base" ∷ set_words s

-- the line of these words, with its line feed
unfoldable pub words_text : List (List ℕ) → List ℕ
words_text words = spaced words ++ 10 ∷ []

abbrev pub line_text : Said → List ℕ
line_text rule = words_text (line_words rule)

-- the lines of the first n stimuli
abbrev pub bounds_below : ℕ → List StimulusBound → List Said
bounds_below zero bounds = []
bounds_below (suc n) bounds =
    bounds_below n bounds
    ++ Stimulus (n + 1) (get_or bounds n no_bound).low (get_or bounds n no_bound).high ∷ []

-- the points at which bands begin have a line where there are any
abbrev pub band_rules : List ℕ → List Said
band_rules [] = []
band_rules (point ∷ points) = Bands (point ∷ points) ∷ []

abbrev pub base_rules : Option Set → List Said
base_rules None = []
base_rules (Some s) = Base s ∷ []

abbrev pub limit_rules : SaidPlan → List Said
limit_rules plan =
    Budget plan.budget ∷ BaseBudget plan.base_budget
    ∷ Sessions plan.sessions ∷ Journal plan.journal ∷ []

-- the settings; each has a line but the bands where there is one band
abbrev pub setting_rules : SaidPlan → List Said
setting_rules plan =
    Length plan.length ∷ Prior plan.prior ∷ Rate plan.rate.num plan.rate.den ∷ Key plan.key
    ∷ (band_rules plan.bands ++ limit_rules plan)

-- the settings, the rows, the bounds of each stimulus, and the base if there is one
unfoldable pub canonical_rules : SaidPlan → List Said
canonical_rules plan =
    setting_rules plan ++ plan.rows ++ bounds_below (length plan.bounds) plan.bounds
    ++ base_rules plan.base

unfoldable pub canonical : Plan → List ℕ
canonical plan = flat_map line_text (canonical_rules (plan_said plan))

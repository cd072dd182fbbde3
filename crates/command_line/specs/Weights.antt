-- The weights of the grid points, as one word.
use Rattle.std.specs.Prelude.{ℕ, Bool, List, map, is_some}
use Rattle.std.specs.List.{list_all}
use Rattle.std.specs.Option.{unwrap_or}
use Rattle.exam_text.specs.Numbers.{number_of}
use Rattle.exam_text.specs.Words.{parts_at}

-- the text writes a weight: a number from 0 to 1,000
abbrev pub is_weight : List ℕ → Bool
is_weight text = is_some (number_of 1000 text)

abbrev pub weight_of : List ℕ → ℕ
weight_of text = unwrap_or (number_of 1000 text) 0

-- the word is weights, parted by commas
abbrev pub are_weights : List ℕ → Bool
are_weights word = list_all is_weight (parts_at 44 word)

-- the weights that it writes, in order
abbrev pub weights_of : List ℕ → List ℕ
weights_of word = map weight_of (parts_at 44 word)

-- Lines, and the words of a line.
use Rattle.std.specs.Prelude.{◌≡◌, ℕ, Bool, ◌==◌, nat_lt, if◌then◌else◌, List, [], ◌∷◌, ◌++◌, ◌-◌, length, get_or, take, All, false}
use Rattle.std.specs.List.{slice_split}
use Rattle.exam_text.specs.First.{all_below}

-- the parts of a text between the bytes c
abbrev pub parts_at : ℕ → List ℕ → List (List ℕ)
parts_at c text = slice_split (λ b. b == c) text

-- without a last part that is empty: the last line may have its line feed or lack it
abbrev pub without_empty_last : List (List ℕ) → List (List ℕ)
without_empty_last parts = if (length (get_or parts (length parts - 1) []) == 0) then take (length parts - 1) parts else parts

-- the lines of a text, each ended by a line feed
abbrev pub lines_of : List ℕ → List (List ℕ)
lines_of text = without_empty_last (parts_at 10 text)

-- the words of a line, with one space between each two; if two spaces are together, or one is at
-- either end, a word is empty
abbrev pub words_of : List ℕ → List (List ℕ)
words_of line = parts_at 32 line

abbrev pub word : List (List ℕ) → ℕ → List ℕ
word words i = get_or words i []

-- no word is empty: no two spaces are together, and none is at either end
abbrev pub none_empty : List (List ℕ) → Bool
none_empty words = all_below (length words) (λ i. nat_lt 0 (length (word words i)))

-- words with a space between each two
abbrev pub spaced : List (List ℕ) → List ℕ
spaced [] = []
spaced (w ∷ []) = w
spaced (w ∷ v ∷ vs) = w ++ 32 ∷ spaced (v ∷ vs)

-- the text of lines: a line feed after each
abbrev pub text_of_lines : List (List ℕ) → List ℕ
text_of_lines [] = []
text_of_lines (line ∷ lines) = line ++ 10 ∷ text_of_lines lines

-- the byte isn't in the text
abbrev pub Lacks : ℕ → List ℕ → Type 0
Lacks c text = All (λ b. (b == c) ≡ false) text

-- the byte is in none of the texts
abbrev pub NoneHas : ℕ → List (List ℕ) → Type 0
NoneHas c [] = Unit {0}
NoneHas c (text ∷ texts) = Lacks c text × NoneHas c texts

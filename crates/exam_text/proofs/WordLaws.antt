-- Words that are written with spaces between them are read again, and so are lines.
use Rattle.std.proofs.Common.{◌≡◌, ℕ, ◌-◌, List, [], ◌∷◌, ◌++◌, length, eqb, refl, ap, ◌∙◌, arith}
use Rattle.std.proofs.lemmas.List.{take_at, get_or_at, length-append}
use Rattle.std.proofs.lemmas.List.Splits.{slice_split_none, slice_split_at}
use Rattle.exam_text.specs.Words.{parts_at, without_empty_last, words_of, lines_of, spaced, text_of_lines, NoneHas}

pub words_again : (w : List ℕ) (ws : List (List ℕ)) → NoneHas 32 (w ∷ ws) → words_of (spaced (w ∷ ws)) ≡ w ∷ ws
words_again w [] h = slice_split_none (λ b. eqb b 32) w h.0
words_again w (v ∷ vs) h = slice_split_at (λ b. eqb b 32) w 32 (spaced (v ∷ vs)) h.0 refl ∙ ap (λ (xs : List (List ℕ)). w ∷ xs) (words_again v vs h.1)

-- the part after the last line feed is empty
parts_again : (lines : List (List ℕ)) → NoneHas 10 lines → parts_at 10 (text_of_lines lines) ≡ lines ++ [] ∷ []
parts_again [] h = refl
parts_again (line ∷ lines) h = slice_split_at (λ b. eqb b 10) line 10 (text_of_lines lines) h.0 refl ∙ ap (λ (xs : List (List ℕ)). line ∷ xs) (parts_again lines h.1)

last_drops : (lines : List (List ℕ)) → without_empty_last (lines ++ [] ∷ []) ≡ lines
last_drops lines =
    let count : length (lines ++ [] ∷ []) - 1 ≡ length lines = omega (arith, length-append lines ([] ∷ [])) in
    rw (count, get_or_at lines [] [] [] (length lines) refl) (take_at lines ([] ∷ []) (length lines) refl)

pub lines_again : (lines : List (List ℕ)) → NoneHas 10 lines → lines_of (text_of_lines lines) ≡ lines
lines_again lines h = ap without_empty_last (parts_again lines h) ∙ last_drops lines

-- The text of lines has these lines, and a text is that of its lines but for the last line feed.
use Rattle.std.proofs.Common.{◌≡◌, ℕ, suc, ◌-◌, ◌<◌, ◌⊎◌, inl, inr, false, eqb, List, [], ◌∷◌, ◌++◌, length, get_or, take, drop, map, refl, sym, ap, ◌∙◌, arith, append_assoc, drop-cons}
use Rattle.std.specs.List.{onto_first, join_with_byte, All}
use Rattle.std.proofs.lemmas.Bool.{cases_Bool, eqb-true, ne_eqb}
use Rattle.std.proofs.lemmas.List.{take-append-drop, drop_all, take_at, get_or_at, get_or-map, length-append, length-map}
use Rattle.std.proofs.lemmas.List.Splits.{slice_split-cons_yes, slice_split-cons_no, length-slice_split, join_with_byte-slice_split}
use Rattle.exam_text.specs.Words.{parts_at, without_empty_last, lines_of, text_of_lines, NoneHas}
use Rattle.exam_text.proofs.WordLaws.{lines_again}
use Rattle.history_model.specs.declared.request.Request.{Request}
use Rattle.history_model.specs.declared.request.Request.TheVariants.{Exposure}
use Rattle.replay_cli.specs.Scripts.{request_line, IsInRange, text_of_requests, IsScript}
use Rattle.replay_cli.proofs.RequestLines.{line_lacks, line_some}

abbrev parts_of : List ℕ → List (List ℕ)
parts_of text = parts_at 10 text

some_part : (text : List ℕ) → 0 < length (parts_of text)
some_part text = omega (arith, length-slice_split (λ b. eqb b 10) text)

-- ---- a text is that of its lines, but for the last line feed

-- lines with an empty one after them, joined by line feeds
joined_ended : (lines : List (List ℕ)) → join_with_byte 10 (lines ++ [] ∷ []) ≡ text_of_lines lines
joined_ended [] = refl
joined_ended (line ∷ []) = refl
joined_ended (line ∷ next ∷ lines) = ap (λ (xs : List ℕ). line ++ 10 ∷ xs) (joined_ended (next ∷ lines))

-- lines joined by line feeds, and one line feed more
joined_more : (line : List ℕ) (lines : List (List ℕ)) → join_with_byte 10 (line ∷ lines) ++ 10 ∷ [] ≡ text_of_lines (line ∷ lines)
joined_more line [] = refl
joined_more line (next ∷ lines) = append_assoc line (10 ∷ join_with_byte 10 (next ∷ lines)) (10 ∷ []) ∙ ap (λ (xs : List ℕ). line ++ 10 ∷ xs) (joined_more next lines)

more : (lines : List (List ℕ)) → 0 < length lines → join_with_byte 10 lines ++ 10 ∷ [] ≡ text_of_lines lines
more [] h = absurd (omega arith)
more (line ∷ lines) h = joined_more line lines

nothing : (xs : List ℕ) → length xs ≡ 0 → xs ≡ []
nothing [] h = refl
nothing (x ∷ xs) h = absurd (omega (arith, h))

-- the last one taken off and put back
last_back : (lines : List (List ℕ)) → 0 < length lines → length (get_or lines (length lines - 1) []) ≡ 0 → take (length lines - 1) lines ++ [] ∷ [] ≡ lines
last_back lines some empty =
    let k : ℕ = length lines - 1 in
    let lt : k < length lines = omega (arith, some) in
    let tail : drop k lines ≡ [] ∷ [] =
    drop-cons lines k [] lt ∙ rw (nothing (get_or lines k []) empty, drop_all (suc k) lines (omega (arith, some))) refl in
    rw (← tail) (take-append-drop k lines)

pub text_is : (text : List ℕ) → (text ≡ text_of_lines (lines_of text)) ⊎ (text ++ 10 ∷ [] ≡ text_of_lines (lines_of text))
text_is text =
    let parts = parts_of text in
    let join : join_with_byte 10 parts ≡ text = join_with_byte-slice_split 10 text in
    elim (cases_Bool (eqb (length (get_or parts (length parts - 1) [])) 0)) [
      | inl empty ↦ (let back = last_back parts (some_part text) (eqb-true _ _ empty) in
          inl (rw empty (sym join ∙ ap (join_with_byte 10) (sym back) ∙ joined_ended (take (length parts - 1) parts))))
      | inr full ↦ inr (rw full (ap (λ (xs : List ℕ). xs ++ 10 ∷ []) (sym join) ∙ more parts (some_part text)))
    ]

-- ---- the text of requests has their lines, with the last line feed or without it

none_has : (rs : List Request) → All IsInRange rs → NoneHas 10 (map request_line rs)
none_has [] h = tt
none_has (r ∷ rs) h = (line_lacks r (h 0 Exposure (omega arith)), none_has rs (λ k d lt. h (suc k) d (omega (arith, lt))))

onto_more : (x : ℕ) (parts : List (List ℕ)) (part : List ℕ) → 0 < length parts → onto_first x (parts ++ part ∷ []) ≡ onto_first x parts ++ part ∷ []
onto_more x [] part h = absurd (omega arith)
onto_more x (p ∷ ps) part h = refl

parts_more : (text : List ℕ) → parts_of (text ++ 10 ∷ []) ≡ parts_of text ++ [] ∷ []
parts_more [] = refl
parts_more (b ∷ bs) = elim (cases_Bool (eqb b 10)) [
  | inl yes1 ↦ slice_split-cons_yes (λ x. eqb x 10) b (bs ++ 10 ∷ []) yes1 ∙ ap (λ (ps : List (List ℕ)). [] ∷ ps) (parts_more bs) ∙ ap (λ (ps : List (List ℕ)). ps ++ [] ∷ []) (sym (slice_split-cons_yes (λ x. eqb x 10) b bs yes1))
  | inr no1 ↦ slice_split-cons_no (λ x. eqb x 10) b (bs ++ 10 ∷ []) no1 ∙ ap (onto_first b) (parts_more bs) ∙ onto_more b (parts_of bs) [] (some_part bs) ∙ ap (λ (ps : List (List ℕ)). ps ++ [] ∷ []) (sym (slice_split-cons_no (λ x. eqb x 10) b bs no1))
]

last_drops : (lines : List (List ℕ)) → without_empty_last (lines ++ [] ∷ []) ≡ lines
last_drops lines =
    let count : length (lines ++ [] ∷ []) - 1 ≡ length lines = omega (arith, length-append lines ([] ∷ [])) in
    rw (count, get_or_at lines [] [] [] (length lines) refl) (take_at lines ([] ∷ []) (length lines) refl)

-- no line of a request is empty
last_stays : (rs : List Request) → 0 < length rs → without_empty_last (map request_line rs) ≡ map request_line rs
last_stays rs some =
    let count : length (map request_line rs) - 1 ≡ length rs - 1 = ap (λ (n : ℕ). n - 1) (length-map rs request_line) in
    let lt : length rs - 1 < length rs = omega (arith, some) in
    let last : get_or (map request_line rs) (length rs - 1) [] ≡ request_line (get_or rs (length rs - 1) Exposure) = get_or-map request_line rs (length rs - 1) Exposure [] lt in
    let full : eqb (length (request_line (get_or rs (length rs - 1) Exposure))) 0 ≡ false = ne_eqb _ 0 (λ e. omega (arith, e, line_some (get_or rs (length rs - 1) Exposure))) in
    rw (count, last, full) refl

pub script_lines : (text : List ℕ) (rs : List Request) → IsScript text rs → lines_of text ≡ map request_line rs
unfolding text_of_requests
script_lines text rs is = elim is.lines [
  | inl same ↦ rw same (lines_again (map request_line rs) (none_has rs is.in_range))
  | inr less ↦ (let parts : parts_of text ≡ map request_line rs =
      sym (last_drops (parts_of text)) ∙ ap without_empty_last (sym (parts_more text)) ∙ ap lines_of less ∙ lines_again (map request_line rs) (none_has rs is.in_range) in
      let some : 0 < length rs = omega (arith, some_part text, ap length parts, length-map rs request_line) in
      ap without_empty_last parts ∙ last_stays rs some)
]

pub script_from_lines : (text : List ℕ) (rs : List Request) → All IsInRange rs → lines_of text ≡ map request_line rs → IsScript text rs
unfolding text_of_requests
script_from_lines text rs range same = record {
  in_range = range;
  lines = rw (← same) (text_is text);
}

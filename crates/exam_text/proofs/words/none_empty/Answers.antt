use Rattle.std.proofs.Common.{◌≡◌, ◌∙◌, ℕ, List, Bor, map, length, sym, ap, false, refl}
use Rattle.std.specs.Prelude.{nat_lt}
use Rattle.std.proofs.lemmas.List.{length-map}
use Rattle.std.proofs.lemmas.Bool.{eqb-true}
use Rattle.exam_text.proofs.Firsts.{all_fails}
use Rattle.exam_text.specs.Words.{word}
use Rattle.exam_text.proofs.words.none_empty.Goals as goal

pub returns-then-is_empty : goal.returns-then-is_empty
returns-then-is_empty c =
    let words : List (List ℕ) = map (λ (w : Bor (List ℕ)). w.now) c.args.words.now in
    let none : length (word words c.loop-i.i) ≡ 0 = ap (λ (x : List ℕ). length x) (sym c.word_at.ensures) ∙ eqb-true _ _ (sym c.if-is_empty.ensures) in
    let here : nat_lt 0 (length (word words c.loop-i.i)) ≡ false = rw none refl in
    sym (all_fails (length words) c.loop-i.i (λ i. nat_lt 0 (length (word words i))) here (rw length-map c.loop-i-test.true))

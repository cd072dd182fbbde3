use Rattle.std.proofs.Common.{◌≡◌, ℕ, ◌≤◌, List, [], ◌∷◌, Option, Some, None, zero, suc, get_or, map, refl, sym, ◌∙◌, subst, arith}
use Rattle.std.specs.Option.{unwrap_or}
use Rattle.command_line.specs.Weights.{weight_of, weights_of}
use Rattle.exam_text.proofs.Numerals.{number_is}
use Rattle.exam_text.specs.Numbers.{number_of}
use Rattle.form_lines.specs.Answers.{IsEnd}
use Rattle.exam_program.proofs.series.text_of_series.Goals as goal

-- a weight that is read is at most 1,000
read_low : (o : Option ℕ) → ((n : ℕ) → o ≡ Some n → n ≤ 1000) → unwrap_or o 0 ≤ 1000
read_low None low = omega arith
read_low (Some n) low = low n refl

weight_low : (text : List ℕ) → weight_of text ≤ 1000
weight_low text = read_low (number_of 1000 text) (λ n e. (number_is 1000 text n (omega arith) e).0)

weights_low : (parts : List (List ℕ)) (g : ℕ) → get_or (map weight_of parts) g 0 ≤ 1000
weights_low [] g = omega arith
weights_low (part ∷ parts) zero = weight_low part
weights_low (part ∷ parts) (suc g) = weights_low parts g

pub series_lines-requires-clause-weights : goal.series_lines-requires-clause-weights
series_lines-requires-clause-weights c g =
    subst (λ (ws : List ℕ). get_or ws g 0 ≤ 1000) (sym (c.deref.ensures.value ∙ c.in_ok-weights.ensures)) (weights_low _ g)

pub returns-clause-halts : goal.returns-clause-halts
returns-clause-halts c =
    let b = c.args.exam.now.bank in
    let p = c.args.exam.now.spec in
    c.halt_of_series.ensures b p c.args.forms (weights_of c.args.weights.now)
    (subst (λ (ws : List ℕ). IsEnd b p ws c.args.forms c.in-Err.end) (c.deref.ensures.value ∙ c.in_ok-weights.ensures) c.in-Err.ensures.ends)

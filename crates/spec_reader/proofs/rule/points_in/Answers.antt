use Rattle.std.proofs.Common.{◌≡◌, ◌<◌, ◌+◌, ◌-◌, ◌∙◌, ℕ, List, Bor, None, map, length, sym, ap, inr, Option, Err, arith}
use Rattle.std.proofs.lemmas.Grind.{common_steps}
use Rattle.std.proofs.lemmas.List.{length-map}
use Rattle.exam_text.specs.Numbers.{number_of}
use Rattle.exam_text.specs.First.{or_fault}
use Rattle.exam_text.proofs.Firsts.{each_fails}
use Rattle.spec_reader.specs.declared.line_fault.Kind.TheVariants as kind
use Rattle.spec_reader.specs.declared.line_fault.LineFault.TheVariants.{Line}
use Rattle.exam_text.specs.Words.{word}
use Rattle.spec_reader.proofs.rule.points_in.Goals as goal

pub returns-in-None : goal.returns-in-None
returns-in-None c =
    let words : List (List ℕ) = map (λ (w : Bor (List ℕ)). w.now) c.args.words.now in
    let i = c.loop-i.i in
    let fault = Line c.args.at kind.Number in
    let lt : i < length words - 1 = rw length-map (omega (arith, c.loop-i-test.true)) in
    let none : number_of 255 (word words (i + 1)) ≡ None = ap (number_of 255) (sym c.word_at.ensures) ∙ sym c.in-None.ensures.value in
    let here : or_fault (number_of 255 (word words (i + 1))) fault ≡ Err fault = ap (λ (o : Option ℕ). or_fault o fault) none in
    inr (each_fails (length words - 1) i (λ i. or_fault (number_of 255 (word words (i + 1))) fault) c.loop-i.values.items fault c.loop-i.invariant here lt)

pub loop-i-preserved : goal.loop-i-preserved
loop-i-preserved c = grind (arith, common_steps)

pub returns : goal.returns
returns c = grind (arith, common_steps)

use Rattle.std.proofs.Common.{◌≡◌, ◌∙◌, ap, ap₂, sym, drop, Some}
use Rattle.std.proofs.lemmas.List.{drop-drop}
use Rattle.exam_text.specs.Numbers.{number_of}
use Rattle.exam_text.specs.Runs.{run_of, run_between, dash_at}
use Rattle.exam_text.proofs.run.run_of.Goals as goal

pub returns-in-Some-clause-value : goal.returns-in-Some-clause-value
unfolding run_of
returns-in-Some-clause-value c =
    let word = c.args.text.now in
    let dash : dash_at word ≡ Some c.in-Some.k = sym c.in-Some.ensures.value in
    let low = c.item-in-Some.ensures.value ∙ ap (number_of 511) c.split_at.ensures.front in
    let high = c.item-in-Some-2.ensures.value ∙ ap (number_of 511) (c.split_at-in-Some.ensures.back ∙ ap (drop 1) c.split_at.ensures.back ∙ drop-drop 1 c.in-Some.k word) in
    rw dash (c.run_between.ensures.value ∙ ap₂ run_between low high)

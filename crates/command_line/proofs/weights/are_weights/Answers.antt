use Rattle.std.proofs.Common.{rules, eqb, ℕ, List, ap, ◌∙◌}
use Rattle.std.specs.List.{list_all}
use Rattle.std.proofs.lemmas.Iterator.Search.{all_from_yields_List}
use Rattle.std.proofs.lemmas.Iterator.Splits.{YieldsList-from_slice_split}
use Rattle.exam_text.specs.Words.{parts_at}
use Rattle.command_line.specs.Weights.{is_weight}
use Rattle.command_line.proofs.weights.are_weights.Goals as goal

pub returns : goal.returns
returns c =
    all_from_yields_List is_weight _ _ c.all.result c.all.ensures.ran
    (YieldsList-from_slice_split _ (λ b. eqb b 44) c.as_bytes.result.now c.split.ensures.rest c.split.ensures.done c.split.ensures.closure (search rules))
    (λ x b q k. search rules)
    ∙ ap (λ (word : List ℕ). list_all is_weight (parts_at 44 word)) c.as_bytes.ensures.value

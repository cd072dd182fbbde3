use Rattle.std.proofs.Common.{◌≡◌, rules, eqb, ℕ, List, map, subst, IfOk}
use Rattle.std.proofs.lemmas.Iterator.{YieldsList-from_map, items_from_collect}
use Rattle.std.proofs.lemmas.Iterator.Consumers.{YieldsList-at}
use Rattle.std.proofs.lemmas.Iterator.Splits.{YieldsList-from_slice_split}
use Rattle.exam_text.specs.Words.{parts_at}
use Rattle.command_line.specs.Weights.{weight_of}
use Rattle.command_line.proofs.weights.weights_of.Goals as goal

pub returns : goal.returns
returns c =
    subst (λ (word : List ℕ). IfOk c.collect.result (λ weights. weights.items ≡ map weight_of (parts_at 44 word))) c.as_bytes.ensures.value
    (items_from_collect c.collect.result c.collect.ensures.ran
    (YieldsList-from_map _ weight_of
    (YieldsList-at c.map.ensures.source (YieldsList-from_slice_split _ (λ b. eqb b 44) c.as_bytes.result.now c.split.ensures.rest c.split.ensures.done c.split.ensures.closure (search rules)))
    c.map.ensures.closure (λ x r q k. search rules)))

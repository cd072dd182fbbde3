use Rattle.std.proofs.Common.{◌<◌, List, map, length, sym}
use Rattle.std.proofs.lemmas.List.{length-map}
use Rattle.exam_text.proofs.Firsts.{found_at}
use Rattle.spec_reader.specs.Rules.{Said, said}
use Rattle.spec_reader.specs.Reading.{rule_at, number_fault, numbers_fault}
use Rattle.spec_reader.proofs.read.numbers_fault.Goals as goal

pub returns-in-Some : goal.returns-in-Some
unfolding numbers_fault
returns-in-Some c =
    let rules : List Said = map said c.args.rules.now in
    let lt : c.loop-i.i < length rules = rw length-map c.loop-i-test.true in
    sym (found_at (length rules) c.loop-i.i (λ i. number_fault c.args.stimuli (rule_at rules i)) c.in-Some.fault c.loop-i.invariant (sym c.in-Some.ensures) lt)

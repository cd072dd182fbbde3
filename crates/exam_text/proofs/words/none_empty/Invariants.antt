use Rattle.std.proofs.Common.{◌≡◌, true, map, length}
use Rattle.std.specs.Prelude.{nat_lt}
use Rattle.exam_text.specs.First.{all_below}
use Rattle.exam_text.specs.Words.{word}
use Rattle.exam_text.proofs.words.none_empty.Given as goal

abbrev pub invariant-loop-i : goal.invariant-loop-i
invariant-loop-i l = all_below l.i (λ i. nat_lt 0 (length (word (map (λ w. w.now) l.words) i))) ≡ true

use Rattle.exam_http.proofs.TokenLaws.{AreAlike}
use Rattle.exam_http.proofs.token.is_same.Given as goal

abbrev pub invariant-loop-k : goal.invariant-loop-k
invariant-loop-k l = AreAlike l.k l.difference l.text l.other

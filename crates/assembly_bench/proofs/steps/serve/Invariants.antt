use Rattle.serving_model.specs.Seats.{IsSeat}
use Rattle.assembly_bench.proofs.steps.serve.Given as goal

abbrev pub invariant-loop-digit : goal.invariant-loop-digit
invariant-loop-digit g l = IsSeat l.session.bank.now l.session.spec.now l.seat

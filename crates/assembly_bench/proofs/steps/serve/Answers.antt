use Rattle.assembly_bench.proofs.steps.serve.Goals as goal

pub loop-digit-init : goal.loop-digit-init
loop-digit-init g c = c.new_seat-seat.ensures c.args.session.now.spec.now

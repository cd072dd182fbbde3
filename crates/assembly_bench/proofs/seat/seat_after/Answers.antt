use Rattle.std.proofs.Common.{◌∙◌, ap, sym, subst}
use Rattle.serving_model.specs.declared.seat.Seat.{Seat}
use Rattle.serving_model.specs.Seats.{IsSeat, with_response}
use Rattle.constraint_model.specs.Views.{problem_of}
use Rattle.assembly_bench.proofs.Serving.{after_step}
use Rattle.assembly_bench.proofs.seat.seat_after.Goals as goal

pub returns : goal.returns
returns c =
    let b = c.args.bank.now in
    let plan = c.args.spec.now in
    let service = c.args.service.now in
    let is = after_step b plan c.args.seat.now (problem_of c.args.problem.now) service.form service.item service.response c.requires.seat c.requires.pending c.requires.problem c.requires.form c.requires.next c.requires.response in
    let same = c.with_response.ensures ∙ ap (λ (seat : Seat). with_response seat service.response) c.with_item-shown.ensures in
    subst (λ (seat : Seat). IsSeat b plan seat) (sym same) is

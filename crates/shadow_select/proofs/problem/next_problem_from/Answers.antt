use Rattle.std.proofs.Common.{false, get_or, refl, sym, subst}
use Rattle.bank_tables.specs.Items.{has}
use Rattle.serving_model.specs.Seats.{answers}
use Rattle.form_model.specs.Validity.{IsWellMade}
use Rattle.shadow_select.proofs.ProblemLaws.{well_made, problem_made}
use Rattle.shadow_select.proofs.problem.next_problem_from.Goals as goal

pub returns-clause-problem : goal.returns-clause-problem
returns-clause-problem c =
    let seat = c.args.seat.now in
    let band = c.band-band.result in
    record {
      theta = c.mode-theta.result;
      mode = c.mode-theta.ensures.mode c.args.bank.now c.args.spec.now.prior (answers seat) c.requires.sums;
      is = problem_made c.args.bank.now c.args.spec.now c.args.session seat c.mode-theta.result c.len.result band (get_or seat.aside band false) c.last_shown.result (has c.shown_items-given.result) (has c.barred_items-barred.result) c.len.ensures.len c.band-band.ensures.band refl c.last_shown.ensures c.shown_items-given.ensures c.barred_items-barred.ensures;
    }

pub returns-clause-well_made : goal.returns-clause-well_made
returns-clause-well_made c =
    let seat = c.args.seat.now in
    let band = c.band-band.result in
    let mode = c.mode-theta.ensures.mode c.args.bank.now c.args.spec.now.prior (answers seat) c.requires.sums in
    let is = problem_made c.args.bank.now c.args.spec.now c.args.session seat c.mode-theta.result c.len.result band (get_or seat.aside band false) c.last_shown.result (has c.shown_items-given.result) (has c.barred_items-barred.result) c.len.ensures.len c.band-band.ensures.band refl c.last_shown.ensures c.shown_items-given.ensures c.barred_items-barred.ensures in
    subst IsWellMade (sym is) (well_made c.args.bank.now c.args.spec.now c.args.session seat c.mode-theta.result c.items.ensures.bank c.requires.plan c.requires.seat mode.within)

use Rattle.std.proofs.Common.{◌<◌, length, subst, arith}
use Rattle.form_model.specs.Validity.{IsPlanFor}
use Rattle.exam_session.specs.Ledgers.{Ledger}
use Rattle.exam_session.proofs.LiftLaws.{sets_lifted, sets_eligible, sets_first}
use Rattle.exam_session.proofs.book.Book.lift_sets.Goals as goal

pub returns-clause-lifted : goal.returns-clause-lifted
returns-clause-lifted c =
    let book = c.args.self.now in
    let made = c.drawn_for-new.result in
    let valid : IsPlanFor book.bank book.plan = subst (λ (l : Ledger). IsPlanFor l.bank l.plan) c.self.view_is c.self.invariant.0.plan in
    let first = c.first_band-first in
    let eight = c.drawn_for-new.ensures.eight in
    let low = first.ensures.few in
    let within : first.result < length made.sets = omega arith in
    sets_lifted book.bank book.plan book.entries c.args.session c.args.old.now made first.result c.first_set.result valid first.ensures.band first.ensures.of_plan within c.first_set.ensures c.drawn_for-new.ensures.drawn

pub returns-clause-eligible : goal.returns-clause-eligible
returns-clause-eligible c =
    let book = c.args.self.now in
    let made = c.drawn_for-new.result in
    let valid : IsPlanFor book.bank book.plan = subst (λ (l : Ledger). IsPlanFor l.bank l.plan) c.self.view_is c.self.invariant.0.plan in
    let first = c.first_band-first in
    let eight = c.drawn_for-new.ensures.eight in
    let low = first.ensures.few in
    let within : first.result < length made.sets = omega arith in
    sets_eligible book.bank book.plan book.entries c.args.session c.args.old.now made first.result c.first_set.result valid first.ensures.band first.ensures.of_plan within c.first_set.ensures c.drawn_for-new.ensures.drawn

pub returns-clause-first : goal.returns-clause-first
returns-clause-first c =
    let book = c.args.self.now in
    let made = c.drawn_for-new.result in
    let valid : IsPlanFor book.bank book.plan = subst (λ (l : Ledger). IsPlanFor l.bank l.plan) c.self.view_is c.self.invariant.0.plan in
    let first = c.first_band-first in
    let eight = c.drawn_for-new.ensures.eight in
    let low = first.ensures.few in
    let within : first.result < length made.sets = omega arith in
    sets_first book.bank book.plan book.entries c.args.session c.args.old.now made first.result c.first_set.result valid first.ensures.band first.ensures.of_plan within c.first_set.ensures c.drawn_for-new.ensures.drawn

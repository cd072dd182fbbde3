use Rattle.std.proofs.Common.{◌≡◌, ◌∙◌, sym, ap, subst, Some}
use Rattle.history_model.specs.declared.place.Place.{Place}
use Rattle.history_model.specs.declared.place.Place.TheVariants.{Waiting}
use Rattle.history_model.specs.Places.{place}
use Rattle.exam_session.specs.Ledgers.{Ledger}
use Rattle.exam_session.proofs.BookLaws.{waiting_item}
use Rattle.exam_session.proofs.book.Book.judge_answer.Goals as goal

pub categories-categories-requires : goal.categories-categories-requires
categories-categories-requires c =
    let at : place c.args.self.now.plan c.args.self.now.entries c.args.session ≡ Some (Waiting c.in-Waiting.at c.in-Waiting.item c.in-Waiting.proved) = sym c.place.ensures.place ∙ (c.in-Some.is ∙ ap (λ (p : Place). Some p) c.in-Waiting.is) in
    waiting_item c.self.inside.bank.now c.self.inside.spec.now c.self.inside.entries c.args.session c.in-Waiting.at c.in-Waiting.item c.in-Waiting.proved c.self.invariant.0.legal
    (subst (λ (book : Ledger). place book.plan book.entries c.args.session ≡ Some (Waiting c.in-Waiting.at c.in-Waiting.item c.in-Waiting.proved)) (sym c.self.view_is) at)

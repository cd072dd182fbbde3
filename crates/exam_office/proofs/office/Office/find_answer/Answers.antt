use Rattle.std.proofs.Common.{◌<◌, Some, ap, ◌∙◌, subst}
use Rattle.bank_tables.specs.Tables.{Tables, size}
use Rattle.history_model.specs.declared.place.Place.{Place}
use Rattle.exam_office.proofs.office.Office.find_answer.Goals as goal

pub categories-categories-requires : goal.categories-categories-requires
categories-categories-requires g c =
    let w = c.in-Waiting in
    subst (λ (b : Tables). w.item < size b) c.self.invariant.0.bank (c.place.ensures.item w.at w.item w.proved (c.in-Some.is ∙ ap (λ (p : Place). Some p) w.is))

use Rattle.std.proofs.Common.{◌≡◌, List, [], ◌∷◌, Contains, arith, refl, sym, ap, ◌∙◌, subst}
use Rattle.turn_lock.specs.Passes.{Known}
use Rattle.prepare_desk.specs.Desks.{DeskPurpose}
use Rattle.prepare_desk.proofs.post.Post.put.Goals as goal

pub turn-requires-clause-needs : goal.turn-requires-clause-needs
turn-requires-clause-needs g c =
    let purpose = c.requires.0 in
    let seen : c.self.inside.pass.seen ≡ purpose ∷ [] = ap (λ (k : Known DeskPurpose). k.seen) c.self.view_is ∙ c.requires.1 in
    record {
      purpose = purpose;
      there = subst (λ (l : List DeskPurpose). Contains l purpose) (sym seen) (0, omega arith, refl);
      is_ready = c.requires.2;
    }

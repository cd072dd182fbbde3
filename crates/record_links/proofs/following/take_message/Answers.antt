use Rattle.std.proofs.Common.{◌++◌, List, ℕ, IsTrue, sym, ap, ◌∙◌, subst}
use Rattle.record_links.specs.declared.offer.ShipperMessage.{ShipperMessage}
use Rattle.record_links.specs.Messages.{bytes_of, offer_of, IsPayload, IsFitting, IsNext, IsOffer}
use Rattle.record_links.proofs.Taking.{offer_step, offer_turn}
use Rattle.record_links.proofs.following.take_message.Goals as goal

pub take_offer-requires-clause-payload : goal.take_offer-requires-clause-payload
take_offer-requires-clause-payload g c = subst IsPayload (sym c.deref.ensures.value) (subst IsFitting c.in-Ok-Offer.field-0-is c.in-Ok-Offer.ensures.fits)

pub returns-in-Ok-Offer-clause-steps : goal.returns-in-Ok-Offer-clause-steps
returns-in-Ok-Offer-clause-steps g c =
    offer_step (g.F.Replica.may_follow c.args.replica.now) (g.F.Replica.size c.args.replica.now) (g.F.Replica.limit c.args.replica.now)
    (g.F.Replica.held c.args.replica.now) (offer_of c.in-Ok-Offer.number c.deref.result.now) (g.F.Replica.held c.take_offer.new.replica)
    c.take_offer.result c.take_offer.ensures.moves

pub returns-in-Ok-Offer-clause-turns : goal.returns-in-Ok-Offer-clause-turns
returns-in-Ok-Offer-clause-turns g c told =
    let bytes : List ℕ = bytes_of c.args.kept.now ++ g.K.Link.left c.args.link.now in
    let next : List ℕ = bytes_of c.next_offer.new.kept ++ g.K.Link.left c.next_offer.new.link in
    let told1 : IsTrue (g.K.Link.tells c.next_offer.new.link) = rw c.in-Ok-Offer.ensures.frame.tells told in
    let a = c.take_offer.ensures.answers told1 in
    let read : IsOffer bytes (offer_of c.in-Ok-Offer.number c.in-Ok-Offer.payload.items) next =
    subst (λ (m : ShipperMessage). IsNext bytes m next) c.in-Ok-Offer.field-0-is (c.in-Ok-Offer.ensures.next told) in
    let is : IsOffer bytes (offer_of c.in-Ok-Offer.number c.deref.result.now) next =
    subst (λ (p : List ℕ). IsOffer bytes (offer_of c.in-Ok-Offer.number p) next) (sym c.deref.ensures.value) read in (
      a.0,
      a.1 ∙ ap (λ (l : List ℕ). l ++ a.0) (c.in-Ok-Offer.ensures.written told),
      offer_turn (g.F.Replica.may_follow c.args.replica.now) (g.F.Replica.size c.args.replica.now) (g.F.Replica.limit c.args.replica.now)
          (g.F.Replica.held c.args.replica.now) bytes a.0 _ (g.F.Replica.held c.take_offer.new.replica)
          (offer_of c.in-Ok-Offer.number c.deref.result.now) next c.take_offer.result is
          (ap (λ (l : List ℕ). bytes_of c.next_offer.new.kept ++ l) (sym (c.take_offer.ensures.left told1)))
          c.take_offer.ensures.moves a.2,
    )

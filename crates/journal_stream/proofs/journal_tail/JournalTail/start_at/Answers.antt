use Rattle.std.proofs.Common.{◌≡◌, ◌⊎◌, ◌<◌, ◌∙◌, ℕ, Some, false, is_some, arith, subst, sym}
use Rattle.journal_stream.specs.Tail.{IsGateOf, TailState}
use Rattle.journal_stream.proofs.Marked.{first_gate}
use Rattle.journal_stream.proofs.Placed.{none_of}
use Rattle.journal_stream.proofs.journal_tail.JournalTail.start_at.Goals as goal

pub invariant_of-self : goal.invariant_of-self
invariant_of-self g c =
    let inv = c.self.invariant in
    let M = g.F.GrowingFile.moved c.self.inside.file in
    let S = g.F.GrowingFile.settled c.self.inside.file in
    let place = c.args.place in
    let waits : is_some c.self.inside.start ≡ false = subst (λ (s : TailState _). s.begun ≡ false) (sym c.self.view_is) c.requires.waits in
    let found : c.self.inside.found ≡ Some place = subst (λ (s : TailState _). s.found ≡ Some place) (sym c.self.view_is) c.requires.found in
    let sure : (place ≡ 8) ⊎ (0 < c.self.inside.told) = subst (λ (s : TailState _). (place ≡ 8) ⊎ (0 < s.told)) (sym c.self.view_is) c.requires.sure in
    let zero : c.self.inside.number ≡ 0 = inv.2 (none_of c.self.inside.start waits) in
    let at_first = inv.4 place found in
    let few = at_first.1 in (
      omega (arith, few),
      omega (arith, zero),
      λ none. zero,
      inv.3,
      inv.4,
      λ x same. let e : place ≡ x = cc in (
        omega (arith, e, few),
        λ told. (
          sym e ∙ at_first.2 told,
          subst (λ (n : ℕ). IsGateOf M S n place) (sym zero) (first_gate M S place c.self.inside.told (at_first.2 told) sure (inv.3 told)),
        ),
      ),
      inv.6,
    )

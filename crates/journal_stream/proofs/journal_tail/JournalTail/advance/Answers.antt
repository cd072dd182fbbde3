use Rattle.std.proofs.Common.{◌≡◌, ◌≤◌, ◌+◌, ◌-◌, ℕ, IsTrue, Some, true, is_some, arith, subst, sym}
use Rattle.std.specs.Prelude.{slice_get}
use Rattle.journal_stream.specs.Tail.{IsGateOf, TailState}
use Rattle.journal_stream.proofs.Placed.{gate_after, some_not, some_of}
use Rattle.journal_stream.proofs.journal_tail.JournalTail.advance.Goals as goal

pub invariant_of-self : goal.invariant_of-self
invariant_of-self g c =
    let inv = c.self.invariant in
    let M = g.F.GrowingFile.moved c.self.inside.file in
    let S = g.F.GrowingFile.settled c.self.inside.file in
    let at = c.self.inside.at in
    let number = c.self.inside.number in
    let p = c.args.payload.now in
    let few : at ≤ 536870912 = subst (λ (s : TailState _). s.at ≤ 536870912) (sym c.self.view_is) c.requires.at in
    let begun : is_some c.self.inside.start ≡ true = subst (λ (s : TailState _). s.begun ≡ true) (sym c.self.view_is) c.requires.begun in
    let start = some_of c.self.inside.start begun in
    let is : IsTrue (g.F.GrowingFile.tells c.self.inside.file) → slice_get S number ≡ Some p =
    subst (λ (s : TailState _). IsTrue (g.F.GrowingFile.tells s.file) → slice_get (g.F.GrowingFile.settled s.file) s.number ≡ Some p) (sym c.self.view_is) c.requires.record in (
      omega (arith, few, c.requires.few),
      omega (arith, inv.1),
      λ none. absurd (some_not c.self.inside.start begun none),
      inv.3,
      inv.4,
      λ x same. let i = inv.5 x same in (
        i.0,
        λ told. ((i.1 told).0, gate_after M S number at p (i.1 told).1 (is told)),
      ),
      λ x same. let e : at ≡ x = cc in (
        omega (arith, e, few),
        omega (arith, e, inv.1),
        λ told.
            let gate : IsGateOf M S number at = ((inv.5 start.0 start.1).1 told).1 in
            let one : number ≡ number + 1 - 1 = omega arith in
            subst (λ (n : ℕ). IsGateOf M S n x) one (subst (λ (y : ℕ). IsGateOf M S number y) e gate),
      ),
    )

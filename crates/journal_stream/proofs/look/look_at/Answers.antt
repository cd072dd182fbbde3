use Rattle.std.proofs.Common.{ℕ, ◌+◌, List, Option, IsTrue, arith, sym, subst}
use Rattle.std.proofs.lemmas.Result.{IfOk-weaker}
use Rattle.journal_stream.specs.Served.{IsServed}
use Rattle.journal_stream.specs.Tail.{IsGateOf}
use Rattle.journal_stream.proofs.Placed.{gate_stays, longer}
use Rattle.journal_stream.proofs.Settled.{settled_none}
use Rattle.journal_stream.proofs.look.look_at.Goals as goal

pub returns-in-Closed-clause-finds : goal.returns-in-Closed-clause-finds
returns-in-Closed-clause-finds g c told number gate known =
    let read = c.in-Ok.ensures in
    let file = c.read.new.self in
    let S = g.F.GrowingFile.settled file in
    let old = g.F.GrowingFile.settled c.args.file.now in
    let now : IsTrue (g.F.GrowingFile.tells file) = subst (λ b. IsTrue b) (sym read.tells) told in
    let M = g.F.GrowingFile.moved c.args.file.now in
    let served = subst (λ (m : Option (List (List ℕ))). IsServed m S (g.F.GrowingFile.content file)) read.moved (g.met.F.GrowingFile.served file now) in
    settled_none M S (g.F.GrowingFile.content file) number c.args.at (gate_stays M old S number c.args.at (read.grown told) gate)
    served _ c.in-Ok.count (read.bytes told) (read.all told) c.in-Closed.ensures

pub returns-in-Payload-clause-finds : goal.returns-in-Payload-clause-finds
returns-in-Payload-clause-finds g c =
    let read = c.in-Ok.ensures in
    let file = c.read.new.self in
    let M = g.F.GrowingFile.moved c.args.file.now in
    let S = g.F.GrowingFile.settled file in
    let old = g.F.GrowingFile.settled c.args.file.now in
    IfOk-weaker c.read_record.result _ _ (λ look finds told number gate known.
    let grown = read.grown told in
    let now : IsTrue (g.F.GrowingFile.tells file) = subst (λ b. IsTrue b) (sym read.tells) told in
    let here : IsGateOf (g.F.GrowingFile.moved file) S number c.args.at = subst (λ (m : Option (List (List ℕ))). IsGateOf m S number c.args.at) (sym read.moved) (gate_stays M old S number c.args.at grown gate) in
    finds now number here (λ is. let l = longer old S (number + 1) grown (let k = known is in omega (arith, k)) in omega (arith, l))) c.read_record.ensures.finds

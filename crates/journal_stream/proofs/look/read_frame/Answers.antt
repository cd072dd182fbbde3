use Rattle.std.proofs.Common.{◌≡◌, ◌+◌, ◌⊎◌, ⊎_elim, inl, inr, ℕ, ◌<◌, List, Option, IsTrue, length, arith, sym, subst}
use Rattle.journal_stream.specs.Served.{IsServed}
use Rattle.journal_stream.proofs.Placed.{gate_stays, longer}
use Rattle.journal_stream.proofs.Settled.{found_record}
use Rattle.journal_stream.proofs.look.read_frame.Goals as goal

pub returns-in-Ok-record_in-clause-finds : goal.returns-in-Ok-record_in-clause-finds
returns-in-Ok-record_in-clause-finds g c told number gate known =
    let read = c.in-Ok.ensures in
    let file = c.read.new.self in
    let S = g.F.GrowingFile.settled file in
    let old = g.F.GrowingFile.settled c.args.file.now in
    let grown = read.grown told in
    let now : IsTrue (g.F.GrowingFile.tells file) = subst (λ b. IsTrue b) (sym read.tells) told in
    let settled : (c.args.is_told ≡ Rattle.std.proofs.Common.true) → number < length S = λ is. (let l = longer old S (number + 1) grown (let k = known is in omega (arith, k)) in omega (arith, l)) in
    let M = g.F.GrowingFile.moved c.args.file.now in
    let served = subst (λ (m : Option (List (List ℕ))). IsServed m S (g.F.GrowingFile.content file)) read.moved (g.met.F.GrowingFile.served file now) in
    found_record M S (g.F.GrowingFile.content file) number c.args.at (gate_stays M old S number c.args.at grown gate) served
    _ c.in-Ok.count c.bytes_after.result (read.bytes told)
    (⊎_elim (λ is. inl (settled is)) (λ two. inr two) c.bytes_after.ensures.why) c.in-Ok-record_in.found c.in-Ok-record_in.ensures

use Rattle.std.proofs.Common.{ℕ, List, Option, IsTrue, sym, subst}
use Rattle.journal_stream.specs.Served.{IsServed}
use Rattle.journal_stream.specs.declared.first.Old.TheVariants.{Mark, Payload}
use Rattle.journal_stream.proofs.Marked.{passed_so}
use Rattle.journal_stream.proofs.first.pass_old.Goals as goal

pub returns-in-Mark-clause-passes : goal.returns-in-Mark-clause-passes
returns-in-Mark-clause-passes g c = λ told gate.
    let read = c.in-Ok.ensures in
    let file = c.read.new.self in
    let M = g.F.GrowingFile.moved c.args.file.now in
    let S = g.F.GrowingFile.settled file in
    let now : IsTrue (g.F.GrowingFile.tells file) = subst (λ b. IsTrue b) (sym read.tells) told in
    let served : IsServed M S (g.F.GrowingFile.content file) = subst (λ (m : Option (List (List ℕ))). IsServed m S (g.F.GrowingFile.content file)) read.moved (g.met.F.GrowingFile.served file now) in
    passed_so M S (g.F.GrowingFile.content file) c.args.at gate served _ c.in-Ok.count (read.bytes told) Mark c.in-Mark.ensures

pub returns-in-Payload-clause-passes : goal.returns-in-Payload-clause-passes
returns-in-Payload-clause-passes g c = λ told gate.
    let read = c.in-Ok.ensures in
    let file = c.read.new.self in
    let M = g.F.GrowingFile.moved c.args.file.now in
    let S = g.F.GrowingFile.settled file in
    let now : IsTrue (g.F.GrowingFile.tells file) = subst (λ b. IsTrue b) (sym read.tells) told in
    let served : IsServed M S (g.F.GrowingFile.content file) = subst (λ (m : Option (List (List ℕ))). IsServed m S (g.F.GrowingFile.content file)) read.moved (g.met.F.GrowingFile.served file now) in
    passed_so M S (g.F.GrowingFile.content file) c.args.at gate served _ c.in-Ok.count (read.bytes told) (Payload c.in-Payload.size) c.in-Payload.ensures

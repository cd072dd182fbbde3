use Rattle.std.proofs.Common.{◌≡◌, ◌∙◌, ℕ, List, Option, IsTrue, sym, subst}
use Rattle.journal_stream.specs.Served.{IsServed}
use Rattle.journal_stream.proofs.Marked.{first_begins, second_first}
use Rattle.journal_stream.proofs.first.find_first.Goals as goal

pub returns-in-Second-clause-first : goal.returns-in-Second-clause-first
returns-in-Second-clause-first g c = λ x same told.
    let read = c.in-Ok.ensures in
    let file = c.read.new.self in
    let M = g.F.GrowingFile.moved c.args.file.now in
    let S = g.F.GrowingFile.settled file in
    let now : IsTrue (g.F.GrowingFile.tells file) = subst (λ b. IsTrue b) (sym read.tells) told in
    let served : IsServed M S (g.F.GrowingFile.content file) = subst (λ (m : Option (List (List ℕ))). IsServed m S (g.F.GrowingFile.content file)) read.moved (g.met.F.GrowingFile.served file now) in
    let e : 8 ≡ x = cc in
    sym e ∙ second_first S (g.F.GrowingFile.content file) _ c.in-Ok.count (read.bytes told) c.in-Second.ensures.0 M served c.in-Second.ensures.1

pub find_mark-requires : goal.find_mark-requires
find_mark-requires g c = record {
  begins = λ now.
      let read = c.in-Ok.ensures in
      let file = c.read.new.self in
      let told : IsTrue (g.F.GrowingFile.tells c.args.file.now) = subst (λ b. IsTrue b) read.tells now in
      first_begins (g.F.GrowingFile.settled file) (g.F.GrowingFile.content file) _ c.in-Ok.count (read.bytes told) c.in-First.ensures.0
      (g.F.GrowingFile.moved file) (g.met.F.GrowingFile.served file now) c.in-First.ensures.1;
}

use Rattle.std.proofs.Common.{IsTrue}
use Rattle.bank_reader.proofs.BankLaws.{is_found, is_only, is_fault}
use Rattle.bank_reader.proofs.read.read_bank.Goals as goal

pub returns-clause-found : goal.returns-clause-found
returns-clause-found g c = is_found (IsTrue (g.S.Source.tells c.args.source.now)) (g.S.Source.left c.args.source.now) c.read_whole.result c.read_whole.ensures.reads

pub returns-clause-only : goal.returns-clause-only
returns-clause-only g c = is_only (IsTrue (g.S.Source.tells c.args.source.now)) (g.S.Source.left c.args.source.now) c.read_whole.result c.read_whole.ensures.reads

pub returns-clause-fault : goal.returns-clause-fault
returns-clause-fault g c = is_fault (IsTrue (g.S.Source.tells c.args.source.now)) (g.S.Source.left c.args.source.now) c.read_whole.result c.read_whole.ensures.reads

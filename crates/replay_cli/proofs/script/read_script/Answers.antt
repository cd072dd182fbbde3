use Rattle.std.proofs.Common.{◌∙◌, IsTrue}
use Rattle.exam_edge.specs.Faults.{Rose}
use Rattle.replay_cli.proofs.SourceLaws.{found_in, fault_in, only_in, no_source}
use Rattle.replay_cli.proofs.script.read_script.Goals as goal

pub returns-in-Ok-clause-found : goal.returns-in-Ok-clause-found
returns-in-Ok-clause-found g c =
    found_in (λ v. v.items) c.deref.result.now (g.S.Source.left c.args.source.now) (IsTrue (g.S.Source.tells c.args.source.now)) c.requests_in.result (λ reported. c.deref.ensures.value ∙ c.in-Ok.ensures.text reported) c.requests_in.ensures

pub returns-in-Ok-clause-fault : goal.returns-in-Ok-clause-fault
returns-in-Ok-clause-fault g c =
    fault_in (λ v. v.items) c.deref.result.now (g.S.Source.left c.args.source.now) (IsTrue (g.S.Source.tells c.args.source.now)) c.requests_in.result (λ reported. c.deref.ensures.value ∙ c.in-Ok.ensures.text reported) (rw c.deref.ensures.value c.in-Ok.ensures.within) c.requests_in.ensures

pub returns-in-Ok-clause-only : goal.returns-in-Ok-clause-only
returns-in-Ok-clause-only g c =
    only_in (λ v. v.items) c.deref.result.now (g.S.Source.left c.args.source.now) (IsTrue (g.S.Source.tells c.args.source.now)) c.requests_in.result (λ reported. c.deref.ensures.value ∙ c.in-Ok.ensures.text reported) c.requests_in.ensures

pub returns-in-Ok-clause-failed : goal.returns-in-Ok-clause-failed
returns-in-Ok-clause-failed g c =
    no_source (λ v. v.items) c.deref.result.now (Rose (g.S.Source.faults c.args.source.now) (g.S.Source.faults c.text_of.new.source)) c.requests_in.result c.requests_in.ensures

use Rattle.std.proofs.Common.{◌≡◌, ◌+◌, ◌++◌, [], ◌∷◌, ◌||◌, rules, arith, sym, ap, subst, ◌∙◌}
use Rattle.std.proofs.lemmas.Grind.{common_steps}
use Rattle.std.proofs.lemmas.List.Elements.{All-pop}
use Rattle.exam_serve.specs.Joining.{AreCleared}
use Rattle.exam_serve.proofs.Joins.{starts_through, same_joined, sees_old, cleared_more}
use Rattle.exam_serve.proofs.stations.clear_stations.Goals as goal

pub loop-preserved : goal.loop-preserved
loop-preserved g c =
    let l = c.loop in
    let s = c.unwrap-station.result in
    let now = c.clear_station-now in
    let last : l.stations.items ≡ c.pop.new.self.items ++ s ∷ [] = (search rules) in
    let failed : c.both-cleared.result.failed ≡ (l.cleared.failed || s.failed) =
    c.both-cleared.ensures.failed ∙ ap (λ b. l.cleared.failed || b) now.ensures.failed in
    let starved : c.both-cleared.result.starved ≡ (l.cleared.starved || s.token.starved) =
    c.both-cleared.ensures.starved ∙ ap (λ b. l.cleared.starved || b) now.ensures.starved in
    record {
      of = now.ensures.of;
      same = (All-pop (λ t. t.token.caller.hall ≡ c.args.hall.now) l.stations.items c.pop.new.self.items c.pop.result c.pop.ensures.items l.invariant.same).0;
      same_pass = same_joined _ _ _ _ now.ensures.joined l.invariant.same_pass;
      begins = starts_through _ _ _ (sees_old _ _ _ now.ensures.joined) l.invariant.begins;
      all = (search rules);
      so_far = now.ensures.len ∙ ap (λ n. n + 1) l.invariant.so_far;
      room = (search rules);
      cleared = subst (λ b. AreCleared now.new.pass c.args.stations.now.items c.pop.new.self.items now.new.doors.items b c.both-cleared.result.starved) (sym failed)
          (subst (λ b. AreCleared now.new.pass c.args.stations.now.items c.pop.new.self.items now.new.doors.items (l.cleared.failed || s.failed) b) (sym starved)
          (subst (λ d. AreCleared now.new.pass c.args.stations.now.items c.pop.new.self.items d (l.cleared.failed || s.failed) (l.cleared.starved || s.token.starved))
          (sym now.ensures.doors)
          (cleared_more l.pass now.new.pass c.args.stations.now.items l.stations.items c.pop.new.self.items s
          l.doors.items l.cleared.failed l.cleared.starved last now.ensures.joined l.invariant.cleared)));
    }

pub returns-clause-doors : goal.returns-clause-doors
returns-clause-doors g c = grind (arith, common_steps)

pub returns-clause-joined : goal.returns-clause-joined
returns-clause-joined g c = grind (arith, common_steps)

pub returns-clause-none : goal.returns-clause-none
returns-clause-none g c = grind (arith, common_steps)

pub returns-clause-failed : goal.returns-clause-failed
returns-clause-failed g c = grind (arith, common_steps)

pub returns-clause-starved : goal.returns-clause-starved
returns-clause-starved g c = grind (arith, common_steps)

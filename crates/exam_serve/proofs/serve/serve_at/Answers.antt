use Rattle.std.proofs.Common.{◌≡◌, ◌+◌, All, map, length, refl, sym, ap, subst, ◌∙◌, Contains, arith}
use Rattle.std.specs.Vec.{vec_len}
use Rattle.std.specs.Option.{option_copied}
use Rattle.std.specs.List.{list_any}
use mathlib.Core.List.{reverse}
use Rattle.turn_lock.specs.Histories.{StartsWith}
use Rattle.exam_serve.specs.Doors.{IsNewStation, door_of, end_of, has_failed, has_starved}
use Rattle.exam_serve.specs.Joining.{AreJoined}
use Rattle.exam_serve.proofs.Halls.{worked_all, all_home, fair_all}
use Rattle.exam_serve.proofs.Orders.{contains_reverse}
use Rattle.exam_serve.proofs.Wholes.{lent_whole, served_joined}
use Rattle.exam_serve.proofs.serve.serve_at.Goals as goal

pub clear_stations-cleared-requires-clause-same : goal.clear_stations-cleared-requires-clause-same
clear_stations-cleared-requires-clause-same g c κs within =
    let made = c.make_stations.new.stations in
    let lent = c.deref_mut.result.now in
    let new = c.run_workers.new.stations in
    let value : lent ≡ made.items = c.deref_mut.ensures.value in
    let whole = lent_whole made.len made.items new made.ok.0 (c.run_workers.ensures.length ∙ ap length value) in
    subst (λ l. All (λ s. s.token.caller.hall ≡ c.args.hall.now) l) (sym whole)
    (all_home (option_copied c.args.token) g.L.Door.tells g.L.Door.coming g.L.Door.returned g.L.Door.is_out g.L.Door.faults g.L.Door.identity
    g.L.Link.Link.tells g.L.Link.Link.left g.L.Link.Link.written g.L.Link.Link.faults g.L.Link.Link.identity
    c.args.hall.now c.args.pass.now.seen lent new
    (worked_all (option_copied c.args.token) g.L.Door.tells g.L.Door.coming g.L.Door.returned g.L.Door.is_out g.L.Door.faults g.L.Door.identity
    g.L.Link.Link.tells g.L.Link.Link.left g.L.Link.Link.written g.L.Link.Link.faults g.L.Link.Link.identity
    c.args.hall.now c.args.pass.now.seen lent new
    (subst (λ l. All (IsNewStation g.L.Door.is_out c.args.hall.now c.args.pass.now.seen) l) (sym value) c.make_stations.ensures.made)
    c.run_workers.ensures.length c.run_workers.ensures.each))

pub returns-clause-served : goal.returns-clause-served
returns-clause-served g c = λ closed more all.
    let made = c.make_stations.new.stations in
    let lent = c.deref_mut.result.now in
    let new = c.run_workers.new.stations in
    let value : lent ≡ made.items = c.deref_mut.ensures.value in
    let whole = lent_whole made.len made.items new made.ok.0 (c.run_workers.ensures.length ∙ ap length value) in
    let out = c.clear_stations-cleared in
    served_joined (option_copied c.args.token) g.L.Door.tells g.L.Door.coming g.L.Door.returned g.L.Door.is_out g.L.Door.faults g.L.Door.identity
    g.L.Link.Link.tells g.L.Link.Link.left g.L.Link.Link.written g.L.Link.Link.faults g.L.Link.Link.identity
    c.args.hall.now c.args.pass.now.seen c.requires.of.opening out.new.pass c.args.doors.now.items out.new.doors.items c.end_of.result lent new
    (ap (map door_of) value ∙ c.make_stations.ensures.doors)
    (out.ensures.doors ∙ ap (λ l. map door_of (reverse l)) whole)
    (worked_all (option_copied c.args.token) g.L.Door.tells g.L.Door.coming g.L.Door.returned g.L.Door.is_out g.L.Door.faults g.L.Door.identity
    g.L.Link.Link.tells g.L.Link.Link.left g.L.Link.Link.written g.L.Link.Link.faults g.L.Link.Link.identity
    c.args.hall.now c.args.pass.now.seen lent new
    (subst (λ l. All (IsNewStation g.L.Door.is_out c.args.hall.now c.args.pass.now.seen) l) (sym value) c.make_stations.ensures.made)
    c.run_workers.ensures.length c.run_workers.ensures.each)
    (subst (λ l. AreJoined out.new.pass (reverse l)) whole out.ensures.joined)
    (c.end_of.ensures ∙ ap (λ b. end_of b out.result.starved) (out.ensures.failed ∙ ap (λ l. list_any has_failed (reverse l)) whole)
    ∙ ap (λ b. end_of (list_any has_failed (reverse new)) b) (out.ensures.starved ∙ ap (λ l. list_any has_starved (reverse l)) whole))
    (subst (λ l. StartsWith out.new.pass.seen l) (ap (λ p. p.seen) c.make_stations.ensures.pass) out.ensures.begins)
    (out.ensures.same.number ∙ ap (λ p. p.number) c.make_stations.ensures.pass ∙ ap (λ p. p.number) c.requires.new)
    (out.ensures.same.start ∙ ap (λ p. p.start) c.make_stations.ensures.pass ∙ ap (λ p. p.start) c.requires.new)
    (let split : out.new.pass.splits ≡ c.args.pass.now.splits + vec_len c.args.doors.now =
    out.ensures.same.splits ∙ ap (λ p. p.splits) c.make_stations.ensures.pass in
    let none : c.args.pass.now.splits ≡ 0 = ap (λ p. p.splits) c.requires.new in
    let count : vec_len c.args.doors.now ≡ length new =
    sym c.make_stations.ensures.count ∙ made.ok.0 ∙ ap length (sym value) ∙ sym c.run_workers.ensures.length in
    omega (arith, split, none, count))
    closed more all

pub run_workers-requires-clause-fair : goal.run_workers-requires-clause-fair
run_workers-requires-clause-fair g c κs within =
    let made = c.make_stations.new.stations in
    let lent = c.deref_mut.result.now in
    let doors = c.args.doors.now.items in
    let value : lent ≡ made.items = c.deref_mut.ensures.value in
    fair_all (option_copied c.args.token) g.L.Door.tells g.L.Door.coming g.L.Door.returned g.L.Door.is_out g.L.Door.faults g.L.Door.identity
    g.L.Link.Link.tells g.L.Link.Link.left g.L.Link.Link.written g.L.Link.Link.faults g.L.Link.Link.identity
    c.args.hall.now c.args.pass.now.seen g.L.Link.Link.allows c.args.pass.now (ap (λ p. p.start) c.requires.new) refl lent doors
    (λ door h. contains_reverse doors door (subst (λ l. Contains l door) (ap (map door_of) value ∙ c.make_stations.ensures.doors) h))
    c.requires.fair
    (subst (λ l. All (IsNewStation g.L.Door.is_out c.args.hall.now c.args.pass.now.seen) l) (sym value) c.make_stations.ensures.made)

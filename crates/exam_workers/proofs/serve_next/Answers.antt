use Rattle.std.proofs.Common.{◌∙◌, sym, ap, subst, refl, None}
use Rattle.std.specs.Bool.{IsTrue}
use Rattle.std.specs.Option.{is_some}
use Rattle.exam_edge.specs.Doors.{TakesNext}
use Rattle.exam_workers.proofs.Serving.{serves_none, serves_one, comes_first}
use Rattle.exam_workers.proofs.serve_next.Goals as goal

pub returns-in-Err-clause-serves : goal.returns-in-Err-clause-serves
returns-in-Err-clause-serves g c =
    let e = c.in-Err.ensures in
    serves_none g.L.Door.tells g.L.Door.coming g.L.Door.returned g.L.Door.is_out g.L.Door.faults g.L.Door.identity (g.S.Service.serves c.args.service.now)
    c.args.station.now _ (search) refl refl e.kept e.returned e.frame.tells e.frame.identity e.none e.frame.grows

pub returns-in-Ok-None-clause-serves : goal.returns-in-Ok-None-clause-serves
returns-in-Ok-None-clause-serves g c =
    let e = c.in-Ok-None.ensures in
    let coming = g.L.Door.coming in
    let nothing : IsTrue (g.L.Door.tells c.args.station.now.door)
    → TakesNext (coming c.args.station.now.door) (coming c.accept.new.self) None =
    λ h. subst (λ o. TakesNext (coming c.args.station.now.door) (coming c.accept.new.self) o) c.in-Ok-None.field-0-is (e.takes h) in
    serves_none g.L.Door.tells coming g.L.Door.returned g.L.Door.is_out g.L.Door.faults g.L.Door.identity (g.S.Service.serves c.args.service.now)
    c.args.station.now _ (search) refl refl (λ h. (nothing h).1 ∙ sym (nothing h).0) e.returned e.frame.tells e.frame.identity
    (e.out ∙ ap is_some c.in-Ok-None.field-0-is) e.frame.grows

pub returns-in-Ok-Some-clause-serves : goal.returns-in-Ok-Some-clause-serves
returns-in-Ok-Some-clause-serves g c =
    let e = c.in-Ok-Some.ensures in
    let coming = g.L.Door.coming in
    serves_one g.L.Door.tells coming g.L.Door.returned g.L.Door.is_out g.L.Door.faults g.L.Door.identity (g.S.Service.serves c.args.service.now)
    c.args.station.now (record c.args.station.now { door = c.accept.new.self }) c.serve_link.new.station c.in-Ok-Some.link
    (λ h. subst (λ o. TakesNext (coming c.args.station.now.door) (coming c.accept.new.self) o) c.in-Ok-Some.field-0-is (e.takes h))
    e.returned e.frame.tells e.frame.identity e.frame.grows refl refl c.serve_link.ensures.served

pub serve_link-requires-clause-fair : goal.serve_link-requires-clause-fair
serve_link-requires-clause-fair g c κs within =
    let coming = g.L.Door.coming in
    let door = c.args.station.now.door in
    c.requires.fair c.in-Ok-Some.link (λ h. comes_first (coming door) (coming c.accept.new.self) c.in-Ok-Some.link
    (subst (λ o. TakesNext (coming door) (coming c.accept.new.self) o) c.in-Ok-Some.field-0-is (c.in-Ok-Some.ensures.takes h)))

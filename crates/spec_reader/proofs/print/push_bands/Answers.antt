use Rattle.std.proofs.Common.{◌≡◌, length}
use Rattle.std.proofs.lemmas.Bool.{eqb-false}
use Rattle.spec_reader.proofs.PrintLaws.{bands_line}
use Rattle.spec_reader.proofs.print.push_bands.Goals as goal

pub returns-in_ok-push : goal.returns-in_ok-push
returns-in_ok-push c =
    let some : length c.args.points.now ≡ 0 → ⊥ = eqb-false (length c.args.points.now) 0 (cc) in
    rw (c.in_ok-push.ensures.items, c.in_ok-push_points.ensures, c.in_ok-extend_from_slice.ensures.items)
    (bands_line c.args.out.now.items c.args.points.now some)

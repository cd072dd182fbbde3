use Rattle.certificate_check.specs.Cuts.{path_of}
use Rattle.certificate_check.proofs.unresolved.is_unresolved.Goals as goal

pub returns-then-is_possible : goal.returns-then-is_possible
returns-then-is_possible c =
    let p = path_of c.args.standing.now.cut in (
      λ h. record { possible = c.is_possible.ensures.0 c.if-is_possible.true; exceeds = c.requires.start.to_start p (c.exceeds_form.ensures.0 h) },
      λ unresolved. c.exceeds_form.ensures.1 (c.requires.start.to_form p unresolved.exceeds),
    )

use Rattle.std.proofs.Common.{◌∷◌, ◌++◌, length, ◌∙◌}
use Rattle.exam_office.proofs.MigratingSteps.{just_one, just_this, old_payload, old_place, old_within}
use Rattle.exam_office.proofs.migrating.read_old.Goals as goal

pub returns-in-Ok-Some-clause-payload : goal.returns-in-Ok-Some-clause-payload
returns-in-Ok-Some-clause-payload g c = λ told before after qs p moving place.
    just_this _ c.in-Ok-Some.field-0 c.in-Ok-Some.payload c.in-Ok-Some.field-0-is
    (c.in-Ok-Some.ensures.payload told (before ++ p ∷ after) qs (length before) moving (old_within before after p) (old_place before after p c.args.at place))
    ∙ old_payload before after p

pub returns-in-Ok-None-clause-why : goal.returns-in-Ok-None-clause-why
returns-in-Ok-None-clause-why g c = λ told before after qs p moving place.
    absurd (just_one _ c.in-Ok-None.field-0 c.in-Ok-None.field-0-is
    (c.in-Ok-None.ensures.payload told (before ++ p ∷ after) qs (length before) moving (old_within before after p) (old_place before after p c.args.at place)))

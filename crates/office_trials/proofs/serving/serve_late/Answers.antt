use Rattle.office_trials.proofs.Later.{may_later}
use Rattle.office_trials.proofs.serving.serve_late.Goals as goal

pub commit-requires : goal.commit-requires
commit-requires g c =
    may_later c.args.office.now c.close-closed.new.self _ _ _
    c.close-closed.ensures.same c.close-closed.ensures.call c.assembled_for-assembled.ensures

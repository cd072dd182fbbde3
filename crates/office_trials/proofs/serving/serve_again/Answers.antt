use Rattle.office_trials.proofs.Later.{may_later}
use Rattle.office_trials.proofs.serving.serve_again.Goals as goal

pub commit-requires : goal.commit-requires
commit-requires g c =
    may_later c.args.office.now c.commit-first.new.self _ _ _
    c.commit-first.ensures.same c.commit-first.ensures.call c.assembled_for-assembled.ensures

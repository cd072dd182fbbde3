-- Turns that add nothing, one after another.
use Rattle.std.proofs.Common.{[], ◌++◌}
use Rattle.turn_lock.specs.Passes.{Known}
use Rattle.exam_office.specs.declared.mark.Mark.{Mark}
use Rattle.exam_hall.proofs.Went.{went_through}
use Rattle.prepare_desk.specs.Posts.{IsIdle}

pub idle_through : (a b c : Known Mark) → IsIdle a b → IsIdle b c → IsIdle a c
idle_through a b c p q = (p.0 ++ q.0, went_through a b c p.0 q.0 [] [] p.1 q.1)

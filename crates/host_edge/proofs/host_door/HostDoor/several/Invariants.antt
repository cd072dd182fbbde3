use Rattle.std.proofs.Common.{◌≡◌, false, All, vec_len, IsNone}
use Rattle.host_edge.specs.HostDoor.{listens, left_of, out_of}
use Rattle.host_edge.proofs.host_door.HostDoor.several.Given as goal

-- the doors that are made are home, each gives so many links, and none listens if there is no
-- listener
abbrev pub invariant-loop-made : goal.invariant-loop-made
invariant-loop-made l = (vec_len l.all ≡ l._made)
    × All (λ d. out_of d ≡ false) l.all.items
    × All (λ d. left_of d ≡ l.links) l.all.items
    × (IsNone l.fn.listener → All (λ d. listens d ≡ false) l.all.items)

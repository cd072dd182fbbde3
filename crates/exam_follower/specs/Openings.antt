-- What happens to a follower over any number of openings of its file: events of one world, by one
-- rule.
use Rattle.std.specs.Prelude.{◌≡◌, ◌⊎◌, ℕ, ◌≤◌, max, List, length, Contains, Some, None}
use Rattle.std.specs.List.{AllByRecursion}
use Rattle.answer_journal.specs.Versions.{contents, second}
use Rattle.record_links.specs.declared.replica.TakeFault.{TakeFault}
use Rattle.record_links.specs.Events.{IsFollowerOf, LeadsTo}
use Rattle.record_links.specs.Following.{Serves}
use Rattle.record_links.specs.Replicas.{Held, IsMended, Takes, Fails, StopLeaves}
use Rattle.record_links.specs.World.{Numbered, World}
use Rattle.exam_follower.specs.Delivering.{HasRecords}
use Rattle.exam_follower.specs.Followers.{FollowerState, records_of, held_of, may_follow, lasting_rule, size_with, limit_of}

-- it is the follower of a world, by the rule of all openings
abbrev pub IsInWorld : {D : Type 0} → FollowerState D → World (List ℕ) → Type 0
IsInWorld f w = IsFollowerOf (lasting_rule f) w (held_of f)

-- an offer that was sent is taken, and the count answered
abbrev pub TakesInWorld : {D : Type 0} → FollowerState D → Type 0
TakesInWorld f =
    (w : World (List ℕ)) (new : Held) (offer : Numbered (List ℕ)) → IsInWorld f w
    → Contains w.sent offer → Takes (may_follow f) (held_of f) offer new
    → (v : World (List ℕ)) × LeadsTo (lasting_rule f) w new v
    × (v.most ≡ max w.most (length new.records))

-- it is not taken, and nothing is answered
abbrev pub FailsInWorld : {D : Type 0} → FollowerState D → Type 0
FailsInWorld f =
    (w : World (List ℕ)) (new : Held) (offer : Numbered (List ℕ)) (fault : TakeFault)
    → IsInWorld f w → Contains w.sent offer
    → Fails (may_follow f) (size_with f) (limit_of f) (held_of f) offer new fault
    → (v : World (List ℕ)) × LeadsTo (lasting_rule f) w new v × (v.most ≡ w.most)

-- the offers of a link are taken, all of them sent, and the counts answered
abbrev pub LinksInWorld : {D : Type 0} → FollowerState D → Type 0
LinksInWorld f =
    (w : World (List ℕ)) (bytes : List ℕ) (offers : List (Numbered (List ℕ))) (text left : List ℕ)
    (held : Held) → IsInWorld f w → AllByRecursion (λ offer. Contains w.sent offer) offers
    → Serves (may_follow f) (size_with f) (limit_of f) (held_of f) bytes offers text left held
    → (v : World (List ℕ)) × LeadsTo (lasting_rule f) w held v × (length held.records ≤ v.most)

-- a file that a stop may leave: between two calls, or while an offer that was sent is delivered
abbrev pub IsLeftByStop : {D : Type 0} → FollowerState D → List (Numbered (List ℕ)) → List ℕ → Type 0
IsLeftByStop f sent file =
    HasRecords (IsMended (held_of f)) file
    ⊎ ((offer : Numbered (List ℕ)) × Contains sent offer
    × HasRecords (StopLeaves (may_follow f) (held_of f) offer) file)

-- a follower that is opened over the file that a stop left of the one before is in the world that
-- this one was in, and what was answered stays
abbrev pub OpensInWorld : {D : Type 0} → FollowerState D → FollowerState D → Type 0
OpensInWorld before after =
    (w : World (List ℕ)) (file : List ℕ) → IsInWorld before w → IsLeftByStop before w.sent file
    → contents file ≡ Some (second (records_of after)) → after.doubt ≡ None
    → (v : World (List ℕ)) × LeadsTo (lasting_rule before) w (held_of after) v × (v.most ≡ w.most)

-- A leader's records and a follower's, over a channel that may lose, repeat and reorder what is
-- sent, while the follower may stop at any time.
use Rattle.std.specs.Prelude.{◌≡◌, ℕ, ◌<◌, ◌≤◌, max}
use Rattle.std.specs.Prelude.{List, [], ◌∷◌, ◌++◌, length, slice_get, Contains, Some}

-- a record with its number, counted from 0: what an offer carries
pub record Numbered (R : Type 0) : Type 0 where
  pub number : ℕ
  pub content : R

-- the leader's records, the offers sent so far, the follower's records, and the greatest count that
-- the follower ever answered
pub record World (R : Type 0) : Type 0 where
  pub leader : List R
  pub sent : List (Numbered R)
  pub follower : List R
  pub most : ℕ

-- the follower has a beginning of the leader's records; nothing is sent or answered yet
pub record IsStart {R : Type 0} (w : World R) : Type 0 where
  pub rest : List R
  pub begins : w.leader ≡ w.follower ++ rest
  pub none_sent : w.sent ≡ []
  pub none_answered : w.most ≡ 0

-- the follower has a beginning of the leader's records, and at least as many as it ever answered;
-- so the records with a number below that are the leader's
pub record Follows {R : Type 0} (w : World R) : Type 0 where
  pub rest : List R
  pub begins : w.leader ≡ w.follower ++ rest
  pub enough : w.most ≤ length w.follower
  pub same : (k : ℕ) → k < w.most → slice_get w.follower k ≡ slice_get w.leader k

-- `may F r` is the rule: whether the record r may follow the records F
module _ {R : Type 0} (may : List R → R → Type 0) where
  -- a delivered offer is appended where it has the next number and may follow; every other one
  -- leaves the records
  pub data Delivers (F : List R) (offer : Numbered R) : List R → Type 0 where
    appended : offer.number ≡ length F → may F offer.content
        → Delivers F offer (F ++ offer.content ∷ [])
    ignored : (offer.number ≡ length F → may F offer.content → ⊥) → Delivers F offer F

  -- one event
  pub data Happens : World R → World R → Type 0 where
    -- the leader gains a record that may follow those that it has
    grows : (w : World R) (r : R) → may w.leader r
        → Happens w (record w { leader = w.leader ++ r ∷ [] })
    -- an offer of any record of the leader is sent, with its number
    sends : (w : World R) (offer : Numbered R)
        → slice_get w.leader offer.number ≡ Some offer.content
        → Happens w (record w { sent = w.sent ++ offer ∷ [] })
    -- any offer ever sent is delivered, and the follower answers with its count
    delivers : (w : World R) (offer : Numbered R) (G : List R) → Contains w.sent offer
        → Delivers w.follower offer G
        → Happens w (record w { follower = G; most = max w.most (length G) })
    -- the follower stops with an offer in hand, and recovers with it delivered and not answered
    stops_with : (w : World R) (offer : Numbered R) (G : List R) → Contains w.sent offer
        → Delivers w.follower offer G → Happens w (record w { follower = G })
    -- the follower stops, and recovers without what it had in hand
    stops_without : (w : World R) → Happens w w
    -- the follower answers with its count without a delivery, as at the beginning of a link
    answers : (w : World R) → Happens w (record w { most = max w.most (length w.follower) })

  -- events, one after another
  pub data HappensAlong (start : World R) : World R → Type 0 where
    nothing : HappensAlong start start
    and_then : (w v : World R) → HappensAlong start w → Happens w v → HappensAlong start v

-- whatever happens from a start on by this rule, the follower follows
abbrev pub FollowsAlong : (List (List ℕ) → List ℕ → Type 0) → Type 0
FollowsAlong may = (start w : World (List ℕ)) → IsStart start → HappensAlong may start w → Follows w

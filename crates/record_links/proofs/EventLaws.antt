-- A link of a follower is events of the world.
use Rattle.std.proofs.Common.{◌≡◌, ℕ, ◌≤◌, max, List, [], ◌∷◌, ◌++◌, length, Option, None, refl, sym, ap, subst, arith}
use Rattle.std.specs.Prelude.{Contains}
use Rattle.std.specs.List.{AllByRecursion}
use Rattle.record_links.specs.Events.{LinksAreEvents}
use Rattle.record_links.specs.Following.{Serves, begun, and_then}
use Rattle.record_links.specs.Replicas.{Held, sure, IsMended, as_they_are, with_doubt, Takes}
use Rattle.record_links.specs.World.{Numbered, World, Delivers, answers, delivers, HappensAlong, nothing, and_then as and_then_event}

pub split_last : {A : Type 0} (P : A → Type 0) (xs : List A) (x : A) → AllByRecursion P (xs ++ x ∷ []) → AllByRecursion P xs × P x
split_last P [] x all = (tt, all.0)
split_last P (y ∷ ys) x all = let rest = split_last P ys x all.1 in ((all.0, rest.0), rest.1)

-- where nothing is in doubt there is nothing to mend
none_to_mend : (held : Held) (F base : List (List ℕ)) → held ≡ sure F → IsMended held base → base ≡ F
none_to_mend held F base is as_they_are = ap (λ (h : Held). h.records) is
none_to_mend held F base is (with_doubt r e) =
    let none : held.doubt ≡ None = ap (λ (h : Held). h.doubt) is in
    absurd (cc (none, e))

-- a replica that has nothing in doubt
sure_of : (held : Held) → held.doubt ≡ None → held ≡ sure held.records
sure_of held none = ap (λ (d : Option (List ℕ)). record { records = held.records; doubt = d }) none

module _ (may : List (List ℕ) → List ℕ → Type 0) (size : List (List ℕ) → ℕ) (limit : ℕ) where
  -- events that leave leader and offers as they are, and the follower with this
  record IsReached (w : World (List ℕ)) (held : Held) : Type 0 where
    there : World (List ℕ)
    along : HappensAlong may w there
    leader : there.leader ≡ w.leader
    sent : there.sent ≡ w.sent
    follower : held ≡ sure there.follower
    answered : length held.records ≤ there.most

  at_first : (w : World (List ℕ)) → IsReached w (sure w.follower)
  at_first w =
      record {
        there = record w { most = max w.most (length w.follower) };
        along = and_then_event w (record w { most = max w.most (length w.follower) }) nothing (answers w);
        leader = refl;
        sent = refl;
        follower = refl;
        answered = omega arith;
      }

  one_offer_more : (w : World (List ℕ)) (old new : Held) (o : Numbered (List ℕ)) → IsReached w old → Contains w.sent o → Takes may old o new → IsReached w new
  one_offer_more w old new o reached there_sent takes =
      let v = reached.there in
      let base : takes.base ≡ v.follower = none_to_mend old v.follower takes.base reached.follower takes.mended in
      let delivery : Delivers may v.follower o new.records = subst (λ (F : List (List ℕ)). Delivers may F o new.records) base takes.delivers in
      let known : Contains v.sent o = subst (λ (s : List (Numbered (List ℕ))). Contains s o) (sym reached.sent) there_sent in
      let after : World (List ℕ) = record v { follower = new.records; most = max v.most (length new.records) } in
      record {
        there = after;
        along = and_then_event v after reached.along (delivers v o new.records known delivery);
        leader = reached.leader;
        sent = reached.sent;
        follower = sure_of new takes.settled;
        answered = omega arith;
      }

  reaches : (w : World (List ℕ)) (bytes : List ℕ) (offers : List (Numbered (List ℕ))) (text left : List ℕ) (held : Held)
      → Serves may size limit (sure w.follower) bytes offers text left held → AllByRecursion (λ o. Contains w.sent o) offers → IsReached w held
  reaches w bytes offers text left held begun all = at_first w
  reaches w bytes offers text left held (and_then before text_before left_before next old new o serves is takes) all =
      let parts = split_last (λ (x : Numbered (List ℕ)). Contains w.sent x) before o all in
      one_offer_more w old new o (reaches w bytes before text_before left_before old serves parts.0) parts.1 takes

pub links_are_events : (may : List (List ℕ) → List ℕ → Type 0) (size : List (List ℕ) → ℕ) (limit : ℕ) → LinksAreEvents may size limit
links_are_events may size limit w bytes offers text left held serves all =
    let r = reaches may size limit w bytes offers text left held serves all in
    (r.there, r.along, r.leader, r.follower, r.answered)

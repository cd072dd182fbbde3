-- What is so by the rule at one moment of a link is so by the rule at its start, which is the same.
use Rattle.std.proofs.Common.{⊎_elim, inl, inr, ℕ, ◌<◌, List, refl, ◌∙◌, subst}
use Rattle.record_links.specs.declared.followed.Followed.{Followed}
use Rattle.record_links.specs.declared.followed.Followed.TheVariants.{Done, Link, Peer, Offer, Full, Lost, Disk, Memory}
use Rattle.record_links.specs.declared.followed.Turn.{Turn}
use Rattle.record_links.specs.declared.followed.Turn.TheVariants.{GoesOn, Over}
use Rattle.record_links.specs.declared.replica.TakeFault.{TakeFault}
use Rattle.record_links.specs.declared.replica.TakeFault.TheVariants as take
use Rattle.record_links.specs.World.{Numbered, Delivers, appended, ignored}
use Rattle.record_links.specs.Replicas.{Held, IsSameRule, Takes, IsDue, Fails}
use Rattle.record_links.specs.Following.{Moves, Halts, Ends, EndsWith}

pub same_rule : (m : List (List ℕ) → List ℕ → Type 0) (s : List (List ℕ) → ℕ) (l : ℕ) → IsSameRule m m s s l l
same_rule m s l =
    record { there = λ F r h. h; back = λ F r h. h; same_size = λ F. refl; same_limit = refl }

pub same_still : (m n o : List (List ℕ) → List ℕ → Type 0) (s t u : List (List ℕ) → ℕ) (l k j : ℕ) → IsSameRule m n s t l k → IsSameRule n o t u k j → IsSameRule m o s u l j
same_still m n o s t u l k j a b =
    record {
      there = λ F r h. b.there F r (a.there F r h);
      back = λ F r h. a.back F r (b.back F r h);
      same_size = λ F. b.same_size F ∙ a.same_size F;
      same_limit = b.same_limit ∙ a.same_limit;
    }

module _ (m n : List (List ℕ) → List ℕ → Type 0) (s t : List (List ℕ) → ℕ) (l k : ℕ) (same : IsSameRule m n s t l k) where
  delivers_then : (F : List (List ℕ)) (o : Numbered (List ℕ)) (G : List (List ℕ)) → Delivers n F o G → Delivers m F o G
  delivers_then F o G (appended next may) = appended next (same.back F o.content may)
  delivers_then F o G (ignored unless) = ignored (λ next may. unless next (same.there F o.content may))

  pub takes_then : (old : Held) (o : Numbered (List ℕ)) (new : Held) → Takes n old o new → Takes m old o new
  takes_then old o new w =
      record { base = w.base; mended = w.mended; delivers = delivers_then w.base o new.records w.delivers; added = w.added; settled = w.settled }

  due_then : (old : Held) (base : List (List ℕ)) (o : Numbered (List ℕ)) → IsDue n old base o → IsDue m old base o
  due_then old base o w = record { mended = w.mended; next = w.next; follows = same.back base o.content w.follows }

  fails_then : (old : Held) (o : Numbered (List ℕ)) (new : Held) (f : TakeFault) → Fails n t k old o new f → Fails m s l old o new f
  fails_then old o new take.Refused w = (w.0, w.1, w.2, w.3, λ may. w.4 (same.there w.0 o.content may))
  fails_then old o new (take.Full v) w = (w.0, due_then old w.0 o w.1, w.2, w.3 ∙ same.same_size _, subst (λ (x : ℕ). x < v) same.same_limit w.4)
  fails_then old o new take.Disk w = ⊎_elim (λ z. inl z) (λ v. inr (v.0, due_then old v.0 o v.1, v.2)) w
  fails_then old o new take.Memory w = w

  moves_then : (old : Held) (o : Numbered (List ℕ)) (new : Held) (turn : Turn) → Moves n t k old o new turn → Moves m s l old o new turn
  moves_then old o new GoesOn w = takes_then old o new w
  moves_then old o new (Over (Done count)) w = absurd w
  moves_then old o new (Over Link) w = takes_then old o new w
  moves_then old o new (Over (Peer fault)) w = absurd w
  moves_then old o new (Over (Offer v)) w = (fails_then old o new take.Refused w.0, w.1)
  moves_then old o new (Over (Full v)) w = fails_then old o new (take.Full v) w
  moves_then old o new (Over (Lost v)) w = absurd w
  moves_then old o new (Over Disk) w = fails_then old o new take.Disk w
  moves_then old o new (Over Memory) w = fails_then old o new take.Memory w

  pub halts_then : (old new : Held) (followed : Followed) → Halts n t k old new followed → Halts m s l old new followed
  halts_then old new (Done count) w = w
  halts_then old new (Peer fault) w = w
  halts_then old new Link w = ⊎_elim (λ z. inl z) (λ v. inr (v.0, moves_then old v.0 new (Over Link) v.1)) w
  halts_then old new Memory w = ⊎_elim (λ z. inl z) (λ v. inr (v.0, moves_then old v.0 new (Over Memory) v.1)) w
  halts_then old new (Offer v) w = (w.0, moves_then old w.0 new (Over (Offer v)) w.1)
  halts_then old new (Full v) w = (w.0, moves_then old w.0 new (Over (Full v)) w.1)
  halts_then old new (Lost v) w = absurd w
  halts_then old new Disk w = (w.0, moves_then old w.0 new (Over Disk) w.1)

  ends_then : (old : Held) (bytes text : List ℕ) (new : Held) (turn : Turn) → Ends n t k old bytes text new turn → Ends m s l old bytes text new turn
  ends_then old bytes text new turn w =
      record { offer = w.offer; next = w.next; is_offer = w.is_offer; moves = moves_then old w.offer new turn w.moves; answers = w.answers }

  pub ends_with_then : (old : Held) (bytes text : List ℕ) (new : Held) (followed : Followed) → EndsWith n t k old bytes text new followed → EndsWith m s l old bytes text new followed
  ends_with_then old bytes text new (Done count) w = w
  ends_with_then old bytes text new (Peer fault) w = w
  ends_with_then old bytes text new Link w = ⊎_elim (λ z. inl z) (λ v. inr (ends_then old bytes text new (Over Link) v)) w
  ends_with_then old bytes text new Memory w = ⊎_elim (λ z. inl z) (λ v. inr (ends_then old bytes text new (Over Memory) v)) w
  ends_with_then old bytes text new (Offer v) w = ends_then old bytes text new (Over (Offer v)) w
  ends_with_then old bytes text new (Full v) w = ends_then old bytes text new (Over (Full v)) w
  ends_with_then old bytes text new (Lost v) w = ends_then old bytes text new (Over (Lost v)) w
  ends_with_then old bytes text new Disk w = ends_then old bytes text new (Over Disk) w

-- What a call does to a replica, and what a shipper writes, is events of the world.
use Rattle.std.proofs.Common.{◌≡◌, ⊎_elim, inr, ℕ, ◌+◌, max, List, [], ◌∷◌, ◌++◌, length, Some, None, refl, sym, ap, ◌∙◌, subst, arith, append_assoc, append-nil, length-append}
use Rattle.std.specs.Prelude.{Contains}
use Rattle.record_links.specs.declared.replica.TakeFault.TheVariants.{Refused, Full, Disk, Memory}
use Rattle.record_links.specs.Events.{IsFollowerOf, LeadsTo, TakesAreEvents, FaultsAreEvents, StopsAreEvents, LinksGoOn, EventsJoin, texts_of, OffersAreEvents}
use Rattle.record_links.specs.Following.{begun as serves_none, and_then as serves_more}
use Rattle.record_links.specs.Messages.{offer_of, offer_text}
use Rattle.record_links.specs.Replicas.{Held, sure, IsMended, as_they_are, with_doubt, IsUndelivered}
use Rattle.record_links.specs.Shipping.{begun, and_then}
use Rattle.record_links.proofs.EventLaws.{split_last}
use Rattle.record_links.specs.World.{Numbered, World, Delivers, appended, sends, delivers, stops_with, answers, HappensAlong, nothing, and_then as and_then_event}

none_some : (r : List ℕ) → None ≡ Some r → ⊥
none_some r e = cc

some_same : (x y : List ℕ) → Some x ≡ Some y → x ≡ y
some_same x y e = cc

module _ (may : List (List ℕ) → List ℕ → Type 0) where
  -- a replica with these records, and none in doubt
  sure_follower : (v : World (List ℕ)) (F : List (List ℕ)) → F ≡ v.follower → IsFollowerOf may v (sure F)
  sure_follower v F same = record { records = same; doubt = λ r e. absurd (none_some r e) }

  -- the record in doubt is resolved
  pub mends : (w : World (List ℕ)) (old : Held) (base : List (List ℕ)) → IsFollowerOf may w old → IsMended old base
      → (v : World (List ℕ)) × LeadsTo may w (sure base) v × (v.most ≡ w.most)
  mends w old _ is as_they_are =
      (w, record { along = nothing; leader = refl; sent = refl; follower = sure_follower w old.records is.records }, refl)
  mends w old _ is (with_doubt r e) =
      let d = is.doubt r e in
      let v : World (List ℕ) = record w { follower = w.follower ++ r ∷ [] } in (
        v,
        record {
          along = and_then_event w v nothing (stops_with w (offer_of (length w.follower) r) (w.follower ++ r ∷ []) d.0 (appended refl d.1));
          leader = refl;
          sent = refl;
          follower = sure_follower v (old.records ++ r ∷ []) (ap (λ (F : List (List ℕ)). F ++ r ∷ []) is.records);
        },
        refl,
      )

  pub takes_are_events : TakesAreEvents may
  takes_are_events w old new o is there takes =
      let m = mends w old takes.base is takes.mended in
      let v : World (List ℕ) = m.0 in
      let delivery : Delivers may v.follower o new.records = subst (λ (F : List (List ℕ)). Delivers may F o new.records) m.1.follower.records takes.delivers in
      let known : Contains v.sent o = subst (λ (s : List (Numbered (List ℕ))). Contains s o) (sym m.1.sent) there in
      let after : World (List ℕ) = record v { follower = new.records; most = max v.most (length new.records) } in (
        after,
        record {
          along = and_then_event v after m.1.along (delivers v o new.records known delivery);
          leader = m.1.leader;
          sent = m.1.sent;
          follower = record { records = refl; doubt = λ r e. absurd (none_some r (sym takes.settled ∙ e)) };
        },
        ap (λ (n : ℕ). max n (length new.records)) m.2,
      )

  mended_to : (w : World (List ℕ)) (old new : Held) (base : List (List ℕ)) → IsFollowerOf may w old → IsMended old base → new ≡ sure base → (v : World (List ℕ)) × LeadsTo may w new v × (v.most ≡ w.most)
  mended_to w old new base is mended e = subst (λ (h : Held). (v : World (List ℕ)) × LeadsTo may w h v × (v.most ≡ w.most)) (sym e) (mends w old base is mended)

  -- nothing was delivered
  undelivered : (w : World (List ℕ)) (old new : Held) → IsFollowerOf may w old → IsUndelivered old new → (v : World (List ℕ)) × LeadsTo may w new v × (v.most ≡ w.most)
  undelivered w old new is how =
      ⊎_elim
      (λ e. (w, record { along = nothing; leader = refl; sent = refl; follower = subst (IsFollowerOf may w) (sym e) is }, refl))
      (λ z. mended_to w old new z.0 is z.1 z.2) how

  doubtful : (v : World (List ℕ)) (content r : List ℕ) → Contains v.sent (offer_of (length v.follower) content) → may v.follower content → Some content ≡ Some r
      → Contains v.sent (offer_of (length v.follower) r) × may v.follower r
  doubtful v content r offered here e =
      let same : content ≡ r = some_same content r e in
      (subst (λ (x : List ℕ). Contains v.sent (offer_of (length v.follower) x)) same offered, subst (λ (x : List ℕ). may v.follower x) same here)

  -- a record that was sent as the next one is in doubt
  left_in_doubt : (w : World (List ℕ)) (old : Held) (base : List (List ℕ)) (o : Numbered (List ℕ)) → IsFollowerOf may w old → Contains w.sent o → IsMended old base
      → o.number ≡ length base → may base o.content → (v : World (List ℕ)) × LeadsTo may w (record { records = base; doubt = Some o.content }) v × (v.most ≡ w.most)
  left_in_doubt w old base o is there mended next follows =
      let m = mends w old base is mended in
      let v : World (List ℕ) = m.0 in
      let same : base ≡ v.follower = m.1.follower.records in
      let known : Contains v.sent o = subst (λ (s : List (Numbered (List ℕ))). Contains s o) (sym m.1.sent) there in
      let number : o.number ≡ length v.follower = next ∙ ap (λ (F : List (List ℕ)). length F) same in
      let offered : Contains v.sent (offer_of (length v.follower) o.content) = subst (λ (n : ℕ). Contains v.sent (offer_of n o.content)) number known in
      let here : may v.follower o.content = subst (λ (F : List (List ℕ)). may F o.content) same follows in (
        v,
        record {
          along = m.1.along;
          leader = m.1.leader;
          sent = m.1.sent;
          follower = record {
            records = same;
            doubt = λ r e. doubtful v o.content r offered here e;
          };
        },
        m.2,
      )

  -- a stop leaves the mended records with the offer delivered
  stopped_with : (w : World (List ℕ)) (old : Held) (o : Numbered (List ℕ)) (left base : List (List ℕ)) → IsFollowerOf may w old → Contains w.sent o → IsMended old base → Delivers may base o left
      → (v : World (List ℕ)) × LeadsTo may w (sure left) v × (v.most ≡ w.most)
  stopped_with w old o left base is there mended d =
      let m = mends w old base is mended in
      let v : World (List ℕ) = m.0 in
      let delivery : Delivers may v.follower o left = subst (λ (F : List (List ℕ)). Delivers may F o left) m.1.follower.records d in
      let known : Contains v.sent o = subst (λ (s : List (Numbered (List ℕ))). Contains s o) (sym m.1.sent) there in
      let after : World (List ℕ) = record v { follower = left } in (
        after,
        record {
          along = and_then_event v after m.1.along (stops_with v o left known delivery);
          leader = m.1.leader;
          sent = m.1.sent;
          follower = sure_follower after left refl;
        },
        m.2,
      )

  pub stops_are_events : StopsAreEvents may
  stops_are_events w old o left is there stop =
      ⊎_elim (λ e. mended_to w old (sure left) stop.0 is stop.1 (ap (λ (F : List (List ℕ)). sure F) e))
      (λ d. stopped_with w old o left stop.0 is there stop.1 d) stop.2

  module _ (size : List (List ℕ) → ℕ) (limit : ℕ) where
    pub faults_are_events : FaultsAreEvents may size limit
    faults_are_events w old new o Refused is there f = undelivered w old new is (inr (f.0, f.1, f.2))
    faults_are_events w old new o (Full n) is there f = undelivered w old new is (inr (f.0, f.1.mended, f.2))
    faults_are_events w old new o Disk is there f =
        ⊎_elim (λ u. undelivered w old new is u)
        (λ d. subst (λ (h : Held). (v : World (List ℕ)) × LeadsTo may w h v × (v.most ≡ w.most)) (sym d.2) (left_in_doubt w old d.0 o is there d.1.mended d.1.next d.1.follows)) f
    faults_are_events w old new o Memory is there f = undelivered w old new is f

  -- ---- links
  pub events_join : EventsJoin may
  events_join u w v before nothing = before
  events_join u w v before (and_then_event x y after last) = and_then_event x y (events_join u w x before after) last

  module _ (size : List (List ℕ) → ℕ) (limit : ℕ) where
    pub links_go_on : LinksGoOn may size limit
    links_go_on w bytes start offers text left held is all serves_none =
        let v : World (List ℕ) = record w { most = max w.most (length w.follower) } in
        let n : length start.records ≡ length w.follower = ap (λ (F : List (List ℕ)). length F) is.records in (
          v,
          record {
            along = and_then_event w v nothing (answers w);
            leader = refl;
            sent = refl;
            follower = record { records = is.records; doubt = is.doubt };
          },
          omega (arith, n),
        )
    links_go_on w bytes start offers text left held is all (serves_more before text_before left_before next old new o serves is_offer takes) =
        let parts = split_last (λ (x : Numbered (List ℕ)). Contains w.sent x) before o all in
        let r = links_go_on w bytes start before text_before left_before old is parts.0 serves in
        let u : World (List ℕ) = r.0 in
        let known : Contains u.sent o = subst (λ (s : List (Numbered (List ℕ))). Contains s o) (sym r.1.sent) parts.1 in
        let t = takes_are_events u old new o r.1.follower known takes in
        let v : World (List ℕ) = t.0 in
        let most : v.most ≡ max u.most (length new.records) = t.2 in (
          v,
          record {
            along = events_join w u v r.1.along t.1.along;
            leader = t.1.leader ∙ r.1.leader;
            sent = t.1.sent ∙ r.1.sent;
            follower = t.1.follower;
          },
          omega (arith, most),
        )

  -- ---- what a shipper writes
  texts-push : (xs : List (Numbered (List ℕ))) (o : Numbered (List ℕ)) → texts_of (xs ++ o ∷ []) ≡ texts_of xs ++ offer_text o.number o.content
  texts-push [] o = append-nil (offer_text o.number o.content)
  texts-push (x ∷ xs) o =
      ap (λ (t : List ℕ). offer_text x.number x.content ++ t) (texts-push xs o)
      ∙ sym (append_assoc (offer_text x.number x.content) (texts_of xs) (offer_text o.number o.content))

  pub offers_are_events : OffersAreEvents may
  offers_are_events w bytes haves text left begun =
      ([], refl, refl, subst (λ (s : List (Numbered (List ℕ))). HappensAlong may w (record w { sent = s })) (sym (append-nil w.sent)) nothing)
  offers_are_events w bytes haves text left (and_then before text_before left_before next number payload ships have e) =
      let r = offers_are_events w bytes before text_before left_before ships in
      let o : Numbered (List ℕ) = offer_of number payload in
      let v : World (List ℕ) = record w { sent = w.sent ++ r.0 } in
      let n = length-append r.0 (o ∷ []) in
      let many = r.2 in (
        r.0 ++ o ∷ [],
        ap (λ (t : List ℕ). t ++ offer_text number payload) r.1 ∙ sym (texts-push r.0 o),
        omega (arith, n, many),
        subst (λ (s : List (Numbered (List ℕ))). HappensAlong may w (record w { sent = s })) (append_assoc w.sent r.0 (o ∷ []))
            (and_then_event v (record v { sent = v.sent ++ o ∷ [] }) r.3 (sends v o e)),
      )

-- The rule of a follower is that of its start, and what is so after mending is so before it.
use Rattle.std.proofs.Common.{◌≡◌, ⊎_elim, inl, inr, ℕ, ◌<◌, List, [], ◌∷◌, ◌++◌, length, drop, None, refl, sym, ap, ◌∙◌, subst}
use Rattle.form_model.specs.Plan.{Plan}
use Rattle.bank_tables.specs.Tables.{Tables}
use Rattle.history_model.specs.declared.entry.Entry.{Entry}
use Rattle.answer_journal.specs.Payload.{end_of}
use Rattle.record_links.specs.declared.replica.TakeFault.{TakeFault}
use Rattle.record_links.specs.declared.replica.TakeFault.TheVariants as take
use Rattle.record_links.specs.Replicas.{Held, sure, IsMended, as_they_are, with_doubt, IsUndelivered, IsSameRule, Takes, IsDue, StopLeaves, Fails}
use Rattle.record_links.specs.World.{Numbered, Delivers, appended, ignored}
use Rattle.exam_follower.specs.Followers.{FollowerState, found, opened_size, found_payloads, may_follow, IsFollowing, size_with, limit_of, IsSameFollower}

-- what was found is the same
pub first_later : {D : Type 0} (f g : FollowerState D) → IsSameFollower f g → found_payloads g.office ≡ found_payloads f.office
first_later f g later = rw (later.frame.tells, later.same.opened, later.found_same) refl

-- one rule by the same parts
rule_by : (b c : Tables) (p q : Plan) (xs ys : List (List ℕ)) (H K : List Entry) → b ≡ c → p ≡ q → xs ≡ ys → H ≡ K → (F : List (List ℕ)) (r : List ℕ) → IsFollowing b p xs H F r → IsFollowing c q ys K F r
rule_by b c p q xs ys H K eb ep ex eh F r w =
    subst (λ (t : Tables). IsFollowing t q ys K F r) eb
    (subst (λ (t : Plan). IsFollowing b t ys K F r) ep
    (subst (λ (t : List (List ℕ)). IsFollowing b p t K F r) ex
    (subst (λ (t : List Entry). IsFollowing b p xs t F r) eh w)))

pub rule_there : {D : Type 0} (f g : FollowerState D) → IsSameFollower f g → (F : List (List ℕ)) (r : List ℕ) → may_follow f F r → may_follow g F r
rule_there f g later F r w =
    rule_by f.office.bank g.office.bank f.office.plan g.office.plan (found_payloads f.office) (found_payloads g.office) (found f.office.marks) (found g.office.marks)
    (sym later.same.bank) (sym later.same.plan) (sym (first_later f g later)) (sym later.found_same) F r w

pub rule_back : {D : Type 0} (f g : FollowerState D) → IsSameFollower f g → (F : List (List ℕ)) (r : List ℕ) → may_follow g F r → may_follow f F r
rule_back f g later F r w =
    rule_by g.office.bank f.office.bank g.office.plan f.office.plan (found_payloads g.office) (found_payloads f.office) (found g.office.marks) (found f.office.marks)
    later.same.bank later.same.plan (first_later f g later) later.found_same F r w

pub same_rule_of : {D : Type 0} (f g : FollowerState D) → IsSameFollower f g → IsSameRule (may_follow f) (may_follow g) (size_with f) (size_with g) (limit_of f) (limit_of g)
same_rule_of f g later = record {
  there = rule_there f g later;
  back = rule_back f g later;
  same_size = λ F. ap (λ (n : ℕ). end_of n (drop (length (found g.office.marks)) F)) later.opened_same ∙ ap (λ (H : List Entry). end_of (opened_size f.office.marks) (drop (length H) F)) later.found_same;
  same_limit = ap (λ (p : Plan). p.journal) later.same.plan;
}

-- ---- after mending
-- nothing is left to mend
none_left : (held : Held) (base base1 : List (List ℕ)) → held ≡ sure base → IsMended held base1 → base1 ≡ base
none_left held base _ is as_they_are = ap (λ (h : Held). h.records) is
none_left held base _ is (with_doubt r e) =
    let none : held.doubt ≡ None = ap (λ (h : Held). h.doubt) is in
    absurd (cc (none, e))

module _ (m n : List (List ℕ) → List ℕ → Type 0) (s t : List (List ℕ) → ℕ) (l k : ℕ) (same : IsSameRule m n s t l k) (old mid : Held) (base : List (List ℕ)) (mended : IsMended old base) (mid_is : mid ≡ sure base) where
  delivers_from : (o : Numbered (List ℕ)) (base1 G : List (List ℕ)) → base1 ≡ base → Delivers n base1 o G → Delivers m base o G
  delivers_from o base1 _ e (appended next may) =
      subst (λ (B : List (List ℕ)). Delivers m B o (base1 ++ o.content ∷ [])) e (appended next (same.back base1 o.content may))
  delivers_from o base1 _ e (ignored unless) =
      subst (λ (B : List (List ℕ)). Delivers m B o base1) e (ignored (λ next may. unless next (same.there base1 o.content may)))

  mended_from : (base1 : List (List ℕ)) → IsMended mid base1 → IsMended old base1
  mended_from base1 w = subst (IsMended old) (sym (none_left mid base base1 mid_is w)) mended

  pub takes_from : (o : Numbered (List ℕ)) (new : Held) → Takes n mid o new → Takes m old o new
  takes_from o new w = record {
    base = base;
    mended = mended;
    delivers = delivers_from o w.base new.records (none_left mid base w.base mid_is w.mended) w.delivers;
    added = subst (λ (B : List (List ℕ)). o.number ≡ length B → new.records ≡ B ++ o.content ∷ []) (none_left mid base w.base mid_is w.mended) w.added;
    settled = w.settled;
  }

  due_from : (base1 : List (List ℕ)) (o : Numbered (List ℕ)) → IsDue n mid base1 o → IsDue m old base1 o
  due_from base1 o w = record { mended = mended_from base1 w.mended; next = w.next; follows = same.back base1 o.content w.follows }

  undelivered_from : (new : Held) → IsUndelivered mid new → IsUndelivered old new
  undelivered_from new w = ⊎_elim (λ e. inr (base, mended, e ∙ mid_is)) (λ z. inr (z.0, mended_from z.0 z.1, z.2)) w

  pub fails_from : (o : Numbered (List ℕ)) (new : Held) (f : TakeFault) → Fails n t k mid o new f → Fails m s l old o new f
  fails_from o new take.Refused w = (w.0, mended_from w.0 w.1, w.2, w.3, λ may. w.4 (same.there w.0 o.content may))
  fails_from o new (take.Full v) w = (w.0, due_from w.0 o w.1, w.2, w.3 ∙ same.same_size _, subst (λ (x : ℕ). x < v) same.same_limit w.4)
  fails_from o new take.Disk w = ⊎_elim (λ z. inl (undelivered_from new z)) (λ v. inr (v.0, due_from v.0 o v.1, v.2)) w
  fails_from o new take.Memory w = undelivered_from new w

  pub stops_from : (o : Numbered (List ℕ)) (left : List (List ℕ)) → StopLeaves n mid o left → StopLeaves m old o left
  stops_from o left w =
      let e = none_left mid base w.0 mid_is w.1 in
      (base, mended, ⊎_elim (λ z. inl (z ∙ e)) (λ d. inr (delivers_from o w.0 left e d)) w.2)

-- an offer with another number leaves the mended records
pub left_alone : (m : List (List ℕ) → List ℕ → Type 0) (old new : Held) (o : Numbered (List ℕ)) → IsMended old new.records → new.doubt ≡ None → (o.number ≡ length new.records → ⊥) → Takes m old o new
left_alone m old new o mended none other = record { base = new.records; mended = mended; delivers = ignored (λ next may. other next); added = λ next. absurd (other next); settled = none }

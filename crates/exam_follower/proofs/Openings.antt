-- The rule of an opening is that of all openings, for records that begin with those that were
-- found.
use Rattle.std.proofs.Common.{◌≡◌, ⊎_elim, ℕ, List, [], ◌∷◌, ◌++◌, map, IsTrue, refl, sym, ap, ◌∙◌, subst, append_assoc}
use Rattle.std.specs.Prelude.{Contains}
use Rattle.std.specs.List.{AllByRecursion}
use Rattle.std.proofs.lemmas.List.{map-append}
use Rattle.bank_tables.specs.Tables.{Tables}
use Rattle.form_model.specs.Plan.{Plan}
use Rattle.history_model.specs.declared.entry.Entry.{Entry}
use Rattle.history_model.specs.Judging.{Record, MayFollow, entries_of}
use Rattle.exam_records.specs.Shape.{IsRecord}
use Rattle.exam_records.specs.Spelling.{payload_of}
use Rattle.exam_records.proofs.SecondLaws.{no_two_records}
use Rattle.answer_journal.specs.Journal.{tells_of}
use Rattle.record_links.specs.Events.{IsFollowerOf, LeadsTo}
use Rattle.record_links.specs.Replicas.{Held, sure, IsMended, StopLeaves}
use Rattle.record_links.specs.World.{Numbered, World, Delivers, appended, ignored, Happens, grows, sends, delivers, stops_with, stops_without, answers, HappensAlong, nothing, and_then}
use Rattle.record_links.proofs.CallLaws.{mends, takes_are_events, faults_are_events, links_go_on, stops_are_events}
use Rattle.exam_follower.specs.Delivering.{HasRecords}
use Rattle.exam_follower.specs.Followers.{FollowerState, found, found_payloads, records_of, held_of, may_follow, lasting_rule, size_with, limit_of, AreSpelled, IsFollowing, IsFollower}
use Rattle.exam_follower.specs.Openings.{IsInWorld, TakesInWorld, FailsInWorld, LinksInWorld, OpensInWorld}
use Rattle.exam_follower.proofs.Marked.{all-append}
use Rattle.exam_follower.proofs.Steps.{held_none}
use Rattle.exam_follower.proofs.Stops.{records_there}

-- ---- one rule as the other, from some records on
module _ (m n : List (List ℕ) → List ℕ → Type 0) (first : List (List ℕ)) (up : (F : List (List ℕ)) (r : List ℕ) → m F r → n F r)
    (down : (F rest : List (List ℕ)) (r : List ℕ) → F ≡ first ++ rest → n F r → m F r) where
  delivered_on : (F : List (List ℕ)) (o : Numbered (List ℕ)) (G rest : List (List ℕ)) → F ≡ first ++ rest → Delivers m F o G → (more : List (List ℕ)) × (G ≡ first ++ more)
  delivered_on F o _ rest e (appended next may) =
      (rest ++ o.content ∷ [], ap (λ (K : List (List ℕ)). K ++ o.content ∷ []) e ∙ append_assoc first rest (o.content ∷ []))
  delivered_on F o _ rest e (ignored unless) = (rest, e)

  delivers_so : (F : List (List ℕ)) (o : Numbered (List ℕ)) (G rest : List (List ℕ)) → F ≡ first ++ rest → Delivers m F o G → Delivers n F o G
  delivers_so F o _ rest e (appended next may) = appended next (up F o.content may)
  delivers_so F o _ rest e (ignored unless) = ignored (λ next may. unless next (down F rest o.content e may))

  happened_on : (w v : World (List ℕ)) (rest : List (List ℕ)) → w.follower ≡ first ++ rest → Happens m w v → (more : List (List ℕ)) × (v.follower ≡ first ++ more)
  happened_on w v rest e (grows u r may) = (rest, e)
  happened_on w v rest e (sends u o there) = (rest, e)
  happened_on w v rest e (delivers u o G c d) = delivered_on w.follower o G rest e d
  happened_on w v rest e (stops_with u o G c d) = delivered_on w.follower o G rest e d
  happened_on w v rest e (stops_without u) = (rest, e)
  happened_on w v rest e (answers u) = (rest, e)

  happens_so : (w v : World (List ℕ)) (rest : List (List ℕ)) → w.follower ≡ first ++ rest → Happens m w v → Happens n w v
  happens_so w v rest e (grows u r may) = grows u r (up u.leader r may)
  happens_so w v rest e (sends u o there) = sends u o there
  happens_so w v rest e (delivers u o G c d) = delivers u o G c (delivers_so u.follower o G rest e d)
  happens_so w v rest e (stops_with u o G c d) = stops_with u o G c (delivers_so u.follower o G rest e d)
  happens_so w v rest e (stops_without u) = stops_without u
  happens_so w v rest e (answers u) = answers u

  along_on : (w v : World (List ℕ)) (rest : List (List ℕ)) → w.follower ≡ first ++ rest → HappensAlong m w v → (more : List (List ℕ)) × (v.follower ≡ first ++ more)
  along_on w v rest e nothing = (rest, e)
  along_on w v rest e (and_then x y before last) = let b = along_on w x rest e before in happened_on x y b.0 b.1 last

  along_so : (w v : World (List ℕ)) (rest : List (List ℕ)) → w.follower ≡ first ++ rest → HappensAlong m w v → HappensAlong n w v
  along_so w v rest e nothing = nothing
  along_so w v rest e (and_then x y before last) =
      let b = along_on w x rest e before in
      and_then x y (along_so w x rest e before) (happens_so x y b.0 b.1 last)

  pub leads_so : (w v : World (List ℕ)) (held : Held) (rest : List (List ℕ)) → w.follower ≡ first ++ rest → LeadsTo m w held v → LeadsTo n w held v
  leads_so w v held rest e l = record {
    along = along_so w v rest e l.along;
    leader = l.leader;
    sent = l.sent;
    follower = record {
      records = l.follower.records;
      doubt = λ r is. let d = l.follower.doubt r is in (d.0, up v.follower r d.1);
    };
  }

  pub follower_back : (w : World (List ℕ)) (held : Held) (rest : List (List ℕ)) → w.follower ≡ first ++ rest → IsFollowerOf n w held → IsFollowerOf m w held
  follower_back w held rest e f = record {
    records = f.records;
    doubt = λ r is. let d = f.doubt r is in (d.0, down w.follower rest r e d.1);
  }

-- ---- the rule of an opening
head_is : {A : Type 0} (x y : A) (xs ys : List A) → x ∷ xs ≡ y ∷ ys → x ≡ y
head_is x y xs ys e = cc

tail_is : {A : Type 0} (x y : A) (xs ys : List A) → x ∷ xs ≡ y ∷ ys → xs ≡ ys
tail_is x y xs ys e = cc

-- records of which the payloads begin with those of others begin with these
record IsSplit (S T : List Record) (rest : List (List ℕ)) : Type 0 where
  more : List Record
  is : T ≡ S ++ more
  payloads : rest ≡ map payload_of more
  spell : AllByRecursion IsRecord more

split : (S T : List Record) (rest : List (List ℕ)) → AllByRecursion IsRecord S → AllByRecursion IsRecord T → map payload_of T ≡ map payload_of S ++ rest → IsSplit S T rest
split [] T rest a b e = record { more = T; is = refl; payloads = sym e; spell = b }
split (x ∷ S) [] rest a b e = absurd (cc)
split (x ∷ S) (y ∷ T) rest a b e =
    let same : payload_of y ≡ payload_of x = head_is (payload_of y) (payload_of x) (map payload_of T) (map payload_of S ++ rest) e in
    let one : y ≡ x = no_two_records y x b.0 a.0 same in
    let s = split S T rest a.1 b.1 (tail_is (payload_of y) (payload_of x) (map payload_of T) (map payload_of S ++ rest) e) in
    record {
      more = s.more;
      is = ap (λ (z : Record). z ∷ T) one ∙ ap (λ (l : List Record). x ∷ l) s.is;
      payloads = s.payloads;
      spell = s.spell;
    }

module _ (b : Tables) (plan : Plan) (first : List (List ℕ)) (H : List Entry) (s : AreSpelled first H) where
  rule_up : (F : List (List ℕ)) (r : List ℕ) → IsFollowing b plan first H F r → IsFollowing b plan [] [] F r
  rule_up F r w = record {
    taken = s.records ++ w.taken;
    spell = all-append IsRecord s.records w.taken s.spell w.spell;
    are = w.are ∙ (ap (λ (ps : List (List ℕ)). ps ++ map payload_of w.taken) s.payloads ∙ sym (map-append payload_of s.records w.taken));
    last = w.last;
    spells = w.spells;
    is = w.is;
    may = subst (λ (G : List Entry). MayFollow b plan G w.last.entry w.last.tree)
        (ap (λ (G : List Entry). G ++ entries_of w.taken) (sym s.entries) ∙ sym (map-append (λ (x : Record). x.entry) s.records w.taken)) w.may;
  }

  rule_down : (F rest : List (List ℕ)) (r : List ℕ) → F ≡ first ++ rest → IsFollowing b plan [] [] F r → IsFollowing b plan first H F r
  rule_down F rest r e w =
      let whole : map payload_of w.taken ≡ map payload_of s.records ++ rest = sym w.are ∙ (e ∙ ap (λ (ps : List (List ℕ)). ps ++ rest) s.payloads) in
      let cut = split s.records w.taken rest s.spell w.spell whole in
      record {
        taken = cut.more;
        spell = cut.spell;
        are = e ∙ ap (λ (ps : List (List ℕ)). first ++ ps) cut.payloads;
        last = w.last;
        spells = w.spells;
        is = w.is;
        may = subst (λ (G : List Entry). MayFollow b plan G w.last.entry w.last.tree)
            (ap entries_of cut.is ∙ (map-append (λ (x : Record). x.entry) s.records cut.more ∙ ap (λ (G : List Entry). G ++ entries_of cut.more) s.entries)) w.may;
      }

-- ---- a follower in the world
module _ {D : Type 0} (f : FollowerState D) (is : IsFollower f) (told : IsTrue (tells_of f.office.journal)) where
  up_here : (F : List (List ℕ)) (r : List ℕ) → may_follow f F r → lasting_rule f F r
  up_here = rule_up f.office.bank f.office.plan (found_payloads f.office) (found f.office.marks) (is.first told)

  down_here : (F rest : List (List ℕ)) (r : List ℕ) → F ≡ found_payloads f.office ++ rest → lasting_rule f F r → may_follow f F r
  down_here = rule_down f.office.bank f.office.plan (found_payloads f.office) (found f.office.marks) (is.first told)

  module _ (w : World (List ℕ)) (here : IsInWorld f w) where
    begins : w.follower ≡ found_payloads f.office ++ map payload_of f.taken
    begins = sym here.records

    opened : IsFollowerOf (may_follow f) w (held_of f)
    opened = follower_back (may_follow f) (lasting_rule f) (found_payloads f.office) up_here down_here w (held_of f) (map payload_of f.taken) begins here

    lasting : (v : World (List ℕ)) (held : Held) → LeadsTo (may_follow f) w held v → LeadsTo (lasting_rule f) w held v
    lasting v held l = leads_so (may_follow f) (lasting_rule f) (found_payloads f.office) up_here down_here w v held (map payload_of f.taken) begins l

  pub takes_in_world : TakesInWorld f
  takes_in_world w new o here there takes =
      let r = takes_are_events (may_follow f) w (held_of f) new o (opened w here) there takes in
      (r.0, lasting w here r.0 new r.1, r.2)

  pub fails_in_world : FailsInWorld f
  fails_in_world w new o fault here there fails =
      let r = faults_are_events (may_follow f) (size_with f) (limit_of f) w (held_of f) new o fault (opened w here) there fails in
      (r.0, lasting w here r.0 new r.1, r.2)

  pub links_in_world : LinksInWorld f
  links_in_world w bytes offers text left held here all serves =
      let r = links_go_on (may_follow f) (size_with f) (limit_of f) w bytes (held_of f) offers text left held (opened w here) all serves in
      (r.0, lasting w here r.0 held r.1, r.2)

  -- opened again
  module _ (g : FollowerState D) where
    pub opens_in_world : OpensInWorld f g
    opens_in_world w file here stop again none =
        let held : held_of g ≡ sure (records_of g) = held_none g none in
        subst (λ (h : Held). (v : World (List ℕ)) × LeadsTo (lasting_rule f) w h v × (v.most ≡ w.most)) (sym held)
        (⊎_elim
        (λ (has : HasRecords (IsMended (held_of f)) file).
        let r = mends (may_follow f) w (held_of f) (records_of g) (opened w here) (records_there (IsMended (held_of f)) file (records_of g) has again) in
        (r.0, lasting w here r.0 (sure (records_of g)) r.1, r.2))
        (λ (has : (o : Numbered (List ℕ)) × Contains w.sent o × HasRecords (StopLeaves (may_follow f) (held_of f) o) file).
        let r = stops_are_events (may_follow f) w (held_of f) has.0 (records_of g) (opened w here) has.1 (records_there (StopLeaves (may_follow f) (held_of f) has.0) file (records_of g) has.2 again) in
        (r.0, lasting w here r.0 (sure (records_of g)) r.1, r.2)) stop)

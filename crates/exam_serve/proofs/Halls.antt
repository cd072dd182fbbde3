-- A caller stays with its hall.
use Rattle.std.proofs.Common.{◌≡◌, inl, inr, Option, ℕ, suc, Bool, List, [], ◌∷◌, length, refl, sym, ap, ◌∙◌, subst, arith, Contains, map}
use Rattle.std.specs.List.{All, AllZip}
use Rattle.std.proofs.lemmas.List.Elements.{All-head, All-tail, Contains-append_right}
use Rattle.exam_workers.specs.declared.Station.{Station}
use Rattle.exam_workers.specs.Stations.{ServesLinks, EachServes, IsFair}
use Rattle.exam_office.specs.Noting.{NotedMark}
use Rattle.turn_lock.specs.Histories.{StartsWith}
use Rattle.turn_lock.specs.Passes.{Known}
use Rattle.exam_serve.specs.Allowing.{AreFairDoors, IsFairLink}
use Rattle.exam_http.specs.Serving as serving
use Rattle.exam_http.specs.Serving.{LeadsTo}
use Rattle.exam_hall.specs.Known.{HallKnown, CallerKnown, HasGrown}
use Rattle.prepare_desk.specs.Posts.{Idles}
use Rattle.exam_serve.specs.Connections.{AttendantKnown, Asks, Probes, IsConnection}
use Rattle.exam_serve.specs.Doors.{IsNewStation, IsWorked, door_of}
use Rattle.exam_serve.proofs.Joins.{starts_through, starts_itself}

leads_same : (start new : CallerKnown) → LeadsTo Asks Probes Idles start new → new.hall ≡ start.hall
leads_same start _ serving.unchanged = refl
leads_same start _ (serving.then_asked request reply old new before asked) = asked.1 ∙ leads_same start old before
leads_same start _ (serving.then_probed found old new before probed) = probed.1 ∙ leads_same start old before
leads_same start _ (serving.then_idle old new before (inl same)) = ap (λ (c : CallerKnown). c.hall) same ∙ leads_same start old before
leads_same start _ (serving.then_idle old new before (inr went)) = went.0 ∙ leads_same start old before

grown_nowhere : (a : Known NotedMark) → HasGrown a a
grown_nowhere a = record { start = refl; seen = starts_itself a.seen }

grown_through : (a b c : Known NotedMark) → HasGrown b c → HasGrown a b → HasGrown a c
grown_through a b c q p = record { start = q.start ∙ p.start; seen = starts_through c.seen b.seen a.seen q.seen p.seen }

-- its pass has grown
leads_grown : (start new : CallerKnown) → LeadsTo Asks Probes Idles start new → HasGrown start.pass new.pass
leads_grown start _ serving.unchanged = grown_nowhere start.pass
leads_grown start _ (serving.then_asked request reply old new before asked) =
    grown_through start.pass old.pass new.pass asked.2 (leads_grown start old before)
leads_grown start _ (serving.then_probed found old new before probed) =
    grown_through start.pass old.pass new.pass probed.2 (leads_grown start old before)
leads_grown start _ (serving.then_idle old new before (inl same)) =
    subst (λ (c : CallerKnown). HasGrown start.pass c.pass) (sym same) (leads_grown start old before)
leads_grown start _ (serving.then_idle old new before (inr went)) =
    grown_through start.pass old.pass new.pass went.2 (leads_grown start old before)

module _ {K : Type 0} (token : Option (List ℕ)) (tells : K → Bool) (left written : K → List ℕ) (faults identity : K → ℕ) where
  links_same : (t : AttendantKnown) (given back : List K) (u : AttendantKnown)
      → ServesLinks (IsConnection token tells left written faults identity) t given back u → u.caller.hall ≡ t.caller.hall
  links_same t [] [] u h = ap (λ (a : AttendantKnown). a.caller.hall) (sym h)
  links_same t [] (l ∷ back) u h = absurd h
  links_same t (k ∷ given) [] u h = absurd h
  links_same t (k ∷ given) (l ∷ back) u h = links_same h.0 given back u h.2 ∙ leads_same t.caller h.0.caller h.1.leads

  links_grown : (t : AttendantKnown) (given back : List K) (u : AttendantKnown)
      → ServesLinks (IsConnection token tells left written faults identity) t given back u → HasGrown t.caller.pass u.caller.pass
  links_grown t [] [] u h = subst (λ (a : AttendantKnown). HasGrown t.caller.pass a.caller.pass) h (grown_nowhere t.caller.pass)
  links_grown t [] (l ∷ back) u h = absurd h
  links_grown t (k ∷ given) [] u h = absurd h
  links_grown t (k ∷ given) (l ∷ back) u h =
      grown_through t.caller.pass h.0.caller.pass u.caller.pass
      (links_grown h.0 given back u h.2) (leads_grown t.caller h.0.caller h.1.leads)

module _ {D K : Type 0} (token : Option (List ℕ)) (tells : D → Bool) (coming returned : D → List K) (is_out : D → Bool)
    (faults identity : D → ℕ) (link_tells : K → Bool) (left written : K → List ℕ) (link_faults link_identity : K → ℕ) (hall : HallKnown) (opened : List NotedMark) where
  abbrev Links : AttendantKnown → K → AttendantKnown → K → Type 0
  Links = IsConnection token link_tells left written link_faults link_identity

  abbrev Worked : Station D AttendantKnown K → Station D AttendantKnown K → Type 0
  Worked = IsWorked token tells coming returned is_out faults identity link_tells left written link_faults link_identity hall opened

  -- new stations that were worked at
  pub worked_all : (old new : List (Station D AttendantKnown K)) → All (IsNewStation is_out hall opened) old → length new ≡ length old
      → EachServes tells coming returned is_out faults identity Links old new → AllZip Worked old new
  worked_all [] [] made e h = tt
  worked_all [] (b ∷ new) made e h = absurd (omega arith)
  worked_all (a ∷ old) [] made e h = absurd (omega arith)
  worked_all (a ∷ old) (b ∷ new) made e h =
      let first = All-head (IsNewStation is_out hall opened) a old made in
      let works = h 0 a (omega arith) in (
        record {
          made = first;
          serves = works.0;
          ends = works.1;
          same_hall = links_same token link_tells left written link_faults link_identity a.token works.0.given works.0.back b.token works.0.served
              ∙ ap (λ (a : AttendantKnown). a.caller.hall) first.token;
        },
        worked_all old new (All-tail (IsNewStation is_out hall opened) a old made) (omega arith) (λ k s lt. h (suc k) s (omega arith)),
      )

  -- they are with the hall
  pub all_home : (old new : List (Station D AttendantKnown K)) → AllZip Worked old new → All (λ (s : Station D AttendantKnown K). s.token.caller.hall ≡ hall) new
  all_home [] [] h = Rattle.std.proofs.lemmas.List.Elements.All-nil _
  all_home [] (b ∷ new) h = absurd h
  all_home (a ∷ old) [] h = absurd h
  all_home (a ∷ old) (b ∷ new) h = Rattle.std.proofs.lemmas.List.Elements.All-cons (λ (s : Station D AttendantKnown K). s.token.caller.hall ≡ hall) b new h.0.same_hall (all_home old new h.1)

  -- new stations at fair doors are fair
  pub fair_all : (allows : K → List ℕ → Type 0) (pass : Known NotedMark) → pass.start ≡ length opened → pass.seen ≡ opened
      → (old : List (Station D AttendantKnown K)) (doors : List D)
      → ((door : D) → Contains (map door_of old) door → Contains doors door)
      → AreFairDoors token link_tells left written allows tells coming
      (λ caller. (caller.hall ≡ hall) × HasGrown pass caller.pass) doors
      → All (IsNewStation is_out hall opened) old
      → All (IsFair tells coming Links (λ a. IsFairLink token link_tells left written allows a.caller)) old
  fair_all allows pass starts_at seen_is [] doors there fair made = Rattle.std.proofs.lemmas.List.Elements.All-nil _
  fair_all allows pass starts_at seen_is (a ∷ old) doors there fair made =
      let first = All-head (IsNewStation is_out hall opened) a old made in
      let start : a.token.caller.pass.start ≡ pass.start = ap (λ (t : AttendantKnown). t.caller.pass.start) first.token ∙ sym starts_at in
      let seen : a.token.caller.pass.seen ≡ pass.seen = ap (λ (t : AttendantKnown). t.caller.pass.seen) first.token ∙ sym seen_is in
      Rattle.std.proofs.lemmas.List.Elements.All-cons (IsFair tells coming Links (λ a. IsFairLink token link_tells left written allows a.caller)) a old
      (λ given back attendant link serves comes.
      let grown = links_grown token link_tells left written link_faults link_identity a.token given back attendant serves in
      fair a.door link attendant.caller (there a.door (0, omega arith, refl)) comes (
        links_same token link_tells left written link_faults link_identity a.token given back attendant serves
            ∙ ap (λ (t : AttendantKnown). t.caller.hall) first.token,
        record {
          start = grown.start ∙ start;
          seen = subst (λ l. StartsWith attendant.caller.pass.seen l) seen grown.seen;
        },
      ))
      (fair_all allows pass starts_at seen_is old doors (λ door h. there door (Contains-append_right (a.door ∷ []) (map door_of old) door h)) fair
      (All-tail (IsNewStation is_out hall opened) a old made))

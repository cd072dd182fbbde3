-- Work at doors where no connection ended for lack of memory.
use Rattle.std.proofs.Common.{◌≡◌, Option, ℕ, Bool, true, false, ◌||◌, List, [], ◌∷◌, sym, ap, ◌∙◌}
use Rattle.std.proofs.lemmas.Bool.{false≢true}
use Rattle.std.specs.List.{AllZip, list_any}
use Rattle.exam_workers.specs.declared.Station.{Station}
use Rattle.exam_workers.specs.Stations.{Serves, ServesLinks}
use Rattle.exam_office.specs.Noting.{NotedMark}
use Rattle.exam_hall.specs.Known.{HallKnown}
use Rattle.exam_serve.specs.Connections.{AttendantKnown, IsConnection, IsFedConnection, is_starved}
use Rattle.exam_serve.specs.declared.serve.End.TheVariants.{Done}
use Rattle.exam_serve.specs.Doors.{IsWorked, AreServed, AreFed, has_failed, has_starved}
use Rattle.exam_serve.proofs.Ends.{none_starved, first_false, rest_false}

module _ {K : Type 0} (token : Option (List ℕ)) (tells : K → Bool) (left written : K → List ℕ) (faults identity : K → ℕ) where
  abbrev Links : AttendantKnown → K → AttendantKnown → K → Type 0
  Links = IsConnection token tells left written faults identity

  abbrev FedLinks : AttendantKnown → K → AttendantKnown → K → Type 0
  FedLinks = IsFedConnection token tells left written faults identity

  -- an attendant that has not starved has not starved at any link
  fed_links : (t : AttendantKnown) (given back : List K) (u : AttendantKnown) → ServesLinks Links t given back u → u.starved ≡ false
      → (t.starved ≡ false) × ServesLinks FedLinks t given back u
  fed_links t [] [] u h e = (ap (λ (a : AttendantKnown). a.starved) h ∙ e, h)
  fed_links t [] (l ∷ back) u h e = absurd h
  fed_links t (k ∷ given) [] u h e = absurd h
  fed_links t (k ∷ given) (l ∷ back) u h e =
      let more = fed_links h.0 given back u h.2 e in
      let c = h.1 in
      let none : (t.starved || is_starved c.ended) ≡ false = sym c.starved ∙ more.0 in (
        first_false t.starved (is_starved c.ended) none,
        (
          h.0,
          record {
            is_connection = c;
            fed = λ m. false≢true (sym (rest_false t.starved (is_starved c.ended) none) ∙ ap is_starved m);
          },
          more.1,
        ),
      )

module _ {D K : Type 0} (token : Option (List ℕ)) (tells : D → Bool) (coming returned : D → List K) (is_out : D → Bool)
    (faults identity : D → ℕ) (link_tells : K → Bool) (left written : K → List ℕ) (link_faults link_identity : K → ℕ) where
  abbrev Worked : HallKnown → List NotedMark → Station D AttendantKnown K → Station D AttendantKnown K → Type 0
  Worked = IsWorked token tells coming returned is_out faults identity link_tells left written link_faults link_identity

  abbrev Fed : Station D AttendantKnown K → Station D AttendantKnown K → Type 0
  Fed = Serves tells coming returned is_out faults identity (IsFedConnection token link_tells left written link_faults link_identity)

  fed_station : (hall : HallKnown) (opened : List NotedMark) (a b : Station D AttendantKnown K) → Worked hall opened a b
      → b.token.starved ≡ false → Fed a b
  fed_station hall opened a b w e =
      let s = w.serves in record {
        given = s.given;
        back = s.back;
        served = (fed_links token link_tells left written link_faults link_identity a.token s.given s.back b.token s.served e).1;
        came = s.came;
        went = s.went;
        links = s.links;
        same = s.same;
        home = s.home;
        grows = s.grows;
      }

  all_fed : (hall : HallKnown) (opened : List NotedMark) (old new : List (Station D AttendantKnown K))
      → AllZip (Worked hall opened) old new → list_any has_starved new ≡ false → AllZip Fed old new
  all_fed hall opened [] [] w e = tt
  all_fed hall opened [] (b ∷ new) w e = absurd w
  all_fed hall opened (a ∷ old) [] w e = absurd w
  all_fed hall opened (a ∷ old) (b ∷ new) w e = (
    fed_station hall opened a b w.0 (first_false b.token.starved (list_any has_starved new) e),
    all_fed hall opened old new w.1 (rest_false b.token.starved (list_any has_starved new) e),
  )

  pub are_fed : (opened closed : List NotedMark) (doors back : List D)
      → AreServed token tells coming returned is_out faults identity link_tells left written link_faults link_identity opened closed doors back Done
      → AreFed token tells coming returned is_out faults identity link_tells left written link_faults link_identity doors back
  are_fed opened closed doors back s = record {
    before = s.before;
    after = s.after;
    doors_are = s.doors_are;
    back_are = s.back_are;
    fed = all_fed s.hall opened s.before s.after s.worked
        (none_starved (list_any has_failed s.after) (list_any has_starved s.after) Done s.end_is Rattle.std.proofs.Common.refl);
  }

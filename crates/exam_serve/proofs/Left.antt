-- What the work leaves of the doors.
use Rattle.std.proofs.Common.{◌≡◌, ◌⊎◌, Option, ℕ, suc, Bool, true, false, ◌||◌, List, [], ◌∷◌, map, All, subst, refl, arith}
use Rattle.std.proofs.lemmas.Bool.{false≢true}
use Rattle.std.specs.Prelude.{IsTrue, MatchBool}
use Rattle.std.specs.List.{AllZip, list_any}
use Rattle.std.proofs.lemmas.List.Elements.{All-nil, All-cons, All-head, All-tail}
use Rattle.exam_edge.specs.Faults.{Rose}
use Rattle.exam_edge.specs.Lent.{IsLent}
use Rattle.exam_workers.specs.declared.Station.{Station}
use Rattle.exam_office.specs.Noting.{NotedMark}
use Rattle.exam_hall.specs.Known.{HallKnown}
use Rattle.exam_serve.specs.Connections.{AttendantKnown}
use Rattle.exam_serve.specs.declared.serve.End.{End}
use Rattle.exam_serve.specs.declared.serve.End.TheVariants.{Done, Starved, DoorFailed}
use Rattle.exam_serve.specs.Doors.{AreLent, HasFailedDoor, HasNone, IsWorked, AreServed, door_of, has_failed, has_starved}
use Rattle.exam_serve.proofs.Ends.{none_failed, some_failed, first_false, rest_false}

module _ {D K : Type 0} (token : Option (List ℕ)) (tells : D → Bool) (coming returned : D → List K) (is_out : D → Bool)
    (faults identity : D → ℕ) (link_tells : K → Bool) (left written : K → List ℕ) (link_faults link_identity : K → ℕ) where
  abbrev Worked : HallKnown → List NotedMark → Station D AttendantKnown K → Station D AttendantKnown K → Type 0
  Worked = IsWorked token tells coming returned is_out faults identity link_tells left written link_faults link_identity

  abbrev Served : List NotedMark → List NotedMark → List D → List D → End → Type 0
  Served = AreServed token tells coming returned is_out faults identity link_tells left written link_faults link_identity

  abbrev Lent : D → D → Type 0
  Lent door after = IsLent tells identity faults door after × (is_out after ≡ false)

  -- ---- where no door failed
  left_of : (hall : HallKnown) (opened : List NotedMark) (a b : Station D AttendantKnown K)
      → Worked hall opened a b → b.failed ≡ false → HasNone tells coming b.door
  left_of hall opened a b w e h =
      let ends = subst (λ f. MatchBool f (Rose (faults a.door) (faults b.door)) (IsTrue (tells a.door) → coming b.door ≡ [])) e w.ends in
      ends (subst (λ x. IsTrue x) w.serves.same.0 h)

  all_left : (hall : HallKnown) (opened : List NotedMark) (old new : List (Station D AttendantKnown K))
      → AllZip (Worked hall opened) old new → list_any has_failed new ≡ false → All (HasNone tells coming) (map door_of new)
  all_left hall opened [] [] w e = All-nil (HasNone tells coming)
  all_left hall opened [] (b ∷ new) w e = absurd w
  all_left hall opened (a ∷ old) [] w e = absurd w
  all_left hall opened (a ∷ old) (b ∷ new) w e =
      All-cons (HasNone tells coming) b.door (map door_of new)
      (left_of hall opened a b w.0 (first_false b.failed (list_any has_failed new) e))
      (all_left hall opened old new w.1 (rest_false b.failed (list_any has_failed new) e))

  pub done_so : (opened closed : List NotedMark) (doors back : List D) (end : End)
      → Served opened closed doors back end → (end ≡ Done) ⊎ (end ≡ Starved) → All (HasNone tells coming) back
  done_so opened closed doors back end s is =
      let fine = none_failed (list_any has_failed s.after) (list_any has_starved s.after) end s.end_is is in
      subst (λ l. All (HasNone tells coming) l) s.back_are (all_left s.hall opened s.before s.after s.worked fine)

  -- ---- where a door failed
  rose_of : (hall : HallKnown) (opened : List NotedMark) (a b : Station D AttendantKnown K)
      → Worked hall opened a b → b.failed ≡ true → Rose (faults a.door) (faults b.door)
  rose_of hall opened a b w e =
      subst (λ f. MatchBool f (Rose (faults a.door) (faults b.door)) (IsTrue (tells a.door) → coming b.door ≡ [])) e w.ends

  later : (a b : D) (doors back : List D) → HasFailedDoor faults doors back → HasFailedDoor faults (a ∷ doors) (b ∷ back)
  later a b doors back h = record { place = suc h.place; before = h.before; after = h.after; was = h.was; is = h.is; rose = h.rose }

  any_rose : (hall : HallKnown) (opened : List NotedMark) (old new : List (Station D AttendantKnown K))
      → AllZip (Worked hall opened) old new → list_any has_failed new ≡ true
      → HasFailedDoor faults (map door_of old) (map door_of new)
  any_rose hall opened [] [] w e = absurd (false≢true e)
  any_rose hall opened [] (b ∷ new) w e = absurd w
  any_rose hall opened (a ∷ old) [] w e = absurd w
  any_rose hall opened (a ∷ old) (b ∷ new) w e = here (any_rose hall opened old new w.1) b.failed refl e
    where
      here : (list_any has_failed new ≡ true → HasFailedDoor faults (map door_of old) (map door_of new)) → (f : Bool) → b.failed ≡ f → (f || list_any has_failed new) ≡ true
          → HasFailedDoor faults (map door_of (a ∷ old)) (map door_of (b ∷ new))
      here more true is e = record { place = 0; before = a.door; after = b.door; was = refl; is = refl; rose = rose_of hall opened a b w.0 is }
      here more false is e = later a.door b.door (map door_of old) (map door_of new) (more e)

  pub failed_so : (opened closed : List NotedMark) (doors back : List D) (end : End)
      → Served opened closed doors back end → end ≡ DoorFailed → HasFailedDoor faults doors back
  failed_so opened closed doors back end s is =
      let failed = some_failed (list_any has_failed s.after) (list_any has_starved s.after) end s.end_is is in
      subst (λ l. HasFailedDoor faults l back) s.doors_are
      (subst (λ l. HasFailedDoor faults (map door_of s.before) l) s.back_are
      (any_rose s.hall opened s.before s.after s.worked failed))

  -- ---- whether one failed or not
  each_lent : (hall : HallKnown) (opened : List NotedMark) (old new : List (Station D AttendantKnown K))
      → AllZip (Worked hall opened) old new → AllZip Lent (map door_of old) (map door_of new)
  each_lent hall opened [] [] w = tt
  each_lent hall opened [] (b ∷ new) w = absurd w
  each_lent hall opened (a ∷ old) [] w = absurd w
  each_lent hall opened (a ∷ old) (b ∷ new) w =
      let did = w.0.serves in
      ((record { grows = did.grows; tells = did.same.0; identity = did.same.1 }, did.home), each_lent hall opened old new w.1)

  pub all_lent : (opened closed : List NotedMark) (doors back : List D) (end : End)
      → Served opened closed doors back end → AllZip Lent doors back
  all_lent opened closed doors back end s =
      subst (λ l. AllZip Lent l back) s.doors_are
      (subst (λ l. AllZip Lent (map door_of s.before) l) s.back_are (each_lent s.hall opened s.before s.after s.worked))

-- doors that were not used
module _ {D : Type 0} (tells is_out : D → Bool) (faults identity : D → ℕ) where
  pub still_lent : (doors : List D) → All (λ d. is_out d ≡ false) doors → AreLent tells identity faults is_out doors doors
  still_lent [] home = tt
  still_lent (d ∷ doors) home = (
    (record { grows = omega arith; tells = refl; identity = refl }, All-head (λ e. is_out e ≡ false) d doors home),
    still_lent doors (All-tail (λ e. is_out e ≡ false) d doors home),
  )

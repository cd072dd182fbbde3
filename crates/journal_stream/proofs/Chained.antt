-- A log that is streamed over links, one after another.
use Rattle.std.proofs.Common.{◌≡◌, inl, inr, ℕ, Bool, List, [], ◌∷◌, ◌++◌, refl, sym, subst, arith, append-nil, IsTrue}
use Rattle.exam_workers.specs.Stations.{ServesLinks}
use Rattle.exam_workers.proofs.Serving.{links_then}
use Rattle.record_doors.specs.Doors.{Gives}
use Rattle.record_doors.specs.declared.door_end.DoorEnd.{DoorEnd}
use Rattle.record_doors.specs.declared.door_end.DoorEnd.TheVariants.{NoLink, DoorFailed, Ended}
use Rattle.record_doors.proofs.Giving.{gives_then}
use Rattle.journal_stream.specs.declared.door.Next.TheVariants.{GoesOn, Over}
use Rattle.journal_stream.specs.Doors.{Continues, IsPassed, IsStreamedDoor, StopsAt}

module _ {D K : Type 0} (tells : D → Bool) (coming returned : D → List K) (is_out : D → Bool) (faults identity : D → ℕ)
    (link_tells : K → Bool) (left written : K → List ℕ) (link_faults link_identity : K → ℕ) (told : Bool) where
  abbrev Given : D → D → List K → List K → Type 0
  Given = Gives tells coming returned is_out faults identity

  abbrev Passed : List (List ℕ) → K → List (List ℕ) → K → Type 0
  Passed = IsPassed tells coming returned is_out faults identity link_tells left written link_faults link_identity told

  -- the links so far were passed, and went back to the door
  pub record ArePassed (start : List (List ℕ)) (old new : D) (held : List (List ℕ)) : Type 0 where
    pub given : List K
    pub back : List K
    pub passed : ServesLinks (IsPassed tells coming returned is_out faults identity link_tells left written link_faults link_identity told) start given back held
    pub gives : Gives tells coming returned is_out faults identity old new given back

  pub passed_none : (start : List (List ℕ)) (door : D) → is_out door ≡ Rattle.std.proofs.Common.false → ArePassed start door door start
  passed_none start door home = record {
    given = [];
    back = [];
    passed = refl;
    gives = record {
      came = λ t. refl;
      went = λ t. sym (append-nil (returned door));
      lent = record { grows = omega arith; tells = refl; identity = refl };
      home = home;
    };
  }

  no_more : (old mid new : D) (given back : List K) → Given old mid given back → Given mid new [] [] → Given old new given back
  no_more old mid new given back a b =
      subst (λ (g : List K). Given old new g back) (append-nil given)
      (subst (λ (x : List K). Given old new (given ++ []) x) (append-nil back)
      (gives_then tells coming returned is_out faults identity old mid new given back [] [] a b))

  pub passed_more : (start : List (List ℕ)) (old mid : D) (held : List (List ℕ)) (new : D) (final : List (List ℕ)) → ArePassed start old mid held
      → Continues tells coming returned is_out faults identity link_tells left written link_faults link_identity told held mid new final GoesOn
      → ArePassed start old new final
  passed_more start old mid held new final a (inl none) = record {
    given = a.given;
    back = a.back;
    passed = subst (λ (h : List (List ℕ)). ServesLinks Passed start a.given a.back h) (sym none.0) a.passed;
    gives = no_more old mid new a.given a.back a.gives none.1;
  }
  passed_more start old mid held new final a (inr c) = record {
    given = a.given ++ c.0 ∷ [];
    back = a.back ++ c.1 ∷ [];
    passed = links_then Passed start a.given a.back held (c.0 ∷ []) (c.1 ∷ []) final a.passed (final, c.3, refl);
    gives = gives_then tells coming returned is_out faults identity old mid new a.given a.back (c.0 ∷ []) (c.1 ∷ []) a.gives c.2;
  }

  stops_then : (held : List (List ℕ)) (old mid new : D) (given back : List K) (final : List (List ℕ)) (end : DoorEnd) → Given old mid given back
      → StopsAt tells coming returned is_out faults identity link_tells left written link_faults link_identity told held mid [] [] new final end
      → StopsAt tells coming returned is_out faults identity link_tells left written link_faults link_identity told held old given back new final end
  stops_then held old mid new given back final NoLink a w =
      (w.0, no_more old mid new given back a w.1, λ t. w.2 (subst (λ b. IsTrue b) (sym a.lent.tells) t))
  stops_then held old mid new given back final DoorFailed a w = absurd w
  stops_then held old mid new given back final (Ended followed) a w =
      (w.0, w.1, gives_then tells coming returned is_out faults identity old mid new given back (w.0 ∷ []) (w.1 ∷ []) a w.2, w.3, w.4)

  pub passed_over : (start : List (List ℕ)) (old mid : D) (held : List (List ℕ)) (new : D) (final : List (List ℕ)) (end : DoorEnd) → ArePassed start old mid held
      → Continues tells coming returned is_out faults identity link_tells left written link_faults link_identity told held mid new final (Over end)
      → IsStreamedDoor tells coming returned is_out faults identity link_tells left written link_faults link_identity told start old new final end
  passed_over start old mid held new final end a c = record {
    given = a.given;
    back = a.back;
    held = held;
    passed = a.passed;
    stops = stops_then held old mid new a.given a.back final end a.gives c;
  }

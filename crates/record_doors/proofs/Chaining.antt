-- The work at a door, from its links.
use Rattle.std.proofs.Common.{◌≡◌, ℕ, Bool, false, List, [], ◌∷◌, ◌++◌, Some, refl, sym, subst, length, arith, IsTrue}
use Rattle.std.specs.Prelude.{slice_set, slice_get}
use Rattle.std.proofs.lemmas.List.{append-nil}
use Rattle.exam_workers.specs.Stations.{ServesLinks}
use Rattle.exam_workers.proofs.Serving.{links_then}
use Rattle.record_doors.specs.declared.door_end.DoorEnd.{DoorEnd}
use Rattle.record_doors.specs.declared.door_end.DoorEnd.TheVariants.{NoLink, DoorFailed, Ended}
use Rattle.record_doors.specs.Doors.{Gives, IsDone, StopsAt, IsFollowedDoor, Continues, IsFirstOnly}
use Rattle.record_doors.specs.declared.door_end.Next.TheVariants.{GoesOn, Over}
use Rattle.record_doors.proofs.Giving.{gives_then}
use Rattle.record_doors.proofs.Rules.{link_then}
use Rattle.record_links.specs.Replicas.{Held, IsSameRule}

module _ {D K : Type 0} (tells : D → Bool) (coming returned : D → List K) (is_out : D → Bool) (faults identity : D → ℕ)
    (link_tells : K → Bool) (left written : K → List ℕ) (link_faults link_identity : K → ℕ)
    (m : List (List ℕ) → List ℕ → Type 0) (s : List (List ℕ) → ℕ) (l : ℕ) where
  -- the links so far ended well, and went back to the door
  pub record AreFollowed (start : Held) (old new : D) (held : Held) : Type 0 where
    pub given : List K
    pub back : List K
    pub served : ServesLinks (IsDone tells coming returned is_out faults identity link_tells left written link_faults link_identity m s l) start given back held
    pub gives : Gives tells coming returned is_out faults identity old new given back

  -- none yet
  pub followed_none : (start : Held) (door : D) → is_out door ≡ false → AreFollowed start door door start
  followed_none start door home = record {
    given = [];
    back = [];
    served = refl;
    gives = record {
      came = λ told. refl;
      went = λ told. sym (append-nil (returned door));
      lent = record { grows = omega arith; tells = refl; identity = refl };
      home = home;
    };
  }

module _ {D K : Type 0} (tells : D → Bool) (coming returned : D → List K) (is_out : D → Bool) (faults identity : D → ℕ)
    (link_tells : K → Bool) (left written : K → List ℕ) (link_faults link_identity : K → ℕ)
    (m n : List (List ℕ) → List ℕ → Type 0) (s t : List (List ℕ) → ℕ) (l k : ℕ) (same : IsSameRule m n s t l k) where
  abbrev Are : Held → D → D → Held → Type 0
  Are = AreFollowed tells coming returned is_out faults identity link_tells left written link_faults link_identity m s l

  -- one more
  pub followed_more : (start : Held) (old mid : D) (held : Held) (new : D) (final : Held) → Are start old mid held
      → Continues tells coming returned is_out faults identity link_tells left written link_faults link_identity n t k held mid new final GoesOn
      → Are start old new final
  followed_more start old mid held new final a c = record {
    given = a.given ++ c.0 ∷ [];
    back = a.back ++ c.1 ∷ [];
    served = links_then (IsDone tells coming returned is_out faults identity link_tells left written link_faults link_identity m s l) start a.given a.back held (c.0 ∷ []) (c.1 ∷ []) final
        a.served (final, (c.3.0, link_then m n s t l k same link_tells left written link_faults link_identity _ held c.0 final c.1 c.3.1), refl);
    gives = gives_then tells coming returned is_out faults identity old mid new a.given a.back (c.0 ∷ []) (c.1 ∷ []) a.gives c.2;
  }

  no_more : (old mid new : D) (given back : List K) → Gives tells coming returned is_out faults identity old mid given back
      → Gives tells coming returned is_out faults identity mid new [] [] → Gives tells coming returned is_out faults identity old new given back
  no_more old mid new given back a b =
      subst (λ (g : List K). Gives tells coming returned is_out faults identity old new g back) (append-nil given)
      (subst (λ (x : List K). Gives tells coming returned is_out faults identity old new (given ++ []) x) (append-nil back)
      (gives_then tells coming returned is_out faults identity old mid new given back [] [] a b))

  -- and the end
  stops_then : (held : Held) (old mid new : D) (given back : List K) (final : Held) (end : DoorEnd) → Gives tells coming returned is_out faults identity old mid given back
      → StopsAt tells coming returned is_out faults identity link_tells left written link_faults link_identity n t k held mid [] [] new final end
      → StopsAt tells coming returned is_out faults identity link_tells left written link_faults link_identity m s l held old given back new final end
  stops_then held old mid new given back final NoLink a w =
      (w.0, no_more old mid new given back a w.1, λ told. w.2 (subst (λ b. IsTrue b) (sym a.lent.tells) told))
  stops_then held old mid new given back final DoorFailed a w =
      (w.0, no_more old mid new given back a w.1, (let x = a.lent.grows in let y = w.2 in omega arith))
  stops_then held old mid new given back final (Ended followed) a w = (
    w.0,
    w.1,
    gives_then tells coming returned is_out faults identity old mid new given back (w.0 ∷ []) (w.1 ∷ []) a w.2,
    link_then m n s t l k same link_tells left written link_faults link_identity followed held w.0 final w.1 w.3,
    w.4,
  )

  pub followed_over : (start : Held) (old mid : D) (held : Held) (new : D) (final : Held) (end : DoorEnd) → Are start old mid held
      → Continues tells coming returned is_out faults identity link_tells left written link_faults link_identity n t k held mid new final (Over end)
      → IsFollowedDoor tells coming returned is_out faults identity link_tells left written link_faults link_identity m s l start old new final end
  followed_over start old mid held new final end a c = record {
    given = a.given;
    back = a.back;
    held = held;
    served = a.served;
    stops = stops_then held old mid new a.given a.back final end a.gives c;
  }

-- ---- the first of several doors
pub no_doors : {D : Type 0} (P : D → D → Type 0) (none : Type 0) (doors : List D) → length doors ≡ 0 → none → IsFirstOnly P none doors doors
no_doors P none [] is h = (refl, h)
no_doors P none (door ∷ doors) is h = absurd (omega (arith, is))

pub first_door : {D : Type 0} (P : D → D → Type 0) (none : Type 0) (doors back : List D) (door after : D) → slice_get doors 0 ≡ Some door
    → back ≡ slice_set doors 0 after → P door after → IsFirstOnly P none doors back
first_door P none [] back door after at is h = absurd cc
first_door {D} P none (d ∷ doors) back door after at is h = let same : door ≡ d = cc in (after, is, subst (λ (x : D). P x after) same h)

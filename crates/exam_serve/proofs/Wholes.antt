-- The work as a whole.
use Rattle.std.proofs.Common.{◌≡◌, Option, ℕ, Bool, List, [], ◌∷◌, ◌++◌, map, length, take, drop, refl, sym, ap, ◌∙◌, subst, arith}
use Rattle.std.specs.List.{AllZip, list_any}
use Rattle.std.proofs.lemmas.List.{append-nil, reverse-reverse, length-reverse}
use Rattle.std.proofs.lemmas.List.Elements.{All-weaker}
use mathlib.Core.List.{reverse}
use Rattle.turn_lock.specs.Histories.{StartsWith}
use Rattle.turn_lock.specs.Passes.{Known, KnowsAll}
use Rattle.exam_workers.specs.declared.Station.{Station}
use Rattle.exam_office.specs.Noting.{NotedMark}
use Rattle.exam_hall.specs.Known.{HallKnown, HasOpening}
use Rattle.exam_serve.specs.Connections.{AttendantKnown}
use Rattle.exam_serve.specs.Doors.{IsWorked, AreServed, door_of, seen_of, has_failed, has_starved, end_of}
use Rattle.exam_office.specs.Running.{Running}
use Rattle.exam_serve.specs.declared.serve.End.{End}
use Rattle.exam_serve.specs.Joining.{AreJoined}
use Rattle.exam_serve.specs.Results.{IsResult, notes_of}
use Rattle.exam_serve.specs.declared.serve.End.TheVariants.{Done, Starved, DoorFailed, Memory}
use Rattle.exam_serve.proofs.Ends.{never_memory}
use Rattle.exam_serve.proofs.Orders.{map_reverse, zip_reverse}
use Rattle.exam_serve.proofs.Joins.{starts_through}

drop_all : {A : Type 0} (xs : List A) → drop (length xs) xs ≡ []
drop_all [] = refl
drop_all (x ∷ xs) = drop_all xs

take_all : {A : Type 0} (xs : List A) → take (length xs) xs ≡ xs
take_all [] = refl
take_all (x ∷ xs) = ap (λ l. x ∷ l) (take_all xs)

-- a list that was lent whole
pub lent_whole : {A : Type 0} (count : ℕ) (old new : List A) → count ≡ length old → length new ≡ length old
    → take count (new ++ drop (length new) old) ≡ new
lent_whole count old new e f =
    ap (λ n. take count (new ++ drop n old)) f ∙ ap (λ l. take count (new ++ l)) (drop_all old) ∙ ap (take count) (append-nil new)
    ∙ ap (λ n. take n new) (e ∙ sym f) ∙ take_all new

module _ {D K : Type 0} (token : Option (List ℕ)) (tells : D → Bool) (coming returned : D → List K) (is_out : D → Bool)
    (faults identity : D → ℕ) (link_tells : K → Bool) (left written : K → List ℕ) (link_faults link_identity : K → ℕ) where
  abbrev Served : List NotedMark → List NotedMark → List D → List D → End → Type 0
  Served = AreServed token tells coming returned is_out faults identity link_tells left written link_faults link_identity

  -- what was served, by the marks that are found at the close
  pub served_joined : (hall : HallKnown) (opened : List NotedMark) → HasOpening opened hall → (pass : Known NotedMark) (doors back : List D) (end : End)
      (old new : List (Station D AttendantKnown K)) → map door_of old ≡ reverse doors → back ≡ map door_of (reverse new)
      → AllZip (IsWorked token tells coming returned is_out faults identity link_tells left written link_faults link_identity hall opened) old new
      → AreJoined pass (reverse new) → end ≡ end_of (list_any has_failed (reverse new)) (list_any has_starved (reverse new)) → StartsWith pass.seen opened
      → pass.number ≡ 0 → pass.start ≡ length opened → pass.splits ≡ length new
      → (closed : List NotedMark) → StartsWith closed pass.seen → KnowsAll closed pass
      → Served opened closed doors back end
  served_joined hall opened is_of pass doors back end old new d b worked joined f grows first start many closed more all =
      let known = all first (let n = joined.count in omega (arith, many, length-reverse new)) in
      record {
        hall = hall;
        is_of = is_of;
        before = reverse old;
        after = reverse new;
        doors_are = map_reverse door_of old ∙ ap reverse d ∙ reverse-reverse doors;
        back_are = sym b;
        worked = zip_reverse _ old new worked;
        seen = All-weaker (λ (x : Station D AttendantKnown K). StartsWith pass.seen (seen_of x)) (λ (x : Station D AttendantKnown K). StartsWith closed (seen_of x))
            (λ x h. starts_through closed pass.seen (seen_of x) more h) (reverse new) joined.seen;
        apart = joined.apart;
        covers = λ k from below. joined.none_else k (known.1 k (omega (arith, start)) below);
        end_is = f;
        grows = starts_through closed pass.seen opened more grows;
      }

  -- the result by how the work ended: not for lack of memory
  result_at : {A : Type 0} (office closed : Running A) (doors back : List D) (end : End) → (end ≡ Memory → ⊥)
      → Served (notes_of office) (notes_of closed) doors back end
      → IsResult token tells coming returned is_out faults identity link_tells left written link_faults link_identity
      office doors closed back end
  result_at office closed doors back Done went s = s
  result_at office closed doors back Starved went s = s
  result_at office closed doors back DoorFailed went s = s
  result_at office closed doors back Memory went s = absurd (went refl)

  pub result_of : {A : Type 0} (office closed : Running A) (doors back : List D) (end : End) (first : List NotedMark)
      → first ≡ notes_of office → Served first (notes_of closed) doors back end
      → IsResult token tells coming returned is_out faults identity link_tells left written link_faults link_identity
      office doors closed back end
  result_of office closed doors back end first f s =
      result_at office closed doors back end (never_memory _ _ end s.end_is)
      (subst (λ l. Served l (notes_of closed) doors back end) f s)

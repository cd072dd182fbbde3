-- The definitions on the row with no doors: there is no station, and the marks stay as they were.
use Rattle.std.proofs.Common.{ℕ, Bool, List, [], Option, refl, arith}
use Rattle.exam_serve.specs.declared.serve.End.TheVariants.{Done}
use Rattle.exam_office.specs.Noting.{NotedMark}
use Rattle.exam_hall.specs.Known.{HallKnown, HasOpening}
use Rattle.exam_serve.specs.Doors.{AreServed}
use Rattle.exam_serve.proofs.Joins.{starts_itself}

module _ {D K : Type 0} (token : Option (List ℕ)) (tells : D → Bool) (coming returned : D → List K) (is_out : D → Bool)
    (faults identity : D → ℕ) (link_tells : K → Bool) (left written : K → List ℕ) (link_faults link_identity : K → ℕ) where
  pub no_doors : (hall : HallKnown) (opened : List NotedMark) → HasOpening opened hall
      → AreServed token tells coming returned is_out faults identity link_tells left written link_faults link_identity opened opened [] [] Done
  no_doors hall opened is_of = record {
    hall = hall;
    is_of = is_of;
    before = [];
    after = [];
    doors_are = refl;
    back_are = refl;
    worked = tt;
    seen = λ k d lt. absurd (omega arith);
    apart = λ i j d lt below. absurd (omega arith);
    covers = λ k from below. absurd (omega arith);
    end_is = refl;
    grows = starts_itself opened;
  }

-- The vector of a session fits the plan.
use Rattle.std.proofs.Common.{◌≡◌, ℕ, Bool, true, false, List, Option, Some, None, refl, sym, ◌∙◌, ap, subst}
use Rattle.std.specs.Prelude.{slice_get, IfSome}
use Rattle.std.specs.Option.{option_and_then}
use Rattle.bank_tables.specs.Tables.{Tables}
use Rattle.form_model.specs.Plan.{Plan}
use Rattle.form_model.specs.Problem.{Problem}
use Rattle.serving_model.specs.declared.seat.Seat.{Seat}
use Rattle.serving_model.specs.Seats.{IsSeatProblem}
use Rattle.certificate_model.specs.ProofTrees.{ProofTree}
use Rattle.certificate_model.specs.Relaxed.{Multipliers}
use Rattle.certificate_model.specs.Verdicts.{NamesOnlySides}
use Rattle.certificate_model.proofs.Computed.{names_sides as sides_named}
use Rattle.history_model.specs.Judging.{Record}
use Rattle.exam_office.specs.Warm.{names_sides, if_of_plan, first_vector, vector_of, last_serving, warm_of, FitsPlan}

module _ (b : Tables) (plan : Plan) (v : Multipliers) where
  of_plan : (w : Multipliers) → if_of_plan b plan w ≡ Some v → names_sides b plan v ≡ true
  of_plan w e = by (names_sides b plan w) refl
    where
      by : (t : Bool) → names_sides b plan w ≡ t → names_sides b plan v ≡ true
      by true t = let given : Some w ≡ Some v = rw t at e in let same : w ≡ v = cc in ap (names_sides b plan) (sym same) ∙ t
      by false t = let given : None ≡ Some v = rw t at e in absurd (cc)

  of_first : (first : Option Multipliers) → option_and_then (if_of_plan b plan) first ≡ Some v → names_sides b plan v ≡ true
  of_first None e = absurd (cc)
  of_first (Some w) e = of_plan w e

  of_tree : (tree : Option ProofTree) → option_and_then (first_vector b plan) tree ≡ Some v → names_sides b plan v ≡ true
  of_tree None e = absurd (cc)
  of_tree (Some T) e = of_first (slice_get T.vectors 0) e

  of_record : (r : Option Record) → option_and_then (vector_of b plan) r ≡ Some v → names_sides b plan v ≡ true
  of_record None e = absurd (cc)
  of_record (Some r) e = of_tree r.tree e

  pub fits : (R : List Record) (s : ℕ) → warm_of b plan R s ≡ Some v → FitsPlan b plan v
  fits R s e = λ P bank plan_is.
      sides_named P v (subst (λ (t : Tables). names_sides t P.plan v ≡ true) (sym bank) (subst (λ (p : Plan). names_sides b p v ≡ true) (sym plan_is) (of_record (last_serving R s) e)))

pub fits_found : (b : Tables) (plan : Plan) (R : List Record) (s : ℕ) (found : Option Multipliers) → found ≡ warm_of b plan R s → IfSome found (FitsPlan b plan)
fits_found b plan R s None e = tt
fits_found b plan R s (Some v) e = fits b plan v R s (sym e)

-- so a search of a problem of the bank and the plan may begin with it
fits_problem : (b : Tables) (plan : Plan) (P : Problem) → P.bank ≡ b → P.plan ≡ plan → (found : Option Multipliers) → IfSome found (FitsPlan b plan) → IfSome found (NamesOnlySides P)
fits_problem b plan P bank plan_is None fit = tt
fits_problem b plan P bank plan_is (Some v) fit = fit P bank plan_is

-- the same by the seat of the problem
pub fits_seat : (b : Tables) (plan : Plan) (session : ℕ) (seat : Seat) (P : Problem) → IsSeatProblem b plan session seat P → (found : Option Multipliers) → IfSome found (FitsPlan b plan) → IfSome found (NamesOnlySides P)
fits_seat b plan session seat P of_seat found fit =
    fits_problem b plan P (ap (λ (Q : Problem). Q.bank) of_seat.is) (ap (λ (Q : Problem). Q.plan) of_seat.is) found fit

-- What may follow is legal, and a session has one problem.
use Rattle.std.proofs.Common.{◌≡◌, ℕ, Bool, true, false, List, [], ◌∷◌, Option, Some, None, sym, ◌∙◌, subst, ap}
use Rattle.std.proofs.Math.Bool.{true≢false}
use Rattle.std.proofs.lemmas.List.{map-append}
use Rattle.bank_tables.specs.Items.{Set, has}
use Rattle.form_model.specs.Plan.{Plan}
use Rattle.form_model.specs.Problem.{Problem}
use Rattle.certificate_model.specs.declared.verdict.Verdict.{Verdict}
use Rattle.form_model.specs.Forms.{Best}
use Rattle.certificate_model.specs.ProofTrees.{ProofTree}
use Rattle.certificate_model.specs.Verdicts.{IsVerdict}
use Rattle.serving_model.specs.Seats.{answers, seat_problem}
use Rattle.form_model.proofs.OneMode.{one_mode}
use Rattle.certificate_model.proofs.TreeLaws.{optimal_is_best, no_form_is_none}
use Rattle.history_model.specs.declared.entry.Cause.{Cause}
use Rattle.history_model.specs.declared.entry.Cause.TheVariants.{NoForm, Spent}
use Rattle.history_model.specs.declared.entry.Entry.{Entry}
use Rattle.history_model.specs.declared.entry.Entry.TheVariants.{Started, SetAside, Served, Answered, Closed}
use Rattle.history_model.specs.Entries.{seat_of}
use Rattle.history_model.specs.Legality.{LegalRun, empty as no_entry, more as one_entry, IsLegalCause}
use Rattle.history_model.specs.Judging.{claim_of_mark, claim_of_cause, Shows, Record, entries_of, empty, more}
use Rattle.history_model.specs.Laws.{MayIsLegal, BackedIsLegalRun, OneProblem}

-- a tree that shows a mark of proved shows that the form is best
shown_best : (P : Problem) (X : Set) (budget nodes : ℕ) (proved : Bool) (tree : Option ProofTree) → Shows P (Some X) budget nodes (claim_of_mark proved) tree → proved ≡ true → Best P X
shown_best P X budget nodes proved None shows e = absurd shows.has_tree
shown_best P X budget nodes true (Some T) shows e = optimal_is_best P X T (subst (λ (v : Verdict). IsVerdict P (Some X) T v) shows.asked shows.has_verdict)
shown_best P X budget nodes false (Some T) shows e = absurd (true≢false (sym e))

-- one that shows a spent budget has as many nodes
shown_spent : (P : Problem) (X : Set) (budget nodes : ℕ) (proved : Bool) (tree : Option ProofTree) → Shows P (Some X) budget nodes (claim_of_mark proved) tree → proved ≡ false → nodes ≡ budget
shown_spent P X budget nodes proved None shows e = absurd shows.has_tree
shown_spent P X budget nodes true (Some T) shows e = absurd (true≢false e)
shown_spent P X budget nodes false (Some T) shows e = shows.has_tree.number ∙ shows.has_tree.spent.nodes

-- one that shows the cause of setting eligibility aside
shown_cause : (plan : Plan) (P : Problem) (cause : Cause) (nodes : ℕ) (tree : Option ProofTree) → Shows P None plan.budget nodes (claim_of_cause cause) tree → IsLegalCause plan P cause nodes
shown_cause plan P cause nodes None shows = absurd shows.has_tree
shown_cause plan P NoForm nodes (Some T) shows = no_form_is_none P T (subst (λ (v : Verdict). IsVerdict P None T v) shows.asked shows.has_verdict)
shown_cause plan P Spent nodes (Some T) shows = shows.has_tree.number ∙ shows.has_tree.spent.nodes

pub may_is_legal : MayIsLegal
may_is_legal b plan H (Started session booking eligible without) tree may = may.0
may_is_legal b plan H (Answered session step response) tree may = may.0
may_is_legal b plan H (Closed session) tree may = may.0
may_is_legal b plan H (SetAside session step band cause nodes) tree may =
    record { problem = may.problem; is_problem = may.is_problem; band_is = may.band_is; not_aside = may.not_aside; cause_holds = shown_cause plan may.problem cause nodes tree may.shows }
may_is_legal b plan H (Served session step item form proved nodes) tree may =
    record {
      problem = may.problem;
      is_problem = may.is_problem;
      is_form = may.is_form;
      next = may.next;
      best = shown_best may.problem (has form) plan.budget nodes proved tree may.shows;
      spent = shown_spent may.problem (has form) plan.budget nodes proved tree may.shows;
    }

pub backed_is_legal_run : BackedIsLegalRun
backed_is_legal_run b plan R empty = no_entry
backed_is_legal_run b plan R (more before r backed may) =
    subst (λ (H : List Entry). LegalRun b plan H) (sym (map-append (λ (x : Record). x.entry) before (r ∷ [])))
    (one_entry (entries_of before) r.entry (backed_is_legal_run b plan before backed) (may_is_legal b plan (entries_of before) r.entry r.tree may))

pub one_problem : OneProblem
one_problem b plan H session step P Q p q =
    let same : p.of_seat.theta ≡ q.of_seat.theta = one_mode b plan.prior (answers (seat_of H session)) p.of_seat.theta q.of_seat.theta p.of_seat.mode q.of_seat.mode in
    p.of_seat.is ∙ (ap (λ (theta : ℕ). seat_problem b plan session (seat_of H session) theta) same ∙ sym q.of_seat.is)

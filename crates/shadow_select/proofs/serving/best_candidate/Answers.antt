use Rattle.std.proofs.Common.{◌≡◌, ◌+◌, ◌<◌, ◌≤◌, true, false, sym, ◌∙◌, subst, arith, Some, None}
use Rattle.bank_tables.specs.Items.{has}
use Rattle.bank_tables.specs.Tables.{info}
use Rattle.serving_model.specs.Serving.{is_candidate}
use Rattle.constraint_model.specs.Views.{problem_of}
use Rattle.shadow_select.specs.Next.{IsNextBelow}
use Rattle.shadow_select.proofs.NextLaws.{passed_over, first_found, bettered, stayed}
use Rattle.shadow_select.proofs.serving.best_candidate.Goals as goal
use Rattle.shadow_select.proofs.serving.best_candidate.Goals.{then-is_candidate+in-None, then-is_candidate+in-Some+then-info, then-is_candidate+in-Some+else-info, else-is_candidate}

pub loop-i-preserved : goal.loop-i-preserved
loop-i-preserved c =
    let P = problem_of c.args.problem.now in
    let X = has c.args.form.now in
    let i = c.loop-i.i in
    elim c.if-is_candidate.branch [
      | then-is_candidate+in-None w ↦
          let passes : is_candidate P X i ≡ true = sym c.is_candidate.ensures ∙ w.if-is_candidate.true in
          let none : IsNextBelow i P X None = subst (IsNextBelow i P X) w.in-None.is c.loop-i.invariant in
          subst (IsNextBelow (i + 1) P X) (sym w.best-is) (first_found P X i passes none)
      | then-is_candidate+in-Some+then-info w ↦
          let passes : is_candidate P X i ≡ true = sym c.is_candidate.ensures ∙ w.if-is_candidate.true in
          let some : IsNextBelow i P X (Some w.in-Some.old) = subst (IsNextBelow i P X) w.in-Some.is c.loop-i.invariant in
          let more : info P.bank w.in-Some.old P.theta < info P.bank i P.theta = omega (arith, w.info.ensures, w.info-in-Some.ensures, w.if-info.true) in
          subst (IsNextBelow (i + 1) P X) (sym w.best-is) (bettered P X i w.in-Some.old passes more some)
      | then-is_candidate+in-Some+else-info w ↦
          let some : IsNextBelow i P X (Some w.in-Some.old) = subst (IsNextBelow i P X) w.in-Some.is c.loop-i.invariant in
          let least : info P.bank i P.theta ≤ info P.bank w.in-Some.old P.theta = omega (arith, w.info.ensures, w.info-in-Some.ensures, w.if-info.false) in
          subst (IsNextBelow (i + 1) P X) (sym w.best-is) (stayed P X i w.in-Some.old least some)
      | else-is_candidate w ↦
          let fails : is_candidate P X i ≡ false = sym c.is_candidate.ensures ∙ w.if-is_candidate.false in
          subst (IsNextBelow (i + 1) P X) (sym w.best-is) (passed_over P X i c.loop-i.best fails c.loop-i.invariant)
    ]

use Rattle.std.proofs.Common.{◌≡◌, ℕ, ◌<◌, true, false, sym, subst, ◌∙◌, arith, below_more}
use Rattle.std.proofs.Math.Bool.{true≢false}
use Rattle.std.proofs.Math.Path.{fun_ext}
use Rattle.bank_tables.specs.Items.{Set, has}
use Rattle.bank_tables.specs.Tables.{info}
use Rattle.form_model.specs.Forms.{Form}
use Rattle.constraint_model.specs.Views.{problem_of}
use Rattle.branch_bound.specs.Exchanges.{exchange}
use Rattle.branch_bound.proofs.ExchangeLaws.{no_better, exchange_is_better}
use Rattle.branch_bound.proofs.exchanges.exchange_of.Goals as goal
use Rattle.branch_bound.proofs.exchanges.exchange_of.Goals.{then-not-has+then-info-worth+else-is_form, else-not-has, else-not-has-via-then-not-has+else-info-worth, else-not-has-via-else-not-has}

pub returns-then-is_form : goal.returns-then-is_form
returns-then-is_form c =
    let P = problem_of c.args.problem.now in
    let X : Set = has c.args.form.now in
    let more : info P.bank c.args.out P.theta < info P.bank c.loop-i.i P.theta = omega (arith, c.info-worth.ensures, c.info.ensures) in
    let within = c.items-i-end.ensures.items in
    exchange_is_better P X (has c.exchange-set.result) c.args.out c.loop-i.i c.requires.form (c.is_form.ensures.0 c.if-is_form.true) c.exchange-set.ensures c.requires.out (sym c.has.ensures ∙ c.if-not-has.true) (omega arith) more

pub loop-i-preserved : goal.loop-i-preserved
loop-i-preserved c =
    let P = problem_of c.args.problem.now in
    let X : Set = has c.args.form.now in
    below_more
    (λ (k : ℕ). X k ≡ false → info P.bank c.args.out P.theta < info P.bank k P.theta → Form P (exchange X c.args.out k) → ⊥)
    c.loop-i.i
    c.loop-i.invariant
    (λ no more form. elim c.if-not-has.branch [
      | then-not-has+then-info-worth+else-is_form w ↦
          let is : w.is_form.result ≡ true = w.is_form.ensures.1 (subst (Form P) (sym (fun_ext w.exchange-set.ensures)) form) in
          true≢false (sym is ∙ w.if-is_form.false)
      | else-not-has w ↦
          elim w.else-not-has.branch [
            | else-not-has-via-then-not-has+else-info-worth w' ↦ omega (arith, c.info-worth.ensures, w'.info.ensures)
            | else-not-has-via-else-not-has w' ↦ true≢false (sym w'.if-not-has.false ∙ c.has.ensures ∙ no)
          ]
    ])

pub returns : goal.returns
returns c =
    let P = problem_of c.args.problem.now in
    let e = c.items-i-end.ensures.items in
    let past = c.loop-i-test.false in
    λ Y form others. no_better P (has c.args.form.now) Y c.args.out c.requires.form form others c.requires.out (λ item within. c.loop-i.invariant item (omega arith))

use Rattle.std.proofs.Common.{ℕ, Bool, ◌++◌, List, inr, refl, sym, ◌∙◌, ap, subst, append_assoc}
use Rattle.exam_program.specs.Outcomes.{Outcome, PrintsBefore, Ends}
use Rattle.exam_program.specs.Outside.{Outside}
use Rattle.exam_program.specs.Writing.{WritesPart}
use Rattle.exam_program.proofs.report.print.Goals as goal

part_of : (words : List (List ℕ)) (o : Outside) (told : Bool) (first old new last : List ℕ) (status : ℕ) → PrintsBefore words o told first old status last → WritesPart told old new last → Ends words o told first new 8
part_of words o told first old new last status there part =
    inr (
      refl,
      record {
        text = there.text ++ part.part;
        rest = part.rest;
        status = status;
        written = λ t. part.written t ∙ (ap (λ (t : List ℕ). t ++ part.part) (there.written t) ∙ append_assoc first there.text part.part);
        outcome = subst (λ (t : List ℕ). Outcome words o status t) (ap (λ (t : List ℕ). there.text ++ t) part.whole ∙ sym (append_assoc there.text part.part part.rest)) there.outcome;
        unfinished = part.unfinished;
      },
    )

pub returns-in-Err-clause-answers : goal.returns-in-Err-clause-answers
returns-in-Err-clause-answers g c = λ words o first there. part_of words o (g.O.Sink.tells c.args.out.now) first (g.O.Sink.written c.args.out.now) (g.O.Sink.written c.put.new.out) c.args.text.now c.args.status there c.in-Err.ensures.err

use Rattle.std.proofs.Common.{◌≡◌, ◌++◌, ◌∷◌, List, map, codes, OnOk, subst}
use Rattle.std.specs.Fmt.{decimal}
use Rattle.exam_text.specs.declared.run.Run.{Run}
use Rattle.exam_text.specs.Runs.{run_word}
use Rattle.spec_reader.specs.Canonical.{words_text}
use Rattle.bank_maker.proofs.PlanLaws.{all_runs}
use Rattle.bank_maker.proofs.plan.push_quantity.Goals as goal

pub returns : goal.returns
returns c = subst (λ (rs : List Run). OnOk c.push_line.result (c.push_line.new.out.items ≡ c.args.out.now.items ++ words_text (codes "quantity" ∷ decimal 0 ∷ decimal 600 ∷ decimal c.args.high ∷ map run_word rs))) all_runs c.push_line.ensures

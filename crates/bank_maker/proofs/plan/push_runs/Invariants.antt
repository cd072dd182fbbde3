use Rattle.std.proofs.Common.{◌≡◌, ◌++◌, ◌∷◌, take}
use Rattle.std.specs.List.{flat_map}
use Rattle.exam_text.specs.Runs.{run_word}
use Rattle.bank_maker.proofs.plan.push_runs.Given as goal

abbrev pub invariant-loop-run : goal.invariant-loop-run
invariant-loop-run l = l.out.items ≡ l.fn.out.items ++ flat_map (λ r. 32 ∷ run_word r) (take l.run-index l.runs)

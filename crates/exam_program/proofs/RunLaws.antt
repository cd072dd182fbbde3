-- A run, from its parts.
use Rattle.std.proofs.Common.{ℕ, Bool, List}
use Rattle.exam_office.specs.Noting.{NotedMark}
use Rattle.exam_serve.specs.declared.serve.End.{End}
use Rattle.exam_program.specs.Outside.{Outside}
use Rattle.exam_program.specs.Runs.{RunEnds, idle, busy, RunLeaves, left_idle, left_busy}
use Rattle.exam_program.proofs.OutcomeLaws.{leaves_journal}

-- what is left of the journal
pub run_leaves : (Serves : List NotedMark → List NotedMark → End → Type 0) (Unused : Type 0) (words : List (List ℕ)) (o : Outside) (told : Bool) (old new : List ℕ) (result : ℕ)
    → RunEnds Serves Unused words o told old new result → RunLeaves Serves Unused words o
run_leaves Serves Unused words o told old new result (idle unused ends) = left_idle unused (leaves_journal words o told old new result ends)
run_leaves Serves Unused words o told old new result (busy work serves ends) =
    let by = ends.is_allowed in left_busy work serves by.b by.plan by.base by.H by.is by.examined

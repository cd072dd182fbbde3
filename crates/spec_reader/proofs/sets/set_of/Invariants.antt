use Rattle.std.proofs.Common.{◌≡◌, ◌≤◌, ℕ, List, true, map}
use Rattle.bank_tables.specs.Items.{has}
use Rattle.bank_tables.specs.Sums.{any_below}
use Rattle.exam_text.specs.First.{all_below}
use Rattle.exam_text.specs.Words.{word}
use Rattle.exam_text.specs.Runs.{run_of, behind, fits, in_run}
use Rattle.spec_reader.proofs.sets.set_of.Given as goal

-- the words so far are runs, and the set has their items
pub record Read (words : List (List ℕ)) (i from : ℕ) (set : List ℕ) : Type 0 where
  pub runs : all_below i (fits words) ≡ true
  pub next : from ≡ behind words i
  pub small : from ≤ 512
  pub members : (x : ℕ) → has set x ≡ any_below i (λ k. in_run x (run_of (word words k)))

abbrev pub invariant-loop-i : goal.invariant-loop-i
invariant-loop-i l = Read (map (λ w. w.now) l.words) l.i l.from l.set

use Rattle.std.proofs.Common.{◌+◌, ◌*◌}
use Rattle.certificate_model.specs.Ranges.{IsWithin}
use Rattle.certificate_model.specs.Relaxed.{Multipliers}
use Rattle.series_check.specs.Cuts.{problem_of, path_of}
use Rattle.series_check.specs.Maximum.{IsSides}
use Rattle.series_check.proofs.MaximumLaws.{IsMaximumTo}
use Rattle.series_check.proofs.relaxed.relaxed_maximum.Given as goal

abbrev pub invariant-loop-f : goal.invariant-loop-f
invariant-loop-f l =
    record {
      maximum : (v : Multipliers) → IsSides v l.sides → IsMaximumTo (problem_of l.setting) (path_of l.cut) v l.ray l.f l.sum;
      within : IsWithin (512 * 4294967295 + l.f * 400000000000000000000000) l.sum;
    }

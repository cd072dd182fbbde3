use Rattle.std.proofs.Common.{◌≡◌, ◌*◌, suc}
use Rattle.std.specs.Prelude.{slice_index}
use Rattle.bank_tables.specs.Sums.{total_z}
use Rattle.certificate_model.specs.Ranges.{IsWithin}
use Rattle.series_check.specs.Cuts.{one_form, form_path_of}
use Rattle.series_check.specs.Gains.{gain_of}
use Rattle.series_check.proofs.gains.gains.Given as goal

abbrev pub invariant-loop-k : goal.invariant-loop-k
invariant-loop-k l =
    record {
      value : l.sum ≡ total_z l.k (λ k. gain_of (one_form l.setting) (form_path_of l.standing) (slice_index l.sides) (suc k));
      within : IsWithin (l.k * 200000000000000000) l.sum;
    }

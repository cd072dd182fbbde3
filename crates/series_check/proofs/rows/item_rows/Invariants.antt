use Rattle.std.proofs.Common.{◌≡◌, ◌*◌}
use Rattle.std.specs.Prelude.{slice_index}
use Rattle.bank_tables.specs.Sums.{total_z}
use Rattle.certificate_model.specs.Ranges.{IsWithin}
use Rattle.certificate_model.specs.Weights.{item_share}
use Rattle.series_check.specs.Cuts.{one_form}
use Rattle.series_check.proofs.rows.item_rows.Given as goal

abbrev pub invariant-loop-r : goal.invariant-loop-r
invariant-loop-r l =
    record {
      value : l.sum ≡ total_z l.r (item_share (one_form l.setting) (slice_index l.sides) l.item);
      within : IsWithin (l.r * (4294967295 * 65535)) l.sum;
    }

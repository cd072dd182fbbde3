-- What a book counts of its entries as they come.
use Rattle.std.specs.Prelude.{◌≡◌, ◌+◌, ◌*◌, ◌^◌, ◌<◌, ◌≤◌, List, length, count_by, sum_by, if◌then◌else◌}
use Rattle.history_model.specs.declared.entry.Entry.{Entry}
use Rattle.history_model.specs.declared.entry.Entry.TheVariants.{SetAside, Served}
use Rattle.history_model.specs.Entries.{sets_aside}
use Rattle.history_model.specs.Summaries.{serves_proved, serves_unproved, nodes_of}
use Rattle.exam_session.specs.declared.totals.Totals.{Totals}

abbrev pub totals_of : List Entry → Totals
totals_of H = record {
  proved = count_by serves_proved H;
  unproved = count_by serves_unproved H;
  aside = count_by sets_aside H;
  nodes = sum_by nodes_of H;
}

-- the totals with an entry more
abbrev pub totals_with : Totals → Entry → Totals
totals_with totals (SetAside session step band cause nodes) =
    record totals { aside = totals.aside + 1; nodes = totals.nodes + nodes }
totals_with totals (Served session step item form proved nodes) =
    record totals {
      proved = totals.proved + (if proved then 1 else 0);
      unproved = totals.unproved + (if proved then 0 else 1);
      nodes = totals.nodes + nodes;
    }
totals_with totals entry = totals

-- each number has room for an entry more
pub record HaveRoom (totals : Totals) : Type 0 where
  pub proved : totals.proved + 1 < 2 ^ 64
  pub unproved : totals.unproved + 1 < 2 ^ 64
  pub aside : totals.aside + 1 < 2 ^ 64
  pub nodes : totals.nodes + 65535 < 2 ^ 64

-- the totals are those of the entries, and small: a tree has at most 65,535 nodes
pub record AreTotals (H : List Entry) (totals : Totals) : Type 0 where
  pub are : totals ≡ totals_of H
  pub small : totals.nodes ≤ 65535 * length H

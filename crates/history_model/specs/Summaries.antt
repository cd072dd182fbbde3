-- What a history comes down to in numbers.
use Rattle.std.specs.Prelude.{ℕ, Bool, false, not, List, length, count_by, sum_by}
use Rattle.form_model.specs.Plan.{Plan}
use Rattle.history_model.specs.declared.entry.Entry.{Entry}
use Rattle.history_model.specs.declared.entry.Entry.TheVariants.{SetAside, Served}
use Rattle.history_model.specs.declared.summary.Summary.{Summary}
use Rattle.history_model.specs.Counts.{finished}
use Rattle.history_model.specs.Entries.{sets_aside, sessions}

-- an item is served from a form that is proved best
abbrev pub serves_proved : Entry → Bool
serves_proved (Served session step item form proved nodes) = proved
serves_proved entry = false

-- an item is served from a form that isn't
abbrev pub serves_unproved : Entry → Bool
serves_unproved (Served session step item form proved nodes) = not proved
serves_unproved entry = false

-- the number of nodes of the entry's tree, if it has one
abbrev pub nodes_of : Entry → ℕ
nodes_of (SetAside session step band cause nodes) = nodes
nodes_of (Served session step item form proved nodes) = nodes
nodes_of entry = 0

abbrev pub summary : Plan → List Entry → Summary
summary plan H =
    record {
      entries = length H;
      sessions = sessions H;
      finished = finished plan H;
      proved = count_by serves_proved H;
      unproved = count_by serves_unproved H;
      aside = count_by sets_aside H;
      nodes = sum_by nodes_of H;
    }

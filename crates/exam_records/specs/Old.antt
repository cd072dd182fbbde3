-- Records as the first version of the journal has them.
use Rattle.std.specs.Prelude.{◌≡◌, ℕ, List, [], ◌∷◌, get_or, None}
use Rattle.history_model.specs.declared.entry.Bands.{Bands}
use Rattle.history_model.specs.declared.entry.Entry.{Entry}
use Rattle.history_model.specs.declared.entry.Entry.TheVariants.{Started, SetAside}
use Rattle.history_model.specs.Judging.{Record}
use Rattle.exam_records.specs.Sets.{no_items}
use Rattle.exam_records.specs.Shape.{IsRecord}

-- one eligible set
abbrev pub one_band : List ℕ → Bands
one_band words = record {
  count = 1;
  sets = words ∷ no_items ∷ no_items ∷ no_items ∷ no_items ∷ no_items ∷ no_items ∷ no_items ∷ [];
}

-- what the first version keeps of an entry: of a start the eligible set of the band where each
-- session begins and no list, and of a setting aside neither the step nor the band
abbrev pub old_entry : ℕ → Entry → Entry
old_entry first (Started session booking eligible without) =
    Started session booking (one_band (get_or eligible.sets first [])) None
old_entry first (SetAside session step band cause nodes) = SetAside session 0 0 cause nodes
old_entry first entry = entry

abbrev pub old_record : ℕ → Record → Record
old_record first r = record r { entry = old_entry first r.entry }

-- a record of which the first version keeps all
pub record IsOldRecord (r : Record) : Type 0 where
  pub is_record : IsRecord r
  pub all : old_entry 0 r.entry ≡ r.entry

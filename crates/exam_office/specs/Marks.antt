-- The marks of an office.
use Rattle.std.specs.Prelude.{ℕ, ◌+◌, ◌-◌, ◌^◌, ◌≤◌, min, Bool, true, false, List, [], ◌∷◌, ◌++◌, map, fold, count_by, Option, Some, None}
use Rattle.std.specs.List.{filter_map}
use Rattle.history_model.specs.declared.entry.Entry.{Entry}
use Rattle.exam_office.specs.declared.mark.Mark.{Mark}
use Rattle.exam_office.specs.declared.mark.Mark.TheVariants.{Old, Opened, Own, Adopted, Fault}

-- the entry that a mark adds to the history
abbrev pub entry_of : Mark → Option Entry
entry_of (Old entry) = Some entry
entry_of (Opened size) = None
entry_of (Own entry size) = Some entry
entry_of (Adopted entry size) = Some entry
entry_of (Fault entry) = None

abbrev pub history : List Mark → List Entry
history marks = filter_map entry_of marks

-- the length of the journal, by the last mark that has one
abbrev pub size_after : ℕ → Mark → ℕ
size_after size (Old entry) = size
size_after size (Opened now) = now
size_after size (Own entry now) = now
size_after size (Adopted entry now) = now
size_after size (Fault entry) = size

abbrev pub reach : List Mark → ℕ
reach marks = fold size_after 0 marks

abbrev pub is_fault : Mark → Bool
is_fault (Fault entry) = true
is_fault mark = false

-- the marks of an office: the entries found, the opening, and then entries of its own, faults, and
-- entries that were adopted, each of these directly after its fault
pub data AreMarks : List Mark → Type 0 where
  opened : (H : List Entry) (size : ℕ) → AreMarks (map Old H ++ Opened size ∷ [])
  own : (M : List Mark) (entry : Entry) (size : ℕ) → AreMarks M
      → AreMarks (M ++ Own entry size ∷ [])
  fault : (M : List Mark) (entry : Entry) → AreMarks M → AreMarks (M ++ Fault entry ∷ [])
  adopted : (M : List Mark) (entry : Entry) (size : ℕ) → AreMarks (M ++ Fault entry ∷ [])
      → AreMarks ((M ++ Fault entry ∷ []) ++ Adopted entry size ∷ [])

-- there are no more faults among the marks than a count rose, or the count is at its last value
abbrev pub AreCounted : List Mark → ℕ → ℕ → Type 0
AreCounted marks before now = min (before + count_by is_fault marks) (2 ^ 64 - 1) ≤ now

-- The errors of `csv` that are no fault of a text.
use Rattle.csv.specs.declared.error.ErrorKind.{ErrorKind}
use Rattle.csv.specs.declared.error.ErrorKind.TheVariants as kind

-- out of memory, or a failed read of the reader below: that is bytes in memory, whose reads do not
-- fail
abbrev pub IsOfMemory : ErrorKind → Type 0
IsOfMemory (kind.Io e) = Unit {0}
IsOfMemory kind.OutOfMemory = Unit {0}
IsOfMemory (kind.UnequalLengths pos expected len) = ⊥
IsOfMemory (kind.Utf8 pos err) = ⊥
IsOfMemory (kind.Serialize why) = ⊥
IsOfMemory (kind.Deserialize pos err) = ⊥

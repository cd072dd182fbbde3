-- Why a command ended before its work was done, in words for an operator.
use Rattle.std.specs.Prelude.{ℕ, ◌++◌, List, codes, Option, Some, None}
use Rattle.std.specs.Fmt.{decimal}
use Rattle.history_model.specs.declared.illegal.Illegal.{Illegal}
use Rattle.history_model.specs.declared.illegal.Illegal.TheVariants as illegal
use Rattle.history_model.specs.declared.place.Place.{Place}
use Rattle.history_model.specs.declared.place.Place.TheVariants as place
use Rattle.form_model.specs.declared.breach.Breach.{Breach}
use Rattle.form_model.specs.declared.breach.Breach.TheVariants as breach
use Rattle.proof_tree.specs.declared.fault.TreeFault.{TreeFault}
use Rattle.proof_tree.specs.declared.fault.TreeFault.TheVariants as of_tree
use Rattle.exam_records.specs.declared.fault.RecordFault.{RecordFault}
use Rattle.exam_records.specs.declared.fault.RecordFault.TheVariants as of_record
use Rattle.answer_journal.specs.declared.open_fault.OpenFault.{OpenFault as JournalFault}
use Rattle.answer_journal.specs.declared.open_fault.OpenFault.TheVariants as of_file
use Rattle.exam_office.specs.declared.fault.OpenFault.{OpenFault}
use Rattle.exam_office.specs.declared.fault.OpenFault.TheVariants as fault
use Rattle.exam_program.specs.declared.halt.Halt.{Halt}
use Rattle.exam_program.specs.declared.halt.Halt.TheVariants as halt

-- the place of a session
unfoldable pub place_words : Place → List ℕ
place_words (place.Pending step) = codes "an item is to be served at step " ++ decimal step
place_words (place.Waiting step item proved) =
    codes "item " ++ (decimal item ++ (codes " waits for its answer at step " ++ decimal step))
place_words place.Complete = codes "the session is complete"
place_words place.Closed = codes "the session is closed"

-- why a set of items is no form, in words of its items
unfoldable pub breach_words : Breach → List ℕ
breach_words (breach.Length items) = codes "the number of items is " ++ (decimal items
    ++ codes ", and the test has another number or the bank lacks one of them")
breach_words (breach.Row row activity) = codes "row " ++ (decimal row
    ++ (codes " of the plan does not hold, and the activity on it is " ++ decimal activity))
breach_words (breach.Stimulus stimulus items) = codes "the number of items of stimulus "
    ++ (decimal stimulus ++ (codes " is " ++ (decimal items ++ codes ", out of its bounds")))
breach_words (breach.Given item) =
    codes "item " ++ (decimal item ++ codes " was given, and is not among them")
breach_words (breach.Barred item) =
    codes "item " ++ (decimal item ++ codes " is barred, and is among them")

-- why a record may not follow those before it
unfoldable pub illegal_words : Illegal → List ℕ
illegal_words (illegal.NotNumber count) =
    codes "the next session is " ++ (decimal count ++ codes ", if the plan allows it")
illegal_words (illegal.Booked session) = codes "the booking has session " ++ decimal session
illegal_words (illegal.NotDrawn item) =
    codes "its eligible items are not those drawn, first at item " ++ decimal item
illegal_words (illegal.NoItem count) =
    codes "its list is empty, or has an item that is not one of the bank's " ++ decimal count
illegal_words (illegal.NotWithout why) =
    codes "its items are no form without those of the list: " ++ breach_words why
illegal_words (illegal.NoSession count) =
    codes "there is no such session: the number of sessions is " ++ decimal count
illegal_words (illegal.NotPending at) =
    codes "no item is to be served at this step: " ++ place_words at
illegal_words illegal.IsAside =
    codes "eligibility was set aside before in the band of the estimate"
illegal_words (illegal.NotStep step) = codes "the session is at step " ++ decimal step
illegal_words (illegal.NotBand band) = codes "the estimate is in band " ++ decimal band
illegal_words (illegal.NotForm why) = codes "its items are no form: " ++ breach_words why
illegal_words (illegal.NotItem item) = codes "the next item of the form is " ++ decimal item
-- of a file the next two come as a tree at fault, without their values
illegal_words (illegal.NotSpent nodes) =
    codes "its proof tree is missing, not needed, not spent, or not of "
    ++ (decimal nodes ++ codes " nodes")
illegal_words (illegal.Tree verdict) = codes "its proof tree does not show what the record has"
illegal_words (illegal.NotWaiting at) =
    codes "no answer is awaited at this step: " ++ place_words at
illegal_words (illegal.BadResponse categories) =
    codes "its response is not one of the item's " ++ (decimal categories ++ codes " categories")
illegal_words (illegal.Ended at) = codes "the session ended before: " ++ place_words at

-- why the bytes of a tree are none
unfoldable pub tree_words : TreeFault → List ℕ
tree_words of_tree.Short = codes "its tree ends within a field"
tree_words (of_tree.BadKind at) = codes "the node at byte " ++ (decimal at
    ++ codes " of its tree is of no kind, or has a number out of range")
tree_words (of_tree.BadVector at) = codes "its tree breaks a rule of vectors at byte " ++ decimal at
tree_words (of_tree.Unfinished at) =
    codes "its tree ends at byte " ++ (decimal at ++ codes ", and is not whole")
tree_words (of_tree.TooLong at) =
    codes "its tree has too many nodes: one more begins at byte " ++ decimal at
tree_words of_tree.Memory = codes "no memory"

-- why a payload is no record
unfoldable pub record_words : RecordFault → List ℕ
record_words of_record.Short = codes "its bytes are no record: they end within a field"
record_words (of_record.Kind at) =
    codes "its bytes are no record: byte " ++ (decimal at ++ codes " has the number of no kind")
record_words (of_record.Field at) = codes "its bytes are no record: the field at byte "
    ++ (decimal at ++ codes " has a value that is not allowed")
record_words (of_record.Tree why) = codes "its bytes are no record: " ++ tree_words why
record_words (of_record.Extra at) = codes "its bytes are no record: a record ends before byte "
    ++ (decimal at ++ codes ", and more bytes follow")
record_words of_record.Memory = codes "no memory"

-- why a file is no journal
unfoldable pub file_words : JournalFault → List ℕ
file_words of_file.Disk = codes "the disk failed"
file_words (of_file.TooLong size) =
    codes "it has " ++ (decimal size ++ codes " bytes, and the plan's line journal allows fewer")
file_words of_file.Header = codes "its first bytes are not those of a journal"
file_words (of_file.Length at) =
    codes "no record has the length that is after byte " ++ decimal at
file_words (of_file.Cut at) = codes "the record at byte " ++ (decimal at ++ codes " is cut off")
file_words of_file.Version = codes
    "it is of the first version: if it was never migrated, shadowd migrate BANK PLAN moves it"
file_words of_file.Memory = codes "no memory"

-- why a journal is refused
unfoldable pub fault_words : OpenFault → List ℕ
fault_words (fault.Journal why) = file_words why
fault_words fault.Version = file_words of_file.Version
fault_words (fault.BadRecord at why) = record_words why
fault_words (fault.BadTree at) =
    codes "its proof tree does not show what the record has, or does not spend the plan's budget"
fault_words (fault.Illegal at why) = illegal_words why
fault_words fault.Disk = file_words of_file.Disk
fault_words fault.Memory = file_words of_file.Memory

-- the place of the record for which a journal is refused, if it is one: that of its gate
abbrev pub place_of : Halt → Option ℕ
place_of (halt.Journal (fault.BadRecord at why)) = Some at
place_of (halt.Journal (fault.BadTree at)) = Some at
place_of (halt.Journal (fault.Illegal at why)) = Some at
place_of _ = None

-- what an operator reads of a halt, if its line on standard output leaves something to be said
unfoldable pub halt_words : Halt → Option (List ℕ)
halt_words (halt.Journal why) = Some (fault_words why)
halt_words (halt.NoForm T) =
    Some (codes "there is no form: tools/explain.py BANK PLAN names the rules that allow none")
halt_words (halt.NoBaseForm budget T) = Some (codes
    "no base form was found: raise base-budget or name a base form in the plan, or loosen rules")
halt_words (halt.NoSeries T) = Some (codes
    "there is no series: tools/explain.py BANK PLAN --series K names the rules that allow none")
halt_words (halt.NoSeriesFound budget T) =
    Some (codes "no series was found: raise base-budget in the plan, or loosen rules")
halt_words _ = None

-- How long the journal of an examination may become, in bytes.
use Rattle.std.specs.Prelude.{◌≡◌, ℕ, ◌+◌, ◌*◌, ◌≤◌, List, [], length, map}
use Rattle.std.specs.List.{AllByRecursion}
use Rattle.answer_journal.specs.Payload.{end_of}
use Rattle.bank_tables.specs.Tables.{Tables}
use Rattle.exam_records.specs.Shape.{IsRecord}
use Rattle.exam_records.specs.Spelling.{payload_of}
use Rattle.form_model.specs.Plan.{Plan}
use Rattle.history_model.specs.declared.entry.Entry.{Entry}
use Rattle.history_model.specs.declared.entry.Entry.TheVariants.{SetAside, Served}
use Rattle.history_model.specs.Judging.{Record, Backed}

-- the most bytes of a frame: of a record with a proof tree, and of one without
abbrev pub with_tree : ℕ
with_tree = 98890

abbrev pub without_tree : ℕ
without_tree = 659

-- of a record of this entry: a tree shows a setting aside and a serving
abbrev pub most_of : Entry → ℕ
most_of (SetAside session step band cause nodes) = with_tree
most_of (Served session step item form proved nodes) = with_tree
most_of entry = without_tree

-- of the frames of a session, by a plan of one band: it is started, eligibility is set aside once,
-- each of its items is served and answered, and it is closed
abbrev pub most_of_session : Plan → ℕ
most_of_session plan = with_tree * (plan.length + 1) + without_tree * (plan.length + 2)

-- a frame is the payload and five bytes
abbrev pub FramesAreShort : Type 0
FramesAreShort = (r : Record) → IsRecord r → 5 + length (payload_of r) ≤ most_of r.entry

-- after the header of eight bytes, the frames of records that may follow one another
abbrev pub JournalsAreShort : Type 0
JournalsAreShort = (b : Tables) (plan : Plan) (R : List Record) → plan.bands ≡ []
    → AllByRecursion IsRecord R → Backed b plan R
    → end_of 8 (map payload_of R) ≤ 8 + plan.sessions * most_of_session plan

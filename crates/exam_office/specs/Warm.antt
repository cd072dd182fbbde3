-- The vector of multipliers that the search for a session's next form may begin with.
use Rattle.std.specs.Prelude.{◌≡◌, ℕ, ◌+◌, ◌*◌, ◌-◌, Bool, false, ◌||◌, ◌==◌, nat_lt, List, length, map, slice_get, Option, Some, None, IsTrue, if◌then◌else◌}
use Rattle.std.specs.List.{filter, list_all}
use Rattle.std.specs.Option.{option_and_then}
use Rattle.bank_tables.specs.Tables.{Tables}
use Rattle.form_model.specs.Plan.{Plan}
use Rattle.form_model.specs.Problem.{Problem}
use Rattle.form_model.specs.Forms.{stimuli_of}
use Rattle.certificate_model.specs.ProofTrees.{ProofTree}
use Rattle.certificate_model.specs.Relaxed.{Multipliers, cap_side}
use Rattle.certificate_model.specs.Verdicts.{NamesOnlySides}
use Rattle.history_model.specs.declared.entry.Entry.{Entry}
use Rattle.history_model.specs.declared.entry.Entry.TheVariants.{Served}
use Rattle.history_model.specs.Judging.{Record, MayFollow}
use Rattle.history_model.specs.declared.refusal.Refusal.{Refusal}
use Rattle.history_model.specs.declared.refusal.Refusal.TheVariants.{Memory}
use Rattle.history_model.specs.declared.request.Request.TheVariants.{Look}
use Rattle.history_model.specs.Refusals.{refusal_of}
use Rattle.answer_journal.specs.Journal.{JournalState, tells_of, payloads_of, IsDoubtful}
use Rattle.exam_records.specs.Shape.{IsRecord}
use Rattle.exam_records.specs.Spelling.{payload_of}
use Rattle.exam_office.specs.Files.{AreRecordsOf}
use Rattle.exam_office.specs.Marks.{history}
use Rattle.exam_office.specs.Running.{Running}

-- whether a side is one of the plan's, or one of the cap
abbrev pub is_side : Tables → Plan → ℕ → Bool
is_side b plan side = nat_lt side (2 * length plan.rows + 2 * stimuli_of b)
    || (side == cap_side || side == cap_side + 1)

abbrev pub names_sides : Tables → Plan → Multipliers → Bool
names_sides b plan v = list_all (λ pair. is_side b plan pair.0) v

-- the vector, if each side that it names is one of these
abbrev pub if_of_plan : Tables → Plan → Multipliers → Option Multipliers
if_of_plan b plan v = if names_sides b plan v then Some v else None

-- the first vector of a proof tree, if each side that it names is one of these
abbrev pub first_vector : Tables → Plan → ProofTree → Option Multipliers
first_vector b plan T = option_and_then (if_of_plan b plan) (slice_get T.vectors 0)

-- whether an entry serves an item in the session
abbrev pub serves : ℕ → Entry → Bool
serves s (Served session step item form proved nodes) = session == s
serves s entry = false

-- the records that serve an item in the session, in order
abbrev pub servings : List Record → ℕ → List Record
servings R s = filter (λ (r : Record). serves s r.entry) R

abbrev pub last_serving : List Record → ℕ → Option Record
last_serving R s = slice_get (servings R s) (length (servings R s) - 1)

-- the vector that a record gives to the search for the next form
abbrev pub vector_of : Tables → Plan → Record → Option Multipliers
vector_of b plan r = option_and_then (first_vector b plan) r.tree

-- the vector of a session: that of the last record that serves an item in it
abbrev pub warm_of : Tables → Plan → List Record → ℕ → Option Multipliers
warm_of b plan R s = option_and_then (vector_of b plan) (last_serving R s)

-- a record of the entry in doubt may follow these, and the journal may hold it after them
pub record IsInDoubtAfter {D : Type 0} (b : Tables) (plan : Plan) (H : List Entry)
    (journal : JournalState D) (R : List Record)
    (entry : Entry) (last : Record) : Type 0 where
  pub is_entry : last.entry ≡ entry
  pub spells : IsRecord last
  pub may : MayFollow b plan H last.entry last.tree
  pub doubtful : IsDoubtful (map payload_of R) (payload_of last) journal

-- the journal holds these records; with an entry in doubt, perhaps one of it after them
abbrev pub Holds : {D : Type 0} → Tables → Plan → List Entry → JournalState D → List Record
    → Option Entry → Option Record → Type 0
Holds b plan H journal R None None =
    IsTrue (tells_of journal) → payloads_of journal ≡ map payload_of R
Holds b plan H journal R None (Some last) = ⊥
Holds b plan H journal R (Some entry) None = ⊥
Holds b plan H journal R (Some entry) (Some last) = IsInDoubtAfter b plan H journal R entry last

-- the vector of a session by the records of an office's history, which its journal holds
pub record IsWarm {D : Type 0} (office : Running D) (session : ℕ)
    (found : Option Multipliers) : Type 0 where
  pub records : List Record
  pub are : AreRecordsOf office.bank office.plan 2 (history office.marks) records
  pub last : Option Record
  pub holds : Holds office.bank office.plan (history office.marks) office.journal records
      office.doubt last
  pub is : found ≡ warm_of office.bank office.plan records session

-- why the call is refused: the session is not started, or there is no memory
abbrev pub IsColdBy : {D : Type 0} → Running D → ℕ → Refusal → Type 0
IsColdBy office session Memory =
    refusal_of office.bank office.plan (history office.marks) (Look session) ≡ None
IsColdBy office session refusal =
    refusal_of office.bank office.plan (history office.marks) (Look session) ≡ Some refusal

-- a search of any problem of the bank and the plan may begin with the vector
abbrev pub FitsPlan : Tables → Plan → Multipliers → Type 0
FitsPlan b plan v = (P : Problem) → P.bank ≡ b → P.plan ≡ plan → NamesOnlySides P v

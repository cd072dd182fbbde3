-- Requests that lead from one history to another.
use Rattle.std.specs.Prelude.{◌≡◌, ⊤, ℕ, ◌+◌, ◌<◌, List, [], ◌∷◌, ◌++◌, map, Option, Some, None}
use Rattle.answer_journal.specs.Payload.{end_of}
use Rattle.bank_tables.specs.Tables.{Tables}
use Rattle.form_model.specs.Plan.{Plan}
use Rattle.history_model.specs.declared.entry.Entry.{Entry}
use Rattle.history_model.specs.declared.refusal.Refusal.TheVariants as why
use Rattle.history_model.specs.declared.request.Reply.{Reply}
use Rattle.history_model.specs.declared.request.Reply.TheVariants.{Refused}
use Rattle.history_model.specs.declared.request.Request.{Request}
use Rattle.history_model.specs.declared.summary.Summary.{Summary}
use Rattle.history_model.specs.Halting.{IsCutOff, IsNextOf}
use Rattle.history_model.specs.Judging.{Record, MayFollow}
use Rattle.history_model.specs.Requests.{Does}
use Rattle.history_model.specs.Summaries.{summary}
use Rattle.exam_office.specs.Files.{AreRecordsOf}
use Rattle.exam_records.specs.Shape.{IsRecord}
use Rattle.exam_records.specs.Spelling.{payload_of}
use Rattle.exam_drill.specs.declared.fault.DrillFault.{DrillFault}
use Rattle.exam_drill.specs.declared.fault.DrillFault.TheVariants.{JournalFull, Memory}

-- the fault that a reply ends a drill with, if it does: the journal's limit, or lack of memory, of
-- which a disk in memory fails too
abbrev pub fault_of : Plan → Reply → Option DrillFault
fault_of plan (Refused (why.JournalFull size)) = Some (JournalFull size plan.journal)
fault_of plan (Refused why.Disk) = Some Memory
fault_of plan (Refused why.Memory) = Some Memory
fault_of plan reply = None

-- the request is done, with some reply
pub record IsDoneBy (b : Tables) (plan : Plan) (H : List Entry) (request : Request)
    (G : List Entry) : Type 0 where
  pub reply : Reply
  pub does : Does b plan H request G reply

-- the requests are done one after another, from the history H to G
pub data LeadsTo (b : Tables) (plan : Plan) (H : List Entry) : List Request → List Entry
    → Type 0 where
  none : LeadsTo b plan H [] H
  one_more : (done : List Request) (G : List Entry) (request : Request) (K : List Entry)
      → LeadsTo b plan H done G
      → IsDoneBy b plan G request K → LeadsTo b plan H (done ++ request ∷ []) K

-- the journal would have this length with the next record of the request, which is above its limit:
-- a header of eight bytes, the frames of the history's records and of that one, and a closed gate
pub record IsTooLong (b : Tables) (plan : Plan) (H : List Entry) (request : Request)
    (size : ℕ) : Type 0 where
  pub G : List Entry
  pub cut_off : IsCutOff b plan H request G
  pub last : Record
  pub next : IsNextOf b plan H request G last.entry
  pub spells : IsRecord last
  pub may : MayFollow b plan G last.entry last.tree
  pub records : List Record
  pub are : AreRecordsOf b plan 2 G records
  pub size_is : size ≡ end_of 8 (map payload_of (records ++ last ∷ [])) + 1
  pub above : plan.journal < size

-- why a request was not done: the limit of the journal, or lack of memory
abbrev pub IsCutShort : Tables → Plan → List Entry → Request → DrillFault → Type 0
IsCutShort b plan H request (JournalFull size most) =
    IsTooLong b plan H request size × (most ≡ plan.journal)
IsCutShort b plan H request Memory = ⊤

-- the first requests were done, and the next one was not
pub record IsStopped (b : Tables) (plan : Plan) (H : List Entry) (requests : List Request)
    (fault : DrillFault) : Type 0 where
  pub done : List Request
  pub request : Request
  pub rest : List Request
  pub whole : requests ≡ done ++ request ∷ rest
  pub G : List Entry
  pub leads : LeadsTo b plan H done G
  pub cut_short : IsCutShort b plan G request fault

-- the requests lead from the empty history to one with this summary
pub record IsSummaryOf (b : Tables) (plan : Plan) (requests : List Request)
    (s : Summary) : Type 0 where
  pub H : List Entry
  pub leads : LeadsTo b plan [] requests H
  pub is : s ≡ summary plan H

-- or they were not all done
abbrev pub IsExamFault : Tables → Plan → List Request → DrillFault → Type 0
IsExamFault b plan requests (JournalFull size most) =
    IsStopped b plan [] requests (JournalFull size most)
IsExamFault b plan requests Memory = ⊤

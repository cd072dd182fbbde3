-- What the definitions have to do with those of `exam_program` and `exam_serve`.
use Rattle.std.specs.Prelude.{◌≡◌, ℕ, Bool, List, [], ◌∷◌, ◌++◌, map, Option}
use Rattle.bank_tables.specs.Tables.{Tables}
use Rattle.exam_hall.specs.Known.{CallerKnown}
use Rattle.exam_headline.specs.Conversations.{Examination, MayBeWritten}
use Rattle.exam_headline.specs.Journals.{HoldsHistory}
use Rattle.exam_headline.specs.Replays.{IsUnderWay}
use Rattle.exam_headline.specs.Servers.{AreFair}
use Rattle.exam_http.specs.declared.ended.Ended.TheVariants.{Link}
use Rattle.exam_http.specs.Serving.{IsServed}
use Rattle.exam_office.specs.declared.mark.Mark.{Mark}
use Rattle.exam_office.specs.declared.mark.Mark.TheVariants.{Old, Opened}
use Rattle.exam_office.specs.Files.{Stands, StandsSecond}
use Rattle.exam_office.specs.Marks.{history}
use Rattle.exam_office.specs.Noting.{OpenedWith, marks_of}
use Rattle.exam_program.specs.Outside.{DiskSeen}
use Rattle.exam_program.specs.Replays as replays
use Rattle.exam_serve.specs.Allowing.{AreFairDoors, IsCallerOf}
use Rattle.exam_serve.specs.Connections.{Asks, Probes}
use Rattle.form_model.specs.Plan.{Plan}
use Rattle.history_model.specs.declared.entry.Entry.{Entry}
use Rattle.history_model.specs.declared.request.Reply.{Reply}
use Rattle.history_model.specs.declared.request.Request.{Request}
use Rattle.prepare_desk.specs.Posts.{Idles}
use Rattle.replay_cli.specs.Replies.{lines_of}

-- ---- files
-- a file that represents a history holds it, by records of the second version where it represents
-- it so
pub record FileHoldsHistory : Type 0 where
  pub either : (b : Tables) (plan : Plan) (H : List Entry) (file : List ℕ) → Stands b plan H file
      → (version : ℕ) × HoldsHistory b plan version H file
  pub second : (b : Tables) (plan : Plan) (H : List Entry) (file : List ℕ)
      → StandsSecond b plan H file → HoldsHistory b plan 2 H file

-- ---- replays
-- what a replay did is what the headline has of it
abbrev pub ReplayIsUnderWay : Type 0
ReplayIsUnderWay =
    (b : Tables) (plan : Plan) (base : List ℕ) (disk : DiskSeen) (script : List Request)
    (H G : List Entry) (rest : List Request) (replies : List Reply)
    → replays.IsUnderWay b plan base disk script H G rest replies
    → (E : List Entry) × (G ≡ H ++ E)
    × IsUnderWay b plan base script disk H E rest (lines_of replies)

-- ---- servers
-- the examination of a caller
abbrev pub exam_of : CallerKnown → Examination
exam_of caller =
    record { bank = caller.hall.bank; plan = caller.hall.plan; base = caller.hall.base }

-- what a connection that its link cuts off may have had written is what the headline has of it
abbrev pub CutOffMayBeWritten : Type 0
CutOffMayBeWritten =
    (token : Option (List ℕ)) (caller final : CallerKnown) (bytes text : List ℕ)
    → IsServed token Asks Probes Idles caller bytes text final Link
    → MayBeWritten (exam_of caller) token (history (marks_of caller.pass.seen)) bytes text

-- links that allow what the headline asks of them allow what a server asks, if its office was
-- opened with a history
abbrev pub FairIsEnough : {K D : Type 0} → (K → Bool) → (K → List ℕ) → (K → List ℕ)
    → (K → List ℕ → Type 0) → (D → Bool) → (D → List K) → Type 0
FairIsEnough {K} {D} tells left written allows door_tells coming =
    (token : Option (List ℕ)) (doors : List D) (office : OpenedWith) (opened : List Mark)
    (found : List Entry) (size : ℕ)
    → opened ≡ map Old found ++ Opened size ∷ []
    → AreFair token tells left written allows door_tells coming doors
    (record { bank = office.bank; plan = office.plan; base = office.base }) found
    → AreFairDoors token tells left written allows door_tells coming
    (IsCallerOf office opened) doors

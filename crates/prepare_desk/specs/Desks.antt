-- What a desk is for, and what is ready on it.
use Rattle.std.specs.Prelude.{⊤, ℕ, ◌==◌, Bool, ◌&&◌, List, Contains, Option, Some, None}
use Rattle.std.specs.Map.{lookup, remove_entry}
use Rattle.bank_tables.specs.Tables.{Tables}
use Rattle.form_model.specs.Plan.{Plan}
use Rattle.history_model.specs.declared.request.Request.{Request}
use Rattle.history_model.specs.declared.request.Request.TheVariants.{Answer}
use Rattle.branch_bound.specs.Assembled.{Assembly}
use Rattle.exam_office.specs.Running.{Running}
use Rattle.exam_hall.specs.Known.{HallKnown}
use Rattle.exam_hall.specs.Prepared.{IsPrepared}
use Rattle.prepare_desk.specs.declared.key.Key.{Key}
use Rattle.prepare_desk.specs.declared.desk.Ready.{Ready}
use Rattle.prepare_desk.specs.declared.desk.Ready.TheVariants.{Made, SameAs}

-- the bank, the plan and the base form that the results of a desk are assembled for
pub record DeskPurpose : Type 0 where
  pub bank : Tables
  pub plan : Plan
  pub base : List ℕ

-- those of a hall
abbrev pub purpose_of : HallKnown → DeskPurpose
purpose_of h = record { bank = h.bank; plan = h.plan; base = h.base }

-- those of an office
abbrev pub purpose_in : {D : Type 0} → Running D → DeskPurpose
purpose_in office = record { bank = office.bank; plan = office.plan; base = office.base }

-- a desk: its purpose; what is ready, with the answers that it is for, that of the one put last
-- first; and how many results it has room for
pub record DeskKnown : Type 0 where
  pub purpose : DeskPurpose
  pub results : List (Key × Ready)
  pub room : ℕ

-- a result was assembled for this bank and plan, with the base as the hint
abbrev pub IsReadyFor : DeskPurpose → Ready → Type 0
IsReadyFor p (Made made) = IsPrepared p.bank p.plan p.base made
IsReadyFor p (SameAs response) = ⊤

-- each result was
abbrev pub AreReadyFor : DeskPurpose → List (Key × Ready) → Type 0
AreReadyFor p results = (r : Key × Ready) → Contains results r → IsReadyFor p r.1

-- ---- what is ready for an answer
-- a key is that one: its session, its step and its response are
abbrev pub is_key : Key → Key → Bool
is_key key other = (key.session == other.session)
    && ((key.step == other.step) && (key.response == other.response))

-- a result that was put for the answer itself, and not for another response
abbrev pub made_of : Option Ready → Option Assembly
made_of (Some (Made made)) = Some made
made_of (Some (SameAs response)) = None
made_of None = None

-- what was put for an answer
abbrev pub put_for : List (Key × Ready) → Key → Option Ready
put_for results key = lookup (is_key key) results

-- what is left without that
abbrev pub without : List (Key × Ready) → Key → List (Key × Ready)
without results key = remove_entry (is_key key) results

-- the answer to the same item with another response
abbrev pub with_response : Key → ℕ → Key
with_response key response = record key { response = response }

-- the result that is ready where this was put for an answer: the one that was put, or that of the
-- response which leads to the same problem
abbrev pub ready_by : List (Key × Ready) → Key → Option Ready → Option Assembly
ready_by results key (Some (Made made)) = Some made
ready_by results key (Some (SameAs response)) =
    made_of (put_for (without results key) (with_response key response))
ready_by results key None = None

-- what is left after that was taken out
abbrev pub left_by : List (Key × Ready) → Key → Option Ready → List (Key × Ready)
left_by results key (Some (Made made)) = without results key
left_by results key (Some (SameAs response)) =
    without (without results key) (with_response key response)
left_by results key None = without results key

-- the result that is ready for an answer
abbrev pub ready_at : List (Key × Ready) → Key → Option Assembly
ready_at results key = ready_by results key (put_for results key)

-- what is left after it was taken out
abbrev pub left_at : List (Key × Ready) → Key → List (Key × Ready)
left_at results key = left_by results key (put_for results key)

-- the result that is ready for a request, if that is an answer
abbrev pub ready_for : List (Key × Ready) → Request → Option Assembly
ready_for results (Answer session step response booking) =
    ready_at results (record { session = session; step = step; response = response })
ready_for results q = None

-- what is left after a request took what is ready for it
abbrev pub left_for : List (Key × Ready) → Request → List (Key × Ready)
left_for results (Answer session step response booking) =
    left_at results (record { session = session; step = step; response = response })
left_for results q = results

-- What contracts see of a hall, of a pass of it, and of a caller.
use Rattle.std.specs.Prelude.{◌≡◌, ℕ, List, Contains}
use Rattle.bank_tables.specs.Tables.{Tables}
use Rattle.form_model.specs.Plan.{Plan}
use Rattle.turn_lock.specs.Histories.{StartsWith}
use Rattle.turn_lock.specs.Passes.{Known, LockId}
use Rattle.exam_office.specs.declared.mark.Mark.{Mark}
use Rattle.exam_office.specs.declared.mark.Mark.TheVariants.{Opened}
use Rattle.exam_office.specs.Noting.{OpenedWith, NotedMark, marks_of}

-- the hall's lock, and the bank, the plan and the base form of its office
pub record HallKnown : Type 0 where
  pub lock : LockId
  pub bank : Tables
  pub plan : Plan
  pub base : List ℕ

-- a pass, by the marks that it has seen
abbrev pub marked : Known NotedMark → Known Mark
marked p = record {
  turn = p.turn;
  number = p.number;
  splits = p.splits;
  start = p.start;
  joined = p.joined;
  seen = marks_of p.seen;
  mine = p.mine;
  fronts = p.fronts;
}

-- an office was opened with the hall's bank, plan and base form
pub record IsOfficeOf (office : OpenedWith) (h : HallKnown) : Type 0 where
  pub bank : office.bank ≡ h.bank
  pub plan : office.plan ≡ h.plan
  pub base : office.base ≡ h.base

-- some mark is the opening of an office with the hall's bank, plan and base form
pub record HasOpening (seen : List NotedMark) (h : HallKnown) : Type 0 where
  pub size : ℕ
  pub office : OpenedWith
  pub noted : Contains seen (record { mark = Opened size; office = office })
  pub is_of : IsOfficeOf office h

-- the pass is of the hall's lock, and has seen its office opened with the hall's bank, plan and
-- base form
pub record IsOf (p : Known NotedMark) (h : HallKnown) : Type 0 where
  pub lock : p.turn ≡ h.lock
  pub opening : HasOpening p.seen h

-- the pass has seen all that it had seen, each mark with what its office was opened with, and its
-- lock was made at the same length
pub record HasGrown (old new : Known NotedMark) : Type 0 where
  pub start : new.start ≡ old.start
  pub seen : StartsWith new.seen old.seen

-- a caller: its hall, and its pass
pub record CallerKnown : Type 0 where
  pub hall : HallKnown
  pub pass : Known NotedMark

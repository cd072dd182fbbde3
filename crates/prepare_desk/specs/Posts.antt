-- What callers have of a shared desk, and what their idle time does.
use Rattle.std.specs.Prelude.{◌≡◌, ◌⊎◌, ℕ, List, [], ◌∷◌}
use Rattle.turn_lock.specs.Passes.{Known, LockId}
use Rattle.exam_office.specs.declared.mark.Mark.{Mark}
use Rattle.exam_hall.specs.Known.{HallKnown, CallerKnown, HasGrown, marked}
use Rattle.exam_hall.specs.Went.{Went}
use Rattle.prepare_desk.specs.Desks.{DeskPurpose, purpose_of}

-- the first pass of a desk with this purpose
pub record IsFirstOf (desk : LockId) (p : DeskPurpose) (first : Known DeskPurpose) : Type 0 where
  pub turn : first.turn ≡ desk
  pub number : first.number ≡ 0
  pub seen : first.seen ≡ p ∷ []

-- a pass of a desk for a hall
abbrev pub IsPostOf : HallKnown → Known DeskPurpose → Type 0
IsPostOf h post = post.seen ≡ purpose_of h ∷ []

-- a pass took some turns, or none, which added nothing
abbrev pub IsIdle : Known Mark → Known Mark → Type 0
IsIdle old new = (fronts : List ℕ) × Went old new fronts []

-- idle time of a caller: nothing happened; or its hall is the same, and its pass took some turns,
-- or none, which added nothing
abbrev pub Idles : CallerKnown → CallerKnown → Type 0
Idles old new =
    (new ≡ old) ⊎ ((new.hall ≡ old.hall) × IsIdle (marked old.pass) (marked new.pass)
    × HasGrown old.pass new.pass)

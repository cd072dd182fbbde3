-- Records of the first version of the journal, which have one eligible set and no step or band of
-- setting aside, and what they are made.
use Rattle.std.specs.Prelude.{◌≡◌, ◌≢◌, ℕ, List, IsFalse, Option, Some, None}
use Rattle.bank_tables.specs.Tables.{Tables}
use Rattle.form_model.specs.Plan.{Plan, band_of, bands_of}
use Rattle.form_model.specs.Problem.{Problem}
use Rattle.certificate_model.specs.ProofTrees.{ProofTree}
use Rattle.serving_model.specs.Seats.{first_band}
use Rattle.history_model.specs.declared.entry.Bands.{Bands}
use Rattle.history_model.specs.declared.entry.Cause.{Cause}
use Rattle.history_model.specs.declared.entry.Entry.{Entry}
use Rattle.history_model.specs.declared.entry.Entry.TheVariants.{Started, SetAside}
use Rattle.history_model.specs.declared.place.Place.TheVariants.{Pending}
use Rattle.history_model.specs.Entries.{holder, items_in}
use Rattle.history_model.specs.Places.{place}
use Rattle.history_model.specs.Draws.{SameItems, draw}
use Rattle.history_model.specs.SessionProblems.{IsProblemOf}
use Rattle.history_model.specs.Legality.{IsNextNumber}
use Rattle.history_model.specs.Judging.{claim_of_cause, Shows, MayFollow}

-- ---- which records of the first version may follow
-- a session starts with the next number, for a booking that has none, with its draw in the band
-- where each session begins
pub record IsOldStart (b : Tables) (plan : Plan) (H : List Entry) (session booking : ℕ)
    (old : Bands) : Type 0 where
  pub number : IsNextNumber plan H session
  pub not_booked : holder H booking ≡ None
  pub drawn : SameItems (items_in old.sets 0) (draw b plan H session (first_band b plan))

-- eligibility is set aside in the band of the estimate, wherever the session waits for an item, and
-- the tree shows the cause
pub record IsOldAside (b : Tables) (plan : Plan) (H : List Entry) (session : ℕ) (cause : Cause)
    (nodes : ℕ) (tree : Option ProofTree) : Type 0 where
  pub step : ℕ
  pub problem : Problem
  pub is_problem : IsProblemOf b plan H session step problem
  pub not_aside : IsFalse problem.aside
  pub shows : Shows problem None plan.budget nodes (claim_of_cause cause) tree

abbrev pub MayFollowAsOld : Tables → Plan → List Entry → Entry → Option ProofTree → Type 0
MayFollowAsOld b plan H (Started session booking old without) tree =
    IsOldStart b plan H session booking old × (tree ≡ None)
MayFollowAsOld b plan H (SetAside session step band cause nodes) tree =
    IsOldAside b plan H session cause nodes tree
MayFollowAsOld b plan H entry tree = MayFollow b plan H entry tree

-- ---- what such an entry is made
-- the one set becomes that of the band where each session begins, and each other band of the plan
-- gets its draw
pub record AreLifted (b : Tables) (plan : Plan) (H : List Entry) (session : ℕ)
    (old new : Bands) : Type 0 where
  pub number : new.count ≡ bands_of plan
  pub kept : SameItems (items_in new.sets (first_band b plan)) (items_in old.sets 0)
  pub others : (band : ℕ) → band ≢ first_band b plan
      → SameItems (items_in new.sets band) (draw b plan H session band)

-- a SetAside entry gets the step of its session and the band of the estimate there, if the session
-- waits for an item; else it stays as it is
pub record IsLiftedAside (b : Tables) (plan : Plan) (H : List Entry) (session step band : ℕ)
    (cause : Cause) (nodes : ℕ) (new : Entry) : Type 0 where
  pub pending : (now : ℕ) (P : Problem) → IsProblemOf b plan H session now P
      → new ≡ SetAside session now (band_of plan P.theta) cause nodes
  pub stays : ((at : ℕ) → place plan H session ≢ Some (Pending at))
      → new ≡ SetAside session step band cause nodes

abbrev pub IsLifted : Tables → Plan → List Entry → Entry → Entry → Type 0
IsLifted b plan H (Started session booking old without) new =
    (sets : Bands) × AreLifted b plan H session old sets × (new ≡ Started session booking sets None)
IsLifted b plan H (SetAside session step band cause nodes) new =
    IsLiftedAside b plan H session step band cause nodes new
IsLifted b plan H entry new = new ≡ entry

-- a record that is lifted may follow wherever the old one may
abbrev pub LiftedMayFollow : Type 0
LiftedMayFollow =
    (b : Tables) (plan : Plan) (H : List Entry) (old new : Entry) (tree : Option ProofTree)
    → MayFollowAsOld b plan H old tree → IsLifted b plan H old new → MayFollow b plan H new tree

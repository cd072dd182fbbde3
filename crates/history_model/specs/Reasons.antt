-- Why a record may not follow a history.
use Rattle.std.specs.Prelude.{◌≡◌, ◌≢◌, ℕ, ◌≤◌, Bool, List, IsTrue, IsFalse, Option, Some, None}
use Rattle.bank_tables.specs.Items.{has}
use Rattle.bank_tables.specs.Tables.{Tables, size, categories}
use Rattle.history_model.specs.declared.entry.Entry.{Entry}
use Rattle.history_model.specs.declared.entry.Entry.TheVariants.{Started, SetAside, Served, Answered, Closed}
use Rattle.history_model.specs.declared.place.Place.{Place}
use Rattle.history_model.specs.declared.place.Place.TheVariants.{Pending, Waiting}
use Rattle.history_model.specs.declared.illegal.Illegal.{Illegal}
use Rattle.history_model.specs.declared.illegal.Illegal.TheVariants.{NotNumber, Booked, NotDrawn, NoItem, NotWithout, NoSession, NotPending, IsAside, NotStep, NotBand, NotForm, NotItem, NotSpent, Tree, NotWaiting, BadResponse, Ended}
use Rattle.form_model.specs.Plan.{Plan, band_of}
use Rattle.form_model.specs.Problem.{Problem}
use Rattle.form_model.specs.Forms.{Form}
use Rattle.form_model.specs.Breaches.{IsFirstBreach}
use Rattle.serving_model.specs.Serving.{IsNext}
use Rattle.certificate_model.specs.ProofTrees.{ProofTree}
use Rattle.history_model.specs.Entries.{sessions, holder}
use Rattle.history_model.specs.Places.{place}
use Rattle.history_model.specs.Draws.{AreDrawn, IsNotDrawn}
use Rattle.history_model.specs.SessionProblems.{IsProblemOf}
use Rattle.history_model.specs.Lists.{IsLegalWithout, IsNoListFor, IsBreachOfWithout}
use Rattle.history_model.specs.Legality.{IsNextNumber, GoesOn}
use Rattle.history_model.specs.Judging.{claim_of_mark, claim_of_cause, HasTree, HasVerdict, IsAsked}

-- the place is Waiting at the step
abbrev pub IsWaitingAt : ℕ → Place → Type 0
IsWaitingAt step (Waiting at item proved) = at ≡ step
IsWaitingAt step place = ⊥

-- the place is Pending
abbrev pub IsPendingPlace : Place → Type 0
IsPendingPlace (Pending step) = Unit {0}
IsPendingPlace place = ⊥

-- the reason is the first, in the order of the variants, that holds for the entry, with its value
abbrev pub IsIllegal : Tables → Plan → List Entry → Entry → Option ProofTree → Illegal → Type 0
-- a start: the number, the booking, the draw, the items of the list, its form, no tree
IsIllegal b plan H (Started session booking eligible without) tree (NotNumber count) =
    (IsNextNumber plan H session → ⊥) × (count ≡ sessions H)
IsIllegal b plan H (Started session booking eligible without) tree (Booked by) =
    IsNextNumber plan H session × (holder H booking ≡ Some by)
IsIllegal b plan H (Started session booking eligible without) tree (NotDrawn item) =
    IsNextNumber plan H session × (holder H booking ≡ None)
    × IsNotDrawn b plan H session eligible item
IsIllegal b plan H (Started session booking eligible without) tree (NoItem count) =
    IsNextNumber plan H session × (holder H booking ≡ None) × AreDrawn b plan H session eligible
    × IsNoListFor b without × (count ≡ size b)
IsIllegal b plan H (Started session booking eligible without) tree (NotWithout breach) =
    IsNextNumber plan H session × (holder H booking ≡ None) × AreDrawn b plan H session eligible
    × IsBreachOfWithout b plan without breach
IsIllegal b plan H (Started session booking eligible without) tree (NotSpent nodes) =
    IsNextNumber plan H session × (holder H booking ≡ None) × AreDrawn b plan H session eligible
    × IsLegalWithout b plan without × (tree ≢ None) × (nodes ≡ 0)
-- setting eligibility aside: the session, its place, aside already in the band of the estimate, the
-- step, the band, the tree, its verdict
IsIllegal b plan H (SetAside session step band cause nodes) tree (NoSession count) =
    (place plan H session ≡ None) × (count ≡ sessions H)
IsIllegal b plan H (SetAside session step band cause nodes) tree (NotPending at) =
    (place plan H session ≡ Some at) × (IsPendingPlace at → ⊥)
IsIllegal b plan H (SetAside session step band cause nodes) tree IsAside =
    (now : ℕ) × (P : Problem) × IsProblemOf b plan H session now P × IsTrue P.aside
IsIllegal b plan H (SetAside session step band cause nodes) tree (NotStep now) =
    (P : Problem) × IsProblemOf b plan H session now P × IsFalse P.aside × (step ≢ now)
IsIllegal b plan H (SetAside session step band cause nodes) tree (NotBand now) =
    (P : Problem) × IsProblemOf b plan H session step P × IsFalse P.aside
    × (now ≡ band_of plan P.theta) × (band ≢ now)
IsIllegal b plan H (SetAside session step band cause nodes) tree (NotSpent number) =
    (P : Problem) × IsProblemOf b plan H session step P × IsFalse P.aside
    × (band ≡ band_of plan P.theta)
    × (HasTree P plan.budget nodes (claim_of_cause cause) tree → ⊥) × (number ≡ nodes)
IsIllegal b plan H (SetAside session step band cause nodes) tree (Tree verdict) =
    (P : Problem) × IsProblemOf b plan H session step P × IsFalse P.aside
    × (band ≡ band_of plan P.theta) × HasTree P plan.budget nodes (claim_of_cause cause) tree
    × HasVerdict P None tree verdict × (IsAsked (claim_of_cause cause) verdict → ⊥)
-- a serving: the session, its place, the form, the item, the tree, its verdict
IsIllegal b plan H (Served session step item form proved nodes) tree (NoSession count) =
    (place plan H session ≡ None) × (count ≡ sessions H)
IsIllegal b plan H (Served session step item form proved nodes) tree (NotPending at) =
    (place plan H session ≡ Some at) × (at ≢ Pending step)
IsIllegal b plan H (Served session step item form proved nodes) tree (NotForm breach) =
    (P : Problem) × IsProblemOf b plan H session step P × IsFirstBreach P (has form) (Some breach)
IsIllegal b plan H (Served session step item form proved nodes) tree (NotItem next) =
    (P : Problem) × IsProblemOf b plan H session step P × Form P (has form)
    × IsNext P (has form) next × (item ≢ next)
IsIllegal b plan H (Served session step item form proved nodes) tree (NotSpent number) =
    (P : Problem) × IsProblemOf b plan H session step P × Form P (has form)
    × IsNext P (has form) item × (HasTree P plan.budget nodes (claim_of_mark proved) tree → ⊥)
    × (number ≡ nodes)
IsIllegal b plan H (Served session step item form proved nodes) tree (Tree verdict) =
    (P : Problem) × IsProblemOf b plan H session step P × Form P (has form)
    × IsNext P (has form) item × HasTree P plan.budget nodes (claim_of_mark proved) tree
    × HasVerdict P (Some (has form)) tree verdict × (IsAsked (claim_of_mark proved) verdict → ⊥)
-- an answer: the session, no tree, its place, the response
IsIllegal b plan H (Answered session step response) tree (NoSession count) =
    (place plan H session ≡ None) × (count ≡ sessions H)
IsIllegal b plan H (Answered session step response) tree (NotSpent nodes) =
    (place plan H session ≢ None) × (tree ≢ None) × (nodes ≡ 0)
IsIllegal b plan H (Answered session step response) tree (NotWaiting at) =
    (tree ≡ None) × (place plan H session ≡ Some at) × (IsWaitingAt step at → ⊥)
IsIllegal b plan H (Answered session step response) tree (BadResponse number) = (tree ≡ None)
    × ((item : ℕ) × (proved : Bool) × (place plan H session ≡ Some (Waiting step item proved))
    × (number ≡ categories b item) × (number ≤ response))
-- closing: the session, no tree, its place
IsIllegal b plan H (Closed session) tree (NoSession count) =
    (place plan H session ≡ None) × (count ≡ sessions H)
IsIllegal b plan H (Closed session) tree (NotSpent nodes) =
    (place plan H session ≢ None) × (tree ≢ None) × (nodes ≡ 0)
IsIllegal b plan H (Closed session) tree (Ended at) =
    (tree ≡ None) × (place plan H session ≡ Some at) × (GoesOn at → ⊥)
-- no other reason is one of the entry's kind
IsIllegal b plan H entry tree reason = ⊥

-- How an office keeps the vectors of its sessions.
use Rattle.std.specs.Prelude.{◌≡◌, ⊤, ℕ, ◌<◌, Bool, List, [], ◌∷◌, ◌++◌, length, slice_get, Option, Some, None, IfSome}
use Rattle.std.specs.Option.{option_and_then, option_flatten}
use Rattle.bank_tables.specs.Tables.{Tables}
use Rattle.form_model.specs.Plan.{Plan}
use Rattle.certificate_model.specs.ProofTrees.{ProofTree}
use Rattle.certificate_model.specs.Relaxed.{Multipliers}
use Rattle.history_model.specs.declared.entry.Entry.{Entry}
use Rattle.history_model.specs.declared.entry.Entry.TheVariants.{Served}
use Rattle.history_model.specs.Judging.{Record}
use Rattle.answer_journal.specs.Journal.{JournalState}
use Rattle.exam_office.specs.declared.vectors.NewVector.{NewVector}
use Rattle.exam_office.specs.declared.vectors.Vectors.{Vectors}
use Rattle.exam_office.specs.Files.{AreRecordsOf}
use Rattle.exam_office.specs.Opening.{IsTaken, AreTaken}
use Rattle.exam_office.specs.Warm.{first_vector, warm_of, Holds}

-- the vector kept for a session
abbrev pub vector_at : List (Option Multipliers) → ℕ → Option Multipliers
vector_at each s = option_flatten (slice_get each s)

-- for each session that of these records
abbrev pub AreVectorsOf : Tables → Plan → List Record → List (Option Multipliers) → Type 0
AreVectorsOf b plan R each = (s : ℕ) → vector_at each s ≡ warm_of b plan R s

-- what a record makes the vector of its session, if it serves an item
abbrev pub new_by : Tables → Plan → Entry → Option ProofTree → Option NewVector
new_by b plan (Served session step item form proved nodes) tree = Some (record {
  session = session;
  vector = option_and_then (first_vector b plan) tree;
})
new_by b plan entry tree = None

abbrev pub new_vector : Tables → Plan → Record → Option NewVector
new_vector b plan r = new_by b plan r.entry r.tree

-- there is room for it
abbrev pub HasRoom : List (Option Multipliers) → Option NewVector → Type 0
HasRoom each new = IfSome new (λ (n : NewVector). n.session < length each)

-- the vectors after a record are those before it, and what it gives
abbrev pub AreVectorsAfter : Tables → Plan → List (Option Multipliers) → Record
    → List (Option Multipliers) → Type 0
AreVectorsAfter b plan before r after =
    (R : List Record) → AreVectorsOf b plan R before → AreVectorsOf b plan (R ++ r ∷ []) after

-- the same of each record that gives this one
abbrev pub AreVectorsWith : List (Option Multipliers) → Option NewVector → List (Option Multipliers)
    → Type 0
AreVectorsWith before new after = (b : Tables) (plan : Plan) (r : Record)
    → new ≡ new_vector b plan r → AreVectorsAfter b plan before r after

-- what an office keeps between its calls: for each session the vector of the records of its
-- history, which the journal holds; and what the record in doubt makes the vector of its session
pub record AreKeptVectors {D : Type 0} (b : Tables) (plan : Plan) (H : List Entry)
    (journal : JournalState D) (doubt : Option Entry)
    (each : List (Option Multipliers)) (new : Option NewVector) : Type 0 where
  pub records : List Record
  pub are : AreRecordsOf b plan 2 H records
  pub last : Option Record
  pub holds : Holds b plan H journal records doubt last
  pub each_is : AreVectorsOf b plan records each
  pub new_is : new ≡ option_and_then (new_vector b plan) last
  pub room : HasRoom each new

-- ---- while a file is read
-- the vectors, where they are asked for, are those of these records
abbrev pub AreOf : Tables → Plan → List Record → Option Vectors → Type 0
AreOf b plan R None = ⊤
AreOf b plan R (Some vectors) = AreVectorsOf b plan R vectors.each.items × (vectors.doubt ≡ None)

-- the same vectors with what a record gives
abbrev pub AreWith : Tables → Plan → Option Vectors → Record → Option Vectors → Type 0
AreWith b plan before r after =
    (R : List Record) → AreOf b plan R before → AreOf b plan (R ++ r ∷ []) after

-- a payload is taken, and what its record gives
pub record IsTakenWith (b : Tables) (plan : Plan) (version : ℕ) (H : List Entry) (payload : List ℕ)
    (entry : Entry)
    (before after : Option Vectors) : Type 0 where
  pub taken : IsTaken b plan version H payload entry
  pub vectors_are : AreWith b plan before taken.last after

-- so many payloads of a file are taken, and what their records give
pub record AreTakenWith (b : Tables) (plan : Plan) (version start : ℕ) (tells : Bool)
    (file : List ℕ) (given at : ℕ)
    (H : List Entry) (vectors : Option Vectors) : Type 0 where
  pub taken : AreTaken b plan version start tells file given at H
  pub vectors_are : AreOf b plan taken.records vectors

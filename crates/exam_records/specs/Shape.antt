-- Which records have a spelling.
use Rattle.std.specs.Prelude.{◌≡◌, ◌^◌, ◌<◌, ◌≤◌, ℕ, false, [], get_or, length, IsTrue, Option, Some, None}
use Rattle.bank_tables.specs.Items.{has, AreWords}
use Rattle.certificate_model.specs.ProofTrees.{ProofTree}
use Rattle.history_model.specs.declared.entry.Bands.{Bands}
use Rattle.history_model.specs.declared.entry.Entry.{Entry}
use Rattle.history_model.specs.declared.entry.Entry.TheVariants.{Started, SetAside, Served, Answered, Closed}
use Rattle.history_model.specs.declared.entry.Without.{Without}
use Rattle.history_model.specs.Draws.{SameItems}
use Rattle.history_model.specs.Entries.{items_in}
use Rattle.proof_tree.specs.Shape.{IsTree}
use Rattle.history_model.specs.Judging.{Record}

-- there is a proof tree exactly where an item was served or eligibility was set aside, and the
-- entry has the number of its nodes
abbrev pub GoesWith : Entry → Option ProofTree → Type 0
GoesWith (Started session booking eligible without) None = Unit {0}
GoesWith (SetAside session step band cause nodes) (Some T) = nodes ≡ length T.nodes
GoesWith (Served session step item form proved nodes) (Some T) = nodes ≡ length T.nodes
GoesWith (Answered session step response) None = Unit {0}
GoesWith (Closed session) None = Unit {0}
GoesWith entry tree = ⊥

-- eligible sets as a start has them: 1 to 8 that count, and no item in those that don't
pub record AreEligible (eligible : Bands) : Type 0 where
  pub some : 0 < eligible.count
  pub few : eligible.count ≤ 8
  pub none_past : (band : ℕ) → eligible.count ≤ band
      → SameItems (items_in eligible.sets band) (λ _. false)

-- a list of items that the examinee must not get has some, if there is one
abbrev pub HasItemsIfAny : Option Without → Type 0
HasItemsIfAny None = Unit {0}
HasItemsIfAny (Some list) = (item : ℕ) × IsTrue (has list.items item)

-- the bands of an entry are at most eight, and a list of a start isn't empty
abbrev pub HasBands : Entry → Type 0
HasBands (Started session booking eligible without) = AreEligible eligible × HasItemsIfAny without
HasBands (SetAside session step band cause nodes) = band < 8
HasBands entry = Unit {0}

-- the entry has no list of items that the examinee must not get
abbrev pub HasNoList : Entry → Type 0
HasNoList (Started session booking eligible without) = without ≡ None
HasNoList entry = Unit {0}

-- each of the eight sets is one of items
pub record AreSets (eligible : Bands) : Type 0 where
  pub eight : length eligible.sets ≡ 8
  pub each : (band : ℕ) → band < 8 → AreWords (get_or eligible.sets band [])

-- so are the two of a list, if there is one
abbrev pub AreListSets : Option Without → Type 0
AreListSets None = Unit {0}
AreListSets (Some list) = AreWords list.items × AreWords list.form

-- the numbers of an entry fit the bytes that they are written in, and its sets are of items
abbrev pub IsInRange : Entry → Type 0
IsInRange (Started session booking eligible without) =
    (session < 2 ^ 32) × (booking < 2 ^ 64) × AreSets eligible × AreListSets without
IsInRange (SetAside session step band cause nodes) = (session < 2 ^ 32) × (step < 2 ^ 16)
IsInRange (Served session step item form proved nodes) =
    (session < 2 ^ 32) × (step < 2 ^ 16) × (item < 2 ^ 16) × AreWords form
IsInRange (Answered session step response) =
    (session < 2 ^ 32) × (step < 2 ^ 16) × (response < 2 ^ 8)
IsInRange (Closed session) = session < 2 ^ 32

-- the tree, if there is one, has a spelling
abbrev pub IsTreeOrNone : Option ProofTree → Type 0
IsTreeOrNone None = Unit {0}
IsTreeOrNone (Some T) = IsTree T

pub record IsRecord (r : Record) : Type 0 where
  pub goes_with : GoesWith r.entry r.tree
  pub bands : HasBands r.entry
  pub fits : IsInRange r.entry
  pub tree : IsTreeOrNone r.tree

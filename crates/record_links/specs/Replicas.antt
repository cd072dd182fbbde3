-- What an offer does to a replica: a copy of a leader's records.
use Rattle.std.specs.Prelude.{◌≡◌, ◌⊎◌, ℕ, ◌<◌}
use Rattle.std.specs.Prelude.{List, [], ◌∷◌, ◌++◌, length, Option, Some, None}
use Rattle.record_links.specs.declared.replica.TakeFault.{TakeFault}
use Rattle.record_links.specs.declared.replica.TakeFault.TheVariants.{Refused, Full, Disk, Memory}
use Rattle.record_links.specs.World.{Numbered, Delivers}

-- the records of a replica, and the record in doubt, if there is one: written, and not known to be
-- there after a stop
pub record Held : Type 0 where
  pub records : List (List ℕ)
  pub doubt : Option (List ℕ)

-- these records, and none in doubt
abbrev pub sure : List (List ℕ) → Held
sure records = record { records = records; doubt = None }

-- the records after mending: as they are, or, only with a record in doubt, with it added
pub data IsMended (held : Held) : List (List ℕ) → Type 0 where
  as_they_are : IsMended held held.records
  with_doubt : (r : List ℕ) → held.doubt ≡ Some r → IsMended held (held.records ++ r ∷ [])

-- nothing was delivered: the replica is as it was, or was mended alone
abbrev pub IsUndelivered : Held → Held → Type 0
IsUndelivered old new =
    (new ≡ old) ⊎ ((base : List (List ℕ)) × IsMended old base × (new ≡ sure base))

-- one rule, limit and size of the records as the other
pub record IsSameRule (may may_then : List (List ℕ) → List ℕ → Type 0)
    (size size_then : List (List ℕ) → ℕ) (limit limit_then : ℕ) : Type 0 where
  pub there : (F : List (List ℕ)) (r : List ℕ) → may F r → may_then F r
  pub back : (F : List (List ℕ)) (r : List ℕ) → may_then F r → may F r
  pub same_size : (F : List (List ℕ)) → size_then F ≡ size F
  pub same_limit : limit_then ≡ limit

module _ (may : List (List ℕ) → List ℕ → Type 0) where
  -- an offer was delivered to the mended records, and none is in doubt after it. With the next
  -- number its record is there; so one that may not follow is not taken
  pub record Takes (old : Held) (offer : Numbered (List ℕ)) (new : Held) : Type 0 where
    pub base : List (List ℕ)
    pub mended : IsMended old base
    pub delivers : Delivers may base offer new.records
    pub added : offer.number ≡ length base → new.records ≡ base ++ offer.content ∷ []
    pub settled : new.doubt ≡ None

  -- an offer has the next number after the mended records, and may follow them
  pub record IsDue (old : Held) (base : List (List ℕ)) (offer : Numbered (List ℕ)) : Type 0 where
    pub mended : IsMended old base
    pub next : offer.number ≡ length base
    pub follows : may base offer.content

  -- what a stop may leave while an offer is delivered: the mended records, or these with the record
  -- taken
  abbrev pub StopLeaves : Held → Numbered (List ℕ) → List (List ℕ) → Type 0
  StopLeaves old offer left =
      (base : List (List ℕ)) × IsMended old base × ((left ≡ base) ⊎ Delivers may base offer left)

  -- why an offer was not taken, and what it left. `size` is the size of records in their file, and
  -- `limit` the greatest size
  module _ (size : List (List ℕ) → ℕ) (limit : ℕ) where
    abbrev pub Fails : Held → Numbered (List ℕ) → Held → TakeFault → Type 0
    Fails old offer new Refused =
        (base : List (List ℕ)) × IsMended old base × (new ≡ sure base)
        × (offer.number ≡ length base) × (may base offer.content → ⊥)
    Fails old offer new (Full n) =
        (base : List (List ℕ)) × IsDue old base offer × (new ≡ sure base)
        × (n ≡ size (base ++ offer.content ∷ [])) × (limit < n)
    Fails old offer new Disk =
        IsUndelivered old new
        ⊎ ((base : List (List ℕ)) × IsDue old base offer
        × (new ≡ record { records = base; doubt = Some offer.content }))
    Fails old offer new Memory = IsUndelivered old new

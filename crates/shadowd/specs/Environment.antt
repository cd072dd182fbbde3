-- What the variables of the environment set.
use Rattle.std.specs.Prelude.{◌≡◌, ◌⊎◌, ℕ, ◌≤◌, ◌^◌, ◌-◌, ◌==◌, Bool, true, false, if◌then◌else◌, List, [], ◌∷◌, length, Option, Some, None, bytes_eq, codes, string_bytes}
use Rattle.std.specs.Option.{option_map}
use Rattle.std.specs.Str.Parse.{IsNumeral, without_leading_plus, digits_value}
use Rattle.host_edge.specs.declared.journal_file.Access.{Access}
use Rattle.host_edge.specs.declared.journal_file.Access.TheVariants.{Read, Write, WriteIfMade, WriteOrMake}
use Rattle.shadowd.specs.declared.settings.Settings.{Settings}

-- the value of a variable, or what stands for it
abbrev pub value_or : Option (List ℕ) → List ℕ → List ℕ
value_or (Some text) default = text
value_or None default = default

-- a text writes a number of a range: decimal digits, which a plus sign may precede
pub record IsNumberIn (least most : ℕ) (text : List ℕ) (n : ℕ) : Type 0 where
  pub digits : IsNumeral 10 (without_leading_plus text)
  pub is : n ≡ digits_value 10 (without_leading_plus text)
  pub from : least ≤ n
  pub to : n ≤ most

-- the number of the range that a text writes, if it writes one
abbrev pub Writes : ℕ → ℕ → List ℕ → Option ℕ → Type 0
Writes least most text (Some n) = IsNumberIn least most text n
Writes least most text None = (n : ℕ) → IsNumberIn least most text n → ⊥

-- that number, or what stands for it
abbrev pub IsNumberOr : ℕ → ℕ → ℕ → List ℕ → ℕ → Type 0
IsNumberOr least most default text n =
    IsNumberIn least most text n ⊎ (Writes least most text None × (n ≡ default))

-- a token is none if its text is empty
abbrev pub token_of : List ℕ → Option (List ℕ)
token_of text = if length text == 0 then None else Some text

-- a journal that is not there is made if nothing is set, or yes
abbrev pub makes_by : List ℕ → Bool
makes_by text = if length text == 0 then true else bytes_eq text (codes "yes")

-- the settings by the values of the variables; only a server has a token
pub record AreSettings (value : List ℕ → Option (List ℕ)) (serves : Bool) (s : Settings) : Type 0 where
  pub journal : string_bytes s.journal ≡ value_or (value (codes "SHADOWD_JOURNAL")) (codes "shadowd.journal")
  pub listen : string_bytes s.listen ≡ value_or (value (codes "SHADOWD_LISTEN")) (codes "127.0.0.1:4710")
  pub follower : string_bytes s.follower ≡ value_or (value (codes "SHADOWD_FOLLOWER")) (codes "127.0.0.1:4711")
  pub workers : IsNumberOr 1 16 4 (value_or (value (codes "SHADOWD_WORKERS")) []) s.workers
  pub idle : IsNumberOr 1 86400 300 (value_or (value (codes "SHADOWD_IDLE")) []) s.idle
  pub connections : Writes 0 (2 ^ 64 - 1) (value_or (value (codes "SHADOWD_CONNECTIONS")) []) s.connections
  pub make : s.make ≡ makes_by (value_or (value (codes "SHADOWD_MAKE")) [])
  pub reserve : IsNumberOr 0 1073741824 0 (value_or (value (codes "SHADOWD_RESERVE")) []) s.reserve
  pub end : string_bytes s.end ≡ value_or (value (codes "SHADOWD_END")) []
  pub token : option_map (λ t. t.items) s.token
      ≡ (if serves then token_of (value_or (value (codes "SHADOWD_TOKEN")) []) else None)

-- the first word is this one
abbrev pub begins_with : List ℕ → List (List ℕ) → Bool
begins_with word [] = false
begins_with word (first ∷ words) = bytes_eq first word

-- how the journal's file is opened for these words: an audit only reads it, and a move and a
-- shipper make none; the others make one where that is set
abbrev pub access_for : List (List ℕ) → Bool → Access
access_for words make =
    if begins_with (codes "audit") words then Read
    else (if begins_with (codes "migrate") words then Write
    else (if begins_with (codes "ship") words then Write
    else (if make then WriteOrMake else WriteIfMade)))

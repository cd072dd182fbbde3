-- The draw of the items that are eligible for a session.
use Rattle.std.specs.Prelude.{◌≡◌, ℕ, ◌+◌, ◌*◌, ◌^◌, ◌<◌, Bool, ◌&&◌, ◌||◌, ◌==◌, nat_lt, List}
use Rattle.rand_chacha.specs.ChaCha.{word_at, key_of}
use Rattle.bank_tables.specs.Items.{Set}
use Rattle.bank_tables.specs.Tables.{Tables, size}
use Rattle.history_model.specs.declared.entry.Entry.{Entry}
use Rattle.history_model.specs.declared.counts.Counts.{Counts}
use Rattle.form_model.specs.declared.draft.Rate.{Rate}
use Rattle.form_model.specs.Plan.{Plan, bands_of}
use Rattle.history_model.specs.Counts.{band_counts}
use Rattle.history_model.specs.declared.entry.Bands.{Bands}
use Rattle.history_model.specs.Entries.{items_in}

-- the word of an item in a band: the one at the place 512 * band + item of the stream of the
-- session, of ChaCha20 with the key (10 double rounds; RFC 8439)
unfoldable pub draw_word : List ℕ → ℕ → ℕ → ℕ → ℕ
draw_word key session band item = word_at 10 (key_of key) session (512 * band + item)

-- the word, as a part of 2 ^ 32, is below the probability of eligibility, num * eps / (den *
-- alpha); that is 1 where alpha is 0
abbrev pub is_admitted : ℕ → Rate → Counts → Bool
is_admitted word rate counts =
    (counts.alpha == 0) || nat_lt (word * rate.den * counts.alpha) (2 ^ 32 * rate.num * counts.eps)

-- the items below a number that the words of a session in a band admit
abbrev pub drawn : List ℕ → Rate → ℕ → ℕ → ℕ → (ℕ → Counts) → Set
drawn key rate session band items counts_of i =
    nat_lt i items && is_admitted (draw_word key session band i) rate (counts_of i)

-- the draw for a session in a band: the items of the bank that are admitted at the counts of the
-- history in that band; none in a band that the plan hasn't
abbrev pub draw : Tables → Plan → List Entry → ℕ → ℕ → Set
draw b plan H session band i = nat_lt band (bands_of plan)
    && drawn plan.key plan.rate session band (size b) (band_counts b plan H band) i

-- two sets have the same items
abbrev pub SameItems : Set → Set → Type 0
SameItems X Y = (i : ℕ) → X i ≡ Y i

-- there is a set for each band of the plan, which is its draw, and the sets past the last band are
-- empty
pub record AreDrawn (b : Tables) (plan : Plan) (H : List Entry) (session : ℕ)
    (eligible : Bands) : Type 0 where
  pub number : eligible.count ≡ bands_of plan
  pub each : (band : ℕ) → SameItems (items_in eligible.sets band) (draw b plan H session band)

-- the lowest item at which the set of some band and its draw differ
pub record IsFirstDifference (b : Tables) (plan : Plan) (H : List Entry) (session : ℕ)
    (eligible : Bands) (item : ℕ) : Type 0 where
  pub band : ℕ
  pub differs : items_in eligible.sets band item ≡ draw b plan H session band item → ⊥
  pub before : (other i : ℕ) → i < item
      → items_in eligible.sets other i ≡ draw b plan H session other i

-- why the eligible sets aren't the draws: 0 where there isn't one for each band, else the lowest
-- item at which they differ
pub data IsNotDrawn (b : Tables) (plan : Plan) (H : List Entry) (session : ℕ) (eligible : Bands) : ℕ
    → Type 0 where
  other_number : (eligible.count ≡ bands_of plan → ⊥) → IsNotDrawn b plan H session eligible 0
  other_items : (item : ℕ) → eligible.count ≡ bands_of plan
      → IsFirstDifference b plan H session eligible item → IsNotDrawn b plan H session eligible item

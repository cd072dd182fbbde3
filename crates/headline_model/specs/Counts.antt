-- The exposure counts, and the draw of the items that are eligible for a session.
use Rattle.std.specs.Prelude.{◌≡◌, ℕ, ◌<◌, Bool, List}
use Rattle.bank_tables.specs.Sums.{count_in}
use Rattle.bank_tables.specs.Tables.{Tables, size}
use Rattle.form_model.specs.Plan.{Plan, bands_of}
use Rattle.serving_model.specs.declared.seat.Seat.{Seat}
use Rattle.history_model.specs.declared.counts.Counts.{Counts}
use Rattle.history_model.specs.declared.entry.Bands.{Bands}
use Rattle.history_model.specs.declared.entry.Entry.{Entry}
use Rattle.history_model.specs.Counts.{shows, opens, shows_in, opens_in}
use Rattle.history_model.specs.Draws.{draw_word, is_admitted}
use Rattle.history_model.specs.Entries.{sessions, items_in}
use Rattle.headline_model.specs.Sessions.{seat_after, is_over}

-- how many sessions are over and have a seat that passes
abbrev pub over_with : Plan → List Entry → (Seat → Bool) → ℕ
over_with plan H test =
    count_in (sessions H) (λ s. is_over plan (seat_after H s)) (λ s. test (seat_after H s))

-- of these, in how many an item was shown in a band, and in how many it could be served there
abbrev pub counts_in : Tables → Plan → List Entry → ℕ → ℕ → Counts
counts_in b plan H band i = record {
  alpha = over_with plan H (shows_in b plan band i);
  eps = over_with plan H (opens_in b plan band i);
}

-- the same in all
abbrev pub counts_of : Tables → Plan → List Entry → ℕ → Counts
counts_of b plan H i =
    record { alpha = over_with plan H (shows i); eps = over_with plan H (opens b plan i) }

-- there is a set for each band: the items of the bank whose word the plan's rate admits at the
-- counts of the history
pub record IsDrawn (b : Tables) (plan : Plan) (H : List Entry) (session : ℕ)
    (eligible : Bands) : Type 0 where
  pub number : eligible.count ≡ bands_of plan
  pub each : (band i : ℕ) → band < bands_of plan → i < size b → items_in eligible.sets band i
      ≡ is_admitted (draw_word plan.key session band i) plan.rate (counts_in b plan H band i)

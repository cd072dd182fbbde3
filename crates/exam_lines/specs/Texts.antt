-- The lines that sum up a history, and the line of a migration.
use Rattle.std.specs.Prelude.{ℕ, zero, suc, ◌++◌, List, [], codes, length, get_or}
use Rattle.std.specs.Fmt.{decimal}
use Rattle.history_model.specs.declared.counts.Counts.{Counts}
use Rattle.history_model.specs.declared.request.Exposure.{Exposure}
use Rattle.history_model.specs.declared.summary.Summary.{Summary}

-- the numbers of entries and sessions
unfoldable pub sessions_part : Summary → List ℕ
sessions_part s =
    codes "entries " ++ (decimal s.entries ++ (codes " sessions " ++ (decimal s.sessions
    ++ (codes " finished " ++ decimal s.finished))))

-- the numbers of forms by their marks, of sessions set aside, and of the nodes of all trees
unfoldable pub forms_part : Summary → List ℕ
forms_part s =
    codes " proved " ++ (decimal s.proved ++ (codes " unproved " ++ (decimal s.unproved
    ++ (codes " aside " ++ (decimal s.aside ++ (codes " nodes " ++ decimal s.nodes))))))

-- the numbers of a history in one line, each after its name
unfoldable pub summary_text : Summary → List ℕ
summary_text s = sessions_part s ++ forms_part s ++ codes "\n"

-- ---- a migration
-- how many records were written, and the length of the journal now
unfoldable pub migrated_text : ℕ → ℕ → List ℕ
migrated_text records length =
    codes "migrated " ++ (decimal records ++ (codes " records length "
    ++ (decimal length ++ codes "\n")))

-- ---- exposure by bands
-- how many finished sessions visited a band
unfoldable pub visited_line : ℕ → ℕ → List ℕ
visited_line band visited =
    codes "band " ++ (decimal band ++ (codes " visited " ++ (decimal visited ++ codes "\n")))

-- the counts of an item in a band: in how many of those sessions it was shown there, and was
-- eligible there
unfoldable pub band_item_line : ℕ → ℕ → Counts → List ℕ
band_item_line band item c =
    codes "band " ++ (decimal band ++ (codes " item " ++ (decimal item
    ++ (codes " shown " ++ (decimal c.alpha ++ (codes " eligible " ++ (decimal c.eps
    ++ codes "\n")))))))

-- the counts of an item past the last one
abbrev pub no_counts : Counts
no_counts = record { alpha = 0; eps = 0 }

-- the lines in a band of the items below n, in ascending order
abbrev pub band_item_lines : ℕ → ℕ → List Counts → List ℕ
band_item_lines band zero rows = []
band_item_lines band (suc n) rows =
    band_item_lines band n rows ++ band_item_line band n (get_or rows n no_counts)

-- the lines of a band: its sessions, and a line for each item
unfoldable pub band_lines : ℕ → Exposure → List ℕ
band_lines band e =
    visited_line band e.finished ++ band_item_lines band (length e.rows) e.rows

-- the exposure in a band past the last one
abbrev pub no_exposure : Exposure
no_exposure = record { finished = 0; rows = [] }

-- the lines of the bands below n, in ascending order
abbrev pub lines_below : ℕ → List Exposure → List ℕ
lines_below zero bands = []
lines_below (suc n) bands = lines_below n bands ++ band_lines n (get_or bands n no_exposure)

-- the lines of a list of bands, the first of which is band 0
abbrev pub bands_text : List Exposure → List ℕ
bands_text bands = lines_below (length bands) bands

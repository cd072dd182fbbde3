-- The lines that are printed of replies.
use Rattle.std.specs.Prelude.{ℕ, zero, suc, ◌++◌, List, [], Bool, true, false, codes, length, get_or}
use Rattle.std.specs.Fmt.{decimal}
use Rattle.std.specs.List.{flat_map}
use Rattle.history_model.specs.declared.counts.Counts.{Counts}
use Rattle.history_model.specs.declared.place.Place.{Place}
use Rattle.history_model.specs.declared.place.Place.TheVariants.{Pending, Waiting, Complete, Closed}
use Rattle.history_model.specs.declared.refusal.Refusal.{Refusal}
use Rattle.history_model.specs.declared.refusal.Refusal.TheVariants.{NoSession, WrongStep, Other, BadResponse, IsClosed, OtherList, NoItem, NoForm, NoneFound, OtherBooking}
use Rattle.history_model.specs.Words.{refusal_word}
use Rattle.history_model.specs.declared.request.Exposure.{Exposure}
use Rattle.history_model.specs.declared.request.Reply.{Reply}
use Rattle.history_model.specs.declared.request.Reply.TheVariants as reply

-- whether a form is proved best
abbrev pub mark_word : Bool → List ℕ
mark_word true = codes "proved"
mark_word false = codes "unproved"

-- the place of a session: the item that waits for its answer, with its mark, or how it ended
unfoldable pub place_line : ℕ → Place → List ℕ
place_line session (Waiting step item proved) =
    codes "session " ++ (decimal session ++ (codes " step " ++ (decimal step
    ++ (codes " item " ++ (decimal item ++ (codes " " ++ (mark_word proved ++ codes "\n")))))))
place_line session (Pending step) =
    codes "session " ++ (decimal session ++ (codes " pending " ++ (decimal step ++ codes "\n")))
place_line session Complete = codes "session " ++ (decimal session ++ codes " complete\n")
place_line session Closed = codes "session " ++ (decimal session ++ codes " closed\n")

-- the counts of an item: in how many finished sessions it was shown, and was eligible
unfoldable pub counts_line : ℕ → Counts → List ℕ
counts_line item c =
    codes "item " ++ (decimal item ++ (codes " shown " ++ (decimal c.alpha
    ++ (codes " eligible " ++ (decimal c.eps ++ codes "\n")))))

-- the counts of an item past the last one
abbrev pub no_counts : Counts
no_counts = record { alpha = 0; eps = 0 }

-- the lines of the items below n, in ascending order
abbrev pub counts_lines : ℕ → List Counts → List ℕ
counts_lines zero rows = []
counts_lines (suc n) rows = counts_lines n rows ++ counts_line n (get_or rows n no_counts)

-- the number of finished sessions, and a line for each item
unfoldable pub exposure_lines : Exposure → List ℕ
exposure_lines e =
    (codes "exposure finished " ++ (decimal e.finished ++ codes "\n"))
    ++ counts_lines (length e.rows) e.rows

-- the line of a refusal with this value
abbrev pub line_with : Refusal → List ℕ → List ℕ
line_with refusal value =
    codes "refused " ++ (refusal_word refusal ++ (codes " " ++ (value ++ codes "\n")))

-- the line of a refusal without a value
abbrev pub line_without : Refusal → List ℕ
line_without refusal = codes "refused " ++ (refusal_word refusal ++ codes "\n")

-- why a request was refused; a refusal that ends a replay has no line
unfoldable pub refusal_line : Refusal → List ℕ
refusal_line (NoSession count) = line_with (NoSession count) (decimal count)
refusal_line (WrongStep step) = line_with (WrongStep step) (decimal step)
refusal_line (Other response) = line_with (Other response) (decimal response)
refusal_line (BadResponse categories) = line_with (BadResponse categories) (decimal categories)
refusal_line (IsClosed Complete) = line_with (IsClosed Complete) (codes "complete")
refusal_line (IsClosed Closed) = line_with (IsClosed Closed) (codes "closed")
refusal_line (OtherList session) = line_with (OtherList session) (decimal session)
refusal_line (NoItem count) = line_with (NoItem count) (decimal count)
refusal_line NoForm = line_without NoForm
refusal_line NoneFound = line_without NoneFound
refusal_line OtherBooking = line_without OtherBooking
refusal_line _ = []

-- the line of a reply, or the lines of an exposure, each with its line feed
unfoldable pub line_of : Reply → List ℕ
line_of (reply.At session place fresh) = place_line session place
line_of (reply.Exposure exposure) = exposure_lines exposure
line_of (reply.Refused refusal) = refusal_line refusal

-- the lines of replies, in order
abbrev pub lines_of : List Reply → List ℕ
lines_of replies = flat_map line_of replies

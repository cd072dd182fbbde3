-- The bodies of responses have no float.
use Rattle.std.proofs.Common.{◌≡◌, ℕ, List, [], ◌∷◌, map, false, refl}
use Rattle.serde_json.specs.Written.{has_float, items_have_float}
use Rattle.serde_json.specs.View.{items_of}
use Rattle.history_model.specs.declared.counts.Counts.{Counts}
use Rattle.history_model.specs.declared.place.Place.{Place}
use Rattle.history_model.specs.declared.place.Place.TheVariants as place
use Rattle.history_model.specs.declared.refusal.Refusal.{Refusal}
use Rattle.history_model.specs.declared.refusal.Refusal.TheVariants as refusal
use Rattle.history_model.specs.declared.request.Reply.{Reply}
use Rattle.history_model.specs.declared.request.Reply.TheVariants.{At, Exposure, Refused}
use Rattle.exam_http.specs.Replies.{counts_body, place_body, refusal_body, reply_body}

rows_whole : (rows : List Counts) → items_have_float (items_of (map counts_body rows)) ≡ false
rows_whole [] = refl
rows_whole (row ∷ rows) = rows_whole rows

place_whole : (session : ℕ) (here : Place) → has_float (place_body session here) ≡ false
place_whole session (place.Pending step) = refl
place_whole session (place.Waiting step it proved) = refl
place_whole session place.Complete = refl
place_whole session place.Closed = refl

refusal_whole : (r : Refusal) → has_float (refusal_body r) ≡ false
refusal_whole (refusal.NoSession sessions) = refl
refusal_whole refusal.OtherBooking = refl
refusal_whole (refusal.WrongStep step) = refl
refusal_whole (refusal.Other response) = refl
refusal_whole (refusal.BadResponse categories) = refl
refusal_whole (refusal.IsClosed place) = refl
refusal_whole (refusal.Stale place aside) = refl
refusal_whole (refusal.OtherList session) = refl
refusal_whole (refusal.NoItem items) = refl
refusal_whole (refusal.SessionsFull sessions) = refl
refusal_whole refusal.NoForm = refl
refusal_whole refusal.NoneFound = refl
refusal_whole (refusal.JournalFull length) = refl
refusal_whole refusal.Disk = refl
refusal_whole refusal.Memory = refl

pub reply_whole : (reply : Reply) → has_float (reply_body reply) ≡ false
unfolding reply_body
reply_whole (At session place fresh) = place_whole session place
reply_whole (Exposure counts) = rw (rows_whole counts.rows) refl
reply_whole (Refused r) = refusal_whole r

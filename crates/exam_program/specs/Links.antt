-- How the work of a follower and of a shipper at a door ends: what is printed last, with the
-- status.
use Rattle.std.specs.Prelude.{◌≡◌, ◌⊎◌, ℕ, ◌++◌, List, codes}
use Rattle.std.specs.Fmt.{decimal}
use Rattle.exam_lines.specs.Texts.{summary_text}
use Rattle.exam_program.specs.Texts.{disk_failed, door_failed, journal_limit}
use Rattle.exam_text.specs.Texts.{no_memory}
use Rattle.history_model.specs.declared.summary.Summary.{Summary}
use Rattle.record_doors.specs.declared.door_end.DoorEnd.{DoorEnd}
use Rattle.record_doors.specs.declared.door_end.DoorEnd.TheVariants.{NoLink, DoorFailed, Ended}
use Rattle.record_links.specs.declared.followed.Followed.{Followed}
use Rattle.record_links.specs.declared.followed.Followed.TheVariants.{Done, Link, Peer, Offer, Full, Lost, Disk, Memory}

-- ---- the texts
unfoldable pub link_failed : List ℕ
link_failed = codes "link failed\n"

unfoldable pub peer_message : List ℕ
peer_message = codes "peer message\n"

unfoldable pub no_link : List ℕ
no_link = codes "no link\n"

-- the record of this number was offered, and may not follow
unfoldable pub offer_refused : ℕ → List ℕ
offer_refused number = codes "offer " ++ (decimal number ++ codes " refused\n")

-- the record of this number is not in the journal any more
unfoldable pub record_lost : ℕ → List ℕ
record_lost number = codes "journal: record " ++ (decimal number ++ codes " lost\n")

-- the number of records that a follower has, and then its numbers
unfoldable pub following_text : ℕ → List ℕ → List ℕ
following_text count numbers = codes "following " ++ (decimal count ++ codes "\n") ++ numbers

-- the number of records that were shipped
unfoldable pub shipped_text : ℕ → List ℕ
shipped_text count = codes "shipped " ++ (decimal count ++ codes "\n")

-- ---- what is printed last
-- a text with its status, or, where memory for it ran out, that
abbrev pub IsTextOr10 : ℕ → List ℕ → ℕ → List ℕ → Type 0
IsTextOr10 own line status text =
    ((status ≡ own) × (text ≡ line)) ⊎ ((status ≡ 10) × (text ≡ no_memory))

-- after a link that did not end well; the journal has at most so many bytes
abbrev pub IsLastOfLink : ℕ → Followed → ℕ → List ℕ → Type 0
IsLastOfLink most (Done count) status text = ⊥
IsLastOfLink most Link status text = (status ≡ 19) × (text ≡ link_failed)
IsLastOfLink most (Peer fault) status text = (status ≡ 20) × (text ≡ peer_message)
IsLastOfLink most (Offer number) status text = IsTextOr10 21 (offer_refused number) status text
IsLastOfLink most (Full size) status text = IsTextOr10 13 (journal_limit size most) status text
IsLastOfLink most (Lost number) status text = IsTextOr10 6 (record_lost number) status text
IsLastOfLink most Disk status text = (status ≡ 9) × (text ≡ disk_failed)
IsLastOfLink most Memory status text = (status ≡ 10) × (text ≡ no_memory)

-- by a follower that has so many records and these numbers
abbrev pub IsLastOfFollow : ℕ → ℕ → Summary → DoorEnd → ℕ → List ℕ → Type 0
IsLastOfFollow most count s NoLink status text =
    IsTextOr10 0 (following_text count (summary_text s)) status text
IsLastOfFollow most count s DoorFailed status text = (status ≡ 14) × (text ≡ door_failed)
IsLastOfFollow most count s (Ended followed) status text = IsLastOfLink most followed status text

-- by a shipper
abbrev pub IsLastOfShip : ℕ → DoorEnd → ℕ → List ℕ → Type 0
IsLastOfShip most NoLink status text = (status ≡ 22) × (text ≡ no_link)
IsLastOfShip most DoorFailed status text = (status ≡ 14) × (text ≡ door_failed)
IsLastOfShip most (Ended (Done count)) status text = IsTextOr10 0 (shipped_text count) status text
IsLastOfShip most (Ended followed) status text = IsLastOfLink most followed status text

-- A follower and a shipper over a disk and doors, from their parts.
use Rattle.std.proofs.Common.{◌≡◌, ◌≢◌, ℕ, ◌⊎◌, inl, inr, Bool, false, List, [], ◌∷◌, ◌++◌, map, true, if◌then◌else◌, drop, length, All, Option, Some, IsTrue, refl, sym, ◌∙◌, ap, subst, arith}
use Rattle.std.proofs.lemmas.Bool.{false≢true}
use Rattle.std.proofs.lemmas.List.Elements.{All-tail}
use Rattle.std.specs.List.{AllByRecursion}
use Rattle.std.specs.Option.{unwrap_or}
use Rattle.std.proofs.lemmas.List.{length-map}
use Rattle.answer_journal.specs.Journal.{tells_of, identity_of, faults_of, payloads_of}
use Rattle.answer_journal.specs.Payload.{end_of}
use Rattle.answer_journal.specs.Versions.{Counted, contents, second}
use Rattle.bank_tables.specs.Tables.{Tables}
use Rattle.command_line.specs.Commands.{Command, Check, Assemble, Replay, Serve, Audit, Drill, Migrate, Series, Follow, Ship, IsLinked, IsOfLinked, files_of}
use Rattle.exam_edge.specs.Faults.{Rose}
use Rattle.exam_edge.specs.Lent.{IsLent}
use Rattle.exam_follower.specs.Followers.{AreSpelled, IsFollowing, bare}
use Rattle.exam_follower.specs.Shipping.{shipped_of}
use Rattle.exam_follower.proofs.Marked.{if_so}
use Rattle.exam_office.specs.Files.{IsRecordIn, Stands, StandsSecond}
use Rattle.exam_office.specs.Marks.{history}
use Rattle.exam_office.specs.Payloads.{HoldsRecords}
use Rattle.exam_office.specs.Noting.{opened_with}
use Rattle.exam_office.specs.Running.{HandedDisk, Running}
use Rattle.exam_office.specs.Writing.{IsSameOffice}
use Rattle.exam_program.specs.declared.halt.Halt.{Halt}
use Rattle.exam_program.specs.declared.halt.Halt.TheVariants as halt
use Rattle.exam_program.specs.Follows.{FollowSeen, FollowEnds, IsFollowOf}
use Rattle.exam_program.specs.Linked.{HasFailedFirst, HasFailedLink, IsStatusOfAny, LinkLeaves}
use Rattle.exam_program.specs.Halts.{HaltsAtBase, IsEarly, Reads}
use Rattle.exam_program.specs.Links.{IsLastOfFollow, IsLastOfLink, IsLastOfShip}
use Rattle.exam_program.specs.LinkWords.{IsLinkOf}
use Rattle.exam_program.specs.Outcomes.{Ends, Halts, IsReady, IsStatusBefore, link_refused, link_without_journal, without_memory}
use Rattle.exam_program.specs.Outside.{Outside}
use Rattle.exam_program.specs.Runs.{EndsWith, IsLastWritten, RunEnds, RunLeaves, idle}
use Rattle.exam_program.specs.Ships.{IsShipOf, ShipEnds, ShipSeen}
use Rattle.exam_program.specs.Stopping.{IsUnopened, refused, failed, out_of_memory}
use Rattle.exam_program.specs.Writing.{IsWritten}
use Rattle.exam_program.proofs.CauseLaws.{link_refuses}
use Rattle.exam_program.proofs.Completeness.{pair_same}
use Rattle.exam_program.proofs.ReplayLaws.{moved_so}
use Rattle.exam_program.proofs.RunLaws.{run_leaves}
use Rattle.exam_office.specs.Noting.{NotedMark}
use Rattle.exam_records.specs.Shape.{IsRecord}
use Rattle.exam_records.specs.Spelling.{payload_of}
use Rattle.exam_serve.specs.declared.serve.End.{End}
use Rattle.exam_serve.specs.Doors.{AreLent, HasFailedDoor}
use Rattle.exam_serve.proofs.Left.{still_lent}
use Rattle.form_model.specs.Plan.{Plan}
use Rattle.history_model.specs.declared.entry.Entry.{Entry}
use Rattle.history_model.specs.declared.summary.Summary.{Summary}
use Rattle.history_model.specs.Judging.{Record}
use Rattle.history_model.specs.Summaries.{summary}
use Rattle.record_doors.specs.declared.door_end.DoorEnd.{DoorEnd}
use Rattle.record_doors.specs.declared.door_end.DoorEnd.TheVariants.{NoLink, DoorFailed, Ended}
use Rattle.record_doors.specs.Doors.{Gives, IsFirstOnly, IsFollowedDoor, IsShippedDoor}
use Rattle.record_links.specs.declared.followed.Followed.{Followed}
use Rattle.record_links.specs.declared.followed.Followed.TheVariants.{Done, Link, Peer, Offer, Full, Lost, Disk, Memory}
use Rattle.record_links.specs.Replicas.{Held}

-- ---- the words
pub follow_is_link : (words : List (List ℕ)) (o : Outside) (b : Tables) (p : Plan) (base : List ℕ) → IsFollowOf words o b p base → IsLinkOf words o b p base
follow_is_link words o b p base is = record { command = Follow is.bank is.plan; asked = is.asked; is_linked = tt; bank = is.bank; plan = is.plan; names = refl; reads = is.reads; is_base = is.is_base }

pub ship_is_link : (words : List (List ℕ)) (o : Outside) (b : Tables) (p : Plan) (base : List ℕ) → IsShipOf words o b p base → IsLinkOf words o b p base
ship_is_link words o b p base is = record { command = Ship is.bank is.plan; asked = is.asked; is_linked = tt; bank = is.bank; plan = is.plan; names = refl; reads = is.reads; is_base = is.is_base }

-- ---- a journal that was not opened
pub link_unopened : (words : List (List ℕ)) (o : Outside) (told : Bool) (old new : List ℕ) (b : Tables) (p : Plan) (base : List ℕ)
    → IsLinkOf words o b p base → (h : Halt) → IsWritten told old new [] → IsUnopened b p o.disk h → Halts words o told old new h
link_unopened words o told old new b p base is _ written (refused fault so) = (
  link_refuses words o b p base fault is so,
  (
    record { text = []; written = written; outcome = link_refused b p base fault is so },
    record { text = []; written = written; outcome = without_memory so.untouched },
  ),
)
link_unopened words o told old new b p base is _ written (failed so) =
    record { text = []; written = written; outcome = link_without_journal b p base is so }
link_unopened words o told old new b p base is _ written (out_of_memory untouched) =
    record { text = []; written = written; outcome = without_memory untouched }

-- ---- what is printed last, by rules that imply others
pub ends_by : (P Q : ℕ → List ℕ → Type 0) → ((status : ℕ) (text : List ℕ) → P status text → Q status text)
    → (told : Bool) (old new : List ℕ) (result : ℕ) → EndsWith P told old new result → EndsWith Q told old new result
ends_by P Q so told old new result ends = record { status = ends.status; text = ends.text; is_allowed = so ends.status ends.text ends.is_allowed; written = ends.written }

-- ---- the status of each end
abbrev pub own_link : Followed → ℕ
own_link (Done count) = 0
own_link Link = 19
own_link (Peer fault) = 20
own_link (Offer number) = 21
own_link (Full size) = 13
own_link (Lost number) = 6
own_link Disk = 9
own_link Memory = 10

-- that of no link is 0 for a follower, and 22 for a shipper
abbrev pub own_end : ℕ → DoorEnd → ℕ
own_end none NoLink = none
own_end none DoorFailed = 14
own_end none (Ended followed) = own_link followed

-- the status of an end, or that of a text without memory, or of a sink that failed
abbrev pub IsOwn : ℕ → DoorEnd → ℕ → Type 0
IsOwn none end result = (result ≡ own_end none end) ⊎ ((result ≡ 10) ⊎ (result ≡ 8))

or_10 : {A B : Type 0} (own status : ℕ) → ((status ≡ own) × A) ⊎ ((status ≡ 10) × B) → (status ≡ own) ⊎ (status ≡ 10)
or_10 own status (inl e) = inl e.0
or_10 own status (inr e) = inr e.0

link_own : (most : ℕ) (f : Followed) (status : ℕ) (text : List ℕ) → IsLastOfLink most f status text → (status ≡ own_link f) ⊎ (status ≡ 10)
link_own most (Done count) status text last = absurd last
link_own most Link status text last = inl last.0
link_own most (Peer fault) status text last = inl last.0
link_own most (Offer number) status text last = or_10 21 status last
link_own most (Full size) status text last = or_10 13 status last
link_own most (Lost number) status text last = or_10 6 status last
link_own most Disk status text last = inl last.0
link_own most Memory status text last = inl last.0

follow_own : (most count : ℕ) (s : Summary) (end : DoorEnd) (status : ℕ) (text : List ℕ) → IsLastOfFollow most count s end status text → (status ≡ own_end 0 end) ⊎ (status ≡ 10)
follow_own most count s NoLink status text last = or_10 0 status last
follow_own most count s DoorFailed status text last = inl last.0
follow_own most count s (Ended followed) status text last = link_own most followed status text last

ship_own : (most : ℕ) (end : DoorEnd) (status : ℕ) (text : List ℕ) → IsLastOfShip most end status text → (status ≡ own_end 22 end) ⊎ (status ≡ 10)
ship_own most NoLink status text last = inl last.0
ship_own most DoorFailed status text last = inl last.0
ship_own most (Ended (Done count)) status text last = or_10 0 status last
ship_own most (Ended Link) status text last = link_own most Link status text last
ship_own most (Ended (Peer fault)) status text last = link_own most (Peer fault) status text last
ship_own most (Ended (Offer number)) status text last = link_own most (Offer number) status text last
ship_own most (Ended (Full size)) status text last = link_own most (Full size) status text last
ship_own most (Ended (Lost number)) status text last = link_own most (Lost number) status text last
ship_own most (Ended Disk) status text last = link_own most Disk status text last
ship_own most (Ended Memory) status text last = link_own most Memory status text last

written_own : (told : Bool) (old new text : List ℕ) (none status result : ℕ) (end : DoorEnd) → IsLastWritten told old new status text result
    → (status ≡ own_end none end) ⊎ (status ≡ 10) → IsOwn none end result
written_own told old new text none status result end (inr cut) own = inr (inr cut.0)
written_own told old new text none status result end (inl whole) (inl e) = inl (whole.0 ∙ e)
written_own told old new text none status result end (inl whole) (inr e) = inr (inl (whole.0 ∙ e))

pub follow_ends_own : (most count : ℕ) (s : Summary) (end : DoorEnd) (told : Bool) (old new : List ℕ) (result : ℕ) → EndsWith (IsLastOfFollow most count s end) told old new result → IsOwn 0 end result
follow_ends_own most count s end told old new result ends =
    written_own told old new ends.text 0 ends.status result end ends.written (follow_own most count s end ends.status ends.text ends.is_allowed)

pub ship_ends_own : (most : ℕ) (end : DoorEnd) (told : Bool) (old new : List ℕ) (result : ℕ) → EndsWith (IsLastOfShip most end) told old new result → IsOwn 22 end result
ship_ends_own most end told old new result ends =
    written_own told old new ends.text 22 ends.status result end ends.written (ship_own most end ends.status ends.text ends.is_allowed)

-- ---- what a status shows
own_9 : (none : ℕ) (end : DoorEnd) → (none ≡ 9 → ⊥) → own_end none end ≡ 9 → end ≡ Ended Disk
own_9 none NoLink never is = absurd (never is)
own_9 none DoorFailed never is = absurd (omega (arith, is))
own_9 none (Ended (Done count)) never is = absurd (omega (arith, is))
own_9 none (Ended Link) never is = absurd (omega (arith, is))
own_9 none (Ended (Peer fault)) never is = absurd (omega (arith, is))
own_9 none (Ended (Offer number)) never is = absurd (omega (arith, is))
own_9 none (Ended (Full size)) never is = absurd (omega (arith, is))
own_9 none (Ended (Lost number)) never is = absurd (omega (arith, is))
own_9 none (Ended Disk) never is = refl
own_9 none (Ended Memory) never is = absurd (omega (arith, is))

own_14 : (none : ℕ) (end : DoorEnd) → (none ≡ 14 → ⊥) → own_end none end ≡ 14 → end ≡ DoorFailed
own_14 none NoLink never is = absurd (never is)
own_14 none DoorFailed never is = refl
own_14 none (Ended (Done count)) never is = absurd (omega (arith, is))
own_14 none (Ended Link) never is = absurd (omega (arith, is))
own_14 none (Ended (Peer fault)) never is = absurd (omega (arith, is))
own_14 none (Ended (Offer number)) never is = absurd (omega (arith, is))
own_14 none (Ended (Full size)) never is = absurd (omega (arith, is))
own_14 none (Ended (Lost number)) never is = absurd (omega (arith, is))
own_14 none (Ended Disk) never is = absurd (omega (arith, is))
own_14 none (Ended Memory) never is = absurd (omega (arith, is))

own_19 : (none : ℕ) (end : DoorEnd) → (none ≡ 19 → ⊥) → own_end none end ≡ 19 → end ≡ Ended Link
own_19 none NoLink never is = absurd (never is)
own_19 none DoorFailed never is = absurd (omega (arith, is))
own_19 none (Ended (Done count)) never is = absurd (omega (arith, is))
own_19 none (Ended Link) never is = refl
own_19 none (Ended (Peer fault)) never is = absurd (omega (arith, is))
own_19 none (Ended (Offer number)) never is = absurd (omega (arith, is))
own_19 none (Ended (Full size)) never is = absurd (omega (arith, is))
own_19 none (Ended (Lost number)) never is = absurd (omega (arith, is))
own_19 none (Ended Disk) never is = absurd (omega (arith, is))
own_19 none (Ended Memory) never is = absurd (omega (arith, is))

own_before : (none : ℕ) (end : DoorEnd) → (IsStatusBefore none → ⊥) → IsStatusBefore (own_end none end) → ⊥
own_before none NoLink never before = never before
own_before none DoorFailed never before = false≢true before
own_before none (Ended (Done count)) never before = false≢true before
own_before none (Ended Link) never before = false≢true before
own_before none (Ended (Peer fault)) never before = false≢true before
own_before none (Ended (Offer number)) never before = false≢true before
own_before none (Ended (Full size)) never before = false≢true before
own_before none (Ended (Lost number)) never before = false≢true before
own_before none (Ended Disk) never before = false≢true before
own_before none (Ended Memory) never before = false≢true before

any_0 : IsStatusOfAny 0
any_0 = inl (inl (0, omega arith, refl))

any_8 : IsStatusOfAny 8
any_8 = inl (inl (7, omega arith, refl))

any_10 : IsStatusOfAny 10
any_10 = inl (inl (9, omega arith, refl))

pub any_22 : IsStatusOfAny 22
any_22 = inr (3, omega arith, refl)

own_any : (none : ℕ) (end : DoorEnd) → IsStatusOfAny none → IsStatusOfAny (own_end none end)
own_any none NoLink any = any
own_any none DoorFailed any = inl (inr refl)
own_any none (Ended (Done count)) any = any_0
own_any none (Ended Link) any = inr (0, omega arith, refl)
own_any none (Ended (Peer fault)) any = inr (1, omega arith, refl)
own_any none (Ended (Offer number)) any = inr (2, omega arith, refl)
own_any none (Ended (Full size)) any = inl (inl (12, omega arith, refl))
own_any none (Ended (Lost number)) any = inl (inl (5, omega arith, refl))
own_any none (Ended Disk) any = inl (inl (8, omega arith, refl))
own_any none (Ended Memory) any = any_10

module _ (none : ℕ) (end : DoorEnd) (result : ℕ) where
  pub at_disk : (none ≡ 9 → ⊥) → IsOwn none end result → result ≡ 9 → end ≡ Ended Disk
  at_disk never (inl e) is = own_9 none end never (sym e ∙ is)
  at_disk never (inr (inl e)) is = absurd (omega (arith, e, is))
  at_disk never (inr (inr e)) is = absurd (omega (arith, e, is))

  pub at_door : (none ≡ 14 → ⊥) → IsOwn none end result → result ≡ 14 → end ≡ DoorFailed
  at_door never (inl e) is = own_14 none end never (sym e ∙ is)
  at_door never (inr (inl e)) is = absurd (omega (arith, e, is))
  at_door never (inr (inr e)) is = absurd (omega (arith, e, is))

  pub at_link : (none ≡ 19 → ⊥) → IsOwn none end result → result ≡ 19 → end ≡ Ended Link
  at_link never (inl e) is = own_19 none end never (sym e ∙ is)
  at_link never (inr (inl e)) is = absurd (omega (arith, e, is))
  at_link never (inr (inr e)) is = absurd (omega (arith, e, is))

  pub not_before : (IsStatusBefore none → ⊥) → IsOwn none end result → IsStatusBefore result → ⊥
  not_before never (inl e) before = own_before none end never (subst (λ (s : ℕ). IsStatusBefore s) e before)
  not_before never (inr (inl e)) before = false≢true (subst (λ (s : ℕ). IsStatusBefore s) e before)
  not_before never (inr (inr e)) before = false≢true (subst (λ (s : ℕ). IsStatusBefore s) e before)

  pub is_any : IsStatusOfAny none → IsOwn none end result → IsStatusOfAny result
  is_any any (inl e) = subst (λ (s : ℕ). IsStatusOfAny s) (sym e) (own_any none end any)
  is_any any (inr (inl e)) = subst (λ (s : ℕ). IsStatusOfAny s) (sym e) any_10
  is_any any (inr (inr e)) = subst (λ (s : ℕ). IsStatusOfAny s) (sym e) any_8

-- ---- what became of the doors
module _ {D K : Type 0} (tells : D → Bool) (coming returned : D → List K) (is_out : D → Bool)
    (faults identity : D → ℕ) where
  abbrev Lent : D → D → Type 0
  Lent door after = IsLent tells identity faults door after × (is_out after ≡ false)

  abbrev Gave : D → D → Type 0
  Gave door after = (given : List K) × (back : List K) × Gives tells coming returned is_out faults identity door after given back

  first_lent : (P : D → D → Type 0) (none : Type 0) (doors back : List D) → IsFirstOnly P none doors back
      → ((door after : D) → P door after → Gave door after) → All (λ door. is_out door ≡ false) doors
      → AreLent tells identity faults is_out doors back
  first_lent P none [] back first gave home = subst (λ (ds : List D). AreLent tells identity faults is_out [] ds) (sym first.0) (still_lent tells is_out faults identity [] home)
  first_lent P none (door ∷ doors) back first gave home =
      let g = (gave door first.0 first.2).2 in
      subst (λ (ds : List D). AreLent tells identity faults is_out (door ∷ doors) ds) (sym first.1)
      ((g.lent, g.home), still_lent tells is_out faults identity doors (All-tail (λ (d : D). is_out d ≡ false) door doors home))

  first_failed : (P : D → D → Type 0) (none : Type 0) (doors back : List D) → IsFirstOnly P none doors back
      → ((door after : D) → P door after → Rose (faults door) (faults after)) → (none → ⊥) → HasFailedDoor faults doors back
  first_failed P none [] back first rose never = absurd (never first.1)
  first_failed P none (door ∷ doors) back first rose never =
      subst (λ (ds : List D). HasFailedDoor faults (door ∷ doors) ds) (sym first.1)
      (record { place = 0; before = door; after = first.0; was = refl; is = refl; rose = rose door first.0 first.2 })

  module _ (link_tells : K → Bool) (left written : K → List ℕ) (link_faults link_identity : K → ℕ) where
    abbrev Failed : D → D → Type 0
    Failed = HasFailedLink tells coming returned is_out faults identity link_faults

    first_link : (P : D → D → Type 0) (none : Type 0) (doors back : List D) → IsFirstOnly P none doors back
        → ((door after : D) → P door after → Failed door after) → (none → ⊥)
        → HasFailedFirst tells coming returned is_out faults identity link_faults doors back
    first_link P none [] back first gave never = absurd (never first.1)
    first_link P none (door ∷ doors) back first gave never = (first.0, first.1, gave door first.0 first.2)

    -- ---- of a follower
    module _ (may : List (List ℕ) → List ℕ → Type 0) (size : List (List ℕ) → ℕ) (limit : ℕ) (start final : Held) where
      abbrev Followed_by : DoorEnd → D → D → Type 0
      Followed_by end door after = IsFollowedDoor tells coming returned is_out faults identity link_tells left written link_faults link_identity may size limit start door after final end

      followed_gave : (end : DoorEnd) (door after : D) → Followed_by end door after → Gave door after
      followed_gave NoLink door after f = (f.given, f.back, f.stops.1)
      followed_gave DoorFailed door after f = (f.given, f.back, f.stops.1)
      followed_gave (Ended followed) door after f = (f.given ++ f.stops.0 ∷ [], f.back ++ f.stops.1 ∷ [], f.stops.2)

      followed_rose : (end : DoorEnd) → end ≡ DoorFailed → (door after : D) → Followed_by end door after → Rose (faults door) (faults after)
      followed_rose NoLink is door after f = absurd cc
      followed_rose DoorFailed is door after f = f.stops.2
      followed_rose (Ended followed) is door after f = absurd cc

      followed_link : (end : DoorEnd) → end ≡ Ended Link → (door after : D) → Followed_by end door after → Failed door after
      followed_link NoLink is door after f = absurd cc
      followed_link DoorFailed is door after f = absurd cc
      followed_link (Ended followed) is door after f =
          let so : followed ≡ Link = cc in
          record { given = f.given; back = f.back; link = f.stops.0; after = f.stops.1; gives = f.stops.2; rose = f.stops.3.failed so }

      followed_never : (end : DoorEnd) → (door after : D) → Followed_by end door after → (n : ℕ) → end ≢ Ended (Done n)
      followed_never NoLink door after f n is = cc
      followed_never DoorFailed door after f n is = cc
      followed_never (Ended followed) door after f n is = let so : followed ≡ Done n = cc in f.stops.4 n so

      abbrev FollowedFirst : DoorEnd → List D → List D → Type 0
      FollowedFirst end = IsFirstOnly (Followed_by end) ((end ≡ NoLink) × (final ≡ start))

      pub follow_lent : (end : DoorEnd) (doors back : List D) → FollowedFirst end doors back → All (λ door. is_out door ≡ false) doors → AreLent tells identity faults is_out doors back
      follow_lent end doors back first home = first_lent (Followed_by end) _ doors back first (followed_gave end) home

      pub follow_failed : (end : DoorEnd) (doors back : List D) → FollowedFirst end doors back → end ≡ DoorFailed → HasFailedDoor faults doors back
      follow_failed end doors back first is = first_failed (Followed_by end) _ doors back first (followed_rose end is) (λ none. (let e : DoorFailed ≡ NoLink = sym is ∙ none.0 in cc))

      pub follow_link_failed : (end : DoorEnd) (doors back : List D) → FollowedFirst end doors back → end ≡ Ended Link → HasFailedFirst tells coming returned is_out faults identity link_faults doors back
      follow_link_failed end doors back first is = first_link (Followed_by end) _ doors back first (followed_link end is) (λ none. (let e : Ended Link ≡ NoLink = sym is ∙ none.0 in cc))

      pub follow_never_done : (end : DoorEnd) (doors back : List D) → FollowedFirst end doors back → (n : ℕ) → end ≢ Ended (Done n)
      follow_never_done end [] back first n is = let e : Ended (Done n) ≡ NoLink = sym is ∙ first.1.0 in cc
      follow_never_done end (door ∷ doors) back first n is = followed_never end door first.0 first.2 n is

    -- ---- of a shipper
    module _ (told : Bool) (records : List (List ℕ)) where
      abbrev Shipped_by : DoorEnd → D → D → Type 0
      Shipped_by end door after = IsShippedDoor tells coming returned is_out faults identity link_tells left written link_faults link_identity told records door after end

      shipped_gave : (end : DoorEnd) (door after : D) → Shipped_by end door after → Gave door after
      shipped_gave NoLink door after f = ([], [], f.0)
      shipped_gave DoorFailed door after f = ([], [], f.0)
      shipped_gave (Ended followed) door after f = (f.0 ∷ [], f.1 ∷ [], f.2)

      shipped_rose : (end : DoorEnd) → end ≡ DoorFailed → (door after : D) → Shipped_by end door after → Rose (faults door) (faults after)
      shipped_rose NoLink is door after f = absurd cc
      shipped_rose DoorFailed is door after f = f.1
      shipped_rose (Ended followed) is door after f = absurd cc

      shipped_link : (end : DoorEnd) → end ≡ Ended Link → (door after : D) → Shipped_by end door after → Failed door after
      shipped_link NoLink is door after f = absurd cc
      shipped_link DoorFailed is door after f = absurd cc
      shipped_link (Ended followed) is door after f =
          let so : followed ≡ Link = cc in
          record { given = []; back = []; link = f.0; after = f.1; gives = f.2; rose = f.3.failed so }

      abbrev ShippedFirst : DoorEnd → List D → List D → Type 0
      ShippedFirst end = IsFirstOnly (Shipped_by end) (end ≡ NoLink)

      pub ship_lent : (end : DoorEnd) (doors back : List D) → ShippedFirst end doors back → All (λ door. is_out door ≡ false) doors → AreLent tells identity faults is_out doors back
      ship_lent end doors back first home = first_lent (Shipped_by end) _ doors back first (shipped_gave end) home

      pub ship_failed : (end : DoorEnd) (doors back : List D) → ShippedFirst end doors back → end ≡ DoorFailed → HasFailedDoor faults doors back
      ship_failed end doors back first is = first_failed (Shipped_by end) _ doors back first (shipped_rose end is) (λ none. (let e : DoorFailed ≡ NoLink = sym is ∙ none in cc))

      pub ship_link_failed : (end : DoorEnd) (doors back : List D) → ShippedFirst end doors back → end ≡ Ended Link → HasFailedFirst tells coming returned is_out faults identity link_faults doors back
      ship_link_failed end doors back first is = first_link (Shipped_by end) _ doors back first (shipped_link end is) (λ none. (let e : Ended Link ≡ NoLink = sym is ∙ none in cc))

-- ---- a run that took no link
pub none_served : {Serves : List NotedMark → List NotedMark → End → Type 0} {Unused : Type 0} {Follows : FollowSeen → Type 0} {Ships : ShipSeen → Type 0}
    {words : List (List ℕ)} {o : Outside} {told : Bool} {old new : List ℕ} {result : ℕ}
    → Unused → Ends words o told old new result
    → RunEnds Serves Unused words o told old new result ⊎ (FollowEnds Follows words o told old new result ⊎ ShipEnds Ships words o told old new result)
none_served unused ends = inl (idle unused ends)

-- ---- what is left of the journal
pub any_leaves : (Serves : List NotedMark → List NotedMark → End → Type 0) (Unused : Type 0) (Follows : FollowSeen → Type 0) (Ships : ShipSeen → Type 0)
    (words : List (List ℕ)) (o : Outside) (told : Bool) (old new : List ℕ) (result : ℕ)
    → RunEnds Serves Unused words o told old new result ⊎ (FollowEnds Follows words o told old new result ⊎ ShipEnds Ships words o told old new result)
    → RunLeaves Serves Unused words o ⊎ LinkLeaves words o
any_leaves Serves Unused Follows Ships words o told old new result (inl ends) = inl (run_leaves Serves Unused words o told old new result ends)
any_leaves Serves Unused Follows Ships words o told old new result (inr (inl f)) =
    let by = f.ends.is_allowed in
    inr (record { b = f.work.b; plan = f.work.plan; base = by.base; H = by.H; opened = by.opened; closed = by.closed; is = follow_is_link words o f.work.b f.work.plan by.base by.is; examined = by.examined })
any_leaves Serves Unused Follows Ships words o told old new result (inr (inr s)) =
    let by = s.ends.is_allowed in
    inr (record { b = by.b; plan = by.plan; base = by.base; H = by.H; opened = by.opened; closed = by.opened; is = ship_is_link words o by.b by.plan by.base by.is; examined = by.examined })

-- ---- what a follower did, by what it found
module _ {D K : Type 0} (tells : D → Bool) (coming returned : D → List K) (is_out : D → Bool)
    (faults identity : D → ℕ) (link_tells : K → Bool) (left written : K → List ℕ) (link_faults link_identity : K → ℕ)
    (doors back : List D) (final : Held) (end : DoorEnd) where
  -- by the bank, the plan, the records and entries that were found, the length then, and the
  -- records held at first
  abbrev FollowedFrom : Tables → Plan → List (List ℕ) → List Entry → ℕ → Held → Type 0
  FollowedFrom b p ps H n held = IsFirstOnly
      (λ door after. IsFollowedDoor tells coming returned is_out faults identity link_tells left written link_faults link_identity
      (IsFollowing b p ps H) (λ records. end_of n (drop (length H) records)) p.journal held door after final end)
      ((end ≡ NoLink) × (final ≡ held)) doors back

  pub followed_so : (b b₁ : Tables) (p p₁ : Plan) (ps ps₁ : List (List ℕ)) (H H₁ : List Entry) (n n₁ : ℕ) (held held₁ : Held)
      → b ≡ b₁ → p ≡ p₁ → ps ≡ ps₁ → H ≡ H₁ → n ≡ n₁ → held ≡ held₁
      → FollowedFrom b p ps H n held → FollowedFrom b₁ p₁ ps₁ H₁ n₁ held₁
  followed_so b b₁ p p₁ ps ps₁ H H₁ n n₁ held held₁ e1 e2 e3 e4 e5 e6 f =
      subst (λ (x : Tables). FollowedFrom x p₁ ps₁ H₁ n₁ held₁) e1
      (subst (λ (x : Plan). FollowedFrom b x ps₁ H₁ n₁ held₁) e2
      (subst (λ (x : List (List ℕ)). FollowedFrom b p x H₁ n₁ held₁) e3
      (subst (λ (x : List Entry). FollowedFrom b p ps x n₁ held₁) e4
      (subst (λ (x : ℕ). FollowedFrom b p ps H x held₁) e5
      (subst (λ (x : Held). FollowedFrom b p ps H n x) e6 f)))))

-- what an office was opened with, from its parts
pub opened_same : {D : Type 0} (old new : Running D) → IsSameOffice old new → IsLent tells_of identity_of faults_of old.journal new.journal
    → opened_with new ≡ opened_with old
opened_same old new same lent =
    ap (λ (x : Tables). record { bank = x; plan = new.plan; base = new.base; tells = tells_of new.journal; identity = identity_of new.journal; disk = new.opened }) same.bank
    ∙ ap (λ (x : Plan). record { bank = old.bank; plan = x; base = new.base; tells = tells_of new.journal; identity = identity_of new.journal; disk = new.opened }) same.plan
    ∙ ap (λ (x : List ℕ). record { bank = old.bank; plan = old.plan; base = x; tells = tells_of new.journal; identity = identity_of new.journal; disk = new.opened }) same.base
    ∙ ap (λ (x : Bool). record { bank = old.bank; plan = old.plan; base = old.base; tells = x; identity = identity_of new.journal; disk = new.opened }) lent.tells
    ∙ ap (λ (x : ℕ). record { bank = old.bank; plan = old.plan; base = old.base; tells = tells_of old.journal; identity = x; disk = new.opened }) lent.identity
    ∙ ap (λ (x : HandedDisk). record { bank = old.bank; plan = old.plan; base = old.base; tells = tells_of old.journal; identity = identity_of old.journal; disk = x }) same.opened

-- a file whose contents are records of the second version
pub second_so : (b : Tables) (p : Plan) (H : List Entry) (file : List ℕ) (ps : List (List ℕ)) → Stands b p H file → contents file ≡ Some (second ps) → StandsSecond b p H file
second_so b p H file ps stands e = moved_so b p H file stands (ap (λ (o : Option Counted). (unwrap_or o (second [])).version) e)

-- ---- the last text of a follower, by the history
pub follow_last : (plan : Plan) (H : List Entry) (end : DoorEnd) (most count : ℕ) (s : Summary) → most ≡ plan.journal → count ≡ length H → s ≡ summary plan H
    → (status : ℕ) (text : List ℕ) → IsLastOfFollow most count s end status text → IsLastOfFollow plan.journal (length H) (summary plan H) end status text
follow_last plan H end most count s e f g status text last =
    subst (λ (m : ℕ). IsLastOfFollow m (length H) (summary plan H) end status text) e
    (subst (λ (n : ℕ). IsLastOfFollow most n (summary plan H) end status text) f
    (subst (λ (x : Summary). IsLastOfFollow most count x end status text) g last))

-- ---- the records of a shipper
-- records that have a spelling in a version have one
spelled_each : (version : ℕ) (R : List Record) → AllByRecursion (IsRecordIn version) R → AllByRecursion IsRecord R
spelled_each version [] all = tt
spelled_each version (r ∷ R) all = (all.0.is_record, spelled_each version R all.1)

pub shipped_spelled : {D : Type 0} (o : Running D) → HoldsRecords o → IsTrue (tells_of o.journal) → AreSpelled (shipped_of o) (history o.marks)
shipped_spelled o h told = record {
  records = h.records;
  spell = spelled_each 2 h.records h.are.spell;
  payloads = if_so (tells_of o.journal) (payloads_of o.journal) (map bare (history o.marks)) told ∙ h.holds told;
  entries = h.are.entries;
}

shipped_count_by : {D : Type 0} (o : Running D) (t : Bool) → tells_of o.journal ≡ t → HoldsRecords o → length (shipped_of o) ≡ length (history o.marks)
shipped_count_by o true is h =
    let s = shipped_spelled o h is in
    ap (λ (ps : List (List ℕ)). length ps) s.payloads ∙ (length-map s.records payload_of ∙ (sym (length-map s.records (λ (r : Record). r.entry)) ∙ ap (λ (H : List Entry). length H) s.entries))
shipped_count_by o false is h =
    ap (λ (t : Bool). length (if t then payloads_of o.journal else map bare (history o.marks))) is ∙ length-map (history o.marks) bare

pub shipped_count : {D : Type 0} (o : Running D) → HoldsRecords o → length (shipped_of o) ≡ length (history o.marks)
shipped_count o h = shipped_count_by o (tells_of o.journal) refl h

-- what a file has, which has the payloads of an office
pub shipped_found : {D : Type 0} (o : Running D) (file : List ℕ) → IsTrue (tells_of o.journal) → contents file ≡ Some (second (payloads_of o.journal)) → contents file ≡ Some (second (shipped_of o))
shipped_found o file told e = e ∙ ap (λ (ps : List (List ℕ)). Some (second ps)) (sym (if_so (tells_of o.journal) (payloads_of o.journal) (map bare (history o.marks)) told))

-- ---- what comes before the journal is opened
-- the files of a command that follows or ships are read
pub linked_ready : (named : List ℕ → Bool) (content : List ℕ → List ℕ) (c : Command) → IsLinked c → (bank plan : List ℕ) → files_of c ≡ Some (bank, plan)
    → (b : Tables) (p : Plan) → Reads named content bank plan b p → IsReady named content c b p
linked_ready named content (Follow x y) linked bank plan names b p reads =
    let same = pair_same x y bank plan names in
    subst (λ (n : List ℕ). Reads named content n y b p) (sym same.0) (subst (λ (n : List ℕ). Reads named content bank n b p) (sym same.1) reads)
linked_ready named content (Ship x y) linked bank plan names b p reads =
    let same = pair_same x y bank plan names in
    subst (λ (n : List ℕ). Reads named content n y b p) (sym same.0) (subst (λ (n : List ℕ). Reads named content bank n b p) (sym same.1) reads)
linked_ready named content (Check x y) linked bank plan names b p reads = absurd linked
linked_ready named content (Assemble x y) linked bank plan names b p reads = absurd linked
linked_ready named content (Replay x y z) linked bank plan names b p reads = absurd linked
linked_ready named content (Serve x y a) linked bank plan names b p reads = absurd linked
linked_ready named content (Audit x y) linked bank plan names b p reads = absurd linked
linked_ready named content (Drill x y) linked bank plan names b p reads = absurd linked
linked_ready named content (Migrate x y) linked bank plan names b p reads = absurd linked
linked_ready named content (Series x y forms weights) linked bank plan names b p reads = absurd linked

pub base_early : (b : Tables) (p : Plan) (h : Halt) → HaltsAtBase b p h → IsEarly h
base_early b p (halt.NoForm tree) is = tt
base_early b p (halt.NoBaseForm budget tree) is = tt
base_early b p halt.Memory is = tt
base_early b p h is = absurd is

pub base_not_files : (b : Tables) (p : Plan) (h : Halt) → HaltsAtBase b p h → h ≡ halt.Files → ⊥
base_not_files b p h is e = subst (λ (x : Halt). HaltsAtBase b p x) e is

-- ---- a command
module _ (o : Option Command) where
  pub follow_linked : (bank plan : List ℕ) → o ≡ Some (Follow bank plan) → (IsOfLinked o → ⊥) → ⊥
  follow_linked bank plan e never = never (subst IsOfLinked (sym e) tt)

  pub ship_linked : (bank plan : List ℕ) → o ≡ Some (Ship bank plan) → (IsOfLinked o → ⊥) → ⊥
  ship_linked bank plan e never = never (subst IsOfLinked (sym e) tt)

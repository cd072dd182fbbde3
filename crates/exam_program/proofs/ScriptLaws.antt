-- The requests of a script, one after another.
use Rattle.std.proofs.Common.{◌≡◌, ℕ, suc, ◌+◌, ◌<◌, ◌≤◌, Bool, List, [], ◌∷◌, ◌++◌, length, take, drop, get_or, drop-cons, IsTrue, refl, sym, ap, ◌∙◌, subst, append_assoc, arith}
use Rattle.std.proofs.lemmas.List.{append-nil, take-append-drop, take_more}
use Rattle.std.proofs.lemmas.Grind.{flat_map-append}
use Rattle.bank_tables.specs.Tables.{Tables}
use Rattle.exam_edge.specs.Images.{AtEachMoment}
use Rattle.exam_edge.specs.ImageLaws.{at_end, joined, weaker}
use Rattle.exam_edge.specs.Lent.{IsLent}
use Rattle.form_model.specs.Plan.{Plan}
use Rattle.history_model.specs.declared.entry.Entry.{Entry}
use Rattle.history_model.specs.declared.request.Reply.{Reply}
use Rattle.history_model.specs.declared.request.Request.{Request}
use Rattle.exam_office.specs.Asking.{AreGood, no_more, one_more as good_more, IsDurable, not_begun}
use Rattle.exam_office.specs.Marks.{history, reach}
use Rattle.exam_office.specs.Running.{Running}
use Rattle.exam_office.specs.Writing.{IsSameOffice}
use Rattle.answer_journal.specs.Journal.{JournalState, tells_of, accounts_of, faults_of, identity_of}
use Rattle.replay_cli.specs.Replies.{line_of, lines_of}
use Rattle.exam_program.specs.declared.halt.Halt.{Halt}
use Rattle.exam_program.specs.Replays.{AreDone, none, one_more, MayBegin, IsFileOf, IsReached, IsFileOnTheWay}
use Rattle.exam_program.specs.Stopping.{IsDone, IsAnswered, IsStopped, at_sessions, at_journal, at_disk, at_memory, at_line, by_sessions, by_journal, by_disk, by_memory, by_sink, GoesOn, IsServed, IsUnserved}
use Rattle.exam_program.specs.Writing.{IsWritten, WritesPart}

-- ---- lists
-- the requests before one, that one, and those after it
parted : (all : List Request) (i : ℕ) (d : Request) → i < length all → all ≡ take i all ++ get_or all i d ∷ drop (suc i) all
parted all i d lt = sym (take-append-drop i all) ∙ ap (λ (xs : List Request). take i all ++ xs) (drop-cons all i d lt)

lines_more : (replies : List Reply) (reply : Reply) → lines_of (replies ++ reply ∷ []) ≡ lines_of replies ++ line_of reply
lines_more replies reply = flat_map-append line_of replies (reply ∷ []) ∙ ap (λ (xs : List ℕ). lines_of replies ++ xs) (append-nil (line_of reply))

-- good entries lead on
good_on : (b : Tables) (plan : Plan) (base : List ℕ) (H G K : List Entry) → AreGood b plan base H G → AreGood b plan base G K → AreGood b plan base H K
good_on b plan base H G _ first no_more = first
good_on b plan base H G _ first (good_more K entry more good) = good_more K entry (good_on b plan base H G K first more) good

-- no entry of the next request is added
pub not_yet : (b : Tables) (plan : Plan) (base : List ℕ) (G : List Entry) (rest : List Request) → MayBegin b plan base G rest G
not_yet b plan base G [] = refl
not_yet b plan base G (request ∷ rest) = not_begun

-- ---- what was done so far
pub record IsSoFar {D : Type 0} (b : Tables) (plan : Plan) (base : List ℕ) (script : List Request) (i : ℕ) (old cur : Running D) (told : Bool) (was now : List ℕ) : Type 0 where
  pub replies : List Reply
  pub are_done : AreDone b plan (history old.marks) (take i script) (history cur.marks) replies
  pub good : AreGood b plan base (history old.marks) (history cur.marks)
  pub durable : IsDurable b plan cur
  pub written : IsWritten told was now (lines_of replies)
  pub moments : IsTrue (tells_of old.journal)
      → AtEachMoment (accounts_of old.journal) (accounts_of cur.journal) (IsFileOnTheWay b plan base script (history old.marks))

module _ {D : Type 0} (b : Tables) (plan : Plan) (base : List ℕ) (script : List Request) where
  pub none_so_far : (old : Running D) (told : Bool) (was : List ℕ) → IsDurable b plan old → IsSoFar b plan base script 0 old old told was was
  none_so_far old told was durable = record {
    replies = [];
    are_done = none;
    good = no_more;
    durable = durable;
    written = λ t. sym (append-nil was);
    moments = λ t. record {
      more = [];
      grown = sym (append-nil (accounts_of old.journal));
      start = λ file image. record { so_far = history old.marks; is_one = reached_first; stands = durable.images t file image };
      each = tt;
    };
  }
    where
      reached_first : IsReached b plan base script (history old.marks) (history old.marks)
      reached_first = record {
        done = [];
        rest = script;
        G = history old.marks;
        replies = [];
        whole = refl;
        are_done = none;
        good = no_more;
        begins = not_yet b plan base (history old.marks) script;
      }

  module _ (i : ℕ) (old cur new : Running D) (told : Bool) (was mid now : List ℕ) (s : IsSoFar b plan base script i old cur told was mid) where
    -- text after the lines so far
    after : (text : List ℕ) → IsWritten told mid now text → IsWritten told was now (lines_of s.replies ++ text)
    after text written t = written t ∙ (ap (λ (xs : List ℕ). xs ++ text) (s.written t) ∙ append_assoc was (lines_of s.replies) text)

    nothing_after : IsWritten told mid now [] → IsWritten told was now (lines_of s.replies)
    nothing_after written t = written t ∙ (append-nil mid ∙ s.written t)

    module _ (d : Request) (lt : i < length script) where
      done_more : (reply : Reply) → IsDone b plan base (get_or script i d) cur new reply
          → AreDone b plan (history old.marks) (take (i + 1) script) (history new.marks) (s.replies ++ reply ∷ [])
      done_more reply is = subst (λ (xs : List Request). AreDone b plan (history old.marks) xs (history new.marks) (s.replies ++ reply ∷ [])) (sym (take_more script i d lt))
          (one_more (take i script) (history cur.marks) s.replies (get_or script i d) (history new.marks) reply s.are_done is.does is.goes_on)

      -- the histories on the way of this request are on that of the script
      on_the_way : (file : List ℕ) → IsFileOf b plan base (history cur.marks) (get_or script i d ∷ []) file → IsFileOnTheWay b plan base script (history old.marks) file
      on_the_way file s1 = record {
        so_far = s1.so_far;
        is_one = record {
          done = take i script;
          rest = get_or script i d ∷ drop (suc i) script;
          G = history cur.marks;
          replies = s.replies;
          whole = parted script i d lt;
          are_done = s.are_done;
          good = s.good;
          begins = s1.is_one;
        };
        stands = s1.stands;
      }

      moments_on : tells_of cur.journal ≡ tells_of old.journal
          → (IsTrue (tells_of cur.journal) → AtEachMoment (accounts_of cur.journal) (accounts_of new.journal) (IsFileOf b plan base (history cur.marks) (get_or script i d ∷ [])))
          → IsTrue (tells_of old.journal) → AtEachMoment (accounts_of old.journal) (accounts_of new.journal) (IsFileOnTheWay b plan base script (history old.marks))
      moments_on same step t =
          joined (IsFileOnTheWay b plan base script (history old.marks)) (accounts_of old.journal) (accounts_of cur.journal) (accounts_of new.journal) (s.moments t)
          (weaker (IsFileOf b plan base (history cur.marks) (get_or script i d ∷ [])) (IsFileOnTheWay b plan base script (history old.marks)) on_the_way
          (accounts_of cur.journal) (accounts_of new.journal) (step (same ∙ t)))

      pub one_so_far : tells_of cur.journal ≡ tells_of old.journal
          → (IsTrue (tells_of cur.journal) → AtEachMoment (accounts_of cur.journal) (accounts_of new.journal) (IsFileOf b plan base (history cur.marks) (get_or script i d ∷ [])))
          → IsAnswered b plan base (get_or script i d) cur new told mid now → IsSoFar b plan base script (i + 1) old new told was now
      one_so_far same step is = record {
        moments = moments_on same step;
        replies = s.replies ++ is.reply ∷ [];
        are_done = done_more is.reply is.done;
        good = good_on b plan base (history old.marks) (history cur.marks) (history new.marks) s.good is.done.good;
        durable = is.done.durable;
        written = λ t. after (line_of is.reply) is.written t ∙ ap (λ (xs : List ℕ). was ++ xs) (sym (lines_more s.replies is.reply));
      }

      -- ---- the next request stops
      module _ (step : IsTrue (tells_of cur.journal) → AtEachMoment (accounts_of cur.journal) (accounts_of new.journal) (IsFileOf b plan base (history cur.marks) (get_or script i d ∷ [])))
          (same_cur : tells_of cur.journal ≡ tells_of old.journal)
          (same_told : tells_of new.journal ≡ tells_of old.journal) (grows : faults_of old.journal ≤ faults_of cur.journal) where
        way_here : GoesOn b plan base script old new (history cur.marks) (get_or script i d ∷ drop (suc i) script) s.replies
        way_here = record {
          going = record {
            done = take i script;
            whole = parted script i d lt;
            are_done = s.are_done;
            good = s.good;
            each = λ t file image.
                let e = at_end (IsFileOf b plan base (history cur.marks) (get_or script i d ∷ [])) (accounts_of cur.journal) (accounts_of new.journal) (step (same_cur ∙ t)) file image in
                record { so_far = e.so_far; is_one = e.is_one; stands = e.stands };
          };
          moments = moments_on same_cur step;
        }

        way_after : (reply : Reply) → IsDone b plan base (get_or script i d) cur new reply
            → GoesOn b plan base script old new (history new.marks) (drop (i + 1) script) (s.replies ++ reply ∷ [])
        way_after reply is = record {
          going = record {
            done = take (i + 1) script;
            whole = sym (take-append-drop (i + 1) script);
            are_done = done_more reply is;
            good = good_on b plan base (history old.marks) (history cur.marks) (history new.marks) s.good is.good;
            each = λ t file image. record {
              so_far = history new.marks;
              is_one = not_yet b plan base (history new.marks) (drop (i + 1) script);
              stands = is.durable.images (same_told ∙ t) file image;
            };
          };
          moments = moments_on same_cur step;
        }

        part_after : (reply : Reply) → WritesPart told mid now (line_of reply) → WritesPart told was now (lines_of (s.replies ++ reply ∷ []))
        part_after reply part = record {
          part = lines_of s.replies ++ part.part;
          rest = part.rest;
          written = after part.part part.written;
          whole = lines_more s.replies reply ∙ (ap (λ (xs : List ℕ). lines_of s.replies ++ xs) part.whole ∙ sym (append_assoc (lines_of s.replies) part.part part.rest));
          unfinished = part.unfinished;
        }

        pub stop_so_far : (h : Halt) → IsStopped b plan base (get_or script i d) cur new told mid now h → IsUnserved b plan base script old new told was now h
        stop_so_far _ (at_sessions count why written) =
            by_sessions (history cur.marks) (get_or script i d) (drop (suc i) script) s.replies count way_here why (nothing_after written)
        stop_so_far _ (at_journal size full sure written) =
            by_journal (history cur.marks) (get_or script i d) (drop (suc i) script) s.replies (history new.marks) (reach new.marks) size way_here full (record { history_is = refl; reach_is = refl; sure = sure }) (nothing_after written)
        stop_so_far _ (at_disk rose written) =
            by_disk (history cur.marks) (get_or script i d ∷ drop (suc i) script) s.replies way_here (omega (arith, grows, rose)) (nothing_after written)
        stop_so_far _ (at_memory written) = by_memory (history cur.marks) (get_or script i d ∷ drop (suc i) script) s.replies way_here (nothing_after written)
        stop_so_far _ (at_line reply is part) = by_sink (history new.marks) (drop (i + 1) script) (s.replies ++ reply ∷ []) (way_after reply is) (part_after reply part)

  -- the script is done to its end
  pub all_done : (old new : Running D) (told : Bool) (was now : List ℕ) → tells_of new.journal ≡ tells_of old.journal
      → IsSoFar b plan base script (length script) old new told was now → IsServed b plan base script old new told was now
  all_done old new told was now same s = record {
    G = history new.marks;
    replies = s.replies;
    way = record {
      going = record {
        done = take (length script) script;
        whole = sym (take-append-drop (length script) script) ∙ ap (λ (xs : List Request). take (length script) script ++ xs) (drop_all script);
        are_done = s.are_done;
        good = s.good;
        each = λ t file image. record { so_far = history new.marks; is_one = refl; stands = s.durable.images (same ∙ t) file image };
      };
      moments = s.moments;
    };
    written = s.written;
  }
    where
      drop_all : (xs : List Request) → drop (length xs) xs ≡ []
      drop_all [] = refl
      drop_all (x ∷ xs) = drop_all xs

-- ---- from one office to the next
-- what holds of the office now holds of the first one
as_first : {D : Type 0} (P : Tables → Plan → List ℕ → Type 0) (old cur : Running D) → IsSameOffice old cur → P cur.bank cur.plan cur.base → P old.bank old.plan old.base
as_first P old cur same is =
    subst (λ (b : Tables). P b old.plan old.base) same.bank (subst (λ (p : Plan). P cur.bank p old.base) same.plan (subst (λ (f : List ℕ). P cur.bank cur.plan f) same.base is))

pub same_on : {D : Type 0} (old cur new : Running D) → IsSameOffice old cur → IsSameOffice cur new → IsSameOffice old new
same_on old cur new first then = record { bank = then.bank ∙ first.bank; plan = then.plan ∙ first.plan; base = then.base ∙ first.base; opened = then.opened ∙ first.opened }

pub lent_on : {D : Type 0} (old cur new : JournalState D) → IsLent tells_of identity_of faults_of old cur → IsLent tells_of identity_of faults_of cur new → IsLent tells_of identity_of faults_of old new
lent_on old cur new first then = record { grows = omega (arith, first.grows, then.grows); tells = then.tells ∙ first.tells; identity = then.identity ∙ first.identity }

module _ {D : Type 0} (script : List Request) (i : ℕ) (old cur new : Running D) (told : Bool) (was mid now : List ℕ)
    (s : IsSoFar old.bank old.plan old.base script i old cur told was mid) (d : Request) (lt : i < length script) (item : d ≡ get_or script i d) (same : IsSameOffice old cur) (told_now : Bool) (e : told_now ≡ told) where
  -- each moment of the next request, by the bank, the plan and the base of the first office
  each_as_first : (IsTrue (tells_of cur.journal) → AtEachMoment (accounts_of cur.journal) (accounts_of new.journal) (IsFileOf cur.bank cur.plan cur.base (history cur.marks) (get_or script i d ∷ [])))
      → IsTrue (tells_of cur.journal) → AtEachMoment (accounts_of cur.journal) (accounts_of new.journal) (IsFileOf old.bank old.plan old.base (history cur.marks) (get_or script i d ∷ []))
  each_as_first each t = as_first (λ (b : Tables) (p : Plan) (f : List ℕ). AtEachMoment (accounts_of cur.journal) (accounts_of new.journal) (IsFileOf b p f (history cur.marks) (get_or script i d ∷ []))) old cur same (each t)

  -- the same of the request that was done, which is the next of the script
  each_here : (IsTrue (tells_of cur.journal) → AtEachMoment (accounts_of cur.journal) (accounts_of new.journal) (IsFileOf cur.bank cur.plan cur.base (history cur.marks) (d ∷ [])))
      → IsTrue (tells_of cur.journal) → AtEachMoment (accounts_of cur.journal) (accounts_of new.journal) (IsFileOf cur.bank cur.plan cur.base (history cur.marks) (get_or script i d ∷ []))
  each_here each t = subst (λ (r : Request). AtEachMoment (accounts_of cur.journal) (accounts_of new.journal) (IsFileOf cur.bank cur.plan cur.base (history cur.marks) (r ∷ []))) item (each t)

  pub next_so_far : (IsTrue (tells_of cur.journal) → AtEachMoment (accounts_of cur.journal) (accounts_of new.journal) (IsFileOf cur.bank cur.plan cur.base (history cur.marks) (d ∷ [])))
      → IsLent tells_of identity_of faults_of old.journal cur.journal
      → IsAnswered cur.bank cur.plan cur.base d cur new told_now mid now → IsSoFar old.bank old.plan old.base script (i + 1) old new told was now
  next_so_far each first is =
      one_so_far old.bank old.plan old.base script i old cur new told was mid now s d lt first.tells (each_as_first (each_here each))
      (subst (λ (t : Bool). IsAnswered old.bank old.plan old.base (get_or script i d) cur new t mid now) e
      (as_first (λ (b : Tables) (p : Plan) (f : List ℕ). IsAnswered b p f (get_or script i d) cur new told_now mid now) old cur same
      (subst (λ (r : Request). IsAnswered cur.bank cur.plan cur.base r cur new told_now mid now) item is)))

  pub next_stops : (IsTrue (tells_of cur.journal) → AtEachMoment (accounts_of cur.journal) (accounts_of new.journal) (IsFileOf cur.bank cur.plan cur.base (history cur.marks) (d ∷ [])))
      → IsLent tells_of identity_of faults_of old.journal cur.journal → IsLent tells_of identity_of faults_of cur.journal new.journal
      → (h : Halt) → IsStopped cur.bank cur.plan cur.base d cur new told_now mid now h → IsUnserved old.bank old.plan old.base script old new told was now h
  next_stops each first then h is =
      stop_so_far old.bank old.plan old.base script i old cur new told was mid now s d lt
      (each_as_first (each_here each)) first.tells (then.tells ∙ first.tells) first.grows h
      (subst (λ (t : Bool). IsStopped old.bank old.plan old.base (get_or script i d) cur new t mid now h) e
      (as_first (λ (b : Tables) (p : Plan) (f : List ℕ). IsStopped b p f (get_or script i d) cur new told_now mid now h) old cur same
      (subst (λ (r : Request). IsStopped cur.bank cur.plan cur.base r cur new told_now mid now h) item is)))

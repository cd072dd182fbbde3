use Rattle.std.proofs.Common.{◌≡◌, ◌∙◌, ℕ, List, length, sym, ap, subst, arith}
use Rattle.std.specs.Option.{option_map}
use Rattle.exam_records.specs.Spelling.{payload_of}
use Rattle.exam_edge.specs.Images.{AtEachMoment}
use Rattle.answer_journal.specs.Journal.{accounts_of}
use Rattle.record_links.specs.Messages.{offer_of}
use Rattle.record_links.specs.Replicas.{as_they_are, StopLeaves, Takes}
use Rattle.record_links.specs.World.{Delivers, appended}
use Rattle.exam_follower.specs.Delivering.{IsNotDelivered, HasRecords, taken_as}
use Rattle.exam_follower.specs.Followers.{held_of, records_of, may_follow, size_with, limit_of}
use Rattle.exam_follower.proofs.Rules.{same_rule_of, takes_from, fails_from, stops_from, left_alone}
use Rattle.exam_follower.proofs.Steps.{held_none}
use Rattle.exam_follower.proofs.Stops.{first_part, both_parts}
use Rattle.exam_follower.proofs.follower.Follower.deliver.Goals as goal

-- the record in doubt is not resolved
pub returns-in-Err-clause-stops : goal.returns-in-Err-clause-stops
returns-in-Err-clause-stops g c = λ told.
    let old = c.args.self.now in
    let mid = c.mend.new.self in
    first_part (may_follow old) (held_of old) (offer_of c.args.number c.args.payload.now) (accounts_of old.office.journal) (accounts_of mid.office.journal) (c.mend.ensures.stops told)

-- another number
pub returns-then-number-count-clause-taken : goal.returns-then-number-count-clause-taken
returns-then-number-count-clause-taken g c =
    let old = c.args.self.now in
    let mid = c.mend.new.self in
    let n : c.count-count.result ≡ length (records_of mid) = c.count-count.ensures in
    let other = c.if-number-count.true in
    left_alone (may_follow old) (held_of old) (held_of mid) (offer_of c.args.number c.args.payload.now) c.in-Ok.ensures.mended (ap (option_map payload_of) c.in-Ok.ensures.sure)
    (λ e. absurd (omega (arith, n, other, e)))

pub returns-then-number-count-clause-stops : goal.returns-then-number-count-clause-stops
returns-then-number-count-clause-stops g c = λ told.
    let old = c.args.self.now in
    let mid = c.mend.new.self in
    first_part (may_follow old) (held_of old) (offer_of c.args.number c.args.payload.now) (accounts_of old.office.journal) (accounts_of mid.office.journal) (c.mend.ensures.stops told)

-- the next number
pub returns-in-Ok-append-clause-taken : goal.returns-in-Ok-append-clause-taken
returns-in-Ok-append-clause-taken g c =
    let old = c.args.self.now in
    let mid = c.mend.new.self in
    let new = c.append.new.self in
    let o = offer_of c.args.number c.args.payload.now in
    let n : c.count-count.result ≡ length (records_of mid) = c.count-count.ensures in
    let same = c.if-number-count.false in
    let next : c.args.number ≡ length (records_of mid) = omega (arith, n, same) in
    let takes : Takes (may_follow mid) (held_of mid) o (held_of new) = record {
      base = records_of mid;
      mended = as_they_are;
      delivers = subst (λ (G : List (List ℕ)). Delivers (may_follow mid) (records_of mid) o G) (sym c.in-Ok-append.ensures.appended) (appended next c.in-Ok-append.ensures.follows);
      added = λ e. c.in-Ok-append.ensures.appended;
      settled = ap (option_map payload_of) c.in-Ok-append.ensures.sure;
    } in
    takes_from (may_follow old) (may_follow mid) (size_with old) (size_with mid) (limit_of old) (limit_of mid) (same_rule_of old mid c.mend.ensures.later) (held_of old) (held_of mid) (records_of mid)
    c.in-Ok.ensures.mended (held_none mid c.in-Ok.ensures.sure) o (held_of new) takes

pub returns-in-Ok-append-clause-stops : goal.returns-in-Ok-append-clause-stops
returns-in-Ok-append-clause-stops g c = λ told.
    let old = c.args.self.now in
    let mid = c.mend.new.self in
    let new = c.append.new.self in
    let o = offer_of c.args.number c.args.payload.now in
    let n : c.count-count.result ≡ length (records_of mid) = c.count-count.ensures in
    let same = c.if-number-count.false in
    let next : c.args.number ≡ length (records_of mid) = omega (arith, n, same) in
    both_parts (StopLeaves (may_follow old) (held_of old) o) (StopLeaves (may_follow mid) (held_of mid) o) (accounts_of old.office.journal) (accounts_of mid.office.journal) (accounts_of new.office.journal)
    (stops_from (may_follow old) (may_follow mid) (size_with old) (size_with mid) (limit_of old) (limit_of mid) (same_rule_of old mid c.mend.ensures.later) (held_of old) (held_of mid) (records_of mid)
    c.in-Ok.ensures.mended (held_none mid c.in-Ok.ensures.sure) o)
    (first_part (may_follow old) (held_of old) o (accounts_of old.office.journal) (accounts_of mid.office.journal) (c.mend.ensures.stops told))
    (subst (λ (k : ℕ). AtEachMoment (accounts_of mid.office.journal) (accounts_of new.office.journal) (HasRecords (StopLeaves (may_follow mid) (held_of mid) (offer_of k c.args.payload.now)))) (sym next)
    (c.append.ensures.stops (c.mend.ensures.later.frame.tells ∙ told)))

pub returns-in-Err-append-clause-fault : goal.returns-in-Err-append-clause-fault
returns-in-Err-append-clause-fault g c =
    let old = c.args.self.now in
    let mid = c.mend.new.self in
    let new = c.append.new.self in
    let o = offer_of c.args.number c.args.payload.now in
    let n : c.count-count.result ≡ length (records_of mid) = c.count-count.ensures in
    let same = c.if-number-count.false in
    let next : c.args.number ≡ length (records_of mid) = omega (arith, n, same) in
    let not : IsNotDelivered mid new o c.in-Err-append.fault =
    subst (λ (k : ℕ). IsNotDelivered mid new (offer_of k c.args.payload.now) c.in-Err-append.fault) (sym next) c.in-Err-append.ensures.fault in
    record {
      fails =
          fails_from (may_follow old) (may_follow mid) (size_with old) (size_with mid) (limit_of old) (limit_of mid) (same_rule_of old mid c.mend.ensures.later) (held_of old) (held_of mid) (records_of mid)
          c.in-Ok.ensures.mended (held_none mid c.in-Ok.ensures.sure) o (held_of new) (taken_as c.in-Err-append.fault) not.fails;
      found_out = not.found_out;
    }

pub returns-in-Err-append-clause-stops : goal.returns-in-Err-append-clause-stops
returns-in-Err-append-clause-stops g c = λ told.
    let old = c.args.self.now in
    let mid = c.mend.new.self in
    let new = c.append.new.self in
    let o = offer_of c.args.number c.args.payload.now in
    let n : c.count-count.result ≡ length (records_of mid) = c.count-count.ensures in
    let same = c.if-number-count.false in
    let next : c.args.number ≡ length (records_of mid) = omega (arith, n, same) in
    both_parts (StopLeaves (may_follow old) (held_of old) o) (StopLeaves (may_follow mid) (held_of mid) o) (accounts_of old.office.journal) (accounts_of mid.office.journal) (accounts_of new.office.journal)
    (stops_from (may_follow old) (may_follow mid) (size_with old) (size_with mid) (limit_of old) (limit_of mid) (same_rule_of old mid c.mend.ensures.later) (held_of old) (held_of mid) (records_of mid)
    c.in-Ok.ensures.mended (held_none mid c.in-Ok.ensures.sure) o)
    (first_part (may_follow old) (held_of old) o (accounts_of old.office.journal) (accounts_of mid.office.journal) (c.mend.ensures.stops told))
    (subst (λ (k : ℕ). AtEachMoment (accounts_of mid.office.journal) (accounts_of new.office.journal) (HasRecords (StopLeaves (may_follow mid) (held_of mid) (offer_of k c.args.payload.now)))) (sym next)
    (c.append.ensures.stops (c.mend.ensures.later.frame.tells ∙ told)))

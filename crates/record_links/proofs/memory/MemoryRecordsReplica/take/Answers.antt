use Rattle.std.proofs.Common.{◌≡◌, ◌≢◌, [], ◌∷◌, length, get_or, refl, arith, length-append}
use Rattle.record_links.specs.Memory.{payloads_of}
use Rattle.record_links.specs.Messages.{offer_of}
use Rattle.record_links.specs.Replicas.{as_they_are}
use Rattle.record_links.proofs.Payloads.{passed, taken, due, stays_so, goes_so}
use Rattle.record_links.proofs.memory.MemoryRecordsReplica.take.Goals as goal

pub returns-then-number-count-clause-taken : goal.returns-then-number-count-clause-taken
returns-then-number-count-clause-taken c =
    let n : c.number-count.result ≡ length (payloads_of c.args.self.now) = c.number-count.ensures in
    let other = c.if-number-count.true in
    passed (λ F r. get_or r 0 0 ≢ c.args.self.now.refused) (payloads_of c.args.self.now) (offer_of c.args.number c.args.payload.now)
    (λ e. absurd (omega (arith, n, other, e)))

pub returns-then-number-count-clause-stops : goal.returns-then-number-count-clause-stops
returns-then-number-count-clause-stops c left e =
    stays_so (λ F r. get_or r 0 0 ≢ c.args.self.now.refused) (payloads_of c.args.self.now) (offer_of c.args.number c.args.payload.now)
    (payloads_of c.args.self.now) left refl e

pub returns-then-payload-self-clause-fault : goal.returns-then-payload-self-clause-fault
returns-then-payload-self-clause-fault c =
    let n : c.number-count.result ≡ length (payloads_of c.args.self.now) = c.number-count.ensures in
    let next : c.args.number ≡ length (payloads_of c.args.self.now) = let k = c.if-number-count.false in omega (arith, n, k) in
    let first : get_or c.args.payload.now 0 0 ≡ c.args.self.now.refused = let k = c.if-payload-self.true in omega (arith, k) in
    (payloads_of c.args.self.now, as_they_are, refl, next, λ other. other first)

pub returns-then-payload-self-clause-stops : goal.returns-then-payload-self-clause-stops
returns-then-payload-self-clause-stops c left e =
    stays_so (λ F r. get_or r 0 0 ≢ c.args.self.now.refused) (payloads_of c.args.self.now) (offer_of c.args.number c.args.payload.now)
    (payloads_of c.args.self.now) left refl e

pub returns-then-count-self-clause-fault : goal.returns-then-count-self-clause-fault
returns-then-count-self-clause-fault c =
    let n : c.number-count.result ≡ length (payloads_of c.args.self.now) = c.number-count.ensures in
    let next : c.args.number ≡ length (payloads_of c.args.self.now) = let k = c.if-number-count.false in omega (arith, n, k) in
    let other : get_or c.args.payload.now 0 0 ≢ c.args.self.now.refused = λ e. let k = c.if-payload-self.false in absurd (omega (arith, k, e)) in
    let more = length-append (payloads_of c.args.self.now) (c.args.payload.now ∷ []) in
    let full = c.if-count-self.true in (
      payloads_of c.args.self.now,
      due (λ F r. get_or r 0 0 ≢ c.args.self.now.refused) (payloads_of c.args.self.now) (offer_of c.args.number c.args.payload.now) next other,
      refl,
      omega (arith, n, more),
      omega (arith, full),
    )

pub returns-then-count-self-clause-stops : goal.returns-then-count-self-clause-stops
returns-then-count-self-clause-stops c left e =
    stays_so (λ F r. get_or r 0 0 ≢ c.args.self.now.refused) (payloads_of c.args.self.now) (offer_of c.args.number c.args.payload.now)
    (payloads_of c.args.self.now) left refl e

pub returns-in-Ok-clause-taken : goal.returns-in-Ok-clause-taken
returns-in-Ok-clause-taken c =
    let n : c.number-count.result ≡ length (payloads_of c.args.self.now) = c.number-count.ensures in
    let next : c.args.number ≡ length (payloads_of c.args.self.now) = let k = c.if-number-count.false in omega (arith, n, k) in
    let other : get_or c.args.payload.now 0 0 ≢ c.args.self.now.refused = λ e. let k = c.if-payload-self.false in absurd (omega (arith, k, e)) in
    taken (λ F r. get_or r 0 0 ≢ c.args.self.now.refused) (payloads_of c.args.self.now) (offer_of c.args.number c.args.payload.now)
    (payloads_of c.add.new.self) next other c.in-Ok.ensures.added

pub returns-in-Ok-clause-stops : goal.returns-in-Ok-clause-stops
returns-in-Ok-clause-stops c left e =
    goes_so (λ F r. get_or r 0 0 ≢ c.args.self.now.refused) (payloads_of c.args.self.now) (offer_of c.args.number c.args.payload.now)
    (payloads_of c.add.new.self) left (returns-in-Ok-clause-taken c) e

pub returns-in-Err-clause-stops : goal.returns-in-Err-clause-stops
returns-in-Err-clause-stops c left e =
    stays_so (λ F r. get_or r 0 0 ≢ c.args.self.now.refused) (payloads_of c.args.self.now) (offer_of c.args.number c.args.payload.now)
    (payloads_of c.add.new.self) left c.in-Err.ensures.kept e

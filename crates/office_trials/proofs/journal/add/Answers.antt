use Rattle.std.proofs.Common.{◌∙◌, sym}
use Rattle.answer_journal.specs.Journal.{payloads_of}
use Rattle.office_trials.proofs.Resolving.{doubtful_added, doubtful_still}
use Rattle.office_trials.proofs.journal.add.Goals as goal

pub mend-requires : goal.mend-requires
mend-requires c =
    let old = c.args.journal.now in
    let new = c.append.new.self in (
      payloads_of old,
      c.args.frame.now,
      doubtful_added old new (sym c.in_doubt.ensures ∙ c.if-in_doubt.true) c.args.frame.now c.append.result c.requires c.append.ensures.ready c.append.ensures.full c.append.ensures.doubt,
      λ told before file x y. tt,
    )

pub mend-requires-then-in_doubt-2 : goal.mend-requires-then-in_doubt-2
mend-requires-then-in_doubt-2 c =
    let old = c.args.journal.now in
    let mid = c.append.new.self in
    let new = c.mend.new.self in
    let ps = payloads_of old in
    let payload = c.args.frame.now in (
      ps,
      payload,
      doubtful_still mid new (sym c.in_doubt-then-in_doubt.ensures ∙ c.if-in_doubt-2.true) ps payload c.mend.result
          (doubtful_added old mid (sym c.in_doubt.ensures ∙ c.if-in_doubt.true) payload c.append.result c.requires c.append.ensures.ready c.append.ensures.full c.append.ensures.doubt)
          c.mend.ensures.ready c.mend.ensures.still,
      λ told before file x y. tt,
    )

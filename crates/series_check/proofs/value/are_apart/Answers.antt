use Rattle.std.proofs.Common.{Bool, ◌&&◌, ◌||◌, ◌∙◌, sym, ap, arith}
use Rattle.std.proofs.Math.Bool.{true≢false}
use Rattle.bank_tables.specs.Items.{has, Set}
use Rattle.series_model.specs.Series.{Forms, forms_of}
use Rattle.series_check.proofs.ApartLaws.{some_member, no_member, not_apart, more_apart, more_seen, set_read}
use Rattle.series_check.proofs.value.are_apart.Goals as goal

pub returns-then-is_some : goal.returns-then-is_some
returns-then-is_some c =
    let S : Forms = forms_of c.args.sets.now in
    let f = c.loop-f.f in
    let seen : Set = has c.loop-f.seen in
    let read = set_read c.args.sets.now f c.index-sets-f.result c.index-sets-f.is (omega (arith, c.loop-f-test.true, c.requires)) in
    let (x, both) = some_member (has c.meet.result) c.first.result c.first.ensures.lowest (sym c.is_some.ensures ∙ c.if-is_some.true) in
    (λ h. absurd (true≢false (sym h)), λ all. absurd (not_apart S f seen c.loop-f.invariant.seen c.args.forms x c.loop-f-test.true (ap (λ (b : Bool). seen x && b) (sym (read x)) ∙ sym (c.meet.ensures x) ∙ both) all))

pub loop-f-preserved : goal.loop-f-preserved
loop-f-preserved c =
    let S : Forms = forms_of c.args.sets.now in
    let f = c.loop-f.f in
    let seen : Set = has c.loop-f.seen in
    let read = set_read c.args.sets.now f c.index-sets-f.result c.index-sets-f.is (omega (arith, c.loop-f-test.true, c.requires)) in
    let none = no_member (has c.meet.result) c.first.result c.first.ensures.lowest (sym c.is_some.ensures ∙ c.if-is_some.false) in
    record {
      seen = more_seen S f seen c.loop-f.invariant.seen (has c.union-seen.result) (λ i. c.union-seen.ensures i ∙ ap (λ (b : Bool). seen i || b) (read i));
      apart = more_apart S f seen c.loop-f.invariant.seen (λ x. ap (λ (b : Bool). seen x && b) (sym (read x)) ∙ sym (c.meet.ensures x) ∙ none x) c.loop-f.invariant.apart;
    }

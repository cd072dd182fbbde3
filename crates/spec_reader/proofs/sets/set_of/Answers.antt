use Rattle.std.proofs.Common.{◌≡◌, ℕ, suc, ◌+◌, ◌<◌, ◌∙◌, ◌||◌, ◌&&◌, Bool, false, List, length, map, refl, sym, ap, arith, add-one, Bor, rules}
use Rattle.std.specs.Prelude.{nat_le, nat_lt}
use Rattle.std.proofs.lemmas.Bool.{and_right, and_from, lt-ltb}
use Rattle.std.proofs.lemmas.List.{length-map}
use Rattle.exam_text.specs.First.{all_below}
use Rattle.exam_text.proofs.Firsts.{all_fails}
use Rattle.exam_text.specs.Runs.{fits, is_set}
use Rattle.spec_reader.proofs.sets.set_of.Goals as goal

abbrev texts : List (Bor (List ℕ)) → List (List ℕ)
texts ws = map (λ w. w.now) ws

pub returns-in_default-clause-found : goal.returns-in_default-clause-found
unfolding is_set
returns-in_default-clause-found c =
    let ws = texts c.args.words.now in
    let here : fits ws c.loop-i.i ≡ false = sym c.in_default.ensures.fits in
    let lt : c.loop-i.i < length ws = rw length-map c.loop-i-test.true in
    sym (and_right (nat_lt 0 (length ws)) (all_below (length ws) (fits ws)) (all_fails (length ws) c.loop-i.i (fits ws) here lt))

pub loop-i-preserved : goal.loop-i-preserved
loop-i-preserved c =
    let inv = c.loop-i.invariant in
    let r = c.in-Some.run' in
    let k : c.loop-i.i + 1 ≡ suc c.loop-i.i = add-one c.loop-i.i in
    record {
      runs = rw k (and_from _ _ inv.runs (sym c.in-Some.ensures.fits));
      next = rw (k, c.in-Some.ensures.value) refl;
      small = omega (arith, c.in-Some.ensures.run.high);
      members = λ x. rw (k, c.in-Some.ensures.value) (c.with_run-set.ensures x ∙ ap (λ (b : Bool). b || (nat_le r.low x && nat_le x r.high)) (inv.members x));
    }

pub returns-clause-found : goal.returns-clause-found
unfolding is_set
returns-clause-found c =
    let ws = texts c.args.words.now in
    let some : 0 < length ws = rw length-map (search rules) in
    let whole : length ws ≡ c.loop-i.i = rw length-map (omega (arith, c.loop-i-test.false, c.loop-i.auto.i-end)) in
    sym (and_from (nat_lt 0 (length ws)) (all_below (length ws) (fits ws)) (lt-ltb _ _ some) (rw whole c.loop-i.invariant.runs))

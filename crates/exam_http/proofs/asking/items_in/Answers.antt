use Rattle.std.proofs.Common.{◌≡◌, ℕ, ◌<◌, List, [], ◌∷◌, ◌++◌, length, get_or, map, Option, Some, None, sym, ap, ◌∙◌, arith}
use Rattle.std.proofs.lemmas.List.{length-map, get_or-map}
use Rattle.serde_json.specs.View.{view}
use Rattle.serde_json.specs.declared.value.Value.{Value}
use Rattle.exam_http.specs.Asks.{number_in}
use Rattle.exam_http.proofs.ListLaws.{numbers_cut, numbers_more, set_more}
use Rattle.exam_http.proofs.asking.items_in.Goals as goal

-- what was read of an element is the number of its view
here : (es : List Value) (k : ℕ) (e : Value) (o : Option ℕ) → k < length es → e ≡ get_or es k e → o ≡ number_in 511 (view e) → number_in 511 (get_or (map view es) k (view e)) ≡ o
here es k e o lt is value = ap (number_in 511) (get_or-map view es k e (view e) lt ∙ ap view (sym is)) ∙ sym value

pub returns-in-None : goal.returns-in-None
returns-in-None c =
    let es : List Value = c.args.elements.now in
    let k : ℕ = c.loop-element.element-index in
    let e : Value = c.element-item.result in
    let lt : k < length (map view es) = omega (arith, c.loop-element-test.true, length-map es view) in
    numbers_cut (map view es) k (view e) lt (here es k e None c.loop-element-test.true c.element-item.is c.in-None.ensures.value)

pub loop-element-preserved : goal.loop-element-preserved
loop-element-preserved c =
    let es : List Value = c.args.elements.now in
    let k : ℕ = c.loop-element.element-index in
    let e : Value = c.element-item.result in
    let n : ℕ = c.in-Some.item in
    let so_far = c.loop-element.invariant in
    let lt : k < length (map view es) = omega (arith, c.loop-element-test.true, length-map es view) in (
      so_far.0 ++ n ∷ [],
      numbers_more (map view es) so_far.0 k (view e) n lt so_far.1 (here es k e (Some n) c.loop-element-test.true c.element-item.is c.in-Some.ensures.value),
      set_more c.loop-element.set c.with-set.result so_far.0 n so_far.2 c.with-set.ensures,
    )

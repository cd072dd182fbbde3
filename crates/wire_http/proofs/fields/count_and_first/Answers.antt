use Rattle.std.proofs.Common.{◌≡◌, true, false, sym, ◌∙◌, get_or, ap, length, append-nil, arith, map, take, List, ℕ}
use Rattle.std.specs.Borrow.{Bor}
use Rattle.httparse.specs.Spans.{header_bytes}
use Rattle.wire_http.specs.Fields.{is_named, values_of, first_of}
use Rattle.wire_http.proofs.FieldLaws.{values_more, count_more, first_more, first_kept, blank}
use Rattle.wire_http.proofs.fields.count_and_first.Goals.{then-is_same_word, then-count-eq0, else-count-eq0, else-is_same_word}
use Rattle.wire_http.proofs.fields.count_and_first.Goals as goal

pub loop-field-preserved : goal.loop-field-preserved
loop-field-preserved c =
    let i = c.loop-field-test.true in
    let k = c.loop-field.field-index in
    let field = header_bytes c.args.bytes.now (get_or c.args.fields.now k blank) in
    let before : List (List ℕ) = values_of c.args.name.now (take k (map (header_bytes c.args.bytes.now) c.args.fields.now)) in
    let more = values_more c.args.name.now (header_bytes c.args.bytes.now) c.args.fields.now k blank in
    elim c.if-is_same_word.branch [
      | then-is_same_word w ↦
          let named : is_named c.args.name.now field ≡ true = rw (← c.of.ensures) (sym c.is_same_word.ensures ∙ w.if-is_same_word.true) in
          let now = more true i named in
          elim w.if-count-eq0.branch [
            | then-count-eq0 w' ↦ record {
              within = omega (arith, w.count-is, c.loop-field.invariant.within);
              count = count_more before _ field.1 c.loop-field.count c.if-is_same_word.count now c.loop-field.invariant.count w.count-is;
              first = now_of w.first-is ∙ now_of w'.first-is ∙ w'.of-first.ensures
                  ∙ sym (ap (λ (v : List (List ℕ)). first_of v) now
                  ∙ first_more before field.1 (sym c.loop-field.invariant.count ∙ w'.if-count-eq0.true));
            }
            | else-count-eq0 w' ↦ record {
              within = omega (arith, w.count-is, c.loop-field.invariant.within);
              count = count_more before _ field.1 c.loop-field.count c.if-is_same_word.count now c.loop-field.invariant.count w.count-is;
              first = now_of w.first-is ∙ now_of w'.first-is ∙ c.loop-field.invariant.first
                  ∙ sym (ap (λ (v : List (List ℕ)). first_of v) now
                  ∙ first_kept before field.1 (omega (arith, c.loop-field.invariant.count, w'.if-count-eq0.false)));
            }
          ]
      | else-is_same_word w ↦
          let named : is_named c.args.name.now field ≡ false = rw (← c.of.ensures) (sym c.is_same_word.ensures ∙ w.if-is_same_word.false) in
          let now = more false i named ∙ append-nil before in
          record {
            within = omega (arith, w.count-is, c.loop-field.invariant.within);
            count = w.count-is ∙ c.loop-field.invariant.count ∙ sym (ap (λ (v : List (List ℕ)). length v) now);
            first = now_of w.first-is ∙ c.loop-field.invariant.first ∙ sym (ap (λ (v : List (List ℕ)). first_of v) now);
          }
    ]
  where
    now_of : {x y : Bor (List ℕ)} → x ≡ y → x.now ≡ y.now
    now_of e = ap (λ (z : Bor (List ℕ)). z.now) e

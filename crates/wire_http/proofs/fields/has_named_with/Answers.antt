use Rattle.std.proofs.Common.{◌≡◌, true, false, sym, ◌∙◌, get_or}
use Rattle.std.proofs.lemmas.Bool.{and_from, and_left, and_right}
use Rattle.std.specs.Str.{str_eq_ignore_ascii_case}
use Rattle.httparse.specs.Spans.{header_bytes}
use Rattle.wire_http.specs.Fields.{is_named, is_named_with}
use Rattle.wire_http.proofs.FieldLaws.{here, not_here, blank}
use Rattle.wire_http.proofs.fields.has_named_with.Goals.{else-is_same_word-via-then-is_same_word+else-is_same_word-2, else-is_same_word-via-else-is_same_word}
use Rattle.wire_http.proofs.fields.has_named_with.Goals as goal

pub returns-then-is_same_word-2 : goal.returns-then-is_same_word-2
returns-then-is_same_word-2 c =
    let field = header_bytes c.args.bytes.now (get_or c.args.fields.now c.loop-field.field-index blank) in
    let name : is_named c.args.name.now field ≡ true = rw (← c.of.ensures) (sym c.is_same_word.ensures ∙ c.if-is_same_word.true) in
    let word : str_eq_ignore_ascii_case field.1 c.args.word.now ≡ true =
    rw (← c.of-then-is_same_word.ensures) (sym c.is_same_word-then-is_same_word.ensures ∙ c.if-is_same_word-2.true) in
    here (is_named_with c.args.name.now c.args.word.now) (header_bytes c.args.bytes.now) c.args.fields.now
    c.loop-field.field-index blank c.loop-field-test.true (and_from _ _ name word)

pub loop-field-preserved : goal.loop-field-preserved
loop-field-preserved c =
    let field = header_bytes c.args.bytes.now (get_or c.args.fields.now c.loop-field.field-index blank) in
    let f : is_named_with c.args.name.now c.args.word.now field ≡ false = elim c.else-is_same_word.branch [
      | else-is_same_word-via-then-is_same_word+else-is_same_word-2 w ↦
          let word : str_eq_ignore_ascii_case field.1 c.args.word.now ≡ false =
          rw (← w.of-then-is_same_word.ensures) (sym w.is_same_word-then-is_same_word.ensures ∙ w.if-is_same_word-2.false) in
          and_right (is_named c.args.name.now field) _ word
      | else-is_same_word-via-else-is_same_word w ↦
          let name : is_named c.args.name.now field ≡ false = rw (← c.of.ensures) (sym c.is_same_word.ensures ∙ w.if-is_same_word.false) in
          and_left _ (str_eq_ignore_ascii_case field.1 c.args.word.now) name
    ] in
    not_here (is_named_with c.args.name.now c.args.word.now) (header_bytes c.args.bytes.now) c.args.fields.now
    c.loop-field.field-index blank c.loop-field-test.true c.loop-field.invariant f

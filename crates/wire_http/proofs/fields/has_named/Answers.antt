use Rattle.std.proofs.Common.{sym, ◌∙◌}
use Rattle.httparse.specs.Spans.{header_bytes}
use Rattle.wire_http.specs.Fields.{is_named}
use Rattle.wire_http.proofs.FieldLaws.{here, not_here, blank}
use Rattle.wire_http.proofs.fields.has_named.Goals as goal

pub returns-then-is_same_word : goal.returns-then-is_same_word
returns-then-is_same_word c =
    here (is_named c.args.name.now) (header_bytes c.args.bytes.now) c.args.fields.now c.loop-field.field-index blank
    c.loop-field-test.true (rw (← c.of.ensures) (sym c.is_same_word.ensures ∙ c.if-is_same_word.true))

pub loop-field-preserved : goal.loop-field-preserved
loop-field-preserved c =
    not_here (is_named c.args.name.now) (header_bytes c.args.bytes.now) c.args.fields.now c.loop-field.field-index blank
    c.loop-field-test.true c.loop-field.invariant (rw (← c.of.ensures) (sym c.is_same_word.ensures ∙ c.if-is_same_word.false))

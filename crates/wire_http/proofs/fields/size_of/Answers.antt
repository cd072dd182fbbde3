use Rattle.std.proofs.Common.{rules, ◌≡◌, sym, ◌∙◌}
use Rattle.wire_http.proofs.FieldLaws.{is_text, is_length_of, not_read}
use Rattle.wire_http.proofs.fields.size_of.Goals as goal

pub returns-in_default-2 : goal.returns-in_default-2
returns-in_default-2 c =
    let l = is_length_of c.args.text.now c.requires (sym c.is_empty.ensures ∙ c.if-is_empty.false) in
    let same : c.in-Ok.word.now ≡ c.args.text.now = c.in-Ok.ensures.cases.0 in
    not_read c.args.text.now c.in_default.field-0 l (rw same at c.in_default.ensures.value.0)

pub returns-in-Err : goal.returns-in-Err
returns-in-Err c =
    let l = is_length_of c.args.text.now c.requires (sym c.is_empty.ensures ∙ c.if-is_empty.false) in
    absurd (c.in-Err.ensures.cases.0 (is_text c.args.text.now l))

pub returns-in-Ok-parse : goal.returns-in-Ok-parse
returns-in-Ok-parse c = search rules

use Rattle.std.proofs.Common.{◌≡◌, ◌<◌, ◌+◌, ◌-◌, ◌∙◌, [], get_or, length, map, ap, sym, arith}
use Rattle.std.proofs.lemmas.Result.{err_from_is_err_and}
use Rattle.std.proofs.lemmas.List.{get_or-map, length-map}
use Rattle.csv.specs.Records.{fields_of}
use Rattle.exam_text.proofs.Firsts.{each_fails_or}
use Rattle.bank_reader.specs.Reading.{item_at, items_at}
use Rattle.bank_reader.specs.declared.fault.ReadFault.TheVariants.{Memory}
use Rattle.bank_reader.proofs.item.items_in.Goals as goal

pub returns-in_err-item_in : goal.returns-in_err-item_in
unfolding items_at
returns-in_err-item_in c =
    let p = err_from_is_err_and c.from_residual.result c.from_residual.ensures.1 in
    let rows = c.args.rows.now in
    let i = c.loop-i.i in
    let lt : i < length rows - 1 = omega (arith, c.loop-i-test.true) in
    let read : get_or (map fields_of rows) (i + 1) [] ≡ fields_of c.index-rows-i.result = get_or-map fields_of rows (i + 1) c.index-rows-i.result [] (omega arith) ∙ ap fields_of (sym c.index-rows-i.is) in
    rw (p.1, p.2) (each_fails_or Memory (length (map fields_of rows) - 1) i (λ i. item_at c.args.shape.now (i + 1) (get_or (map fields_of rows) (i + 1) [])) c.loop-i.items.items c.in_err-item_in.field-0.0 c.loop-i.invariant (rw length-map lt) (rw read c.in_err-item_in.ensures))

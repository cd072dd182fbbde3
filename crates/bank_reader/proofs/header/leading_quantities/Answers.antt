use Rattle.std.proofs.Common.{◌≡◌, ◌+◌, ◌∙◌, ℕ, List, false, sym, ap}
use Rattle.std.specs.Str.{bytes_eq}
use Rattle.csv.specs.Records.{fields_of}
use Rattle.bank_reader.specs.Columns.{quantity_name}
use Rattle.bank_reader.specs.Reading.{is_named, leading_quantities}
use Rattle.bank_reader.proofs.Leads.{lead_stops}
use Rattle.bank_reader.proofs.header.leading_quantities.Goals as goal

pub returns-then-not-is_numbered-clause-value : goal.returns-then-not-is_numbered-clause-value
unfolding leading_quantities
returns-then-not-is_numbered-clause-value c =
    let k = c.loop-k.k in
    let here : is_named (fields_of c.args.row.now) (3 + k) (quantity_name k) ≡ false = ap (λ (x : List ℕ). bytes_eq x (quantity_name k)) (sym c.text_at.ensures) ∙ sym c.if-not-is_numbered.ensures in
    sym (lead_stops c.args.most k (λ k. is_named (fields_of c.args.row.now) (3 + k) (quantity_name k)) c.loop-k.invariant here c.loop-k-test.true)

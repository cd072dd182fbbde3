use Rattle.std.proofs.Common.{◌≡◌, ◌+◌, ◌∙◌, ℕ, List, false, sym, ap}
use Rattle.std.specs.Str.{bytes_eq}
use Rattle.csv.specs.Records.{fields_of}
use Rattle.bank_reader.specs.Columns.{point_name}
use Rattle.bank_reader.specs.Reading.{is_named, leading_points}
use Rattle.bank_reader.proofs.Leads.{lead_stops}
use Rattle.bank_reader.proofs.header.leading_points.Goals as goal

pub returns-then-not-is_numbered-clause-value : goal.returns-then-not-is_numbered-clause-value
unfolding leading_points
returns-then-not-is_numbered-clause-value c =
    let k = c.loop-k.k in
    let here : is_named (fields_of c.args.row.now) (c.args.from + k) (point_name k) ≡ false = ap (λ (x : List ℕ). bytes_eq x (point_name k)) (sym c.text_at.ensures) ∙ sym c.if-not-is_numbered.ensures in
    sym (lead_stops c.args.most k (λ k. is_named (fields_of c.args.row.now) (c.args.from + k) (point_name k)) c.loop-k.invariant here c.loop-k-test.true)

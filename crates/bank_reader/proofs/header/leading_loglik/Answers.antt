use Rattle.std.proofs.Common.{◌≡◌, ◌+◌, ◌∙◌, ◌*◌, ◌/◌, ◌%◌, ℕ, List, false, sym, ap}
use Rattle.std.specs.Str.{bytes_eq}
use Rattle.csv.specs.Records.{fields_of}
use Rattle.bank_reader.specs.Columns.{loglik_name}
use Rattle.bank_reader.specs.Reading.{is_named, leading_loglik}
use Rattle.bank_reader.proofs.Leads.{lead_stops}
use Rattle.bank_reader.proofs.header.leading_loglik.Goals as goal

pub returns-then-not-is_numbered-clause-value : goal.returns-then-not-is_numbered-clause-value
unfolding leading_loglik
returns-then-not-is_numbered-clause-value c =
    let k = c.loop-k.k in
    let here : is_named (fields_of c.args.row.now) (c.args.from + k) (loglik_name (k / c.args.grid) (k % c.args.grid)) ≡ false = ap (λ (x : List ℕ). bytes_eq x (loglik_name (k / c.args.grid) (k % c.args.grid))) (sym c.text_at.ensures) ∙ sym c.if-not-is_numbered.ensures in
    sym (lead_stops (5 * c.args.grid) k (λ k. is_named (fields_of c.args.row.now) (c.args.from + k) (loglik_name (k / c.args.grid) (k % c.args.grid))) c.loop-k.invariant here c.loop-k-test.true)

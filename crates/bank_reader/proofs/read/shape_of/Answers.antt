use Rattle.std.proofs.Common.{◌≡◌, ◌∙◌, [], List, map, get_or, Err, refl, sym, ap, inr}
use Rattle.std.proofs.lemmas.Bool.{eqb-true}
use Rattle.std.proofs.lemmas.List.{nil_from_length}
use Rattle.csv.specs.Records.{Row, fields_of}
use Rattle.bank_reader.specs.Reading.{header_of}
use Rattle.bank_reader.specs.declared.fault.ReadFault.TheVariants.{Header}
use Rattle.bank_reader.proofs.read.shape_of.Goals as goal

no_columns : header_of [] ≡ Err (Header 0)
unfolding header_of
no_columns = refl

pub returns-then-is_empty-clause-value : goal.returns-then-is_empty-clause-value
returns-then-is_empty-clause-value c =
    let none : c.args.rows.now ≡ [] = nil_from_length c.args.rows.now (eqb-true _ _ (sym c.if-is_empty.ensures)) in
    inr (ap (λ (rows : List Row). header_of (get_or (map fields_of rows) 0 [])) none ∙ no_columns)

use Rattle.std.proofs.Common.{List, ℕ, refl, sym, subst}
use Rattle.bank_reader.specs.Grammar.{IsBankText}
use Rattle.exam_drill.proofs.reading.bank_of.Goals as goal

pub fault_of-requires : goal.fault_of-requires
fault_of-requires c =
    let text = c.requires.1 in
    c.in-Err.ensures.only refl c.requires.0 (subst (λ (bytes : List ℕ). IsBankText bytes c.requires.0) (sym c.of-source.ensures.left) text)

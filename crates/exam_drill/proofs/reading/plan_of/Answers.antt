use Rattle.std.proofs.Common.{List, ℕ, refl, sym, subst, ◌≤◌, length}
use Rattle.spec_reader.specs.Reading.{IsPlanText, most_bytes}
use Rattle.exam_drill.proofs.reading.plan_of.Goals as goal

pub fault_of_plan-requires : goal.fault_of_plan-requires
fault_of_plan-requires c =
    let of = c.requires.plan in
    let same = sym c.of-source.ensures.left in
    c.in-Err.ensures.only refl (subst (λ (bytes : List ℕ). length bytes ≤ most_bytes) same c.requires.short)
    of.0 (subst (λ (bytes : List ℕ). IsPlanText c.args.bank.now bytes of.0) same of.1) of.2

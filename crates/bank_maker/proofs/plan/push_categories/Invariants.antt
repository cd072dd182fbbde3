use Rattle.std.proofs.Common.{◌≡◌, ◌++◌}
use Rattle.std.specs.List.{flat_map, range_with_len}
use Rattle.spec_reader.specs.Canonical.{line_text}
use Rattle.bank_maker.specs.Plans.{category_row}
use Rattle.bank_maker.proofs.plan.push_categories.Given as goal

abbrev pub invariant-loop-category : goal.invariant-loop-category
invariant-loop-category l = l.out.items ≡ l.fn.out.items ++ flat_map (λ c. line_text (category_row c)) (range_with_len 0 l.category)

use Rattle.std.proofs.Common.{◌+◌, arith, refl}
use Rattle.spec_reader.specs.Canonical.{line_text}
use Rattle.bank_maker.specs.Plans.{category_row}
use Rattle.bank_maker.proofs.TextLaws.{step}
use Rattle.bank_maker.proofs.plan.push_categories.Goals as goal

pub loop-category-preserved : goal.loop-category-preserved
loop-category-preserved c = step (λ k. line_text (category_row k)) 0 c.loop-category.category c.loop-category.category (c.loop-category.category + 1) c.args.out.now.items c.loop-category.out.items c.push_category.new.out.items (omega arith) refl c.loop-category.invariant c.in_ok-push_category.ensures

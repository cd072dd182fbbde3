use Rattle.std.proofs.Common.{rules}
use Rattle.exam_text.proofs.numbers.is_plain.Goals as goal

pub returns-else-text-ne48 : goal.returns-else-text-ne48
returns-else-text-ne48 c = search rules

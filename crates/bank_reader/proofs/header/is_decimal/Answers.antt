use Rattle.std.proofs.Common.{sym, arith}
use Rattle.exam_text.proofs.Numerals.{tells_some, tells_none}
use Rattle.bank_reader.proofs.header.is_decimal.Goals as goal

pub returns-in-Some : goal.returns-in-Some
returns-in-Some c = tells_some 999 c.args.text.now c.in-Some.n c.args.number (omega arith) c.requires (sym c.in-Some.ensures.value)

pub returns-in-None : goal.returns-in-None
returns-in-None c = tells_none 999 c.args.text.now c.args.number (omega arith) c.requires (sym c.in-None.ensures.value)

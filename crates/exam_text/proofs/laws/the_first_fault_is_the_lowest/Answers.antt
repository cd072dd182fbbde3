use Rattle.exam_text.proofs.Firsts.{first_is, first_from, none_each, none_from}
use Rattle.exam_text.proofs.laws.the_first_fault_is_the_lowest.Goals as goal

pub returns-clause-lowest : goal.returns-clause-lowest
returns-clause-lowest g c = first_is

pub returns-clause-first : goal.returns-clause-first
returns-clause-first g c = first_from

pub returns-clause-none : goal.returns-clause-none
returns-clause-none g c = none_each

pub returns-clause-all : goal.returns-clause-all
returns-clause-all g c = none_from

use Rattle.bank_maker.proofs.ReadPlans.{numbers, is_of_drill, is_short, is_one}
use Rattle.bank_maker.proofs.laws.a_plan_is_read.Goals as goal

pub returns-clause-plan : goal.returns-clause-plan
returns-clause-plan c number sessions some few = (numbers number sessions, is_of_drill number sessions some few)

pub returns-clause-short : goal.returns-clause-short
returns-clause-short c number sessions some few = is_short number sessions some few

pub returns-clause-one : goal.returns-clause-one
returns-clause-one c number sessions p some few text = is_one number sessions some few p text

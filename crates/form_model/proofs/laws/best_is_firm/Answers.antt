use Rattle.form_model.proofs.laws.best_is_firm.Goals as goal

pub returns : goal.returns
returns c = λ P X best. record { form = best.form; exchanges = λ Y form others. best.greatest Y form }

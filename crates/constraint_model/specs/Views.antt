-- What the definitions see of a problem.
use Rattle.std.specs.Option.{option_map}
use Rattle.bank_tables.specs.Items.{has}
use Rattle.form_model.specs.Problem.{Problem}
use Rattle.constraint_model.specs.declared.problem.Problem.{Problem as Given}

abbrev pub problem_of : Given → Problem
problem_of p =
    record {
      bank = p.bank.now;
      plan = p.spec.now;
      session = p.session;
      step = p.step;
      aside = p.aside;
      given = has p.given;
      barred = has p.barred;
      theta = p.theta;
      last = p.last;
      start = option_map has p.start;
    }

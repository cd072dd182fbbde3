-- Below a branch there is the state of the path that the branch makes.
use Rattle.certificate_model.specs.Paths.{with_item, with_stimulus}
use Rattle.constraint_model.specs.Views.{problem_of}
use Rattle.search_paths.proofs.paths.below.Goals as goal

pub returns-then-has : goal.returns-then-has
returns-then-has c =
    record {
      path = with_item c.requires.cut.path c.in-BranchItem.item c.args.first;
      is = c.with_item.ensures c.requires.cut.path c.requires.cut.is;
    }

pub returns-then-has-2 : goal.returns-then-has-2
returns-then-has-2 c =
    record {
      path = with_stimulus (problem_of c.args.problem.now) c.requires.cut.path c.in-BranchStimulus.stimulus c.args.first;
      is = c.with_stimulus.ensures c.requires.cut.path c.requires.cut.is;
    }

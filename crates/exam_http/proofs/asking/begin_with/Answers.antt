use Rattle.exam_http.proofs.ListLaws.{without_list}
use Rattle.exam_http.proofs.asking.begin_with.Goals as goal

pub returns-in-None : goal.returns-in-None
returns-in-None c list are = without_list c.args.booking c.args.items list are c.in-None.ensures.lowest

use Rattle.exam_edge.proofs.PlainLaws.{plain_from_fresh, clean_done}
use Rattle.exam_edge.proofs.laws.nothing_is_suspect_where_no_sync_failed.Goals as goal

pub returns-clause-plain : goal.returns-clause-plain
returns-clause-plain c = plain_from_fresh

pub returns-clause-clean : goal.returns-clause-clean
returns-clause-clean c = clean_done

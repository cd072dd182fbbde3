use Rattle.std.specs.Option.{option_copied}
use Rattle.exam_records.proofs.SecondLaws.{record_len}
use Rattle.exam_records.proofs.writing.push_record.Goals as goal

pub returns-in_err-push_entry-clause-some : goal.returns-in_err-push_entry-clause-some
returns-in_err-push_entry-clause-some c = (record_len (record { entry = c.args.entry.now; tree = option_copied c.args.tree }) c.requires.tree c.requires.bands c.is_record.ensures.tree).0

pub returns-in_err-push_entry-clause-few : goal.returns-in_err-push_entry-clause-few
returns-in_err-push_entry-clause-few c = (record_len (record { entry = c.args.entry.now; tree = option_copied c.args.tree }) c.requires.tree c.requires.bands c.is_record.ensures.tree).1

pub returns-clause-some : goal.returns-clause-some
returns-clause-some c = (record_len (record { entry = c.args.entry.now; tree = option_copied c.args.tree }) c.requires.tree c.requires.bands c.is_record.ensures.tree).0

pub returns-clause-few : goal.returns-clause-few
returns-clause-few c = (record_len (record { entry = c.args.entry.now; tree = option_copied c.args.tree }) c.requires.tree c.requires.bands c.is_record.ensures.tree).1

use Rattle.record_links.proofs.memory.MemoryRecordsRecordLog.record.Goals as goal

pub returns-in-Ok-clause-fits : goal.returns-in-Ok-clause-fits
returns-in-Ok-clause-fits c = c.args.self.now.fit c.args.number c.in-Ok.payload.items c.in-Ok.ensures

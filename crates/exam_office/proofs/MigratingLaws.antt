-- A file that represents a history is migrated, unless it would be too long.
use Rattle.std.proofs.Common.{inl, inr, ◌≤◌, ℕ, List, length}
use Rattle.bank_tables.specs.Tables.{Tables}
use Rattle.form_model.specs.Plan.{Plan}
use Rattle.history_model.specs.declared.entry.Entry.{Entry}
use Rattle.exam_office.specs.declared.fault.OpenFault.{OpenFault}
use Rattle.exam_office.specs.declared.fault.OpenFault.TheVariants.{Journal, Version, BadRecord, BadTree, Illegal, Disk as OfDisk, Memory as OfMemory}
use Rattle.exam_office.specs.declared.migrating.MigrateFault.TheVariants.{Open, Full, Disk, Memory}
use Rattle.exam_office.specs.Files.{Stands}
use Rattle.exam_office.specs.Laws.{MigrateIsComplete}
use Rattle.exam_office.specs.Migrating.{IsFaultOf}
use Rattle.exam_office.proofs.FileLaws.{one_history, standing_is_read}
use Rattle.exam_office.proofs.MigratingEnds.{old_stands}

-- nothing is wrong with it
none_wrong : (b : Tables) (plan : Plan) (H : List Entry) (file : List ℕ) (fault : OpenFault) → Stands b plan H file → length file ≤ plan.journal → IsFaultOf b plan file fault → ⊥
none_wrong b plan H file (Journal f) s within why = elim (standing_is_read b plan H file (Journal f) s within why) [ inl e ↦ absurd (cc) | inr e ↦ absurd (cc) ]
none_wrong b plan H file Version s within why = why
none_wrong b plan H file (BadRecord at f) s within why = elim (standing_is_read b plan H file (BadRecord at f) s within why) [ inl e ↦ absurd (cc) | inr e ↦ absurd (cc) ]
none_wrong b plan H file (BadTree at) s within why = elim (standing_is_read b plan H file (BadTree at) s within why) [ inl e ↦ absurd (cc) | inr e ↦ absurd (cc) ]
none_wrong b plan H file (Illegal at f) s within why = elim (standing_is_read b plan H file (Illegal at f) s within why) [ inl e ↦ absurd (cc) | inr e ↦ absurd (cc) ]
none_wrong b plan H file OfDisk s within why = why
none_wrong b plan H file OfMemory s within why = why

pub migrate_is_complete : MigrateIsComplete
migrate_is_complete b plan H file (Open fault) s within why = none_wrong b plan H file fault s within why
migrate_is_complete b plan H file (Full size) s within why = (why, one_history b plan why.old.H H file (old_stands b plan file why.old) s)
migrate_is_complete b plan H file Disk s within why = tt
migrate_is_complete b plan H file Memory s within why = tt

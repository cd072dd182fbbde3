-- Records in memory, as contracts see them.
use Rattle.std.specs.Prelude.{ℕ, List, map}
use Rattle.record_links.specs.declared.memory.MemoryRecords.{MemoryRecords}

-- the payloads of the records
abbrev pub payloads_of : MemoryRecords → List (List ℕ)
payloads_of records = map (λ payload. payload.items) records.payloads.items

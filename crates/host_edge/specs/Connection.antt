-- A connection that a door keeps.
use Rattle.std.specs.Prelude.{Bool, false, Option, Some, None, not}
use Rattle.host_edge.specs.declared.connection.Connection.{Connection}

-- whether its door serves it further
abbrev pub serves : Option Connection → Bool
serves None = false
serves (Some connection) = not connection.ends

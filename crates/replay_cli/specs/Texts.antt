-- The line of a fault of a script.
use Rattle.std.specs.Prelude.{ℕ, ◌++◌, List, codes}
use Rattle.std.specs.Fmt.{decimal}
use Rattle.exam_text.specs.Texts.{files_failed, no_memory}
use Rattle.replay_cli.specs.declared.script_fault.ScriptFault.{ScriptFault}
use Rattle.replay_cli.specs.declared.script_fault.ScriptFault.TheVariants.{Source, TooLong, Line, Memory}

-- what is printed of a fault
unfoldable pub script_text : ScriptFault → List ℕ
script_text Source = files_failed
script_text TooLong = codes "script: too long\n"
script_text (Line n) = codes "script: line " ++ (decimal n ++ codes "\n")
script_text Memory = no_memory

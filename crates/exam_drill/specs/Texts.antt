-- What is printed of a drill.
use Rattle.std.specs.Prelude.{ℕ, ◌++◌, List, codes}
use Rattle.std.specs.Fmt.{decimal}

-- the number of a drill and its number of sessions
unfoldable pub drill_text : ℕ → ℕ → List ℕ
drill_text number sessions =
    codes "drill " ++ (decimal number ++ (codes " sessions " ++ (decimal sessions ++ codes "\n")))

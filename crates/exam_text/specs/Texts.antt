-- The texts that the readers and the program share.
use Rattle.std.specs.Prelude.{ℕ, List, codes}

-- a file failed
unfoldable pub files_failed : List ℕ
files_failed = codes "files failed\n"

-- out of memory
unfoldable pub no_memory : List ℕ
no_memory = codes "no memory\n"

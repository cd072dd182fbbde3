-- The words that clap read.
use Rattle.std.specs.Prelude.{ℕ, List, [], codes}
use Rattle.std.specs.Option.{option_map, unwrap_or}
use Rattle.clap.specs.declared.parser.matches.Found.{Found}
use Rattle.clap.specs.Matches.{matched_of, raw_values}

-- the values of the one argument; it has no entry if there are none
abbrev pub words_in : Found → List (List ℕ)
words_in found = unwrap_or (option_map raw_values (matched_of found (codes "words"))) []

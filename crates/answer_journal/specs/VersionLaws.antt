-- What counts in a file, and how it goes on.
use Rattle.std.specs.Prelude.{◌≡◌, ℕ, List, [], ◌∷◌, ◌++◌, Some, None}
use Rattle.answer_journal.specs.Frames.{payloads}
use Rattle.answer_journal.specs.Versions.{header, mark, after_mark, counted, contents, second}

-- one payload more counts after those that count, where they are of the second version
abbrev pub CountedGoesOn : Type 0
CountedGoesOn = (version : ℕ) (all ps : List (List ℕ)) (p : List ℕ)
    → counted version all ≡ second ps → counted version (all ++ p ∷ []) ≡ second (ps ++ p ∷ [])

-- after a mark only what follows it counts
abbrev pub MarkCounts : Type 0
MarkCounts = (ps qs : List (List ℕ)) → after_mark ps ≡ None
    → counted 1 (ps ++ mark ∷ qs) ≡ second qs

-- a file that gives payloads by the header of a version has those contents
abbrev pub OneVersion : Type 0
OneVersion = (version : ℕ) (all ps : List (List ℕ)) (file : List ℕ)
    → counted version all ≡ second ps → payloads (header version) file ≡ Some all
    → contents file ≡ Some (second ps)

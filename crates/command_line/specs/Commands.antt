-- What the words of a command line ask for.
use Rattle.std.specs.Prelude.{ℕ, ◌<◌, ◌≤◌, ◌^◌, Bool, IsFalse, IsTrue, ◌||◌, ◌==◌, List, [], ◌∷◌, length, slice_index, Option, Some, None, if◌then◌else◌, bytes_eq, codes}
use Rattle.std.specs.Fmt.{decimal}
use Rattle.std.specs.List.{list_any}
use Rattle.std.specs.Option.{option_map, option_and_then}
use Rattle.exam_text.specs.Numbers.{number_of}
use Rattle.command_line.specs.declared.command.Command.{Command as Asked}
use Rattle.command_line.specs.declared.command.Command.TheVariants.{Check as AskedCheck, Assemble as AskedAssemble, Replay as AskedReplay, Serve as AskedServe, Audit as AskedAudit, Drill as AskedDrill, Migrate as AskedMigrate, Series as AskedSeries, Follow as AskedFollow, Ship as AskedShip}
use Rattle.command_line.specs.Weights.{are_weights}

-- a command, with the names of its files as bytes
pub data Command : Type 0 where
  Check : (bank plan : List ℕ) → Command
  Assemble : (bank plan : List ℕ) → Command
  Replay : (bank plan script : List ℕ) → Command
  Serve : (bank plan : List ℕ) (ahead : Option ℕ) → Command
  Audit : (bank plan : List ℕ) → Command
  Drill : (number sessions : ℕ) → Command
  Migrate : (bank plan : List ℕ) → Command
  Series : (bank plan : List ℕ) (forms : ℕ) (weights : List ℕ) → Command
  Follow : (bank plan : List ℕ) → Command
  Ship : (bank plan : List ℕ) → Command

-- a word that names nothing: an empty one, or one that begins with a hyphen
abbrev pub is_no_name : List ℕ → Bool
is_no_name word = (length word == 0) || (slice_index word 0 == 45)

-- the sessions of a drill: 1 to 200
abbrev pub sessions_of : List ℕ → Option ℕ
sessions_of word = option_and_then (λ n. if (n == 0) then None else Some n) (number_of 200 word)

-- a drill, where its words are numbers of its ranges
unfoldable pub drill_of : List ℕ → List ℕ → Option Command
drill_of number sessions =
    option_and_then (λ n. option_map (λ s. Drill n s) (sessions_of sessions))
    (number_of 4294967295 number)

-- how many forms a series has: 1 to 4
abbrev pub forms_of : List ℕ → Option ℕ
forms_of word = option_and_then (λ n. if (n == 0) then None else Some n) (number_of 4 word)

-- a series, where its words are a number of forms and weights
unfoldable pub series_of : List ℕ → List ℕ → List ℕ → List ℕ → Option Command
series_of bank plan forms weights =
    option_and_then (λ k. if are_weights weights then Some (Series bank plan k weights) else None)
    (forms_of forms)

-- how many prepared forms a server keeps: 1 to 1,024
abbrev pub room_of : List ℕ → Option ℕ
room_of word = option_and_then (λ n. if (n == 0) then None else Some n) (number_of 1024 word)

-- a server that prepares forms, where its word is a number of them
unfoldable pub server_of : List ℕ → List ℕ → List ℕ → Option Command
server_of bank plan ahead = option_map (λ n. Serve bank plan (Some n)) (room_of ahead)

-- the commands of a word and two more words
unfoldable pub of_two : List ℕ → List ℕ → List ℕ → Option Command
of_two word first second =
    if bytes_eq word (codes "check") then Some (Check first second)
    else (if bytes_eq word (codes "assemble") then Some (Assemble first second)
    else (if bytes_eq word (codes "serve") then Some (Serve first second None)
    else (if bytes_eq word (codes "audit") then Some (Audit first second)
    else (if bytes_eq word (codes "drill") then drill_of first second
    else (if bytes_eq word (codes "migrate") then Some (Migrate first second)
    else (if bytes_eq word (codes "follow") then Some (Follow first second)
    else (if bytes_eq word (codes "ship") then Some (Ship first second)
    else None)))))))

-- the commands of a word and three more words
unfoldable pub of_three : List ℕ → List ℕ → List ℕ → List ℕ → Option Command
of_three word bank plan last =
    if bytes_eq word (codes "replay") then Some (Replay bank plan last)
    else (if bytes_eq word (codes "serve") then server_of bank plan last else None)

-- the commands that there are, by their words
unfoldable pub table : List (List ℕ) → Option Command
table (word ∷ first ∷ second ∷ []) = of_two word first second
table (word ∷ bank ∷ plan ∷ last ∷ []) = of_three word bank plan last
table (word ∷ bank ∷ plan ∷ forms ∷ weights ∷ []) =
    if bytes_eq word (codes "series") then series_of bank plan forms weights else None
table words = None

-- the command that the words ask for, where they do
unfoldable pub command_of : List (List ℕ) → Option Command
command_of words = if list_any is_no_name words then None else table words

-- a command of the code, as a command with the names of its files as bytes
abbrev pub said : Asked → Command
said (AskedCheck bank plan) = Check bank.now plan.now
said (AskedAssemble bank plan) = Assemble bank.now plan.now
said (AskedReplay bank plan script) = Replay bank.now plan.now script.now
said (AskedServe bank plan ahead) = Serve bank.now plan.now ahead
said (AskedAudit bank plan) = Audit bank.now plan.now
said (AskedDrill number sessions) = Drill number sessions
said (AskedMigrate bank plan) = Migrate bank.now plan.now
said (AskedSeries bank plan forms weights) = Series bank.now plan.now forms weights.now
said (AskedFollow bank plan) = Follow bank.now plan.now
said (AskedShip bank plan) = Ship bank.now plan.now

-- the words that ask for it
abbrev pub words_of : Command → List (List ℕ)
words_of (Check bank plan) = codes "check" ∷ bank ∷ plan ∷ []
words_of (Assemble bank plan) = codes "assemble" ∷ bank ∷ plan ∷ []
words_of (Replay bank plan script) = codes "replay" ∷ bank ∷ plan ∷ script ∷ []
words_of (Serve bank plan None) = codes "serve" ∷ bank ∷ plan ∷ []
words_of (Serve bank plan (Some ahead)) = codes "serve" ∷ bank ∷ plan ∷ decimal ahead ∷ []
words_of (Audit bank plan) = codes "audit" ∷ bank ∷ plan ∷ []
words_of (Drill number sessions) = codes "drill" ∷ decimal number ∷ decimal sessions ∷ []
words_of (Migrate bank plan) = codes "migrate" ∷ bank ∷ plan ∷ []
words_of (Series bank plan forms weights) =
    codes "series" ∷ bank ∷ plan ∷ decimal forms ∷ weights ∷ []
words_of (Follow bank plan) = codes "follow" ∷ bank ∷ plan ∷ []
words_of (Ship bank plan) = codes "ship" ∷ bank ∷ plan ∷ []

-- words may name its files, and its numbers are in their ranges
abbrev pub IsCommand : Command → Type 0
IsCommand (Check bank plan) = IsFalse (is_no_name bank) × IsFalse (is_no_name plan)
IsCommand (Assemble bank plan) = IsFalse (is_no_name bank) × IsFalse (is_no_name plan)
IsCommand (Replay bank plan script) =
    IsFalse (is_no_name bank) × IsFalse (is_no_name plan) × IsFalse (is_no_name script)
IsCommand (Serve bank plan None) = IsFalse (is_no_name bank) × IsFalse (is_no_name plan)
IsCommand (Serve bank plan (Some ahead)) = IsFalse (is_no_name bank)
    × IsFalse (is_no_name plan) × (0 < ahead) × (ahead ≤ 1024)
IsCommand (Audit bank plan) = IsFalse (is_no_name bank) × IsFalse (is_no_name plan)
IsCommand (Drill number sessions) = (number < 2 ^ 32) × (0 < sessions) × (sessions ≤ 200)
IsCommand (Migrate bank plan) = IsFalse (is_no_name bank) × IsFalse (is_no_name plan)
IsCommand (Series bank plan forms weights) = IsFalse (is_no_name bank)
    × IsFalse (is_no_name plan) × (0 < forms) × (forms ≤ 4) × IsTrue (are_weights weights)
IsCommand (Follow bank plan) = IsFalse (is_no_name bank) × IsFalse (is_no_name plan)
IsCommand (Ship bank plan) = IsFalse (is_no_name bank) × IsFalse (is_no_name plan)

-- the names of the bank and the plan that it reads; a drill reads no file
abbrev pub files_of : Command → Option (List ℕ × List ℕ)
files_of (Check bank plan) = Some (bank, plan)
files_of (Assemble bank plan) = Some (bank, plan)
files_of (Replay bank plan script) = Some (bank, plan)
files_of (Serve bank plan ahead) = Some (bank, plan)
files_of (Audit bank plan) = Some (bank, plan)
files_of (Drill number sessions) = None
files_of (Migrate bank plan) = Some (bank, plan)
files_of (Series bank plan forms weights) = Some (bank, plan)
files_of (Follow bank plan) = Some (bank, plan)
files_of (Ship bank plan) = Some (bank, plan)

-- it is a replay
abbrev pub IsReplay : Command → Type 0
IsReplay (Check bank plan) = ⊥
IsReplay (Assemble bank plan) = ⊥
IsReplay (Replay bank plan script) = Unit {0}
IsReplay (Serve bank plan ahead) = ⊥
IsReplay (Audit bank plan) = ⊥
IsReplay (Drill number sessions) = ⊥
IsReplay (Migrate bank plan) = ⊥
IsReplay (Series bank plan forms weights) = ⊥
IsReplay (Follow bank plan) = ⊥
IsReplay (Ship bank plan) = ⊥

-- the words ask for one
abbrev pub IsOfReplay : Option Command → Type 0
IsOfReplay (Some command) = IsReplay command
IsOfReplay None = ⊥

-- it serves connections
abbrev pub IsServe : Command → Type 0
IsServe (Check bank plan) = ⊥
IsServe (Assemble bank plan) = ⊥
IsServe (Replay bank plan script) = ⊥
IsServe (Serve bank plan ahead) = Unit {0}
IsServe (Audit bank plan) = ⊥
IsServe (Drill number sessions) = ⊥
IsServe (Migrate bank plan) = ⊥
IsServe (Series bank plan forms weights) = ⊥
IsServe (Follow bank plan) = ⊥
IsServe (Ship bank plan) = ⊥

-- the words ask for that
abbrev pub IsOfServe : Option Command → Type 0
IsOfServe (Some command) = IsServe command
IsOfServe None = ⊥

-- it follows or ships records, over links
abbrev pub IsLinked : Command → Type 0
IsLinked (Check bank plan) = ⊥
IsLinked (Assemble bank plan) = ⊥
IsLinked (Replay bank plan script) = ⊥
IsLinked (Serve bank plan ahead) = ⊥
IsLinked (Audit bank plan) = ⊥
IsLinked (Drill number sessions) = ⊥
IsLinked (Migrate bank plan) = ⊥
IsLinked (Series bank plan forms weights) = ⊥
IsLinked (Follow bank plan) = Unit {0}
IsLinked (Ship bank plan) = Unit {0}

-- the words ask for that
abbrev pub IsOfLinked : Option Command → Type 0
IsOfLinked (Some command) = IsLinked command
IsOfLinked None = ⊥

-- it takes links of the doors: to serve, to follow or to ship
abbrev pub UsesDoors : Command → Type 0
UsesDoors (Check bank plan) = ⊥
UsesDoors (Assemble bank plan) = ⊥
UsesDoors (Replay bank plan script) = ⊥
UsesDoors (Serve bank plan ahead) = Unit {0}
UsesDoors (Audit bank plan) = ⊥
UsesDoors (Drill number sessions) = ⊥
UsesDoors (Migrate bank plan) = ⊥
UsesDoors (Series bank plan forms weights) = ⊥
UsesDoors (Follow bank plan) = Unit {0}
UsesDoors (Ship bank plan) = Unit {0}

-- the words ask for that
abbrev pub IsOfDoors : Option Command → Type 0
IsOfDoors (Some command) = UsesDoors command
IsOfDoors None = ⊥

-- it opens the journal
abbrev pub HasJournal : Command → Type 0
HasJournal (Check bank plan) = ⊥
HasJournal (Assemble bank plan) = ⊥
HasJournal (Replay bank plan script) = Unit {0}
HasJournal (Serve bank plan ahead) = Unit {0}
HasJournal (Audit bank plan) = Unit {0}
HasJournal (Drill number sessions) = ⊥
HasJournal (Migrate bank plan) = Unit {0}
HasJournal (Series bank plan forms weights) = ⊥
HasJournal (Follow bank plan) = Unit {0}
HasJournal (Ship bank plan) = Unit {0}

-- the words ask for that
abbrev pub IsOfJournal : Option Command → Type 0
IsOfJournal (Some command) = HasJournal command
IsOfJournal None = ⊥

-- its numbers are in their ranges
abbrev pub IsInRange : Command → Type 0
IsInRange (Drill number sessions) = (number ≤ 4294967295) × ((1 ≤ sessions) × (sessions ≤ 200))
IsInRange (Check bank plan) = Unit {0}
IsInRange (Assemble bank plan) = Unit {0}
IsInRange (Replay bank plan script) = Unit {0}
IsInRange (Serve bank plan None) = Unit {0}
IsInRange (Serve bank plan (Some ahead)) = (1 ≤ ahead) × (ahead ≤ 1024)
IsInRange (Audit bank plan) = Unit {0}
IsInRange (Migrate bank plan) = Unit {0}
IsInRange (Series bank plan forms weights) =
    (1 ≤ forms) × ((forms ≤ 4) × IsTrue (are_weights weights))
IsInRange (Follow bank plan) = Unit {0}
IsInRange (Ship bank plan) = Unit {0}

abbrev pub AreInRange : Option Command → Type 0
AreInRange (Some command) = IsInRange command
AreInRange None = Unit {0}

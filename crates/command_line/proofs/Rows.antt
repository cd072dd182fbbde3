-- The definition, computed on command lines.
use Rattle.std.proofs.Common.{◌≡◌, ℕ, List, [], ◌∷◌, Some, None, refl, codes}
use Rattle.exam_text.specs.Numbers.{number_of}
use Rattle.command_line.specs.Commands.{Check, Assemble, Replay, Serve, Audit, Drill, Migrate, Series, Follow, Ship, command_of, table, of_two, drill_of, series_of, server_of, of_three}
use Rattle.command_line.specs.Weights.{weights_of}

-- ---- the words of the table
a_check : command_of (codes "check" ∷ codes "b" ∷ codes "p" ∷ []) ≡ Some (Check (codes "b") (codes "p"))
unfolding command_of table of_two
a_check = refl

an_assembly : command_of (codes "assemble" ∷ codes "b" ∷ codes "p" ∷ []) ≡ Some (Assemble (codes "b") (codes "p"))
unfolding command_of table of_two
an_assembly = refl

a_replay : command_of (codes "replay" ∷ codes "b" ∷ codes "p" ∷ codes "s" ∷ []) ≡ Some (Replay (codes "b") (codes "p") (codes "s"))
unfolding command_of table of_three
a_replay = refl

a_server : command_of (codes "serve" ∷ codes "b" ∷ codes "p" ∷ []) ≡ Some (Serve (codes "b") (codes "p") None)
unfolding command_of table of_two
a_server = refl

a_server_with_room : command_of (codes "serve" ∷ codes "b" ∷ codes "p" ∷ codes "256" ∷ []) ≡ Some (Serve (codes "b") (codes "p") (Some 256))
unfolding command_of table of_three server_of number_of
a_server_with_room = refl

the_most_room : command_of (codes "serve" ∷ codes "b" ∷ codes "p" ∷ codes "1024" ∷ []) ≡ Some (Serve (codes "b") (codes "p") (Some 1024))
unfolding command_of table of_three server_of number_of
the_most_room = refl

an_audit : command_of (codes "audit" ∷ codes "b" ∷ codes "p" ∷ []) ≡ Some (Audit (codes "b") (codes "p"))
unfolding command_of table of_two
an_audit = refl

a_migration : command_of (codes "migrate" ∷ codes "b" ∷ codes "p" ∷ []) ≡ Some (Migrate (codes "b") (codes "p"))
unfolding command_of table of_two
a_migration = refl

a_series : command_of (codes "series" ∷ codes "b" ∷ codes "p" ∷ codes "2" ∷ codes "0,1,1000" ∷ []) ≡ Some (Series (codes "b") (codes "p") 2 (codes "0,1,1000"))
unfolding command_of table series_of number_of
a_series = refl

its_weights : weights_of (codes "0,1,1000") ≡ 0 ∷ 1 ∷ 1000 ∷ []
unfolding number_of
its_weights = refl

a_follower : command_of (codes "follow" ∷ codes "b" ∷ codes "p" ∷ []) ≡ Some (Follow (codes "b") (codes "p"))
unfolding command_of table of_two
a_follower = refl

a_shipper : command_of (codes "ship" ∷ codes "b" ∷ codes "p" ∷ []) ≡ Some (Ship (codes "b") (codes "p"))
unfolding command_of table of_two
a_shipper = refl

a_drill : command_of (codes "drill" ∷ codes "7" ∷ codes "2" ∷ []) ≡ Some (Drill 7 2)
unfolding command_of table of_two drill_of number_of
a_drill = refl

the_greatest : command_of (codes "drill" ∷ codes "4294967295" ∷ codes "200" ∷ []) ≡ Some (Drill 4294967295 200)
unfolding command_of table of_two drill_of number_of
the_greatest = refl

the_least : command_of (codes "drill" ∷ codes "0" ∷ codes "1" ∷ []) ≡ Some (Drill 0 1)
unfolding command_of table of_two drill_of number_of
the_least = refl

-- ---- others
no_words : command_of [] ≡ None
unfolding command_of table
no_words = refl

help : command_of (codes "help" ∷ []) ≡ None
unfolding command_of table
help = refl

too_few : command_of (codes "replay" ∷ codes "b" ∷ codes "p" ∷ []) ≡ None
unfolding command_of table of_two
too_few = refl

too_many : command_of (codes "check" ∷ codes "b" ∷ codes "p" ∷ codes "s" ∷ []) ≡ None
unfolding command_of table of_three
too_many = refl

an_empty_word : command_of (codes "check" ∷ [] ∷ codes "p" ∷ []) ≡ None
unfolding command_of
an_empty_word = refl

a_hyphen : command_of (codes "check" ∷ codes "b" ∷ codes "-p" ∷ []) ≡ None
unfolding command_of
a_hyphen = refl

-- ---- drills out of range, and numbers that are not plain
abbrev NoDrill : List (List ℕ) → Type 0
NoDrill words = command_of (codes "drill" ∷ words) ≡ None

too_many_sessions : NoDrill (codes "7" ∷ codes "201" ∷ [])
unfolding command_of table of_two drill_of number_of
too_many_sessions = refl

no_sessions : NoDrill (codes "7" ∷ codes "0" ∷ [])
unfolding command_of table of_two drill_of number_of
no_sessions = refl

too_great : NoDrill (codes "4294967296" ∷ codes "2" ∷ [])
unfolding command_of table of_two drill_of number_of
too_great = refl

a_leading_zero : NoDrill (codes "07" ∷ codes "2" ∷ [])
unfolding command_of table of_two drill_of number_of
a_leading_zero = refl

a_sign : NoDrill (codes "+7" ∷ codes "2" ∷ [])
unfolding command_of table of_two drill_of number_of
a_sign = refl

-- ---- servers with no room, with too much, and with no number
abbrev NoServer : List ℕ → Type 0
NoServer ahead = command_of (codes "serve" ∷ codes "b" ∷ codes "p" ∷ ahead ∷ []) ≡ None

no_room : NoServer (codes "0")
unfolding command_of table of_three server_of number_of
no_room = refl

too_much_room : NoServer (codes "1025")
unfolding command_of table of_three server_of number_of
too_much_room = refl

room_of_no_number : NoServer (codes "many")
unfolding command_of table of_three server_of number_of
room_of_no_number = refl

-- ---- series of no number of forms, and words that are no weights
abbrev NoSeries : List ℕ → List ℕ → Type 0
NoSeries forms weights = command_of (codes "series" ∷ codes "b" ∷ codes "p" ∷ forms ∷ weights ∷ []) ≡ None

no_forms : NoSeries (codes "0") (codes "1")
unfolding command_of table series_of number_of
no_forms = refl

five_forms : NoSeries (codes "5") (codes "1")
unfolding command_of table series_of number_of
five_forms = refl

too_heavy : NoSeries (codes "2") (codes "0,1001,0")
unfolding command_of table series_of number_of
too_heavy = refl

a_weight_missing : NoSeries (codes "2") (codes "0,,1")
unfolding command_of table series_of number_of
a_weight_missing = refl

a_comma_at_the_end : NoSeries (codes "2") (codes "0,1,")
unfolding command_of table series_of number_of
a_comma_at_the_end = refl

a_zero_in_front : NoSeries (codes "2") (codes "01")
unfolding command_of table series_of number_of
a_zero_in_front = refl

-- The texts of the statuses, of a bank, of forms and of an audit.
use Rattle.std.specs.Prelude.{ℕ, ◌++◌, List, [], Bool, codes, length, nat_lt, if◌then◌else◌}
use Rattle.std.specs.Fmt.{decimal}
use Rattle.hex.specs.Hex.{encode_lower}
use Rattle.bank_tables.specs.Items.{has}
use Rattle.bank_tables.specs.Tables.{Tables, size}
use Rattle.form_model.specs.Plan.{Plan, bands_of}
use Rattle.form_model.specs.Problem.{Problem}
use Rattle.form_model.specs.Forms.{stimuli_of, objective}
use Rattle.certificate_model.specs.ProofTrees.{ProofTree}
use Rattle.proof_tree.specs.Spelling.{bytes_of}
use Rattle.exam_text.specs.Texts.{no_memory}
use Rattle.exam_lines.specs.Texts.{summary_text, bands_text}
use Rattle.form_lines.specs.Texts.{items_text, mark_text}
use Rattle.history_model.specs.declared.request.Exposure.{Exposure}
use Rattle.history_model.specs.declared.request.Reply.TheVariants.{Exposure as Exposed}
use Rattle.history_model.specs.declared.summary.Summary.{Summary}
use Rattle.replay_cli.specs.Replies.{line_of}
use Rattle.answer_journal.specs.declared.open_fault.OpenFault.TheVariants.{TooLong, Header, Version as OfVersion, Length, Cut, Disk as OfDisk, Memory as OfMemory}
use Rattle.exam_office.specs.declared.fault.OpenFault.{OpenFault}
use Rattle.exam_office.specs.declared.fault.OpenFault.TheVariants.{Journal, Version, BadRecord, BadTree, Illegal, Disk, Memory}

unfoldable pub usage : List ℕ
usage = codes "usage: shadowd check BANK PLAN | assemble BANK PLAN | replay BANK PLAN SCRIPT | serve BANK PLAN [AHEAD] | audit BANK PLAN | drill NUMBER SESSIONS | migrate BANK PLAN | series BANK PLAN K WEIGHTS | follow BANK PLAN | ship BANK PLAN\n"

unfoldable pub disk_failed : List ℕ
disk_failed = codes "disk failed\n"

unfoldable pub door_failed : List ℕ
door_failed = codes "door failed\n"

-- what is wrong with the journal's file, its version among that, with the place of the record's
-- gate
unfoldable pub journal_text : OpenFault → List ℕ
journal_text (Journal (TooLong size)) = codes "journal: too long " ++ (decimal size ++ codes "\n")
journal_text (Journal Header) = codes "journal: header\n"
journal_text (Journal (Length at)) = codes "journal: length at " ++ (decimal at ++ codes "\n")
journal_text (Journal (Cut at)) = codes "journal: cut at " ++ (decimal at ++ codes "\n")
journal_text (Journal OfVersion) = codes "journal: version\n"
journal_text Version = codes "journal: version\n"
journal_text (BadRecord at fault) = codes "journal: record at " ++ (decimal at ++ codes "\n")
journal_text (Illegal at reason) = codes "journal: illegal at " ++ (decimal at ++ codes "\n")
journal_text (BadTree at) = codes "journal: bad tree at " ++ (decimal at ++ codes "\n")
journal_text (Journal OfDisk) = disk_failed
journal_text (Journal OfMemory) = no_memory
journal_text Disk = disk_failed
journal_text Memory = no_memory

-- the number of sessions is the plan's limit
unfoldable pub sessions_limit : ℕ → ℕ → List ℕ
sessions_limit count most =
    codes "limit sessions " ++ (decimal count ++ (codes " of " ++ (decimal most ++ codes "\n")))

-- the length that the journal would have is above the plan's limit
unfoldable pub journal_limit : ℕ → ℕ → List ℕ
journal_limit size most =
    codes "limit journal " ++ (decimal size ++ (codes " of " ++ (decimal most ++ codes "\n")))

-- a tree as it is printed: its bytes in lower-case hexadecimal, and the end of the line
unfoldable pub tree_text : ProofTree → List ℕ
tree_text T = encode_lower (bytes_of T) ++ codes "\n"

-- no set of items is a form of the whole problem: the tree shows it
unfoldable pub no_form : ProofTree → List ℕ
no_form T = codes "no form " ++ tree_text T

-- no form of the whole problem was found within the base budget: the tree spends it
unfoldable pub no_base_form : ℕ → ProofTree → List ℕ
no_base_form budget T =
    codes "no base form in " ++ (decimal budget ++ (codes " nodes " ++ tree_text T))

-- what was understood of a bank
unfoldable pub bank_line : Tables → List ℕ
bank_line b =
    codes "bank items " ++ (decimal (size b) ++ (codes " grid "
    ++ (decimal b.grid ++ (codes " quantities " ++ (decimal b.quantities
    ++ (codes " stimuli " ++ (decimal (stimuli_of b) ++ codes "\n")))))))

-- the line of a form's objective, with its mark and the number of the tree's nodes
unfoldable pub objective_line : ℕ → Bool → ℕ → List ℕ
objective_line value proved nodes = codes "objective " ++ (decimal value
    ++ (codes " " ++ (mark_text proved ++ (codes " nodes " ++ (decimal nodes ++ codes "\n")))))

-- a form that was found: its items, its objective, and the tree
unfoldable pub form_text : Problem → List ℕ → Bool → ProofTree → List ℕ
form_text P form proved T =
    codes "form" ++ (items_text (size P.bank) (has form)
    ++ (codes "\n" ++ (objective_line (objective P (has form)) proved (length T.nodes)
    ++ (codes "tree " ++ tree_text T))))

-- the lines of each band of a plan that has more than one; of one band none
abbrev pub bands_part : Plan → List Exposure → List ℕ
bands_part plan bands = if nat_lt 1 (bands_of plan) then bands_text bands else []

-- what an audit finds: the numbers of the history, its exposure counts, and those of each band
unfoldable pub audit_text : Plan → Summary → Exposure → List Exposure → List ℕ
audit_text plan total exposure bands =
    summary_text total ++ line_of (Exposed exposure) ++ bands_part plan bands

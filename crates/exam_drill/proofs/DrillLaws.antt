-- What the parts of a drill give together.
use Rattle.std.proofs.Common.{◌≡◌, ◌∙◌, ℕ, ◌+◌, ◌*◌, ◌≤◌, List, [], ◌∷◌, ◌++◌, length, map, Option, Some, None, Result, Ok, Err, IfErr, refl, ap, subst, sym, arith}
use Rattle.std.proofs.lemmas.List.{map-append}
use Rattle.std.specs.List.{AllByRecursion}
use Rattle.std.specs.Option.{option_map}
use Rattle.bank_tables.specs.Items.{Set, has}
use Rattle.bank_tables.specs.Tables.{Tables}
use Rattle.bank_reader.specs.Grammar.{IsBankText}
use Rattle.bank_reader.proofs.BankLaws.{one_bank}
use Rattle.form_model.specs.Plan.{Plan}
use Rattle.form_model.specs.Validity.{IsPlanFor}
use Rattle.spec_reader.specs.Plans.{SaidPlan, plan_said}
use Rattle.spec_reader.specs.Reading.{IsPlanText}
use Rattle.history_model.specs.declared.entry.Entry.{Entry}
use Rattle.history_model.specs.declared.request.Request.{Request}
use Rattle.history_model.specs.declared.summary.Summary.{Summary}
use Rattle.history_model.specs.Judging.{Record, empty}
use Rattle.history_model.specs.declared.entry.Entry.TheVariants.{Started, SetAside, Served, Answered, Closed}
use Rattle.exam_records.specs.Shape.{IsRecord}
use Rattle.exam_records.specs.Spelling.{payload_of}
use Rattle.answer_journal.specs.Payload.{end_of}
use Rattle.exam_office.proofs.Opened.{end-push}
use Rattle.exam_drill.proofs.LengthLaws.{frames_are_short, journals_are_short}
use Rattle.exam_drill.specs.Drills.{IsDrillFault}
use Rattle.exam_drill.specs.Lengths.{most_of, most_of_session, with_tree, without_tree}
use Rattle.replay_cli.specs.Scripts.{IsScript}
use Rattle.bank_maker.specs.declared.drill.Made.{Made}
use Rattle.bank_maker.specs.Drills.{IsDrill, bank_of_drill, tables_of_drill, plan_of_drill, script_of_drill, requests_of_drill}
use Rattle.bank_maker.specs.Exams.{IsPlanOfDrill}
use Rattle.bank_maker.specs.Items.{items}
use Rattle.bank_maker.specs.Plans.{between, plan}
use Rattle.history_model.specs.Summaries.{summary}
use Rattle.answer_journal.specs.Frames.{payloads}
use Rattle.answer_journal.specs.Versions.{contents, version_of}
use Rattle.exam_office.specs.Files.{IsRecordIn, Stands}
use Rattle.exam_office.specs.Marks.{history}
use Rattle.exam_office.specs.Running.{Running}
use Rattle.exam_office.specs.Writing.{IsSameOffice}
use Rattle.exam_office.proofs.FileLaws.{one_history}
use Rattle.exam_drill.specs.declared.fault.DrillFault.{DrillFault}
use Rattle.exam_drill.specs.declared.fault.DrillFault.TheVariants.{JournalFull, Memory}
use Rattle.exam_drill.specs.Leading.{LeadsTo, IsSummaryOf, IsExamFault, IsStopped}

-- an empty file represents the empty history
empty_stands : (b : Tables) (plan : Plan) → Stands b plan [] []
unfolding contents version_of payloads
empty_stands b plan = record { records = []; are = record { spell = tt; backed = empty; entries = refl }; version = 2; holds = refl }

pub begins_empty : (b : Tables) (plan : Plan) (H : List Entry) (file : List ℕ) → file ≡ [] → Stands b plan H file → H ≡ []
begins_empty b plan H file e stands = one_history b plan H [] [] (subst (λ (bytes : List ℕ). Stands b plan H bytes) e stands) (empty_stands b plan)

-- ---- from the office that was opened
module _ {D : Type 0} (b : Tables) (plan : Plan) (old new : Running D) (is_bank : old.bank ≡ b) (is_plan : old.plan ≡ plan) (first : history old.marks ≡ [])
    (same : IsSameOffice old new) (requests : List Request) where
  given : (P : Tables → Plan → List Entry → Type 0) → P old.bank old.plan (history old.marks) → P b plan []
  given P p = subst (λ (x : Tables). P x plan []) is_bank (subst (λ (y : Plan). P old.bank y []) is_plan (subst (λ (H : List Entry). P old.bank old.plan H) first p))

  pub summed : (s : Summary) → LeadsTo old.bank old.plan (history old.marks) requests (history new.marks) → s ≡ summary new.plan (history new.marks) → IsSummaryOf b plan requests s
  summed s leads is = record {
    H = history new.marks;
    leads = given (λ (x : Tables) (y : Plan) (H : List Entry). LeadsTo x y H requests (history new.marks)) leads;
    is = is ∙ ap (λ (y : Plan). summary y (history new.marks)) (same.plan ∙ is_plan);
  }

  of_stop : (f : DrillFault) → IsStopped b plan [] requests f → IsExamFault b plan requests f
  of_stop (JournalFull size most) s = s
  of_stop Memory s = tt

  pub unsummed : (f : DrillFault) → IsStopped old.bank old.plan (history old.marks) requests f → IsExamFault b plan requests f
  unsummed f s = of_stop f (given (λ (x : Tables) (y : Plan) (H : List Entry). IsStopped x y H requests f) s)

-- ---- from the script that was made
pub script_there : (number sessions : ℕ) (made : Made) → IsDrill number sessions made
    → IsScript (script_of_drill number sessions) (requests_of_drill number sessions) → (requests : List Request) × IsScript made.script.items requests
script_there number sessions made drill is =
    (requests_of_drill number sessions, subst (λ (text : List ℕ). IsScript text (requests_of_drill number sessions)) (sym drill.script) is)

-- ---- from the bank and the plan that were made
module _ (number sessions : ℕ) (made : Made) (drill : IsDrill number sessions made) (b : Tables)
    (described : IsBankText (bank_of_drill number) (tables_of_drill number)) (is_bank : IsBankText made.bank.items b) where
  bank_is : tables_of_drill number ≡ b
  bank_is = one_bank (bank_of_drill number) (tables_of_drill number) b described (subst (λ (text : List ℕ). IsBankText text b) drill.bank is_bank)

  pub plan_there : (p : Plan) × IsPlanOfDrill number sessions p → (p : Plan) × IsPlanText b made.plan.items p × IsPlanFor b p
  plan_there found = (
    found.0,
    subst (λ (x : Tables). IsPlanText x made.plan.items found.0) bank_is (subst (λ (text : List ℕ). IsPlanText (tables_of_drill number) text found.0) (sym drill.plan) found.1.text),
    subst (λ (x : Tables). IsPlanFor x found.0) bank_is found.1.valid,
  )

  pub said_so : (p : Plan) → IsPlanText b made.plan.items p
      → (IsPlanText (tables_of_drill number) (plan_of_drill number sessions) p → plan_said p ≡ plan number sessions (items number)) → plan_said p ≡ plan number sessions (items number)
  said_so p text one = one (subst (λ (x : Tables). IsPlanText x (plan_of_drill number sessions) p) (sym bank_is) (subst (λ (bytes : List ℕ). IsPlanText b bytes p) drill.plan text))

  pub has_base : (p : Plan) → IsPlanText b made.plan.items p
      → (IsPlanText (tables_of_drill number) (plan_of_drill number sessions) p → plan_said p ≡ plan number sessions (items number)) → p.base ≡ None → ⊥
  has_base p text one none =
      let stated : option_map has p.base ≡ Some (between 30 49) = ap (λ (said : SaidPlan). said.base) (said_so p text one) in
      let lost : option_map has p.base ≡ None = ap (λ (words : Option (List ℕ)). option_map has words) none in
      apart (option_map has p.base) stated lost
    where
      apart : (o : Option Set) → o ≡ Some (between 30 49) → o ≡ None → ⊥
      apart o some none = cc

-- ---- the journal of a drill has room for each record
pub if_err : {A E : Type 0} (P Q : E → Type 0) (r : Result A E) → ((e : E) → P e → Q e) → IfErr r P → IfErr r Q
if_err P Q (Ok x) leads is = is
if_err P Q (Err e) leads is = leads e is

are_records : (R : List Record) → AllByRecursion (IsRecordIn 2) R → AllByRecursion IsRecord R
are_records [] is = tt
are_records (r ∷ R) is = (is.0.is_record, are_records R is.1)

most_few : (entry : Entry) → most_of entry ≤ 98890
most_few (Started session booking eligible without) = omega arith
most_few (SetAside session step band cause nodes) = omega arith
most_few (Served session step item form proved nodes) = omega arith
most_few (Answered session step response) = omega arith
most_few (Closed session) = omega arith

pub has_room : (number sessions : ℕ) (p : Plan) (b : Tables) (requests : List Request) (f : DrillFault) → sessions ≤ 200
    → plan_said p ≡ plan number sessions (items number) → IsExamFault b p requests f → IsDrillFault f
has_room number sessions p b requests Memory few said stopped = tt
has_room number sessions p b requests (JournalFull size most) few said stopped =
    let t = stopped.cut_short.0 in
    let one_band : p.bands ≡ [] = ap (λ (s : SaidPlan). s.bands) said in
    let items_is : p.length ≡ 20 = ap (λ (s : SaidPlan). s.length) said in
    let sessions_is : p.sessions ≡ sessions = ap (λ (s : SaidPlan). s.sessions) said in
    let journal_is : p.journal ≡ 536870912 = ap (λ (s : SaidPlan). s.journal) said in
    let session_is : most_of_session p ≡ 2091188 = ap (λ (n : ℕ). with_tree * (n + 1) + without_tree * (n + 2)) items_is in
    let all_is : p.sessions * most_of_session p ≡ sessions * 2091188 = ap (λ (n : ℕ). n * most_of_session p) sessions_is ∙ ap (λ (n : ℕ). sessions * n) session_is in
    let short = journals_are_short b p t.records one_band (are_records t.records t.are.spell) t.are.backed in
    let with_last : end_of 8 (map payload_of (t.records ++ t.last ∷ [])) ≡ end_of 8 (map payload_of t.records) + 5 + length (payload_of t.last) =
    ap (end_of 8) (map-append payload_of t.records (t.last ∷ [])) ∙ end-push 8 (map payload_of t.records) (payload_of t.last) in
    omega (arith, short, all_is, journal_is, with_last, frames_are_short t.last t.spells, most_few t.last.entry, t.size_is, t.above, few)

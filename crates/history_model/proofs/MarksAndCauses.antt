-- A form that isn't marked proved, and both causes of setting eligibility aside.
use Rattle.std.proofs.Common.{◌≡◌, inl, true, false, List, [], ◌∷◌, ◌++◌, Some, None, refl, sym}
use Rattle.std.proofs.Math.Bool.{true≢false}
use Rattle.std.proofs.Math.Dec.{lit≤}
use Rattle.bank_tables.specs.Items.{has}
use Rattle.certificate_model.specs.declared.node.Node.TheVariants.{Count, Open}
use Rattle.certificate_model.specs.declared.verdict.Verdict.TheVariants.{NoForm as NoFormVerdict, Partial}
use Rattle.form_model.specs.Problem.{Problem}
use Rattle.form_model.specs.Forms.{Form}
use Rattle.certificate_model.specs.Paths.{root}
use Rattle.certificate_model.specs.Counting.{is_impossible}
use Rattle.certificate_model.specs.ProofTrees.{ProofTree}
use Rattle.form_model.specs.Ability.{IsPosteriorMode}
use Rattle.serving_model.specs.Serving.{IsNext}
use Rattle.serving_model.specs.Seats.{seat_problem}
use Rattle.certificate_model.specs.Spending.{IsSpent}
use Rattle.form_model.proofs.Computed.{one_word, word_below, form_is, mode_is}
use Rattle.serving_model.proofs.Computed.{next_is}
use Rattle.certificate_model.proofs.Computed.{all_possible}
use Rattle.form_model.proofs.BankA.{item_a, bank_a, plan_of_rows, plan_a}
use Rattle.form_model.proofs.BankE.{item_e, bank_e, plan_e}
use Rattle.history_model.proofs.HistoriesOfA.{one_band}
use Rattle.history_model.specs.declared.entry.Cause.TheVariants.{NoForm, Spent}
use Rattle.history_model.specs.declared.entry.Entry.{Entry}
use Rattle.history_model.specs.declared.entry.Entry.TheVariants.{Started, SetAside, Served}
use Rattle.history_model.specs.Entries.{seat_of}
use Rattle.history_model.specs.SessionProblems.{IsProblemOf}
use Rattle.history_model.specs.Judging.{MayFollow}

-- ---- bank E has a node budget of 1: one Open leaf spends it
started_e : List Entry
started_e = Started 0 1 (one_band (one_word 31)) None ∷ []

unfoldable problem_e : Problem
unfolding started_e
problem_e = seat_problem bank_e plan_e 0 (seat_of started_e 0) 0

mode_e : IsPosteriorMode bank_e plan_e.prior [] 0
unfolding bank_e plan_e
mode_e = mode_is bank_e plan_e.prior [] 0 refl

is_problem_e : IsProblemOf bank_e plan_e started_e 0 0 problem_e
unfolding problem_e started_e plan_e
is_problem_e = record { pending = refl; of_seat = record { theta = 0; mode = mode_e; is = refl } }

unfoldable one_open : ProofTree
one_open = record { vectors = []; nodes = Open ∷ [] }

spent_e : IsSpent problem_e one_open 1
unfolding one_open problem_e started_e bank_e item_e plan_e has is_impossible
spent_e = record { nodes = refl; some_open = lit≤ tt; depth_first = tt; unresolved = (record { possible = all_possible problem_e (root problem_e) refl; exceeds = tt }, tt) }

form_e : Form problem_e (has (one_word 9))
unfolding problem_e started_e bank_e item_e plan_e has
form_e = form_is problem_e (has (one_word 9)) (word_below 5 9 refl refl) (λ i e. absurd (true≢false (sym e))) refl

next_e : IsNext problem_e (has (one_word 9)) 0
unfolding problem_e started_e bank_e item_e has
next_e = next_is problem_e (has (one_word 9)) 0 (word_below 5 9 refl refl) refl

-- items 0 and 3 are served from without a proof
may_serve_unproved : MayFollow bank_e plan_e started_e (Served 0 0 0 (one_word 9) false 1) (Some one_open)
unfolding one_open problem_e started_e bank_e item_e plan_e has
may_serve_unproved =
    record {
      problem = problem_e;
      is_problem = is_problem_e;
      is_form = form_e;
      next = next_e;
      shows = record { has_tree = record { number = refl; spent = spent_e }; verdict = Partial 1; has_verdict = inl (form_e, inl (refl, refl)); asked = tt };
    }

-- eligibility is set aside by a spent budget
may_set_aside_spent : MayFollow bank_e plan_e started_e (SetAside 0 0 0 Spent 1) (Some one_open)
unfolding one_open problem_e started_e bank_e item_e plan_e has
may_set_aside_spent =
    record { problem = problem_e; is_problem = is_problem_e; band_is = refl; not_aside = refl; shows = record { has_tree = record { number = refl; spent = spent_e }; verdict = Partial 1; has_verdict = inl (tt, inl (refl, refl)); asked = tt } }

-- ---- on bank A two items are eligible, so no set of three is a form: one Count leaf of the length
started_two : List Entry
started_two = Started 0 1 (one_band (one_word 12)) None ∷ []

unfoldable problem_two : Problem
unfolding started_two
problem_two = seat_problem bank_a plan_a 0 (seat_of started_two 0) 1

mode_a : IsPosteriorMode bank_a plan_a.prior [] 1
unfolding bank_a plan_of_rows plan_a
mode_a = mode_is bank_a plan_a.prior [] 1 refl

is_problem_two : IsProblemOf bank_a plan_a started_two 0 0 problem_two
unfolding problem_two started_two plan_of_rows plan_a
is_problem_two = record { pending = refl; of_seat = record { theta = 1; mode = mode_a; is = refl } }

impossible : is_impossible problem_two (root problem_two) 0 ≡ true
unfolding problem_two started_two bank_a item_a plan_of_rows plan_a is_impossible has
impossible = refl

unfoldable one_leaf : ProofTree
one_leaf = record { vectors = []; nodes = Count 0 ∷ [] }

may_set_aside_no_form : MayFollow bank_a plan_a started_two (SetAside 0 0 0 NoForm 1) (Some one_leaf)
unfolding one_leaf started_two plan_of_rows plan_a problem_two
may_set_aside_no_form =
    record { problem = problem_two; is_problem = is_problem_two; band_is = refl; not_aside = refl; shows = record { has_tree = record { number = refl; spent = tt }; verdict = NoFormVerdict; has_verdict = inl (tt, inl (impossible, refl)); asked = refl } }

-- once it is set aside, nothing is barred
aside_two : List Entry
unfolding started_two
aside_two = started_two ++ SetAside 0 0 0 NoForm 1 ∷ []

not_barred : ((seat_problem bank_a plan_a 0 (seat_of started_two 0) 1).barred 0 ≡ true) × ((seat_problem bank_a plan_a 0 (seat_of aside_two 0) 1).barred 0 ≡ false) × ((seat_problem bank_a plan_a 0 (seat_of aside_two 0) 1).aside ≡ true)
unfolding bank_a item_a started_two aside_two has plan_of_rows plan_a
not_barred = (refl, refl, refl)

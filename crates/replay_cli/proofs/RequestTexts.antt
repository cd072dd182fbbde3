-- The line of a request, put together from its parts.
use Rattle.std.proofs.Common.{◌≡◌, ℕ, List, ◌∷◌, ◌++◌, Some, None, refl, sym, ap, ◌∙◌, append_assoc, codes}
use Rattle.std.proofs.lemmas.List.Folds.{flat_map-map}
use Rattle.std.specs.List.{flat_map}
use Rattle.std.specs.Fmt.{decimal}
use Rattle.bank_tables.specs.Items.{has}
use Rattle.exam_text.specs.Words.{spaced}
use Rattle.exam_text.specs.Runs.{run_word}
use Rattle.history_model.specs.declared.request.Request.TheVariants.{BeginWithout, Answer, Close}
use Rattle.spec_reader.specs.Sets.{runs_of}
use Rattle.spec_reader.specs.Canonical.{set_words}
use Rattle.spec_reader.proofs.PrintLaws.{spaced_flat}
use Rattle.replay_cli.specs.Scripts.{request_line}

-- the runs of the list, each after a space
pub without_text : (booking : ℕ) (items : List ℕ) → (codes "begin " ++ (decimal booking ++ codes " without")) ++ flat_map (λ r. 32 ∷ run_word r) (runs_of (has items)) ≡ request_line (BeginWithout booking items)
without_text booking items =
    let runs : List ℕ = flat_map (λ r. 32 ∷ run_word r) (runs_of (has items)) in
    let list : spaced (codes "without" ∷ set_words (has items)) ≡ codes "without" ++ runs =
    spaced_flat (codes "without") (set_words (has items)) ∙ ap (λ (rest : List ℕ). codes "without" ++ rest) (flat_map-map (λ v. 32 ∷ v) run_word (runs_of (has items))) in
    regroup (codes "begin ") (decimal booking) (codes " without") runs ∙ ap (λ (rest : List ℕ). codes "begin " ++ (decimal booking ++ 32 ∷ rest)) (sym list)
  where
    regroup : (a b c d : List ℕ) → (a ++ (b ++ c)) ++ d ≡ a ++ (b ++ (c ++ d))
    regroup a b c d = simp append_assoc

-- the same, put together from the end
pub list_text : (booking : ℕ) (items : List ℕ) → request_line (BeginWithout booking items) ≡ codes "begin " ++ (decimal booking ++ (codes " without" ++ flat_map (λ r. 32 ∷ run_word r) (runs_of (has items))))
list_text booking items = sym (without_text booking items) ∙ regroup (codes "begin ") (decimal booking) (codes " without") (flat_map (λ r. 32 ∷ run_word r) (runs_of (has items)))
  where
    regroup : (a b c d : List ℕ) → (a ++ (b ++ c)) ++ d ≡ a ++ (b ++ (c ++ d))
    regroup a b c d = simp append_assoc

-- the words of an answer are parted by spaces
pub answer_text : (session step response : ℕ) → codes "answer " ++ (decimal session ++ (codes " " ++ (decimal step ++ (codes " " ++ decimal response)))) ≡ request_line (Answer session step response None)
answer_text session step response = refl

-- the same, with the booking that the answer names
pub named_answer_text : (session step response booking : ℕ) → codes "answer " ++ (decimal session ++ (codes " " ++ (decimal step ++ (codes " " ++ (decimal response ++ (codes " for " ++ decimal booking)))))) ≡ request_line (Answer session step response (Some booking))
named_answer_text session step response booking = refl

-- a closing, with the booking that it names
pub named_close_text : (session booking : ℕ) → codes "close " ++ (decimal session ++ (codes " for " ++ decimal booking)) ≡ request_line (Close session (Some booking))
named_close_text session booking = refl

pub ruleset request_texts = (answer_text, named_answer_text, named_close_text)

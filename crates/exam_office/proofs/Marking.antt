-- Marks after marks.
use Rattle.std.proofs.Common.{◌≡◌, ℕ, ◌+◌, ◌-◌, ◌≤◌, cond, List, [], ◌∷◌, ◌++◌, ◌∙◌, arith}
use Rattle.std.specs.Prelude.{count_by}
use Rattle.std.proofs.lemmas.List.{append-nil}
use Rattle.std.proofs.lemmas.List.Elements.{filter_map-append}
use Rattle.std.proofs.lemmas.List.Sums.{fold_push, sum_by-append}
use Rattle.exam_edge.specs.Faults.{Rose}
use Rattle.history_model.specs.declared.entry.Entry.{Entry}
use Rattle.exam_office.specs.declared.mark.Mark.{Mark}
use Rattle.exam_office.specs.declared.mark.Mark.TheVariants.{Own, Adopted, Fault}
use Rattle.exam_office.specs.Marks.{entry_of, history, size_after, reach, is_fault, AreCounted}

pub history-own : (M : List Mark) (entry : Entry) (size : ℕ) → history (M ++ Own entry size ∷ []) ≡ history M ++ entry ∷ []
history-own M entry size = filter_map-append entry_of M (Own entry size ∷ [])

pub history-adopted : (M : List Mark) (entry : Entry) (size : ℕ) → history (M ++ Adopted entry size ∷ []) ≡ history M ++ entry ∷ []
history-adopted M entry size = filter_map-append entry_of M (Adopted entry size ∷ [])

pub history-fault : (M : List Mark) (entry : Entry) → history (M ++ Fault entry ∷ []) ≡ history M
history-fault M entry = filter_map-append entry_of M (Fault entry ∷ []) ∙ append-nil (history M)

pub reach-push : (M : List Mark) (mark : Mark) → reach (M ++ mark ∷ []) ≡ size_after (reach M) mark
reach-push M mark = fold_push size_after 0 M mark

pub faults-push : (M : List Mark) (mark : Mark) → count_by is_fault (M ++ mark ∷ []) ≡ count_by is_fault M + cond (is_fault mark) 1 0
faults-push M mark = omega (arith, sum_by-append (λ (m : Mark). cond (is_fault m) 1 0) M (mark ∷ []))

module _ (M : List Mark) (before now later : ℕ) (counted : AreCounted M before now) where
  pub counted-own : (entry : Entry) (size : ℕ) → now ≤ later → AreCounted (M ++ Own entry size ∷ []) before later
  counted-own entry size grows = let e : count_by is_fault (M ++ Own entry size ∷ []) ≡ count_by is_fault M + 0 = faults-push M (Own entry size) in omega arith

  pub counted-adopted : (entry : Entry) (size : ℕ) → now ≤ later → AreCounted (M ++ Adopted entry size ∷ []) before later
  counted-adopted entry size grows = let e : count_by is_fault (M ++ Adopted entry size ∷ []) ≡ count_by is_fault M + 0 = faults-push M (Adopted entry size) in omega arith

  pub counted-fault : (entry : Entry) → Rose now later → AreCounted (M ++ Fault entry ∷ []) before later
  counted-fault entry rose = let e : count_by is_fault (M ++ Fault entry ∷ []) ≡ count_by is_fault M + 1 = faults-push M (Fault entry) in omega arith

  pub counted-still : now ≤ later → AreCounted M before later
  counted-still grows = omega arith

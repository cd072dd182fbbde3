-- What is prepared is kept where it was made for the problem that is asked.
use Rattle.std.proofs.Common.{◌≡◌, ℕ, List, Option, Some, None, refl, sym, ap, ◌∙◌, IfSome}
use Rattle.std.specs.Option.{option_map}
use Rattle.bank_tables.specs.Items.{Set, has, AreWords}
use Rattle.bank_tables.proofs.Bits.{same_sets}
use Rattle.form_model.specs.Problem.{Problem as Model}
use Rattle.constraint_model.specs.declared.problem.Problem.{Problem}
use Rattle.constraint_model.specs.Views.{problem_of}
use Rattle.branch_bound.specs.Assembled.{Assembly}
use Rattle.exam_hall.specs.Prepared.{IsSameProblem, HasItemSets, KeepsFor}

some_set : (X Y : Set) → Some X ≡ Some Y → X ≡ Y
some_set X Y e = cc

same_one : (a b : Assembly) → Some a ≡ Some b → a ≡ b
same_one a b e = cc

-- sets with the same members are the same words
same_start : (o p : Option (List ℕ)) → IfSome o AreWords → IfSome p AreWords → option_map has o ≡ option_map has p → o ≡ p
same_start None None a b e = refl
same_start None (Some ys) a b e = absurd cc
same_start (Some xs) None a b e = absurd cc
same_start (Some xs) (Some ys) a b e = ap Some (same_sets xs ys a b (λ i. ap (λ (X : Set). X i) (some_set (has xs) (has ys) e)))

-- so problems that are one for the definitions are the same in all parts
same_parts : (P Q : Problem) → HasItemSets P → HasItemSets Q → problem_of P ≡ problem_of Q → IsSameProblem P Q
same_parts P Q p q e = record {
  session = ap (λ (R : Model). R.session) e;
  step = ap (λ (R : Model). R.step) e;
  aside = ap (λ (R : Model). R.aside) e;
  given = same_sets P.given Q.given p.given q.given (λ i. ap (λ (R : Model). R.given i) e);
  barred = same_sets P.barred Q.barred p.barred q.barred (λ i. ap (λ (R : Model). R.barred i) e);
  theta = ap (λ (R : Model). R.theta) e;
  last = ap (λ (R : Model). R.last) e;
  start = same_start P.start Q.start p.start q.start (ap (λ (R : Model). R.start) e);
}

pub keeps_other : (P : Problem) (prepared : Option Assembly) (a : Assembly) → prepared ≡ Some a → HasItemSets a.problem → HasItemSets P → (IsSameProblem a.problem P → ⊥) → KeepsFor P prepared None
keeps_other P prepared a is sets asked other = λ made given same.
    let one : a ≡ made = same_one a made (sym is ∙ given) in
    absurd (other (same_parts a.problem P sets asked (ap (λ (x : Assembly). problem_of x.problem) one ∙ same)))

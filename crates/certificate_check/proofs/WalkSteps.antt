-- A branch and the walks through its two subtrees make one walk.
use Rattle.std.proofs.Common.{◌≡◌, ℕ, zero, suc, ◌+◌, ◌<◌, List, [], ◌∷◌, length, drop, get_or, Option, Result, Ok, Err, sym, ap, ◌∙◌, arith, add-zero, add-one, drop-cons, inl, inr, refl, ◌≤◌}
use Rattle.bank_tables.specs.Items.{Set}
use Rattle.certificate_model.specs.declared.node.Node.{Node}
use Rattle.certificate_model.specs.declared.node.Node.TheVariants.{Open}
use Rattle.certificate_model.specs.declared.verdict.Reason.{Reason}
use Rattle.certificate_model.specs.declared.verdict.Verdict.{Verdict}
use Rattle.certificate_model.specs.declared.verdict.Verdict.TheVariants.{Bad}
use Rattle.form_model.specs.Problem.{Problem}
use Rattle.certificate_model.specs.Paths.{Path}
use Rattle.certificate_model.specs.ProofTrees.{ProofTree, AreTrees}
use Rattle.certificate_model.specs.Verdicts.{IsSound, IsUnsound, below, open_leaf, GivesFrom}
use Rattle.certificate_check.specs.declared.walk.Walked.{Walked}
use Rattle.certificate_check.specs.declared.walk.Unsound.{Unsound}
use Rattle.certificate_check.specs.Walks.{Passes, IsWalk}

-- the node read is the first of those from its place on
pub read_here : (xs ys : List Node) (i : ℕ) (d node : Node) → xs ≡ ys → get_or xs i d ≡ node → i < length ys → drop i ys ≡ node ∷ drop (i + 1) ys
read_here xs ys i d node same is within = rw (add-one, drop-cons ys i d) (ap (λ (n : Node). n ∷ drop (suc i) ys) (ap (λ (zs : List Node). get_or zs i d) (sym same) ∙ is))

-- a place where a tree begins is within the nodes
pub begins_within : (xs : List Node) (i wait : ℕ) → AreTrees (suc wait) (drop i xs) → i < length xs
begins_within [] zero wait trees = absurd trees
begins_within [] (suc i) wait trees = absurd trees
begins_within (node ∷ xs) zero wait trees = omega arith
begins_within (node ∷ xs) (suc i) wait trees = omega (arith, begins_within xs i wait trees)

module _ (P : Problem) (X : Option Set) (T : ProofTree) (at met : ℕ) (p left right : Path) (node : Node)
    (here : drop at T.nodes ≡ node ∷ drop (at + 1) T.nodes)
    (two : below P T p node ≡ left ∷ right ∷ [])
    (closed : open_leaf node ≡ 0)
    (makes : (nodes : List Node) (wait : ℕ) → AreTrees (suc wait) (node ∷ nodes) → AreTrees (suc (suc wait)) nodes)
    (sound : IsSound P X T p node)
    (next more : ℕ)
    (first : Passes P X T (at + 1) met left next more)
  where
    -- what both subtrees give, the node gives
    opened : (paths : List Path) (verdict : Verdict) → GivesFrom P X T next more (drop next T.nodes) (right ∷ paths) verdict → GivesFrom P X T at met (drop at T.nodes) (p ∷ paths) verdict
    opened paths verdict gives =
        let e : met + open_leaf node ≡ met = ap (λ (k : ℕ). met + k) closed ∙ add-zero met in
        rw here (inl (sound, rw (e, two) (first.gives (right ∷ paths) verdict gives)))

    pub both_walks : (result : Result Walked Unsound) → IsWalk P X T next more right result → IsWalk P X T at met p result
    both_walks (Ok walked) second =
        record {
          on = omega (arith, first.on, second.on);
          within = second.within;
          makes = λ wait h. second.makes wait (first.makes (suc wait) (makes (drop (at + 1) T.nodes) wait (rw here at h)));
          few = omega (arith, first.on, second.on, first.few, second.few);
          gives = λ paths verdict gives. opened paths verdict (second.gives paths verdict gives);
        }
    both_walks (Err unsound) second = λ paths. opened paths (Bad unsound.node unsound.reason) (second paths)

-- a Fix, and the walk below it
pub fix_walks : (P : Problem) (X : Option Set) (T : ProofTree) (at met : ℕ) (p q : Path) (node : Node)
    → drop at T.nodes ≡ node ∷ drop (at + 1) T.nodes
    → below P T p node ≡ q ∷ []
    → open_leaf node ≡ 0
    → ((nodes : List Node) (wait : ℕ) → AreTrees (suc wait) (node ∷ nodes) → AreTrees (suc wait) nodes)
    → IsSound P X T p node
    → (result : Result Walked Unsound)
    → IsWalk P X T (at + 1) met q result
    → IsWalk P X T at met p result
fix_walks P X T at met p q node here one closed makes sound (Ok walked) first =
    record {
      on = omega (arith, first.on);
      within = first.within;
      makes = λ wait h. first.makes wait (makes (drop (at + 1) T.nodes) wait (rw here at h));
      few = omega (arith, first.on, first.few);
      gives = λ paths verdict gives.
          let e : met + open_leaf node ≡ met = ap (λ (k : ℕ). met + k) closed ∙ add-zero met in
          rw here (inl (sound, rw (e, one) (first.gives paths verdict gives)));
    }
fix_walks P X T at met p q node here one closed makes sound (Err unsound) first =
    λ paths.
    let e : met + open_leaf node ≡ met = ap (λ (k : ℕ). met + k) closed ∙ add-zero met in
    rw here (inl (sound, rw (e, one) (first paths)))

-- a leaf that is not open
pub leaf_passes : (P : Problem) (X : Option Set) (T : ProofTree) (at met : ℕ) (p : Path) (node : Node)
    → drop at T.nodes ≡ node ∷ drop (at + 1) T.nodes
    → at < length T.nodes
    → below P T p node ≡ []
    → open_leaf node ≡ 0
    → ((nodes : List Node) (wait : ℕ) → AreTrees (suc wait) (node ∷ nodes) → AreTrees wait nodes)
    → IsSound P X T p node
    → Passes P X T at met p (at + 1) met
leaf_passes P X T at met p node here within none closed makes sound =
    record {
      on = omega arith;
      within = omega arith;
      makes = λ wait h. makes (drop (at + 1) T.nodes) wait (rw here at h);
      few = omega arith;
      gives = λ paths verdict gives.
          let e : met + open_leaf node ≡ met = ap (λ (k : ℕ). met + k) closed ∙ add-zero met in
          rw here (inl (sound, rw (e, none) gives));
    }

-- an open leaf
pub open_leaf_passes : (P : Problem) (X : Option Set) (T : ProofTree) (at met : ℕ) (p : Path)
    → drop at T.nodes ≡ Open ∷ drop (at + 1) T.nodes
    → at < length T.nodes
    → met ≤ at
    → IsSound P X T p Open
    → Passes P X T at met p (at + 1) (met + 1)
open_leaf_passes P X T at met p here within few sound =
    record {
      on = omega arith;
      within = omega arith;
      makes = λ wait h. rw here at h;
      few = omega arith;
      gives = λ paths verdict gives. rw here (inl (sound, gives));
    }

-- the node is unsound
pub fails_here : (P : Problem) (X : Option Set) (T : ProofTree) (at met : ℕ) (p : Path) (node : Node) (reason : Reason)
    → drop at T.nodes ≡ node ∷ drop (at + 1) T.nodes
    → IsUnsound P X T p node reason
    → IsWalk P X T at met p (Err (record { node = at; reason = reason }))
fails_here P X T at met p node reason here unsound = λ paths. rw here (inr (reason, unsound, refl))

-- the left subtree has an unsound node
pub left_fails : (P : Problem) (X : Option Set) (T : ProofTree) (at met : ℕ) (p left right : Path) (node : Node) (unsound : Unsound)
    → drop at T.nodes ≡ node ∷ drop (at + 1) T.nodes
    → below P T p node ≡ left ∷ right ∷ []
    → open_leaf node ≡ 0
    → IsSound P X T p node
    → IsWalk P X T (at + 1) met left (Err unsound)
    → IsWalk P X T at met p (Err unsound)
left_fails P X T at met p left right node unsound here two closed sound first =
    λ paths.
    let e : met + open_leaf node ≡ met = ap (λ (k : ℕ). met + k) closed ∙ add-zero met in
    rw here (inl (sound, rw (e, two) (first (right ∷ paths))))

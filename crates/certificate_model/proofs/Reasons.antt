-- Each reason for which a node is unsound.
use Rattle.std.proofs.Common.{◌≡◌, ℕ, ◌+◌, ◌*◌, ◌<◌, inl, inr, true, false, ◌||◌, ◌==◌, [], ◌∷◌, pos, negsuc, None, Some, refl, sym, arith}
use Rattle.std.proofs.Math.Dec.{lit≤}
use Rattle.std.proofs.Math.Bool.{true≢false}
use Rattle.std.proofs.lemmas.Bool.{eqb-true}
use Rattle.bank_tables.specs.Items.{has}
use Rattle.certificate_model.specs.declared.node.Node.{Node}
use Rattle.certificate_model.specs.declared.node.Node.TheVariants.{BranchItem, BranchStimulus, Bound, Ray, Count, Whole, Open}
use Rattle.certificate_model.specs.declared.verdict.Reason.TheVariants.{NotForm, Determined, NoVector, NoSide, NotClosed, NotNegative, RowPossible, NotWhole, Better}
use Rattle.certificate_model.specs.declared.verdict.Verdict.TheVariants.{Partial, Bad}
use Rattle.form_model.specs.Forms.{objective}
use Rattle.certificate_model.specs.Paths.{root, with_item}
use Rattle.certificate_model.specs.Weights.{item_weight, stimulus_weight, rows_constant}
use Rattle.certificate_model.specs.Counting.{is_impossible}
use Rattle.certificate_model.specs.Relaxed.{link_multiplier, IsRelaxedMaximum}
use Rattle.certificate_model.specs.ClosedForm.{excess_of_items}
use Rattle.certificate_model.specs.ProofTrees.{ProofTree}
use Rattle.certificate_model.specs.Verdicts.{IsVerdict, NamesOnlySides}
use Rattle.form_model.proofs.SumLaws.{or_true}
use Rattle.form_model.proofs.Computed.{these, these_below, form_is}
use Rattle.certificate_model.proofs.Computed.{maximum_is, not_at_most, names_sides}
use Rattle.form_model.proofs.BankA.{item_a, bank_a, plan_of_rows, plan_a, problem_a}
use Rattle.certificate_model.proofs.BankA.{one_bound, form_123, no_form_125, not_closed_a}
use Rattle.form_model.proofs.BankE.{item_e, bank_e, plan_e, problem_e}
use Rattle.certificate_model.proofs.BankE.{form_03, form_24}

unfoldable pub leaf : Node → ProofTree
leaf node = record { vectors = []; nodes = node ∷ [] }

-- ---- NotForm: the set is no form, whatever the tree, a list of nodes that is none too
not_form : (T : ProofTree) → IsVerdict problem_a (Some (these (1 ∷ 2 ∷ 5 ∷ []))) T (Bad 0 NotForm)
not_form T = inr (no_form_125, refl)

-- ---- Determined: a second branch on an item, found at its own node
unfoldable pub item_twice : ProofTree
item_twice = record { vectors = []; nodes = BranchItem 3 ∷ BranchItem 3 ∷ Open ∷ Open ∷ Open ∷ [] }

determined_item : IsVerdict problem_a None item_twice (Bad 1 Determined)
unfolding item_twice problem_a bank_a item_a
determined_item = inl (tt, inl (refl, inr (Determined, refl, refl)))

-- an item beyond the bank, and a stimulus that the bank hasn't
determined_beyond : IsVerdict problem_a None (leaf (BranchItem 6)) (Bad 0 Determined)
unfolding leaf problem_a bank_a item_a
determined_beyond = inl (tt, inr (Determined, refl, refl))

determined_stimulus : IsVerdict problem_a None (leaf (BranchStimulus 1)) (Bad 0 Determined)
unfolding leaf problem_a bank_a item_a
determined_stimulus = inl (tt, inr (Determined, (λ is. let last = is.last in omega arith), refl))

-- ---- NoVector and NoSide come before the other reasons: here there is no form to compare with
-- either
no_vector : IsVerdict problem_a None (record (one_bound []) { nodes = Bound 1 ∷ [] }) (Bad 0 NoVector)
unfolding one_bound
no_vector = inl (tt, inr (NoVector, lit≤ tt, refl))

no_vector_ray : IsVerdict problem_a None (leaf (Ray 0)) (Bad 0 NoVector)
unfolding leaf
no_vector_ray = inl (tt, inr (NoVector, lit≤ tt, refl))

-- two rows and no stimulus have the sides 0 to 3
no_side_4 : NamesOnlySides problem_a ((1, 9) ∷ (4, 9) ∷ []) → ⊥
unfolding problem_a bank_a item_a plan_of_rows plan_a
no_side_4 names = let w = names 1 (0, 0) (lit≤ tt) in omega arith

no_side : IsVerdict problem_a None (one_bound ((1, 9) ∷ (4, 9) ∷ [])) (Bad 0 NoSide)
unfolding one_bound
no_side = inl (tt, inr (NoSide, (lit≤ tt, no_side_4), refl))

-- ---- NotClosed: a relaxed maximum one too high, and a Bound leaf without a form
not_closed : IsVerdict problem_a (Some (these (1 ∷ 2 ∷ 3 ∷ []))) (one_bound ((3, 4096) ∷ [])) (Bad 0 NotClosed)
not_closed = not_closed_a

not_closed_alone : IsVerdict problem_a None (one_bound ((3, 1) ∷ [])) (Bad 0 NotClosed)
unfolding one_bound problem_a bank_a item_a plan_of_rows plan_a
not_closed_alone = inl (tt, inr (NotClosed, (lit≤ tt, names_sides problem_a ((3, 1) ∷ []) refl, λ closes. closes), refl))

-- without multipliers the maximum is 256 times 24, which is 6,144, one above 256 times 23 plus 255
plain_a : IsRelaxedMaximum problem_a (root problem_a) [] false (pos 6144)
unfolding problem_a bank_a item_a plan_of_rows plan_a has item_weight stimulus_weight rows_constant link_multiplier excess_of_items
plain_a = maximum_is problem_a (root problem_a) [] false (these (1 ∷ 2 ∷ 5 ∷ [])) (pos 1700) (pos 6144) (these_below 6 (1 ∷ 2 ∷ 5 ∷ []) refl) refl refl

not_closed_by_one : IsVerdict problem_a (Some (these (1 ∷ 2 ∷ 3 ∷ []))) (one_bound []) (Bad 0 NotClosed)
unfolding one_bound problem_a bank_a item_a plan_of_rows plan_a
not_closed_by_one =
    inl (
      form_123,
      inr (
        NotClosed,
        (
          lit≤ tt,
          names_sides problem_a [] refl,
          not_at_most problem_a (root problem_a) [] false (pos 6144) (pos (256 * objective problem_a (these (1 ∷ 2 ∷ 3 ∷ [])) + 255)) plain_a (record { lt = tt }),
        ),
        refl,
      ),
    )

-- ---- NotNegative: without multipliers a ray's maximum is 0, which is not below 0
zero_ray : IsRelaxedMaximum problem_a (root problem_a) [] true (pos 0)
unfolding problem_a bank_a item_a plan_of_rows plan_a has item_weight stimulus_weight rows_constant link_multiplier excess_of_items
zero_ray = maximum_is problem_a (root problem_a) [] true (these (1 ∷ 2 ∷ 5 ∷ [])) (pos 0) (pos 0) (these_below 6 (1 ∷ 2 ∷ 5 ∷ []) refl) refl refl

unfoldable pub empty_ray : ProofTree
empty_ray = record { vectors = [] ∷ []; nodes = Ray 0 ∷ [] }

not_negative : IsVerdict problem_a None empty_ray (Bad 0 NotNegative)
unfolding empty_ray problem_a bank_a item_a plan_of_rows plan_a
not_negative = inl (tt, inr (NotNegative, (lit≤ tt, names_sides problem_a [] refl, not_at_most problem_a (root problem_a) [] true (pos 0) (negsuc 0) zero_ray (record { lt = tt })), refl))

-- ---- RowPossible: the row is possible, or there is no such row
row_possible : IsVerdict problem_a None (leaf (Count 1)) (Bad 0 RowPossible)
unfolding leaf problem_a bank_a item_a plan_of_rows plan_a has is_impossible
row_possible = inl (tt, inr (RowPossible, refl, refl))

row_past_the_last : IsVerdict problem_a None (leaf (Count 3)) (Bad 0 RowPossible)
unfolding leaf problem_a bank_a item_a plan_of_rows plan_a is_impossible
row_past_the_last = inl (tt, inr (RowPossible, refl, refl))

-- ---- NotWhole: more than one set is left
not_whole : IsVerdict problem_a None (leaf Whole) (Bad 0 NotWhole)
unfolding leaf problem_a bank_a item_a plan_of_rows plan_a
not_whole = inl (tt, inr (NotWhole, refl, refl))

-- ---- Better: the one set left, items 0 and 3, is better than items 2 and 4; and it is a form
-- where there was none
unfoldable pub to_03 : ProofTree
to_03 = record { vectors = []; nodes = BranchItem 0 ∷ BranchItem 3 ∷ Whole ∷ Open ∷ Open ∷ [] }

taken_below : (i : ℕ) → (i == 3 || (i == 0 || false)) ≡ true → i < 5
taken_below i e =
    elim (or_true (i == 3) _ e) [
      | inl three ↦ omega (arith, eqb-true i 3 three)
      | inr rest ↦ elim (or_true (i == 0) false rest) [ inl zero' ↦ omega (arith, eqb-true i 0 zero') | inr none ↦ absurd (true≢false (sym none)) ]
    ]

better : IsVerdict problem_e (Some (these (2 ∷ 4 ∷ []))) to_03 (Bad 2 Better)
unfolding to_03 problem_e bank_e item_e plan_e has
better = inl (
  form_24,
  inl (
    refl,
    inl (
      refl,
      inr (
        Better,
        (
          (λ e. absurd (cc)),
          λ settled. elim settled [
            | inl no_form ↦ absurd (no_form (form_is problem_e (with_item (with_item (root problem_e) 0 true) 3 true).taken taken_below (λ i e. absurd (cc)) refl))
            | inr (inl lacks) ↦ (let first = lacks.first in let last = lacks.last in omega arith)
            | inr (inr no_better) ↦ (let n = no_better in omega arith)
          ],
        ),
        refl,
      ),
    ),
  ),
)

better_than_none : IsVerdict problem_e None to_03 (Bad 2 Better)
unfolding to_03 problem_e bank_e item_e plan_e has
better_than_none = inl (
  tt,
  inl (
    refl,
    inl (
      refl,
      inr (
        Better,
        (
          (λ e. absurd (cc)),
          λ settled. elim settled [
            | inl no_form ↦ absurd (no_form (form_is problem_e (with_item (with_item (root problem_e) 0 true) 3 true).taken taken_below (λ i e. absurd (cc)) refl))
            | inr (inl lacks) ↦ (let first = lacks.first in let last = lacks.last in omega arith)
            | inr (inr no_better) ↦ no_better
          ],
        ),
        refl,
      ),
    ),
  ),
)

-- with the form of items 0 and 3 itself the same nodes are sound, and two leaves are Open
settled_03 : IsVerdict problem_e (Some (these (0 ∷ 3 ∷ []))) to_03 (Partial 2)
unfolding to_03 problem_e bank_e item_e plan_e has
settled_03 = inl (form_03, inl (refl, inl (refl, inl (inr (inr (lit≤ tt)), inl (refl, inl (refl, refl))))))

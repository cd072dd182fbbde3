-- A path of branches through the sets of items (branch and bound).
use Rattle.std.specs.Prelude.{ℕ, ◌+◌, ◌≤◌, ◌<◌, Bool, true, false, not, ◌&&◌, ◌||◌, ◌==◌, IsTrue, IsFalse, nat_lt}
use Rattle.bank_tables.specs.Items.{Set}
use Rattle.bank_tables.specs.Tables.{size, stimulus}
use Rattle.form_model.specs.Problem.{Problem}
use Rattle.form_model.specs.Forms.{Form, used, stimuli_of, stimuli_in, size_in}

-- the items taken, the items put out, and the stimuli that a left branch chose
pub record Path : Type 0 where
  pub taken : Set
  pub out : Set
  pub branched_on : Set

abbrev pub root : Problem → Path
root P = record { taken = P.given; out = P.barred; branched_on = λ _. false }

-- an item of the bank that is neither taken nor out
abbrev pub is_free : Problem → Path → Set
is_free P p i = nat_lt i (size P.bank) && (not (p.taken i) && not (p.out i))

-- a stimulus is chosen if one of its items is taken or the path has a left branch on it
abbrev pub is_chosen : Problem → Path → Set
is_chosen P p s = p.branched_on s || used P.bank p.taken s

-- it is open if it is not chosen and has a free item, and dropped otherwise
abbrev pub is_open : Problem → Path → Set
is_open P p s = not (is_chosen P p s) && used P.bank (is_free P p) s

-- how much is left to decide: the free items and the open stimuli, in number
abbrev pub undecided : Problem → Path → ℕ
undecided P p = size_in P.bank (is_free P p) + stimuli_in (stimuli_of P.bank) (is_open P p)

-- a branch on an item: it is taken, or it is put out
abbrev pub with_item : Path → ℕ → Bool → Path
with_item p i true = record p { taken = λ j. j == i || p.taken j }
with_item p i false = record p { out = λ j. j == i || p.out j }

-- a branch on a stimulus: it is chosen, or its free items are put out
abbrev pub with_stimulus : Problem → Path → ℕ → Bool → Path
with_stimulus P p s true = record p { branched_on = λ t. t == s || p.branched_on t }
with_stimulus P p s false =
    record p { out = λ j. (is_free P p j && stimulus P.bank j == s) || p.out j }

-- X is a form of P on the path p
pub record Under (P : Problem) (p : Path) (X : Set) : Type 0 where
  pub form : Form P X
  pub holds_taken : (i : ℕ) → IsTrue (p.taken i) → IsTrue (X i)
  pub holds_no_out : (i : ℕ) → IsTrue (p.out i) → IsFalse (X i)
  pub uses_chosen : (s : ℕ) → 0 < s → s ≤ stimuli_of P.bank → IsTrue (is_chosen P p s)
      → IsTrue (used P.bank X s)

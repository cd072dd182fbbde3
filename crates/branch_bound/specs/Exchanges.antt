-- Exchanges of one item of a form.
use Rattle.std.specs.Prelude.{◌≡◌, ℕ, ◌≤◌, ◌<◌, not, ◌&&◌, ◌||◌, ◌==◌, IsTrue, Option, Some, None}
use Rattle.bank_tables.specs.Items.{Set}
use Rattle.form_model.specs.Problem.{Problem}
use Rattle.form_model.specs.Forms.{Form, Firm, objective}

-- X with an item in and another out
abbrev pub exchange : Set → ℕ → ℕ → Set
exchange X out item i = i == item || (not (i == out) && X i)

-- Y is a form of greater objective than X
pub record IsBetter (P : Problem) (X Y : Set) : Type 0 where
  pub form : Form P Y
  pub greater : objective P X < objective P Y

-- a better form; or none, where no form that holds all other items of X is better
abbrev pub IsExchange : Problem → Set → ℕ → Option Set → Type 0
IsExchange P X out (Some Y) = IsBetter P X Y
IsExchange P X out None = (Y : Set) → Form P Y → ((i : ℕ) → IsTrue (X i) → (i ≡ out → ⊥) → IsTrue (Y i)) → objective P Y ≤ objective P X

-- a better form; or none, where no exchange of one item of X gives one
abbrev pub IsBettering : Problem → Set → Option Set → Type 0
IsBettering P X (Some Y) = IsBetter P X Y
IsBettering P X None = Firm P X

-- What the definitions imply, as the public laws state it.
use Rattle.std.specs.Prelude.{◌≡◌, ℕ, ◌<◌, List, ℤ, Option}
use Rattle.bank_tables.specs.Items.{Set}
use Rattle.bank_tables.specs.Tables.{Tables}
use Rattle.form_model.specs.declared.breach.Breach.{Breach}
use Rattle.form_model.specs.Problem.{Problem}
use Rattle.form_model.specs.Forms.{Best, Firm}
use Rattle.form_model.specs.Breaches.{IsFirstBreach}
use Rattle.form_model.specs.Ability.{AnswerList, IsPosteriorMode}

abbrev pub BestIsFirm : Type 0
BestIsFirm = (P : Problem) (X : Set) → Best P X → Firm P X

-- a grid with points has one posterior mode
abbrev pub SomeMode : Type 0
SomeMode = (b : Tables) (prior : List ℤ) (answers : AnswerList) → 0 < b.grid
    → (point : ℕ) × IsPosteriorMode b prior answers point

abbrev pub OneMode : Type 0
OneMode = (b : Tables) (prior : List ℤ) (answers : AnswerList) (p q : ℕ)
    → IsPosteriorMode b prior answers p → IsPosteriorMode b prior answers q → p ≡ q

-- a set of items has at most one first breach, and none where it is a form
abbrev pub OneBreach : Type 0
OneBreach = (P : Problem) (X : Set) (b c : Option Breach) → IsFirstBreach P X b
    → IsFirstBreach P X c → b ≡ c

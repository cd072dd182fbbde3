-- Along a legal run each entry is legal after those before it.
use Rattle.std.proofs.Common.{◌≡◌, ◌⊎◌, inl, inr, List, [], ◌∷◌, ◌++◌, refl, subst}
use Rattle.std.proofs.lemmas.List.{append-nil}
use Rattle.bank_tables.specs.Tables.{Tables}
use Rattle.form_model.specs.Plan.{Plan}
use Rattle.history_model.specs.declared.entry.Entry.{Entry}
use Rattle.history_model.specs.Legality.{Legal, LegalRun, empty, more}
use Rattle.history_model.specs.Judging.{Record, MayFollow, entries_of, Backed, empty as no_record, more as one_record}
use Rattle.history_model.specs.Laws.{EachIsLegal, BeginningIsLegal, EachMayFollow}

not_empty : {A : Type 0} (xs : List A) (y : A) (zs : List A) → [] ≡ xs ++ y ∷ zs → ⊥
not_empty [] y zs e = cc
not_empty (x ∷ xs) y zs e = cc

head_same : {A : Type 0} (x y : A) (xs ys : List A) → x ∷ xs ≡ y ∷ ys → x ≡ y
head_same x y xs ys e = cc

tail_same : {A : Type 0} (x y : A) (xs ys : List A) → x ∷ xs ≡ y ∷ ys → xs ≡ ys
tail_same x y xs ys e = cc

cons_same : {A : Type 0} (x y : A) (xs ys : List A) → x ≡ y → xs ≡ ys → x ∷ xs ≡ y ∷ ys
cons_same x y xs ys e f = cc

-- an element of a list is its last one, or is among those before the last
last_or_before : {A : Type 0} (xs : List A) (x : A) (ys : List A) (y : A) (zs : List A) → xs ++ x ∷ [] ≡ ys ++ y ∷ zs → ((xs ≡ ys) × (x ≡ y)) ⊎ ((ws : List A) × (xs ≡ ys ++ y ∷ ws))
last_or_before [] x [] y zs e = inl (refl, head_same x y [] zs e)
last_or_before [] x (b ∷ ys) y zs e = absurd (not_empty ys y zs (tail_same x b [] (ys ++ y ∷ zs) e))
last_or_before (a ∷ xs) x [] y zs e = inr (xs, cons_same a y xs xs (head_same a y (xs ++ x ∷ []) zs e) refl)
last_or_before (a ∷ xs) x (b ∷ ys) y zs e =
    let same = head_same a b (xs ++ x ∷ []) (ys ++ y ∷ zs) e in
    elim (last_or_before xs x ys y zs (tail_same a b (xs ++ x ∷ []) (ys ++ y ∷ zs) e)) [
      | inl last ↦ inl (cons_same a b xs ys same last.0, last.1)
      | inr before ↦ inr (before.0, cons_same a b xs (ys ++ y ∷ before.0) same before.1)
    ]

parts : (b : Tables) (plan : Plan) (K : List Entry) → LegalRun b plan K → (H : List Entry) (entry : Entry) (G : List Entry) → K ≡ H ++ entry ∷ G → LegalRun b plan H × Legal b plan H entry
parts b plan K empty H entry G e = absurd (not_empty H entry G e)
parts b plan K (more before last run legal) H entry G e =
    elim (last_or_before before last H entry G e) [
      | inl at ↦ (subst (λ (F : List Entry). LegalRun b plan F) at.0 run, subst (λ (F : List Entry). Legal b plan F entry) at.0 (subst (λ (f : Entry). Legal b plan before f) at.1 legal))
      | inr within ↦ parts b plan before run H entry within.0 within.1
    ]

pub each_is_legal : EachIsLegal
each_is_legal b plan H entry G run = parts b plan (H ++ entry ∷ G) run H entry G refl

pub beginning_is_legal : BeginningIsLegal
beginning_is_legal b plan H [] run = subst (λ (F : List Entry). LegalRun b plan F) (append-nil H) run
beginning_is_legal b plan H (entry ∷ G) run = (each_is_legal b plan H entry G run).0

-- ---- the same of records
record_parts : (b : Tables) (plan : Plan) (K : List Record) → Backed b plan K → (R : List Record) (r : Record) (Q : List Record) → K ≡ R ++ r ∷ Q → Backed b plan R × MayFollow b plan (entries_of R) r.entry r.tree
record_parts b plan K no_record R r Q e = absurd (not_empty R r Q e)
record_parts b plan K (one_record before last backed may) R r Q e =
    elim (last_or_before before last R r Q e) [
      | inl at ↦ (
        subst (λ (F : List Record). Backed b plan F) at.0 backed,
        subst (λ (F : List Record). MayFollow b plan (entries_of F) r.entry r.tree) at.0 (subst (λ (f : Record). MayFollow b plan (entries_of before) f.entry f.tree) at.1 may),
      )
      | inr within ↦ record_parts b plan before backed R r within.0 within.1
    ]

pub each_may_follow : EachMayFollow
each_may_follow b plan R r Q backed = record_parts b plan (R ++ r ∷ Q) backed R r Q refl

-- The vectors of sessions, record by record.
use Rattle.std.proofs.Common.{◌≡◌, ◌≢◌, zero, suc, ℕ, ◌-◌, ◌<◌, Bool, true, false, List, [], ◌∷◌, ◌++◌, length, Option, Some, None, refl, sym, ◌∙◌, ap, arith, length-append}
use Rattle.std.specs.Prelude.{slice_get, slice_set, ◌==◌, if◌then◌else◌}
use Rattle.std.specs.Option.{option_and_then}
use Rattle.std.specs.List.{filter}
use Rattle.std.proofs.lemmas.List.{append-nil}
use Rattle.std.proofs.lemmas.List.Elements.{filter-append}
use Rattle.bank_tables.specs.Tables.{Tables}
use Rattle.form_model.specs.Plan.{Plan}
use Rattle.certificate_model.specs.Relaxed.{Multipliers}
use Rattle.history_model.specs.Judging.{Record}
use Rattle.exam_office.specs.Warm.{first_vector, serves, servings, vector_of, warm_of}
use Rattle.exam_office.specs.KeptVectors.{vector_at, AreVectorsOf, new_by, new_vector}
use Rattle.exam_office.specs.declared.vectors.NewVector.{NewVector}
use Rattle.history_model.specs.declared.entry.Entry.{Entry}
use Rattle.history_model.specs.declared.entry.Entry.TheVariants.{Started, SetAside, Served, Answered, Closed}
use Rattle.certificate_model.specs.ProofTrees.{ProofTree}
use Rattle.std.proofs.lemmas.Bool.{eqb-true, eqb-false}

-- the last of a list with one element more
at_end : {A : Type 0} (xs : List A) (x : A) → slice_get (xs ++ x ∷ []) (length xs) ≡ Some x
at_end [] x = refl
at_end (y ∷ xs) x = at_end xs x

last_here : {A : Type 0} (xs : List A) (x : A) → slice_get (xs ++ x ∷ []) (length (xs ++ x ∷ []) - 1) ≡ Some x
last_here xs x =
    let e : length (xs ++ x ∷ []) - 1 ≡ length xs = omega (arith, length-append xs (x ∷ [])) in
    ap (λ (n : ℕ). slice_get (xs ++ x ∷ []) n) e ∙ at_end xs x

module _ (b : Tables) (plan : Plan) (R : List Record) (r : Record) (s : ℕ) where
  more : servings (R ++ r ∷ []) s ≡ servings R s ++ filter (λ (q : Record). serves s q.entry) (r ∷ [])
  more = filter-append (λ (q : Record). serves s q.entry) R (r ∷ [])

  -- a record that serves an item in the session gives its vector
  pub warm_new : serves s r.entry ≡ true → warm_of b plan (R ++ r ∷ []) s ≡ vector_of b plan r
  warm_new e =
      let is : servings (R ++ r ∷ []) s ≡ servings R s ++ r ∷ [] = more ∙ ap (λ (t : Bool). servings R s ++ (if t then r ∷ [] else [])) e in
      ap (λ (xs : List Record). option_and_then (vector_of b plan) (slice_get xs (length xs - 1))) is
      ∙ ap (option_and_then (vector_of b plan)) (last_here (servings R s) r)

  -- another leaves it as it was
  pub warm_same : serves s r.entry ≡ false → warm_of b plan (R ++ r ∷ []) s ≡ warm_of b plan R s
  warm_same e =
      let is : servings (R ++ r ∷ []) s ≡ servings R s =
      more ∙ (ap (λ (t : Bool). servings R s ++ (if t then r ∷ [] else [])) e ∙ append-nil (servings R s)) in
      ap (λ (xs : List Record). option_and_then (vector_of b plan) (slice_get xs (length xs - 1))) is

-- ---- the vectors kept
-- room taken is no vector
pub none_more : (each : List (Option Multipliers)) (s : ℕ) → vector_at (each ++ None ∷ []) s ≡ vector_at each s
none_more [] zero = refl
none_more [] (suc s) = refl
none_more (v ∷ each) zero = refl
none_more (v ∷ each) (suc s) = none_more each s

set_here : (each : List (Option Multipliers)) (k : ℕ) (v : Option Multipliers) → k < length each → vector_at (slice_set each k v) k ≡ v
set_here [] k v within = absurd (omega arith)
set_here (w ∷ each) zero v within = refl
set_here (w ∷ each) (suc k) v within = set_here each k v (omega arith)

set_else : (each : List (Option Multipliers)) (k s : ℕ) (v : Option Multipliers) → k ≢ s → vector_at (slice_set each k v) s ≡ vector_at each s
set_else [] k s v other = refl
set_else (w ∷ each) zero zero v other = absurd (other refl)
set_else (w ∷ each) zero (suc s) v other = refl
set_else (w ∷ each) (suc k) zero v other = refl
set_else (w ∷ each) (suc k) (suc s) v other = set_else each k s v (λ e. other (ap suc e))

module _ (b : Tables) (plan : Plan) where
  new_is : (entry : Entry) (tree : Option ProofTree) (new : NewVector) → Some new ≡ new_by b plan entry tree
      → ((s : ℕ) → serves s entry ≡ (new.session == s)) × (new.vector ≡ option_and_then (first_vector b plan) tree)
  new_is (Started session booking eligible without) tree new e = absurd (cc)
  new_is (SetAside session step band cause nodes) tree new e = absurd (cc)
  new_is (Served session step item form proved nodes) tree new e =
      let same : new ≡ record { session = session; vector = option_and_then (first_vector b plan) tree } = cc in
      ((λ s. ap (λ (n : NewVector). n.session == s) (sym same)), ap (λ (n : NewVector). n.vector) same)
  new_is (Answered session step response) tree new e = absurd (cc)
  new_is (Closed session) tree new e = absurd (cc)

  none_is : (entry : Entry) (tree : Option ProofTree) → None ≡ new_by b plan entry tree → (s : ℕ) → serves s entry ≡ false
  none_is (Started session booking eligible without) tree e s = refl
  none_is (SetAside session step band cause nodes) tree e s = refl
  none_is (Served session step item form proved nodes) tree e s = absurd (cc)
  none_is (Answered session step response) tree e s = refl
  none_is (Closed session) tree e s = refl

  module _ (R : List Record) (r : Record) (each : List (Option Multipliers)) (are : AreVectorsOf b plan R each) where
    -- the record serves an item
    pub kept_new : (new : NewVector) → Some new ≡ new_vector b plan r → new.session < length each → AreVectorsOf b plan (R ++ r ∷ []) (slice_set each new.session new.vector)
    kept_new new e room s = by (new.session == s) refl
      where
        is : ((t : ℕ) → serves t r.entry ≡ (new.session == t)) × (new.vector ≡ option_and_then (first_vector b plan) r.tree)
        is = new_is r.entry r.tree new e

        by : (here : Bool) → (new.session == s) ≡ here → vector_at (slice_set each new.session new.vector) s ≡ warm_of b plan (R ++ r ∷ []) s
        by true t =
            let same : new.session ≡ s = eqb-true new.session s t in
            ap (λ (k : ℕ). vector_at (slice_set each new.session new.vector) k) (sym same)
            ∙ (set_here each new.session new.vector room ∙ (is.1 ∙ sym (warm_new b plan R r s (is.0 s ∙ t))))
        by false t =
            set_else each new.session s new.vector (eqb-false new.session s t) ∙ (are s ∙ sym (warm_same b plan R r s (is.0 s ∙ t)))

    -- it serves none
    pub kept_none : None ≡ new_vector b plan r → AreVectorsOf b plan (R ++ r ∷ []) each
    kept_none e s = are s ∙ sym (warm_same b plan R r s (none_is r.entry r.tree e s))

-- no records
pub none_kept : (b : Tables) (plan : Plan) (each : List (Option Multipliers)) → each ≡ [] → AreVectorsOf b plan [] each
none_kept b plan each e s = ap (λ (xs : List (Option Multipliers)). vector_at xs s) e

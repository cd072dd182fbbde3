-- A list of items, element by element, and the request that it makes.
use Rattle.std.proofs.Common.{◌≡◌, ℕ, zero, suc, ◌+◌, ◌<◌, Bool, true, false, ◌||◌, ◌==◌, List, [], ◌∷◌, ◌++◌, length, get_or, take, Option, Some, None, refl, sym, ap, ap₂, ◌∙◌, arith}
use Rattle.std.specs.Prelude.{IsTrue}
use Rattle.std.proofs.lemmas.Bool.{or_left, eq-eqb, true≢false}
use Rattle.std.proofs.lemmas.List.{take_more}
use Rattle.bank_tables.specs.Items.{has}
use Rattle.serde_json.specs.Data.{Data}
use Rattle.serde_json.specs.View.{items_of}
use Rattle.history_model.specs.declared.request.Request.TheVariants as request
use Rattle.exam_http.specs.Asks.{is_among, number_in, number_before, numbers_in, AreItems, AsksBegin}

-- ---- the numbers of an array
none_before : (o : Option ℕ) → number_before o None ≡ None
none_before None = refl
none_before (Some n) = refl

-- an element that is no number
pub numbers_cut : (ds : List Data) (k : ℕ) (d : Data) → k < length ds → number_in 511 (get_or ds k d) ≡ None → numbers_in 511 (items_of ds) ≡ None
numbers_cut [] k d lt e = absurd (omega (arith, lt))
numbers_cut (x ∷ xs) zero d lt e = rw e refl
numbers_cut (x ∷ xs) (suc k) d lt e = rw (numbers_cut xs k d (omega (arith, lt)) e) (none_before (number_in 511 x))

some_is : {A : Type 0} (a b : A) → Some a ≡ Some b → a ≡ b
some_is a b e = cc

both : (o : Option ℕ) (p : Option (List ℕ)) (items : List ℕ) → number_before o p ≡ Some items
    → (n : ℕ) × (ns : List ℕ) × (o ≡ Some n) × (p ≡ Some ns) × (n ∷ ns ≡ items)
both None p items e = absurd cc
both (Some n) None items e = absurd cc
both (Some n) (Some ns) items e = (n, ns, refl, refl, cc)

more : (ds : List Data) (items : List ℕ) (d : Data) (n : ℕ) → numbers_in 511 (items_of ds) ≡ Some items → number_in 511 d ≡ Some n
    → numbers_in 511 (items_of (ds ++ d ∷ [])) ≡ Some (items ++ n ∷ [])
more [] items d n e f = rw f (ap (λ (ns : List ℕ). Some (ns ++ n ∷ [])) (some_is [] items e))
more (x ∷ xs) items d n e f =
    let p = both (number_in 511 x) (numbers_in 511 (items_of xs)) items e in
    rw (p.2, more xs p.1 d n p.3 f) (ap (λ (ns : List ℕ). Some (ns ++ n ∷ [])) p.4)

-- one element more
pub numbers_more : (ds : List Data) (items : List ℕ) (k : ℕ) (d : Data) (n : ℕ) → k < length ds → numbers_in 511 (items_of (take k ds)) ≡ Some items
    → number_in 511 (get_or ds k d) ≡ Some n → numbers_in 511 (items_of (take (k + 1) ds)) ≡ Some (items ++ n ∷ [])
numbers_more ds items k d n lt e f = rw (take_more ds k d lt) (more (take k ds) items (get_or ds k d) n e f)

among_more : (items : List ℕ) (n i : ℕ) → is_among (items ++ n ∷ []) i ≡ ((n == i) || is_among items i)
among_more [] n i = refl
among_more (m ∷ ms) n i = rw (among_more ms n i) (turn (m == i) (n == i) (is_among ms i))
  where
    turn : (a b c : Bool) → (a || (b || c)) ≡ (b || (a || c))
    turn true true c = refl
    turn true false c = refl
    turn false b c = refl

-- the set with one item more is that of one number more
pub set_more : (words new items : List ℕ) (n : ℕ) → ((i : ℕ) → has words i ≡ is_among items i) → ((i : ℕ) → has new i ≡ ((i == n) || has words i))
    → (i : ℕ) → has new i ≡ is_among (items ++ n ∷ []) i
set_more words new items n old more i = more i ∙ ap₂ (λ (a b : Bool). a || b) (turned i n) (old i) ∙ sym (among_more items n i)
  where
    turned : (i n : ℕ) → (i == n) ≡ (n == i)
    turned i n = grind arith

-- ---- the request
-- a set with an item is that of a list
pub with_list : (booking : ℕ) (words list : List ℕ) (x : ℕ) → AreItems words list → IsTrue (has words x) → AsksBegin booking list (request.BeginWithout booking words)
with_list booking words [] x are it = absurd (true≢false (sym it ∙ are.each x))
with_list booking words (n ∷ ns) x are it = (words, are, refl)

-- a set without items is that of none
pub without_list : (booking : ℕ) (words list : List ℕ) → AreItems words list → ((i : ℕ) → has words i ≡ false) → AsksBegin booking list (request.Begin booking)
without_list booking words [] are none = refl
without_list booking words (n ∷ ns) are none =
    absurd (true≢false (sym (or_left (n == n) (is_among ns n) (eq-eqb n n refl)) ∙ sym (are.each n) ∙ none n))

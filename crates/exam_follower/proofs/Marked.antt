-- What the marks of an office tell of what it found, and lists of records.
use Rattle.std.proofs.Common.{◌≡◌, ℕ, zero, suc, ◌+◌, Bool, true, false, List, [], ◌∷◌, ◌++◌, length, map, drop, slice_get, Some, IsTrue, if◌then◌else◌, refl, ap, ◌∙◌, subst}
use Rattle.std.specs.List.{AllByRecursion}
use Rattle.std.proofs.lemmas.List.{append-nil}
use Rattle.std.proofs.Math.Seq.{drop-append_seam}
use Rattle.std.proofs.lemmas.List.Elements.{filter_map-append}
use Rattle.std.proofs.lemmas.List.Sums.{fold_push}
use Rattle.history_model.specs.declared.entry.Entry.{Entry}
use Rattle.history_model.specs.Judging.{Record, entries_of}
use Rattle.exam_records.specs.Shape.{IsRecord}
use Rattle.exam_records.specs.Spelling.{payload_of}
use Rattle.exam_records.proofs.SecondLaws.{no_two_records}
use Rattle.answer_journal.specs.Payload.{end_of}
use Rattle.exam_office.specs.declared.mark.Mark.{Mark}
use Rattle.exam_office.specs.declared.mark.Mark.TheVariants.{Old, Opened, Own, Adopted, Fault}
use Rattle.exam_office.specs.Marks.{entry_of, history, size_after, reach}
use Rattle.exam_follower.specs.Followers.{old_entry, found, size_opened, opened_size}

-- ---- a mark more
pub history-own : (M : List Mark) (e : Entry) (n : ℕ) → history (M ++ Own e n ∷ []) ≡ history M ++ e ∷ []
history-own M e n = filter_map-append entry_of M (Own e n ∷ [])

pub history-adopted : (M : List Mark) (e : Entry) (n : ℕ) → history (M ++ Adopted e n ∷ []) ≡ history M ++ e ∷ []
history-adopted M e n = filter_map-append entry_of M (Adopted e n ∷ [])

pub history-fault : (M : List Mark) (e : Entry) → history (M ++ Fault e ∷ []) ≡ history M
history-fault M e = filter_map-append entry_of M (Fault e ∷ []) ∙ append-nil (history M)

pub reach-push : (M : List Mark) (m : Mark) → reach (M ++ m ∷ []) ≡ size_after (reach M) m
reach-push M m = fold_push size_after 0 M m

pub opened-push : (M : List Mark) (m : Mark) → opened_size (M ++ m ∷ []) ≡ size_opened (opened_size M) m
opened-push M m = fold_push size_opened 0 M m

pub found-own : (M : List Mark) (e : Entry) (n : ℕ) → found (M ++ Own e n ∷ []) ≡ found M
found-own M e n = filter_map-append old_entry M (Own e n ∷ []) ∙ append-nil (found M)

pub found-adopted : (M : List Mark) (e : Entry) (n : ℕ) → found (M ++ Adopted e n ∷ []) ≡ found M
found-adopted M e n = filter_map-append old_entry M (Adopted e n ∷ []) ∙ append-nil (found M)

pub found-fault : (M : List Mark) (e : Entry) → found (M ++ Fault e ∷ []) ≡ found M
found-fault M e = filter_map-append old_entry M (Fault e ∷ []) ∙ append-nil (found M)

-- ---- an office just opened
found-old : (H : List Entry) → found (map Old H) ≡ H
found-old [] = refl
found-old (e ∷ H) = ap (λ (G : List Entry). e ∷ G) (found-old H)

pub found-opened : (H : List Entry) (n : ℕ) → found (map Old H ++ Opened n ∷ []) ≡ H
found-opened H n = filter_map-append old_entry (map Old H) (Opened n ∷ []) ∙ (append-nil (found (map Old H)) ∙ found-old H)

pub size-opened : (H : List Entry) (n : ℕ) → opened_size (map Old H ++ Opened n ∷ []) ≡ n
size-opened H n = opened-push (map Old H) (Opened n)

-- ---- lists
pub end-push : (a : ℕ) (ps : List (List ℕ)) (p : List ℕ) → end_of a (ps ++ p ∷ []) ≡ end_of a ps + 5 + length p
end-push a [] p = refl
end-push a (q ∷ ps) p = end-push (a + 5 + length q) ps p

pub all-push : (P : Record → Type 0) (xs : List Record) (x : Record) → AllByRecursion P xs → P x → AllByRecursion P (xs ++ x ∷ [])
all-push P [] x all p = (p, tt)
all-push P (y ∷ ys) x all p = (all.0, all-push P ys x all.1 p)

pub all-append : (P : Record → Type 0) (xs ys : List Record) → AllByRecursion P xs → AllByRecursion P ys → AllByRecursion P (xs ++ ys)
all-append P [] ys a b = b
all-append P (x ∷ xs) ys a b = (a.0, all-append P xs ys a.1 b)

-- after as many as these
pub drop_found : (n : ℕ) (xs ys : List (List ℕ)) → length xs ≡ n → drop n (xs ++ ys) ≡ ys
drop_found n xs ys e = subst (λ (k : ℕ). drop k (xs ++ ys) ≡ ys) e (drop-append_seam xs ys)

-- records with the same payloads are the same
pub same_records : (R Q : List Record) → AllByRecursion IsRecord R → AllByRecursion IsRecord Q → map payload_of R ≡ map payload_of Q → R ≡ Q
same_records [] [] a b e = refl
same_records [] (q ∷ Q) a b e = absurd (cc)
same_records (r ∷ R) [] a b e = absurd (cc)
same_records (r ∷ R) (q ∷ Q) a b e =
    let first : payload_of r ≡ payload_of q = cc in
    let rest : map payload_of R ≡ map payload_of Q = cc in
    let one = no_two_records r q a.0 b.0 first in
    let more = same_records R Q a.1 b.1 rest in
    ap (λ (x : Record). x ∷ R) one ∙ ap (λ (xs : List Record). q ∷ xs) more

-- records that have the same payload at a number have the same entry there
pub same_entry : (R Q : List Record) → AllByRecursion IsRecord R → AllByRecursion IsRecord Q → (k : ℕ) → slice_get (map payload_of R) k ≡ slice_get (map payload_of Q) k
    → slice_get (entries_of R) k ≡ slice_get (entries_of Q) k
same_entry [] [] a b k e = refl
same_entry [] (q ∷ Q) a b zero e = absurd (cc)
same_entry [] (q ∷ Q) a b (suc k) e = same_entry [] Q a b.1 k e
same_entry (r ∷ R) [] a b zero e = absurd (cc)
same_entry (r ∷ R) [] a b (suc k) e = same_entry R [] a.1 b k e
same_entry (r ∷ R) (q ∷ Q) a b zero e =
    let same : payload_of r ≡ payload_of q = cc in
    ap (λ (x : Record). Some x.entry) (no_two_records r q a.0 b.0 same)
same_entry (r ∷ R) (q ∷ Q) a b (suc k) e = same_entry R Q a.1 b.1 k e

-- ---- a choice
pub if_so : {A : Type 0} (t : Bool) (x y : A) → IsTrue t → (if t then x else y) ≡ x
if_so true x y told = refl
if_so false x y told = absurd (cc)

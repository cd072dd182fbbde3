-- What is put aside before a file is cut.
use Rattle.std.proofs.Common.{◌≡◌, inl, inr, ℕ, ◌-◌, ◌≤◌, nat_lt, false, Bool, IsTrue, if◌then◌else◌, List, [], ◌∷◌, ◌++◌, length, sym, ◌∙◌, ap, subst, arith}
use Rattle.std.specs.Prelude.{Option, unwrap_or, Result, Ok, Err, OnOk, OnErr}
use Rattle.std.proofs.lemmas.Bool.{cases_lt, le-ltb}
use Rattle.std.proofs.lemmas.List.{append-nil}
use Rattle.exam_edge.specs.Images.{Account, AtEachMoment, IsImage, latest}
use Rattle.exam_edge.specs.ImageLaws.{at_end, joined, started, weaker}
use Rattle.answer_journal.specs.Frames.{shadowj2}
use Rattle.answer_journal.specs.Opening.{AreVersions, IsExtent, IsOnlyRead, PutsTailAside, gate_of_tail, tail_gates}
use Rattle.answer_journal.specs.Payload.{end_of}
use Rattle.answer_journal.specs.Reading.{IsRead}
use Rattle.answer_journal.specs.Standing.{payload_list}
use Rattle.answer_journal.specs.Versions.{header}
use Rattle.answer_journal.specs.declared.opening.Extent.{Extent}
use Rattle.answer_journal.proofs.Ends.{end_is}
use Rattle.answer_journal.proofs.Naming.{version_of-short}
use Rattle.answer_journal.proofs.Settling.{left_over}
use Rattle.answer_journal.proofs.Tidying.{short_gives}

-- ---- a file that is only read
pub only_read : (before now : List ℕ) (old new : List Account) → now ≡ before → new ≡ old → IsOnlyRead before now old new
only_read before now old new content same = record {
  content = content;
  moments = subst (λ (a : List Account). AtEachMoment old a (IsImage (latest old))) (sym same) (started (IsImage (latest old)) old (λ file i. i));
}

pub read_on : (before now later : List ℕ) (old mid new : List Account) → IsOnlyRead before now old mid → IsOnlyRead now later mid new → IsOnlyRead before later old new
read_on before now later old mid new a b = record {
  content = b.content ∙ a.content;
  moments = joined (IsImage (latest old)) old mid new a.moments (weaker (IsImage (latest mid)) (IsImage (latest old)) (at_end (IsImage (latest old)) old mid a.moments) mid new b.moments);
}

-- ---- the gate whose tail is cut
module _ (tells : Bool) (content : List ℕ) (accounts : List Account) (extent : Extent) (e : IsExtent tells content accounts extent) where
  no_tail : extent.size ≤ 9 → gate_of_tail extent.size extent.end ≡ []
  no_tail few =
      let none : nat_lt extent.end (extent.size - 1) ≡ false = le-ltb extent.end (extent.size - 1) (omega (arith, few, e.after_header, e.starts_in)) in
      ap (λ (b : Bool). if b then extent.end ∷ [] else []) none

  module _ (told : IsTrue tells) where
    end_so : extent.end ≡ end_of 8 (payload_list (header extent.version) content)
    end_so = elim (cases_lt 9 extent.size) [
      | inl long ↦
          let r = e.read told long in
          end_is (header extent.version) content r.0 extent.end r.1 ∙ ap (end_of 8) (sym (ap (λ (o : Option (List (List ℕ))). unwrap_or o []) r.1.gives))
      | inr few ↦
          let none : payload_list (header extent.version) content ≡ [] = ap (λ (o : Option (List (List ℕ))). unwrap_or o []) (short_gives (header extent.version) content (omega (arith, few, e.size_is told))) in
          let first : extent.end ≡ 8 = omega (arith, few, e.after_header, e.starts_in, e.in_file) in
          first ∙ ap (end_of 8) (sym none)
    ]

    pub tail_so : gate_of_tail extent.size extent.end ≡ tail_gates content
    unfolding tail_gates
    tail_so =
        ap (λ (n : ℕ). gate_of_tail n extent.end) (e.size_is told) ∙ ap (gate_of_tail (length content)) end_so
        ∙ ap (λ (v : ℕ). gate_of_tail (length content) (end_of 8 (payload_list (header v) content))) (e.versions told).version

    -- a file of at most nine bytes is to have the second header
    pub short_second : extent.size ≤ 9 → header extent.version ≡ shadowj2
    short_second few = ap header ((e.versions told).version ∙ version_of-short content (omega (arith, few, e.size_is told)))

    pub none_aside : (aside now : List ℕ) → extent.size ≤ 9 → now ≡ aside → now ≡ aside ++ tail_gates content
    none_aside aside now few is = is ∙ sym (append-nil aside) ∙ ap (λ (l : List ℕ). aside ++ l) (sym (no_tail few) ∙ tail_so)

    pub one_aside : (aside now : List ℕ) → now ≡ aside ++ gate_of_tail extent.size extent.end → now ≡ aside ++ tail_gates content
    one_aside aside now is = is ∙ ap (λ (l : List ℕ). aside ++ l) tail_so

-- the extent of a file that is only read stays
pub extent_over : (tells tells1 : Bool) (content : List ℕ) (accounts : List Account) (extent : Extent) → IsExtent tells content accounts extent
    → (content1 : List ℕ) (accounts1 : List Account) → tells1 ≡ tells → (IsTrue tells → content1 ≡ content) → (IsTrue tells → accounts1 ≡ accounts) → IsExtent tells1 content1 accounts1 extent
extent_over tells tells1 content accounts extent e content1 accounts1 same same_content same_accounts =
    let was : IsTrue tells1 → IsTrue tells = λ told. sym same ∙ told in
    record {
      after_header = e.after_header;
      counts = e.counts;
      starts_in = e.starts_in;
      in_file = e.in_file;
      size_is = λ told. e.size_is (was told) ∙ ap length (sym (same_content (was told)));
      left = λ told. left_over content content1 accounts accounts1 (same_content (was told)) (same_accounts (was told)) (e.left (was told));
      versions = λ told. subst (λ (f : List ℕ). AreVersions f extent) (sym (same_content (was told))) (e.versions (was told));
      read = λ told more. let found = e.read (was told) more in (found.0, subst (λ (f : List ℕ). IsRead (header extent.version) f found.0 extent.end) (sym (same_content (was told))) found.1);
    }

-- a file is read, and then finished
pub aside_after : (before now later : List ℕ) (old mid new : List Account) (aside between after : List ℕ) → IsOnlyRead before now old mid → between ≡ aside
    → PutsTailAside now later mid new between after → PutsTailAside before later old new aside after
aside_after before now later old mid new aside between after read same (inl none) = inl (read_on before now later old mid new read none.0, none.1 ∙ same)
aside_after before now later old mid new aside between after read same (inr some) =
    inr (some ∙ ap (λ (l : List ℕ). l ++ tail_gates now) same ∙ ap (λ (f : List ℕ). aside ++ tail_gates f) read.content)

-- ---- a fact of both outcomes
pub on_ok_any : {T E P : Type 0} (r : Result T E) → P → OnOk r P
on_ok_any (Ok x) p = p
on_ok_any (Err e) p = tt

pub on_err_any : {T E P : Type 0} (r : Result T E) → P → OnErr r P
on_err_any (Ok x) p = tt
on_err_any (Err e) p = p

pub weaker_on_ok : {T E P Q : Type 0} (r : Result T E) → OnOk r P → (P → Q) → OnOk r Q
weaker_on_ok (Ok x) p weaker = weaker p
weaker_on_ok (Err e) p weaker = tt

-- What the moments of an office say of each of them.
use Rattle.std.proofs.Common.{◌≡◌, inl, inr, ℕ, List, [], ◌∷◌, ◌++◌, map, Some, None, refl, sym, ◌∙◌, ap, subst, append_assoc}
use Rattle.std.proofs.lemmas.List.{append-nil}
use Rattle.bank_tables.specs.Tables.{Tables}
use Rattle.exam_edge.specs.Images.{Account, latest}
use Rattle.exam_edge.specs.ImageLaws.{joined, only, started, weaker}
use Rattle.form_model.specs.Plan.{Plan}
use Rattle.history_model.specs.declared.entry.Entry.{Entry}
use Rattle.exam_office.specs.declared.mark.Mark.{Mark}
use Rattle.exam_office.specs.declared.mark.Mark.TheVariants.{Old, Opened, Own, Adopted, Fault}
use Rattle.exam_office.specs.Files.{IsImageOrStandsSecond, StandsSecond}
use Rattle.exam_office.specs.Laws.{EachMomentStands, SettledMomentStands}
use Rattle.exam_office.specs.Marks.{history, AreMarks, opened, own, fault, adopted}
use Rattle.exam_office.specs.Moments.{IsInHand, written, failed, kept, dropped, AreMoments, opening, one_more, AreOnTheWay, IsLeftOnTheWay}
use Rattle.exam_office.specs.Writing.{as_before, with_doubt, IsMending, IsWriting}
use Rattle.exam_office.proofs.Marking.{history-own, history-fault}
use Rattle.exam_office.proofs.Opened.{history-opened}

-- the marks are those of an office
are_marks-in_hand : (entry : Entry) (M N : List Mark) → IsInHand entry M N → AreMarks M → AreMarks N
are_marks-in_hand entry M N (written K size) are = own K entry size are
are_marks-in_hand entry M N (failed K) are = fault K entry are
are_marks-in_hand entry M N (kept K size) are = adopted K entry size are
are_marks-in_hand entry M N (dropped K) are = are

-- the marks before begin the marks after
added : (entry : Entry) (M N : List Mark) → IsInHand entry M N → (more : List Mark) × (N ≡ M ++ more)
added entry M N (written K size) = (Own entry size ∷ [], refl)
added entry M N (failed K) = (Fault entry ∷ [], refl)
added entry M N (kept K size) = (Adopted entry size ∷ [], refl)
added entry M N (dropped K) = ([], sym (append-nil (K ++ Fault entry ∷ [])))

module _ (b : Tables) (plan : Plan) where
  sure_at : (M more : List Mark) (H : List Entry) (file : List ℕ) → AreMarks M → history M ≡ H → StandsSecond b plan H file → IsLeftOnTheWay b plan (M ++ more) file
  sure_at M more H file are is s = record {
    before = M;
    since = more;
    is = refl;
    are_marks = are;
    doubt = None;
    doubt_is = tt;
    stands = record { so_far = history M; is_one_of = as_before None; stands = subst (λ (G : List Entry). StandsSecond b plan G file) (sym is) s };
  }

  doubt_at : (entry : Entry) (K more : List Mark) (H : List Entry) (file : List ℕ) → AreMarks (K ++ Fault entry ∷ []) → history (K ++ Fault entry ∷ []) ≡ H → IsWriting b plan H entry file
      → IsLeftOnTheWay b plan ((K ++ Fault entry ∷ []) ++ more) file
  doubt_at entry K more H file are is either =
      let M = K ++ Fault entry ∷ [] in
      let here : IsWriting b plan (history M) entry file = subst (λ (G : List Entry). IsWriting b plan G entry file) (sym is) either in
      record {
        before = M;
        since = more;
        is = refl;
        are_marks = are;
        doubt = Some entry;
        doubt_is = (K, refl);
        stands = elim here as (λ _. IsMending b plan (history M) (Some entry) file) [
          | inl s ↦ record { so_far = history M; is_one_of = as_before (Some entry); stands = s }
          | inr s ↦ record { so_far = history M ++ entry ∷ []; is_one_of = with_doubt entry; stands = s }
        ];
      }

  whole : (M : List Mark) (file : List ℕ) → IsLeftOnTheWay b plan (M ++ []) file → IsLeftOnTheWay b plan M file
  whole M file left = subst (λ (N : List Mark). IsLeftOnTheWay b plan N file) (append-nil M) left

  -- what is left while an entry is in hand
  in_hand_so : (entry : Entry) (M N : List Mark) (file : List ℕ) → IsInHand entry M N → AreMarks M → IsWriting b plan (history M) entry file → IsLeftOnTheWay b plan N file
  in_hand_so entry M N file (written K size) are (inl s) = sure_at K (Own entry size ∷ []) (history K) file are refl s
  in_hand_so entry M N file (written K size) are (inr s) =
      whole (K ++ Own entry size ∷ []) file (sure_at (K ++ Own entry size ∷ []) [] (history K ++ entry ∷ []) file (own K entry size are) (history-own K entry size) s)
  in_hand_so entry M N file (failed K) are either =
      whole (K ++ Fault entry ∷ []) file (doubt_at entry K [] (history K) file (fault K entry are) (history-fault K entry) either)
  in_hand_so entry M N file (kept K size) are either = doubt_at entry K (Adopted entry size ∷ []) (history (K ++ Fault entry ∷ [])) file are refl either
  in_hand_so entry M N file (dropped K) are either = whole (K ++ Fault entry ∷ []) file (doubt_at entry K [] (history (K ++ Fault entry ∷ [])) file are refl either)

  -- more marks
  left_longer : (M N more : List Mark) (file : List ℕ) → N ≡ M ++ more → IsLeftOnTheWay b plan M file → IsLeftOnTheWay b plan N file
  left_longer M N more file is left = record {
    before = left.before;
    since = left.since ++ more;
    is = is ∙ (ap (λ (K : List Mark). K ++ more) left.is ∙ append_assoc left.before left.since more);
    are_marks = left.are_marks;
    doubt = left.doubt;
    doubt_is = left.doubt_is;
    stands = left.stands;
  }

  module _ (before : List Account) where
    moments_marks : (marks : List Mark) (now : List Account) → AreMoments b plan before marks now → AreMarks marks
    moments_marks marks now (opening H size last at) = opened H size
    moments_marks marks now (one_more entry M N mid later so_far hand at) = are_marks-in_hand entry M N hand (moments_marks M mid so_far)

    each_moment : (marks : List Mark) (now : List Account) → AreMoments b plan before marks now → AreOnTheWay b plan before marks now
    each_moment marks now (opening H size last at) =
        let M = map Old H ++ Opened size ∷ [] in
        record {
          found = H;
          size = size;
          more = [];
          begins = sym (append-nil M);
          opened = last;
          opening = at;
          since = started (IsLeftOnTheWay b plan M) last (λ file i. whole M file (sure_at M [] H file (opened H size) (history-opened H size) (at.opened file i)));
        }
    each_moment marks now (one_more entry M N mid later so_far hand at) =
        let way = each_moment M mid so_far in
        let more = added entry M N hand in
        record {
          found = way.found;
          size = way.size;
          more = way.more ++ more.0;
          begins =
              more.1 ∙ (ap (λ (K : List Mark). K ++ more.0) way.begins ∙ append_assoc (map Old way.found ++ Opened way.size ∷ []) way.more more.0);
          opened = way.opened;
          opening = way.opening;
          since =
              joined (IsLeftOnTheWay b plan N) way.opened mid later
              (weaker (IsLeftOnTheWay b plan M) (IsLeftOnTheWay b plan N) (λ file left. left_longer M N more.0 file more.1 left) way.opened mid way.since)
              (weaker (IsWriting b plan (history M) entry) (IsLeftOnTheWay b plan N) (λ file either. in_hand_so entry M N file hand (moments_marks M mid so_far) either) mid later at);
        }

pub each_moment_stands : EachMomentStands
each_moment_stands b plan before marks now moments = each_moment b plan before marks now moments

-- what a crash might have left of a settled disk is its content
pub settled_moment_stands : SettledMomentStands
settled_moment_stands b plan H content before now settled s moments =
    weaker (IsImageOrStandsSecond b plan H (latest before)) (StandsSecond b plan H)
    (λ file here. elim here [ inl i ↦ subst (StandsSecond b plan H) (sym (only (latest before) content file settled i)) s | inr stands ↦ stands ]) before now moments.each

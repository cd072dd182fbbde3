-- A journal's file of some version, as its server writes it.
use Rattle.std.proofs.Common.{◌≡◌, inl, inr, ℕ, Bool, true, false, ◌==◌, if◌then◌else◌, List, [], ◌∷◌, ◌++◌, Option, Some, None, refl, sym, ◌∙◌, ap, subst, arith, eqb-true}
use Rattle.std.specs.List.{AllByRecursion}
use Rattle.std.specs.Option.{option_map}
use Rattle.std.proofs.lemmas.Bool.{cases_Bool}
use Rattle.answer_journal.specs.FrameLaws.{fits-push}
use Rattle.answer_journal.specs.Frames.{IsPayload, frames, front, shadowj1, shadowj2}
use Rattle.answer_journal.specs.Standing.{IsEither, moved_records}
use Rattle.answer_journal.specs.Versions.{Counted, after_mark, counted, counted_from, header, is_mark, mark, second}
use Rattle.answer_journal.proofs.VersionLaws.{from_second}
use Rattle.journal_stream.specs.Served.{IsServed, before_mark, moved_of}
use Rattle.journal_stream.proofs.Settled.{split_front}

mark_is : (p : List ℕ) → is_mark p ≡ true → p ≡ mark
mark_is [] m = absurd cc
mark_is (byte ∷ []) m = ap (λ (x : ℕ). x ∷ []) (eqb-true byte 8 m)
mark_is (byte ∷ more ∷ rest) m = absurd cc

-- payloads with a mark: the old ones, the mark, and those that count
record IsMarked (all ps : List (List ℕ)) : Type 0 where
  pub old : List (List ℕ)
  pub before : before_mark all ≡ Some old
  pub unmarked : after_mark old ≡ None
  pub is : all ≡ (old ++ mark ∷ []) ++ ps

marked : (all ps : List (List ℕ)) → after_mark all ≡ Some ps → IsMarked all ps
marked [] ps e = absurd cc
marked (p ∷ all) ps e = elim (cases_Bool (is_mark p)) [
  | inl m ↦
      let both : Some all ≡ Some ps = rw m at e in
      let same : all ≡ ps = cc in
      record {
        old = [];
        before = rw m refl;
        unmarked = refl;
        is = ap (λ (x : List ℕ). x ∷ all) (mark_is p m) ∙ ap (λ (l : List (List ℕ)). mark ∷ l) same;
      }
  | inr other ↦
      let r = marked all ps (rw other at e) in
      record {
        old = p ∷ r.old;
        before = rw other (ap (option_map (λ (l : List (List ℕ)). p ∷ l)) r.before);
        unmarked = rw other r.unmarked;
        is = ap (λ (l : List (List ℕ)). p ∷ l) r.is;
      }
]

begun_by : (b : Bool) (all ps : List (List ℕ)) (payload file : List ℕ) → AllByRecursion IsPayload all → IsPayload payload
    → (if b then counted_from all (after_mark all) else second all) ≡ second ps → IsEither (if b then shadowj1 else shadowj2) all payload file
    → IsServed (if b then before_mark all else None) ps file
begun_by true all ps payload file fits one e either =
    let m = marked all ps (from_second all ps (after_mark all) e) in
    subst (λ (o : Option (List (List ℕ))). IsServed o ps file) (sym m.before) (inl (record {
      fits = subst (AllByRecursion IsPayload) m.is fits;
      unmarked = m.unmarked;
      payload = payload;
      one = one;
      either = subst (λ (l : List (List ℕ)). IsEither shadowj1 l payload file) m.is either;
    }))
begun_by false all ps payload file fits one e either =
    let same : all ≡ ps = ap (λ (c : Counted). c.payloads) e in
    inl (record {
      fits = subst (AllByRecursion IsPayload) same fits;
      unmarked = tt;
      payload = payload;
      one = one;
      either = subst (λ (l : List (List ℕ)). IsEither shadowj2 l payload file) same either;
    })

-- a file with payloads of which these count
pub served_so : (version : ℕ) (all ps : List (List ℕ)) (payload file : List ℕ) → AllByRecursion IsPayload all → IsPayload payload
    → counted version all ≡ second ps → IsEither (header version) all payload file → IsServed (moved_of version all) ps file
served_so version all ps payload file fits one e either = begun_by (version == 1) all ps payload file fits one e either

before_push : (all ps : List (List ℕ)) (p : List ℕ) → after_mark all ≡ Some ps → before_mark (all ++ p ∷ []) ≡ before_mark all
before_push [] ps p e = absurd cc
before_push (q ∷ all) ps p e = elim (cases_Bool (is_mark q)) [
  | inl m ↦ rw m refl
  | inr other ↦ rw other (ap (option_map (λ (l : List (List ℕ)). q ∷ l)) (before_push all ps p (rw other at e)))
]

kept_by : (b : Bool) (all ps : List (List ℕ)) (p : List ℕ) → (if b then counted_from all (after_mark all) else second all) ≡ second ps
    → (if b then before_mark (all ++ p ∷ []) else None) ≡ (if b then before_mark all else None)
kept_by true all ps p e = before_push all ps p (from_second all ps (after_mark all) e)
kept_by false all ps p e = refl

pub moved_stays : (version : ℕ) (all ps : List (List ℕ)) (p : List ℕ) → counted version all ≡ second ps → moved_of version (all ++ p ∷ []) ≡ moved_of version all
moved_stays version all ps p e = kept_by (version == 1) all ps p e

fits_both : (ps qs : List (List ℕ)) → AllByRecursion IsPayload ps → AllByRecursion IsPayload qs → AllByRecursion IsPayload (ps ++ qs)
fits_both [] qs a b = b
fits_both (p ∷ ps) qs a b = (a.0, fits_both ps qs a.1 b)

pub moving_served : (old records : List (List ℕ)) (file : List ℕ) → AllByRecursion IsPayload old → AllByRecursion IsPayload records → after_mark old ≡ None
    → file ≡ front shadowj1 old ++ 1 ∷ (moved_records records ++ 0 ∷ []) → IsServed (Some old) [] file
moving_served old records file fits more unmarked is =
    let one : IsPayload mark = record { some = omega arith; few = omega arith } in
    inr (inl (record {
      old = old;
      was = refl;
      none = refl;
      records = records;
      begun = record {
        fits = fits_both (old ++ mark ∷ []) records (fits-push old mark fits one) more;
        unmarked = unmarked;
        payload = mark;
        one = one;
        either = inl (record {
          gate = 0;
          junk = [];
          closed = λ e. absurd (omega (arith, e));
          is = is ∙ sym (split_front shadowj1 old (mark ∷ []) (frames records ++ 0 ∷ [])) ∙ sym (split_front shadowj1 (old ++ mark ∷ []) records (0 ∷ []));
        });
      };
    }))

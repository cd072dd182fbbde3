-- Which payloads of a file count.
use Rattle.std.proofs.Common.{◌≡◌, ◌⊎◌, inl, inr, ℕ, ◌+◌, ◌-◌, ◌<◌, ◌≤◌, true, false, ◌==◌, List, [], ◌∷◌, ◌++◌, length, take, drop, Option, Some, None, refl, sym, ◌∙◌, ap, subst, arith, append_assoc, length-append, length-take, length-drop}
use Rattle.std.specs.Prelude.{unwrap_or}
use Rattle.std.specs.Option.{option_map}
use Rattle.std.proofs.lemmas.Bool.{cases_Bool, ne_eqb}
use Rattle.std.proofs.lemmas.List.{drop_at, take_at, drop-take, take-append-le, drop-append-le, take_all}
use Rattle.answer_journal.specs.Frames.{payloads}
use Rattle.answer_journal.specs.Payload.{end_of}
use Rattle.answer_journal.specs.Standing.{payload_list, IsBeforeOrWith}
use Rattle.answer_journal.specs.Versions.{header, version_of, is_mark, after_mark, Counted, second, counted_from, counted, contents, counted_in, uncounted, HoldsOrOneMore}
use Rattle.answer_journal.specs.Journal.{CountsSecond}
use Rattle.answer_journal.specs.Walk.{counted_version}
use Rattle.answer_journal.proofs.VersionLaws.{counted_goes_on, one_version}

-- ---- the payloads after the mark are the last ones
pub record IsAfter (all after : List (List ℕ)) : Type 0 where
  pub before : List (List ℕ)
  pub p : List ℕ
  pub one : length p ≡ 1
  pub is : all ≡ before ++ p ∷ after

mark_one : (p : List ℕ) → is_mark p ≡ true → length p ≡ 1
mark_one [] m = absurd (cc)
mark_one (byte ∷ []) m = refl
mark_one (byte ∷ more ∷ rest) m = absurd (cc)

after_is : (all after : List (List ℕ)) → after_mark all ≡ Some after → IsAfter all after
after_is [] after e = absurd (cc)
after_is (x ∷ all) after e = elim (cases_Bool (is_mark x)) [
  | inl m ↦
      let both : Some all ≡ Some after = rw m at e in
      let same : all ≡ after = cc in
      record { before = []; p = x; one = mark_one x m; is = ap (λ (l : List (List ℕ)). x ∷ l) same }
  | inr not ↦
      let rest : after_mark all ≡ Some after = rw not at e in
      let r = after_is all after rest in
      record { before = x ∷ r.before; p = r.p; one = r.one; is = ap (λ (l : List (List ℕ)). x ∷ l) r.is }
]

-- of the payloads of a file those that count are the last ones, and the version is by whether some
-- do not
pub record IsCut (version : ℕ) (all : List (List ℕ)) : Type 0 where
  pub few : uncounted version all ≤ length all
  -- the last of those that do not count is the mark, of one byte
  pub mark_gate : 0 < uncounted version all → end_of 8 (take (uncounted version all) all) ≡ end_of 8 (take (uncounted version all - 1) all) + 6
  pub rest : (counted version all).payloads ≡ drop (uncounted version all) all
  pub version_is : counted_version version (uncounted version all) ≡ (counted version all).version

pub cut_so : (version : ℕ) (all : List (List ℕ)) → IsCut version all
cut_so version all = elim (cases_Bool (version == 1)) [
  | inl first ↦ elim (cases_after (after_mark all)) [
    | inl none ↦
        let c : counted version all ≡ record { version = 1; payloads = all } = rw first (ap (counted_from all) none) in
        let n : uncounted version all ≡ 0 = omega (arith, ap (λ (x : Counted). length x.payloads) c) in
        record {
          few = omega arith;
          mark_gate = λ some. absurd (omega (arith, n, some));
          rest = ap (λ (x : Counted). x.payloads) c ∙ ap (λ (k : ℕ). drop k all) (sym n);
          version_is = ap (counted_version version) n ∙ old_version version first ∙ ap (λ (x : Counted). x.version) (sym c);
        }
    | inr some ↦
        let after = some.0 in
        let c : counted version all ≡ second after = rw first (ap (counted_from all) some.1) in
        let i = after_is all after some.1 in
        let n : uncounted version all ≡ length i.before + 1 = omega (arith, ap (λ (x : Counted). length x.payloads) c, ap length i.is, length-append i.before (i.p ∷ after)) in
        let more : (uncounted version all == 0) ≡ false = not_zero (uncounted version all) (omega (arith, n)) in
        let up : List (List ℕ) = i.before ++ i.p ∷ [] in
        let regrouped : all ≡ up ++ after = i.is ∙ sym (append_assoc i.before (i.p ∷ []) after) in
        let count : length i.before + 1 ≡ length up = omega (arith, length-append i.before (i.p ∷ [])) in
        record {
          few = omega arith;
          mark_gate = λ some.
              let here : take (uncounted version all) all ≡ up = ap (λ (k : ℕ). take k all) (n ∙ count) ∙ ap (take (length up)) regrouped ∙ take_at up after (length up) refl in
              let prior : take (uncounted version all - 1) all ≡ i.before =
              ap (λ (k : ℕ). take k all) (less (uncounted version all) (length i.before) n) ∙ ap (take (length i.before)) i.is ∙ take_at i.before (i.p ∷ after) (length i.before) refl in
              ap (end_of 8) here ∙ end_of-append 8 i.before (i.p ∷ []) ∙ ends (end_of 8 i.before) i.p i.one ∙ ap (λ (l : List (List ℕ)). end_of 8 l + 6) (sym prior);
          rest = ap (λ (x : Counted). x.payloads) c ∙ sym (ap (λ (k : ℕ). drop k all) (n ∙ count) ∙ ap (drop (length up)) regrouped ∙ drop_at up after (length up) refl);
          version_is = moved_version version (uncounted version all) more ∙ ap (λ (x : Counted). x.version) (sym c);
        }
  ]
  | inr other ↦
      let c : counted version all ≡ second all = rw other refl in
      let n : uncounted version all ≡ 0 = omega (arith, ap (λ (x : Counted). length x.payloads) c) in
      record {
        few = omega arith;
        mark_gate = λ some. absurd (omega (arith, n, some));
        rest = ap (λ (x : Counted). x.payloads) c ∙ ap (λ (k : ℕ). drop k all) (sym n);
        version_is = new_version version (uncounted version all) other ∙ ap (λ (x : Counted). x.version) (sym c);
      }
]
  where
    cases_after : (o : Option (List (List ℕ))) → (o ≡ None) ⊎ ((after : List (List ℕ)) × (o ≡ Some after))
    cases_after None = inl refl
    cases_after (Some after) = inr (after, refl)

    old_version : (v : ℕ) → (v == 1) ≡ true → counted_version v 0 ≡ 1
    old_version v is = rw is refl

    moved_version : (v n : ℕ) → (n == 0) ≡ false → counted_version v n ≡ 2
    moved_version v n some = elim (cases_Bool (v == 1)) [ inl is ↦ rw (is, some) refl | inr not ↦ rw not refl ]

    new_version : (v n : ℕ) → (v == 1) ≡ false → counted_version v n ≡ 2
    new_version v n is = rw is refl

    less : (n m : ℕ) → n ≡ m + 1 → n - 1 ≡ m
    less n m e = omega (arith, e)

    ends : (a : ℕ) (p : List ℕ) → length p ≡ 1 → a + 5 + length p ≡ a + 6
    ends a p one = omega (arith, one)

    end_of-append : (a : ℕ) (ps qs : List (List ℕ)) → end_of a (ps ++ qs) ≡ end_of (end_of a ps) qs
    end_of-append a [] qs = refl
    end_of-append a (p ∷ ps) qs = end_of-append (a + 5 + length p) ps qs

    not_zero : (n : ℕ) → 0 < n → (n == 0) ≡ false
    not_zero n more = ne_eqb n 0 (λ e. absurd (omega (arith, e, more)))

-- ---- the payloads of a file of this version, and its contents
module _ (content : List ℕ) (version : ℕ) (all : List (List ℕ)) (named : version ≡ version_of content) (gives : payloads (header version) content ≡ Some all) where
  pub contents_are : contents content ≡ Some (counted version all)
  unfolding contents
  contents_are = ap (λ (v : ℕ). option_map (counted v) (payloads (header v) content)) (sym named) ∙ ap (option_map (counted version)) gives

  pub counted_are : counted_in content ≡ counted version all
  counted_are = ap (λ (o : Option Counted). unwrap_or o (second [])) contents_are

  pub holds_itself : contents content ≡ Some (counted_in content)
  holds_itself = contents_are ∙ ap Some (sym counted_are)

  pub version_so : counted_version version (uncounted version all) ≡ (counted_in content).version
  version_so = (cut_so version all).version_is ∙ ap (λ (c : Counted). c.version) (sym counted_are)

-- ---- payloads of which some of the second version count
module _ (version start : ℕ) (all ps : List (List ℕ)) (c : CountsSecond version start all ps) where
  pub holds : (file : List ℕ) → payloads (header version) file ≡ Some all → contents file ≡ Some (second ps)
  holds file gives = one_version version all ps file c.counts gives

  pub kept : (file : List ℕ) → payloads (header version) file ≡ Some all → (counted_in file).payloads ≡ ps
  kept file gives = ap (λ (o : Option Counted). (unwrap_or o (second [])).payloads) (holds file gives)

  pub one_more : (p : List ℕ) → CountsSecond version start (all ++ p ∷ []) (ps ++ p ∷ [])
  one_more p =
      let counts = counted_goes_on version all ps p c.counts in
      let u0 : uncounted version all ≡ length all - length ps = ap (λ (x : Counted). length all - length x.payloads) c.counts in
      let u1 : uncounted version (all ++ p ∷ []) ≡ length (all ++ p ∷ []) - length (ps ++ p ∷ []) = ap (λ (x : Counted). length (all ++ p ∷ []) - length x.payloads) counts in
      let same : uncounted version (all ++ p ∷ []) ≡ uncounted version all = omega (arith, u0, u1, length-append all (p ∷ []), length-append ps (p ∷ [])) in
      record {
        counts = counts;
        starts = c.starts ∙ ap (end_of 8) (sym (ap (λ (k : ℕ). take k (all ++ p ∷ [])) same ∙ take-append-le (uncounted version all) all (p ∷ []) (cut_so version all).few));
      }

  pub either_holds : (p file : List ℕ) → IsBeforeOrWith (header version) all p file → HoldsOrOneMore ps p file
  either_holds p file (inl e) = inl (holds file e)
  either_holds p file (inr e) = inr (one_version version (all ++ p ∷ []) (ps ++ p ∷ []) file (one_more p).counts e)

  -- a file that gives them
  pub counts_in : (content : List ℕ) → payloads (header version) content ≡ Some all → CountsSecond version start (payload_list (header version) content) (counted_in content).payloads
  counts_in content gives =
      let list : payload_list (header version) content ≡ all = ap (λ (o : Option (List (List ℕ))). unwrap_or o []) gives in
      subst (λ (l : List (List ℕ)). CountsSecond version start l (counted_in content).payloads) (sym list)
      (subst (CountsSecond version start all) (sym (kept content gives)) c)

-- ---- the first so many of the payloads that count
module _ (all : List (List ℕ)) (skipped passed : ℕ) (past : skipped ≤ passed) where
  pub first_is : take (passed - skipped) (drop skipped all) ≡ drop skipped (take passed all)
  first_is =
      let sum : skipped + (passed - skipped) ≡ passed = omega (arith, past) in
      sym (drop-take skipped (passed - skipped) all) ∙ ap (λ (k : ℕ). drop skipped (take k all)) sum

  pub first_whole : take passed all ≡ all → take (passed - skipped) (drop skipped all) ≡ drop skipped all
  first_whole whole = first_is ∙ ap (drop skipped) whole

  pub whole_first : passed ≤ length all → take (passed - skipped) (drop skipped all) ≡ drop skipped all → take passed all ≡ all
  whole_first few whole =
      let left : passed - skipped ≡ length all - skipped = omega (arith, ap length whole, length-take (passed - skipped) (drop skipped all), length-drop skipped all, few) in
      take_all passed all (omega (arith, left, past, few))

  pub first_more : (p : List ℕ) → passed ≤ length all → take (passed + 1) all ≡ take passed all ++ p ∷ []
      → take (passed + 1 - skipped) (drop skipped all) ≡ take (passed - skipped) (drop skipped all) ++ p ∷ []
  first_more p few more =
      let sum : skipped + (passed + 1 - skipped) ≡ passed + 1 = omega (arith, past) in
      sym (drop-take skipped (passed + 1 - skipped) all) ∙ ap (λ (k : ℕ). drop skipped (take k all)) sum
      ∙ ap (drop skipped) more ∙ drop-append-le skipped (take passed all) (p ∷ []) (omega (arith, past, length-take passed all, few))
      ∙ ap (λ (l : List (List ℕ)). l ++ p ∷ []) (sym first_is)

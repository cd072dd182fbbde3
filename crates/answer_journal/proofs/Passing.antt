-- What counts while the payloads of a file are passed one by one.
use Rattle.std.proofs.Common.{◌≡◌, ◌≢◌, inl, inr, ℕ, ◌+◌, ◌-◌, ◌<◌, true, false, ◌==◌, if◌then◌else◌, List, [], ◌∷◌, ◌++◌, length, take, Option, Some, None, refl, sym, ◌∙◌, ap, arith, length-append}
use Rattle.std.specs.Option.{option_map}
use Rattle.std.specs.Prelude.{unwrap_or}
use Rattle.std.proofs.lemmas.Bool.{eqb-true, eqb-false, cases_Bool}
use Rattle.std.proofs.lemmas.List.{take_all, take-append-le}
use Rattle.answer_journal.specs.Frames.{payloads}
use Rattle.answer_journal.specs.Payload.{end_of}
use Rattle.answer_journal.specs.Reading.{IsPast}
use Rattle.answer_journal.specs.Versions.{mark, is_mark, after_mark, Counted, second, header, version_of, counted, counted_in, contents, uncounted, first_place}
use Rattle.answer_journal.specs.declared.gates.Gates.{Gates}

-- ---- the first mark
pub after-push : (ps after : List (List ℕ)) (p : List ℕ) → after_mark ps ≡ Some after → after_mark (ps ++ p ∷ []) ≡ Some (after ++ p ∷ [])
after-push [] after p is = cc
after-push (q ∷ ps) after p is = elim (cases_Bool (is_mark q)) [
  | inl marked ↦
      let e : Some ps ≡ Some after = rw marked at is in
      let same : ps ≡ after = cc in
      rw marked (ap (λ (l : List (List ℕ)). Some (l ++ p ∷ [])) same)
  | inr other ↦ let e : after_mark ps ≡ Some after = rw other at is in rw other (after-push ps after p e)
]

pub unmarked-push : (ps : List (List ℕ)) (p : List ℕ) → after_mark ps ≡ None → after_mark (ps ++ p ∷ []) ≡ (if is_mark p then Some [] else None)
unmarked-push [] p is = refl
unmarked-push (q ∷ ps) p is = elim (cases_Bool (is_mark q)) [
  | inl marked ↦ let e : Some ps ≡ None = rw marked at is in absurd cc
  | inr other ↦ let e : after_mark ps ≡ None = rw other at is in rw other (unmarked-push ps p e)
]

pub marked-after : (ps qs : List (List ℕ)) → after_mark ps ≡ None → after_mark (ps ++ mark ∷ qs) ≡ Some qs
marked-after [] qs is = refl
marked-after (q ∷ ps) qs is = elim (cases_Bool (is_mark q)) [
  | inl marked ↦ let e : Some ps ≡ None = rw marked at is in absurd cc
  | inr other ↦ let e : after_mark ps ≡ None = rw other at is in rw other (marked-after ps qs e)
]

after-fewer : (ps after : List (List ℕ)) → after_mark ps ≡ Some after → length after < length ps
after-fewer [] after is = cc
after-fewer (q ∷ ps) after is = elim (cases_Bool (is_mark q)) [
  | inl marked ↦
      let e : Some ps ≡ Some after = rw marked at is in
      let same : ps ≡ after = cc in
      omega (arith, ap length same)
  | inr other ↦ let e : after_mark ps ≡ Some after = rw other at is in omega (arith, after-fewer ps after e)
]

-- ---- what counts
pub counted-second : (version : ℕ) (ps : List (List ℕ)) → (version == 1) ≡ false → counted version ps ≡ second ps
counted-second version ps is = rw is refl

pub counted-moved : (version : ℕ) (ps after : List (List ℕ)) → (version == 1) ≡ true → after_mark ps ≡ Some after → counted version ps ≡ second after
counted-moved version ps after is found = rw (is, found) refl

pub counted-unmoved : (version : ℕ) (ps : List (List ℕ)) → (version == 1) ≡ true → after_mark ps ≡ None → counted version ps ≡ record { version = 1; payloads = ps }
counted-unmoved version ps is none = rw (is, none) refl

pub uncounted-by : (version : ℕ) (ps : List (List ℕ)) (c : Counted) → counted version ps ≡ c → uncounted version ps ≡ length ps - length c.payloads
uncounted-by version ps c is = ap (λ (x : Counted). length ps - length x.payloads) is

-- ---- one payload more
module _ (version : ℕ) (gates next : Gates) (ps : List (List ℕ)) (p : List ℕ) (past : IsPast version gates (length (ps ++ p ∷ [])) p next) (end_is : next.end ≡ end_of 8 (ps ++ p ∷ []))
    (skipped_is : gates.skipped ≡ uncounted version ps) (start_is : gates.start ≡ first_place version ps) where
  abbrev all : List (List ℕ)
  all = ps ++ p ∷ []

  abbrev Pushed : Type 0
  Pushed = (next.skipped ≡ uncounted version all) × (next.start ≡ first_place version all)

  one_more : length all ≡ length ps + 1
  one_more = length-append ps (p ∷ [])

  -- as many count for nothing as before
  as_before : (next.start ≡ gates.start) × (next.skipped ≡ gates.skipped) → uncounted version all ≡ uncounted version ps → Pushed
  as_before same n = (
    same.1 ∙ skipped_is ∙ sym n,
    same.0 ∙ start_is ∙ ap (end_of 8) (sym (ap (λ (k : ℕ). take k all) n ∙ take-append-le (uncounted version ps) ps (p ∷ []) (omega arith))),
  )

  after_one : (after : List (List ℕ)) → (version == 1) ≡ true → after_mark ps ≡ Some after → Pushed
  after_one after first found =
      let before : uncounted version ps ≡ length ps - length after = uncounted-by version ps (second after) (counted-moved version ps after first found) in
      let now : uncounted version all ≡ length all - length (after ++ p ∷ []) = uncounted-by version all (second (after ++ p ∷ [])) (counted-moved version all (after ++ p ∷ []) first (after-push ps after p found)) in
      let some : gates.skipped ≢ 0 = λ e. absurd (omega (arith, e, skipped_is, before, after-fewer ps after found)) in
      as_before (past.other (inr (inl some))) (omega (arith, before, now, one_more, length-append after (p ∷ [])))

  none_yet : (version == 1) ≡ true → after_mark ps ≡ None → uncounted version ps ≡ 0
  none_yet first none = omega (arith, uncounted-by version ps (record { version = 1; payloads = ps }) (counted-unmoved version ps first none))

  -- the mark
  met : (version == 1) ≡ true → after_mark ps ≡ None → is_mark p ≡ true → Pushed
  met first none marked =
      let found : after_mark all ≡ Some [] = unmarked-push ps p none ∙ (rw marked refl) in
      let now : uncounted version all ≡ length all - 0 = uncounted-by version all (second []) (counted-moved version all [] first found) in
      let ends = past.mark (eqb-true version 1 first) (omega (arith, skipped_is, none_yet first none)) marked in (
        omega (arith, ends.1, now),
        ends.0 ∙ end_is ∙ ap (end_of 8) (sym (take_all (uncounted version all) all (omega (arith, now)))),
      )

  no_mark : (version == 1) ≡ true → after_mark ps ≡ None → is_mark p ≡ false → Pushed
  no_mark first none other =
      let still : after_mark all ≡ None = unmarked-push ps p none ∙ (rw other refl) in
      let now : uncounted version all ≡ length all - length all = uncounted-by version all (record { version = 1; payloads = all }) (counted-unmoved version all first still) in
      as_before (past.other (inr (inr other))) (omega (arith, now, none_yet first none))

  in_first : (o : Option (List (List ℕ))) → after_mark ps ≡ o → (version == 1) ≡ true → Pushed
  in_first (Some after) found first = after_one after first found
  in_first None none first = elim (cases_Bool (is_mark p)) [
    | inl marked ↦ met first none marked
    | inr other ↦ no_mark first none other
  ]

  pub pushed : Pushed
  pushed = elim (cases_Bool (version == 1)) [
    | inl first ↦ in_first (after_mark ps) refl first
    | inr other ↦
        let before : uncounted version ps ≡ length ps - length ps = uncounted-by version ps (second ps) (counted-second version ps other) in
        let now : uncounted version all ≡ length all - length all = uncounted-by version all (second all) (counted-second version all other) in
        as_before (past.other (inl (eqb-false version 1 other))) (omega (arith, before, now))
  ]

-- ---- the contents of a file
pub contents_by : (file : List ℕ) (ps : List (List ℕ)) → payloads (header (version_of file)) file ≡ Some ps → contents file ≡ Some (counted (version_of file) ps)
unfolding contents
contents_by file ps gives = ap (option_map (counted (version_of file))) gives

pub contents_listed : (file : List ℕ) (ps : List (List ℕ)) → payloads (header (version_of file)) file ≡ Some ps → contents file ≡ Some (counted_in file)
contents_listed file ps gives =
    let is = contents_by file ps gives in
    is ∙ ap Some (sym (ap (λ (o : Option Counted). unwrap_or o (second [])) is))

-- The device calls that bring a file to rest when it is opened.
use Rattle.std.proofs.Common.{◌≡◌, ◌⊎◌, inl, inr, ℕ, ◌+◌, ◌<◌, ◌≤◌, nat_le, true, false, List, [], ◌∷◌, ◌++◌, length, take, drop, get_or, Some, refl, sym, ◌∙◌, ap, arith, length-append, length-take, take-append-drop}
use Rattle.std.specs.Prelude.{Option, unwrap_or}
use Rattle.std.proofs.lemmas.Bool.{le-leb, lt-leb}
use Rattle.std.proofs.lemmas.List.{drop_more, drop_all, append-nil}
use Rattle.exam_edge.specs.Images.{Account, IsSettled, IsClean, latest, cut_to, shortened, dropped, overwritten, Grows, AtEachMoment}
use Rattle.exam_edge.specs.ImageLaws.{trimmed, image_of_dropped, only, settled_clean, shortened_clean, started, goes_on}
use Rattle.answer_journal.specs.Frames.{FileHeader, shadowj2, front, payloads}
use Rattle.answer_journal.specs.Standing.{payload_list, IsAtRest, IsBeingWritten, Unopened, opened_file}
use Rattle.answer_journal.specs.StandingLaws.{unopened_gives}
use Rattle.answer_journal.specs.Reading.{IsRead}
use Rattle.answer_journal.proofs.Crash.{at_rest, trimmed_behind, cut_behind}
use Rattle.answer_journal.proofs.Staging.{written_unopened, cut_images, cut_clean}

module _ (h : FileHeader) where
  pub short_gives : (file : List ℕ) → length file ≤ 9 → payloads h file ≡ Some []
  unfolding payloads
  short_gives file le = let e : nat_le (length file) 9 ≡ true = le-leb (length file) 9 le in rw e refl

  pub short_list : (file : List ℕ) → length file ≤ 9 → payload_list h file ≡ []
  short_list file few = ap (λ (o : Option (List (List ℕ))). unwrap_or o []) (short_gives file few)

  pub listed : (file : List ℕ) (ps : List (List ℕ)) → payloads h file ≡ Some ps → payloads h file ≡ Some (payload_list h file)
  listed file ps is = is ∙ ap Some (sym (ap (λ (o : Option (List (List ℕ))). unwrap_or o []) is))

  module _ (content : List ℕ) (ps : List (List ℕ)) (end : ℕ) (r : IsRead h content ps end) where
    pub read_size : end + 1 ≡ length (front h ps) + 1
    read_size = omega (arith, ap length r.before, length-take end content, r.in_file)

    pub shut : Unopened h ps content
    shut = record {
      gate = get_or content end 0;
      junk = drop (end + 1) content;
      closed = r.closed;
      is = sym (take-append-drop end content) ∙ ap (λ (l : List ℕ). l ++ drop end content) r.before ∙ ap (λ (l : List ℕ). front h ps ++ l) (drop_more content end 0 r.in_file);
    }

    pub cut_rests : (c1 : List ℕ) (a2 : List Account) → c1 ≡ take (end + 1) content → IsSettled c1 a2 → IsAtRest h c1 a2 (end + 1) × (payload_list h c1 ≡ ps)
    cut_rests c1 a2 is settles1 =
        let u : Unopened h ps content = shut in
        let file : c1 ≡ front h ps ++ u.gate ∷ [] = is ∙ cut_behind h ps (end + 1) content read_size u in
        at_rest h ps u.gate c1 a2 (end + 1) r.fits u.closed file (omega (arith, ap length file, read_size, length-append (front h ps) (u.gate ∷ []))) settles1

    module _ (a0 a1 : List Account) (g : Grows (dropped (cut_to (end + 1) (latest a0))) a0 a1) where
      abbrev Gives : List ℕ → Type 0
      Gives file = payloads h file ≡ payloads h content

      -- the cut of a settled file
      settled_keeps : IsSettled content a0 → AtEachMoment a0 a1 Gives
      settled_keeps settles =
          goes_on Gives (dropped (cut_to (end + 1) (latest a0))) a0 a0 a1 (started Gives a0 (λ file i. ap (payloads h) (only (latest a0) content file settles i))) g
          (λ file i. unopened_gives h ps file r.fits (trimmed_behind h ps (end + 1) content file read_size shut (trimmed (end + 1) (latest a0) content file settles (image_of_dropped (cut_to (end + 1) (latest a0)) file i))) ∙ sym r.gives)

      -- that of a file of which what follows the gate may be suspect
      written_keeps : IsBeingWritten h ps a0 (end + 1) → AtEachMoment a0 a1 Gives
      written_keeps w =
          goes_on Gives (dropped (cut_to (end + 1) (latest a0))) a0 a0 a1
          (started Gives a0 (λ file i. unopened_gives h ps file r.fits (written_unopened h ps (end + 1) read_size a0 w file i) ∙ sym r.gives)) g
          (λ file i. unopened_gives h ps file r.fits (cut_images h ps (end + 1) read_size a0 w file i) ∙ sym r.gives)

      pub cut_keeps : IsSettled content a0 ⊎ IsBeingWritten h ps a0 (end + 1) → AtEachMoment a0 a1 Gives
      cut_keeps (inl settles) = settled_keeps settles
      cut_keeps (inr w) = written_keeps w

    pub tail_clean : (a0 : List Account) → IsSettled content a0 ⊎ IsBeingWritten h ps a0 (end + 1) → IsClean (shortened (end + 1) (latest a0))
    tail_clean a0 (inl settles) = shortened_clean (end + 1) (latest a0) (settled_clean (latest a0) content settles)
    tail_clean a0 (inr w) = cut_clean h ps (end + 1) read_size a0 w

  pub begun_is : (content c1 : List ℕ) → length content ≤ 9 → c1 ≡ overwritten content 0 (h.bytes ++ 0 ∷ []) → c1 ≡ h.bytes ++ 0 ∷ []
  begun_is content c1 few is =
      let bytes = h.bytes ++ 0 ∷ [] in
      is ∙ ap (λ (l : List ℕ). bytes ++ l) (drop_all (0 + length bytes) content (omega (arith, few, length-append h.bytes (0 ∷ []), h.eight))) ∙ append-nil bytes

  pub begun_rests : (content c1 : List ℕ) (a2 : List Account) → length content ≤ 9 → c1 ≡ overwritten content 0 (h.bytes ++ 0 ∷ []) → IsSettled c1 a2 → IsAtRest h c1 a2 9 × (payload_list h c1 ≡ [])
  begun_rests content c1 a2 few is settles =
      let file : c1 ≡ h.bytes ++ 0 ∷ [] = begun_is content c1 few is in
      let framed : c1 ≡ front h [] ++ 0 ∷ [] = file ∙ ap (λ (l : List ℕ). l ++ 0 ∷ []) (sym (append-nil h.bytes)) in
      at_rest h [] 0 c1 a2 9 tt (λ e. absurd (omega (arith, e))) framed (omega (arith, ap length file, length-append h.bytes (0 ∷ []), h.eight)) settles

-- ---- the content afterwards
pub opened_file-short : (file : List ℕ) (size : ℕ) → length file ≤ 9 → opened_file file size ≡ shadowj2.bytes ++ 0 ∷ []
unfolding opened_file
opened_file-short file size few = let short : nat_le (length file) 9 ≡ true = le-leb (length file) 9 few in rw short refl

pub opened_file-long : (file : List ℕ) (size : ℕ) → 9 < length file → opened_file file size ≡ take size file
unfolding opened_file
opened_file-long file size more = let long : nat_le (length file) 9 ≡ false = lt-leb (length file) 9 more in rw long refl

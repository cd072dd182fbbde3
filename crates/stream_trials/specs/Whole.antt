-- The file of a whole journal in memory.
use Rattle.std.proofs.Common.{◌≡◌, refl, sym, ap, ◌∙◌, inl, ℕ, true, ◌&&◌, ◌==◌, nat_le, IsTrue}
use Rattle.std.proofs.Common.{List, [], ◌∷◌, ◌++◌, length, None, arith}
use Rattle.std.proofs.Math.Bool.{true≢false}
use Rattle.std.proofs.lemmas.Bool.{and_parts, leb-true, eqb-true}
use Rattle.std.specs.List.{AllByRecursion}
use Rattle.answer_journal.specs.Frames.{IsPayload, front, shadowj2}
use Rattle.journal_stream.specs.Served.{IsServed}
use Rattle.stream_trials.specs.declared.memory_journal.MemoryJournal.{MemoryJournal}
use Rattle.stream_trials.specs.Journals.{payloads_of, are_payloads, is_same, is_whole}

same_is : (a b : List ℕ) → is_same a b ≡ true → a ≡ b
same_is [] [] e = refl
same_is [] (b ∷ m) e = absurd (true≢false (sym e))
same_is (a ∷ l) [] e = absurd (true≢false (sym e))
same_is (a ∷ l) (b ∷ m) e =
    let parts = and_parts (a == b) (is_same l m) e in
    ap (λ n. n ∷ l) (eqb-true a b parts.0) ∙ ap (λ k. b ∷ k) (same_is l m parts.1)

all_fit : (ps : List (List ℕ)) → are_payloads ps ≡ true → AllByRecursion IsPayload ps
all_fit [] e = tt
all_fit (p ∷ ps) e =
    let parts = and_parts (nat_le 1 (length p) && nat_le (length p) 131072) (are_payloads ps) e in
    let one = and_parts (nat_le 1 (length p)) (nat_le (length p) 131072) parts.0 in
    (record { some = leb-true 1 (length p) one.0; few = leb-true (length p) 131072 one.1 }, all_fit ps parts.1)

-- a journal whose bytes are those of its records is one that a server writes
pub whole_is_served : (j : MemoryJournal) → IsTrue (is_whole j) → IsServed None (payloads_of j) j.content.items
whole_is_served j whole =
    let ps = payloads_of j in
    let parts = and_parts (are_payloads ps) (is_same j.content.items (front shadowj2 ps ++ 0 ∷ [])) whole in
    inl (record {
      fits = all_fit ps parts.0;
      unmarked = tt;
      payload = 1 ∷ [];
      one = record { some = omega arith; few = omega arith };
      either = inl (record { gate = 0; junk = []; closed = λ e. true≢false (ap (λ n. n == 0) e); is = same_is j.content.items _ parts.1 });
    })

-- A file whose mark's gate was being opened.
use Rattle.std.proofs.Common.{◌≡◌, inl, ℕ, ◌+◌, ◌≤◌, ◌<◌, true, false, nat_le, nat_eq, List, [], ◌∷◌, ◌++◌, length, take, get_or, refl, ◌∙◌, ap, arith, append_assoc, length-append}
use Rattle.std.specs.Prelude.{slice_index}
use Rattle.std.specs.Cmp.Lexicographic.{pointwise}
use Rattle.std.proofs.lemmas.Bool.{lt-leb}
use Rattle.std.proofs.lemmas.List.{ext_get_or, get_or-take, get_or_append_left, length-take}
use Rattle.exam_edge.specs.Images.{Account, IsImage, dropped, latest, settled, written}
use Rattle.exam_edge.specs.ImageLaws.{image_within}
use Rattle.answer_journal.specs.Frames.{shadowj1, begins, frames, front}
use Rattle.answer_journal.specs.Standing.{IsBeingSwitched, moved_records}
use Rattle.answer_journal.specs.Versions.{version_of}

-- ---- a file whose mark's gate was being opened has the header of the first version
switched_bytes : (file file0 : List ℕ) (rest : List ℕ) → file0 ≡ shadowj1.bytes ++ rest → 8 ≤ length file → ((at : ℕ) → at < 8 → slice_index file at ≡ slice_index file0 at) → take 8 file ≡ shadowj1.bytes
switched_bytes file file0 rest is long same =
    ext_get_or 0 (take 8 file) shadowj1.bytes (omega (arith, length-take 8 file, long, shadowj1.eight))
    (λ at lt. let low : at < 8 = omega (arith, lt, length-take 8 file) in
    get_or-take 8 file at 0 low ∙ (same at low ∙ (ap (λ (l : List ℕ). get_or l at 0) is ∙ get_or_append_left shadowj1.bytes rest 0 at low)))

pub switching_first : (accounts : List Account) (file : List ℕ) → IsBeingSwitched accounts → IsImage (latest accounts) file → version_of file ≡ 1
unfolding version_of
switching_first accounts file sw i =
    let tail : List ℕ = sw.gate ∷ (moved_records sw.after ++ 0 ∷ []) in
    let file0 : List ℕ = front shadowj1 sw.before ++ tail in
    let at = length (front shadowj1 sw.before) in
    let j : IsImage (dropped (written at 1 (settled file0))) file = image_within (latest accounts) (dropped (written at 1 (settled file0))) sw.within file i in
    let size : length file0 ≡ at + length tail = length-append (front shadowj1 sw.before) tail in
    let after : 8 ≤ at = omega (arith, length-append shadowj1.bytes (frames sw.before), shadowj1.eight) in
    let more : 2 ≤ length tail = omega (arith, length-append (moved_records sw.after) (0 ∷ [])) in
    let least : length file0 ≤ length file = j.least in
    let long : nat_le (length file) 9 ≡ false = lt-leb (length file) 9 (omega (arith, least, size, after, more)) in
    let bytes : take 8 file ≡ shadowj1.bytes = switched_bytes file file0 (frames sw.before ++ tail) (append_assoc shadowj1.bytes (frames sw.before) tail) (omega (arith, least, size, after))
    (λ k low. j.kept k (omega (arith, low, size, after)) (inl (omega (arith, low, after)), tt)) in
    let begun : begins shadowj1 file ≡ true = ap (λ (l : List ℕ). pointwise nat_eq l shadowj1.bytes) bytes in
    rw (long, begun) refl

use Rattle.std.proofs.Common.{◌≡◌, ℕ, ◌+◌, ◌*◌, ◌<◌, ◌%◌, ◌^◌, true, false, ◌&&◌, ◌||◌, ◌==◌, List, sym, ap, ◌∙◌, arith}
use Rattle.std.specs.Prelude.{nat_lt}
use Rattle.std.proofs.lemmas.Bool.Decides.{nat_tests}
use Rattle.rand_chacha.specs.ChaCha.{ChaCha, word_at, next_word, key_of}
use Rattle.bank_tables.specs.Items.{Set, has}
use Rattle.exposure_counters.specs.Tallies.{counts_at}
use Rattle.history_model.specs.declared.counts.Counts.{Counts}
use Rattle.history_model.specs.Draws.{draw_word, is_admitted}
use Rattle.eligibility_draw.proofs.drawing.draw_band.Goals as goal
use Rattle.eligibility_draw.proofs.drawing.draw_band.Goals.{then-admits, else-admits}

small : (n : ℕ) → n < 4096 → (n + 1) % 2 ^ 68 ≡ n + 1
small n lt = omega arith

-- a generator that is at a place gives the word of that place, and is then at the next one
stepped : (key : List ℕ) (session place word : ℕ) (old new : ChaCha) → place < 4096 → old ≡ record { key = key; stream = session; word_pos = place } → (word, new) ≡ next_word 10 old
    → (word ≡ word_at 10 key session place) × (new ≡ record { key = key; stream = session; word_pos = place + 1 })
stepped key session place word old new lt there e = (
  ap (λ (p : ℕ × ChaCha). p.0) e ∙ ap (λ (g : ChaCha). word_at 10 g.key g.stream g.word_pos) there,
  ap (λ (p : ℕ × ChaCha). p.1) e
      ∙ (ap (λ (g : ChaCha). let next : ChaCha = record g { word_pos = (g.word_pos + 1) % 2 ^ 68 } in next) there ∙ ap (λ (n : ℕ). let next : ChaCha = record { key = key; stream = session; word_pos = n } in next) (small place lt)),
)

-- the items below n + 1 are those below n and, where it is admitted, n
one_more : (X Y admitted : Set) (n : ℕ) → ((j : ℕ) → X j ≡ (nat_lt j n && admitted j)) → admitted n ≡ true → ((j : ℕ) → Y j ≡ ((j == n) || X j)) → (k : ℕ) → Y k ≡ (nat_lt k (n + 1) && admitted k)
one_more X Y admitted n before taken more k =
    let old = before k in
    let new = more k in
    grind (arith, nat_tests, taken)

none_more : (X Y admitted : Set) (n : ℕ) → ((j : ℕ) → X j ≡ (nat_lt j n && admitted j)) → admitted n ≡ false → Y ≡ X → (k : ℕ) → Y k ≡ (nat_lt k (n + 1) && admitted k)
none_more X Y admitted n before refused same k =
    let old = before k in
    grind (arith, nat_tests, refused)

pub loop-item-preserved : goal.loop-item-preserved
unfolding draw_word
loop-item-preserved c =
    let band : ℕ = c.args.band in
    let few = c.requires in
    let place : ℕ = 512 * band + c.loop-item.item in
    let step = stepped (key_of c.args.key.now) c.args.session place c.next_word.result c.loop-item.words c.next_word.new.self (omega arith) c.loop-item.invariant.words c.next_word.ensures in
    let item : ℕ = c.loop-item.item in
    let word : c.next_word.result ≡ draw_word c.args.key.now c.args.session band item = step.0 in
    let admitted : Set = λ i. is_admitted (draw_word c.args.key.now c.args.session band i) c.args.rate (counts_at c.args.counters.now i) in
    let is : c.admits.result ≡ admitted item =
    c.admits.ensures
    ∙ (ap (λ (x : ℕ). is_admitted x c.args.rate c.read.result) word
    ∙ ap (λ (x : Counts). is_admitted (draw_word c.args.key.now c.args.session band item) c.args.rate x) c.read.ensures.counts) in
    record {
      words = step.1 ∙ ap (λ (n : ℕ). let next : ChaCha = record { key = key_of c.args.key.now; stream = c.args.session; word_pos = n } in next) (let e : place + 1 ≡ 512 * band + (item + 1) = omega arith in e);
      drawn_so_far =
          elim c.if-admits.branch [
            | then-admits w ↦ one_more (has c.loop-item.eligible) (has c.if-admits.eligible) admitted item c.loop-item.invariant.drawn_so_far (sym is ∙ w.if-admits.true) (λ j. ap (λ (X : List ℕ). has X j) w.eligible-is ∙ w.with-eligible.ensures j)
            | else-admits w ↦ none_more (has c.loop-item.eligible) (has c.if-admits.eligible) admitted item c.loop-item.invariant.drawn_so_far (sym is ∙ w.if-admits.false) (ap (λ (X : List ℕ). has X) w.eligible-is)
          ];
    }

-- The draw, by computing: the inequality at its edge, ChaCha20's words of the key of zeros, and two
-- draws.
use Rattle.std.proofs.Common.{◌≡◌, ℕ, false, true, List, [], refl}
use Rattle.std.specs.Prelude.{replicate}
use Rattle.rand_core.specs.Steps.{u32_at}
use Rattle.rand_chacha.specs.Block.{quarter_round, column_round, diagonal_round, double_rounds, block_word}
use Rattle.form_model.proofs.BankA.{item_a, bank_a, plan_of_rows, plan_a}
use Rattle.history_model.specs.declared.counts.Counts.{Counts}
use Rattle.history_model.specs.Draws.{draw_word, is_admitted, drawn, draw}

-- rate 1 / 4 and equal counts: a quarter of 2 ^ 32 is the first word that isn't admitted
edge : (is_admitted 1073741823 (record { num = 1; den = 4 }) (record { alpha = 4; eps = 4 }) ≡ true) × (is_admitted 1073741824 (record { num = 1; den = 4 }) (record { alpha = 4; eps = 4 }) ≡ false)
edge = (refl, refl)

-- an item that was never shown is admitted at any word, and so is one at rate 1 / 1 with equal
-- counts
always : (is_admitted 4294967295 (record { num = 1; den = 4 }) (record { alpha = 0; eps = 0 }) ≡ true) × (is_admitted 4294967295 (record { num = 1; den = 1 }) (record { alpha = 3; eps = 3 }) ≡ true)
always = (refl, refl)

-- shown in more sessions than it was eligible in, it is admitted by the smaller words
unequal : (is_admitted 2147483647 (record { num = 1; den = 1 }) (record { alpha = 4; eps = 2 }) ≡ true) × (is_admitted 2147483648 (record { num = 1; den = 1 }) (record { alpha = 4; eps = 2 }) ≡ false) × (is_admitted 0 (record { num = 1; den = 1 }) (record { alpha = 1; eps = 0 }) ≡ false)
unequal = (refl, refl, refl)

zeros : List ℕ
zeros = replicate 32 0

-- the first six words of stream 0
words_0 : (draw_word zeros 0 0 0 ≡ 0xade0b876) × (draw_word zeros 0 0 1 ≡ 0x903df1a0) × (draw_word zeros 0 0 2 ≡ 0xe56a5d40) × (draw_word zeros 0 0 3 ≡ 0x28bd8653) × (draw_word zeros 0 0 4 ≡ 0xb819d2bd) × (draw_word zeros 0 0 5 ≡ 0x1aed8da0)
unfolding zeros draw_word u32_at quarter_round column_round diagonal_round double_rounds block_word
words_0 = (refl, refl, refl, refl, refl, refl)

-- words of another stream, and after the first block
words_1 : (draw_word zeros 1 0 0 ≡ 0xd6df3fef) × (draw_word zeros 0 0 16 ≡ 0xbee7079f) × (draw_word zeros 65535 0 64 ≡ 0x546206c7)
unfolding zeros draw_word u32_at quarter_round column_round diagonal_round double_rounds block_word
words_1 = (refl, refl, refl)

-- words of the second band and of the eighth, at the places from 512 and from 3,584 on; a separate
-- program in Python, written from RFC 8439, computed them, and OpenSSL's chacha20 gives the same
words_of_bands : (draw_word zeros 0 1 0 ≡ 0xa3df42f9) × (draw_word zeros 0 1 1 ≡ 0x391ab472) × (draw_word zeros 0 1 2 ≡ 0xf2bbab0e) × (draw_word zeros 0 7 0 ≡ 0x41f2aea2) × (draw_word zeros 0 7 1 ≡ 0x0de6ec85) × (draw_word zeros 0 7 511 ≡ 0x98833045)
unfolding zeros draw_word u32_at quarter_round column_round diagonal_round double_rounds block_word
words_of_bands = (refl, refl, refl, refl, refl, refl)

-- the same places of another stream
words_of_bands_1 : (draw_word zeros 1 1 0 ≡ 0x0220c641) × (draw_word zeros 1 1 2 ≡ 0xa22fb324) × (draw_word zeros 1 7 0 ≡ 0xa1e8d8b6)
unfolding zeros draw_word u32_at quarter_round column_round diagonal_round double_rounds block_word
words_of_bands_1 = (refl, refl, refl)

-- rate 1 / 2 and equal counts: of six items those whose words are below 2 ^ 31
half : ℕ → Counts
half i = record { alpha = 4; eps = 4 }

drawn_half : (drawn zeros (record { num = 1; den = 2 }) 0 0 6 half 0 ≡ false) × (drawn zeros (record { num = 1; den = 2 }) 0 0 6 half 1 ≡ false) × (drawn zeros (record { num = 1; den = 2 }) 0 0 6 half 2 ≡ false) × (drawn zeros (record { num = 1; den = 2 }) 0 0 6 half 3 ≡ true) × (drawn zeros (record { num = 1; den = 2 }) 0 0 6 half 4 ≡ false) × (drawn zeros (record { num = 1; den = 2 }) 0 0 6 half 5 ≡ true) × (drawn zeros (record { num = 1; den = 2 }) 0 0 6 half 6 ≡ false)
unfolding half zeros draw_word u32_at quarter_round column_round diagonal_round double_rounds block_word
drawn_half = (refl, refl, refl, refl, refl, refl, refl)

-- so in the second band, by other words
drawn_half_1 : (drawn zeros (record { num = 1; den = 2 }) 0 1 6 half 0 ≡ false) × (drawn zeros (record { num = 1; den = 2 }) 0 1 6 half 1 ≡ true) × (drawn zeros (record { num = 1; den = 2 }) 0 1 6 half 2 ≡ false)
unfolding half zeros draw_word u32_at quarter_round column_round diagonal_round double_rounds block_word
drawn_half_1 = (refl, refl, refl)

-- the first draw has all items of the bank, and none beyond; in a band that the plan hasn't it has
-- none
first_draw : (draw bank_a plan_a [] 0 0 0 ≡ true) × (draw bank_a plan_a [] 0 0 5 ≡ true) × (draw bank_a plan_a [] 0 0 6 ≡ false) × (draw bank_a plan_a [] 0 1 0 ≡ false)
unfolding bank_a item_a plan_of_rows plan_a
first_draw = (refl, refl, refl, refl)

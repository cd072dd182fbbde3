use Rattle.std.proofs.Common.{◌≡◌, ◌<◌, ℕ, ◌==◌, Bool, true, false, ◌&&◌, nat_lt, sym, ◌∙◌}
use Rattle.std.proofs.lemmas.Bool.{lt-ltb}
use Rattle.bank_tables.specs.Items.{Set, has}
use Rattle.bank_tables.specs.Tables.{Tables, size, stimulus}
use Rattle.form_model.specs.Forms.{items_of, used}
use Rattle.form_model.proofs.SumLaws.{count_none}
use Rattle.constraint_model.proofs.breaches.items_at.Goals as goal

rest_false : (a b : Bool) → a ≡ true → (a && b) ≡ false → b ≡ false
rest_false a b first both = cc

-- a stimulus that X does not use has no item in it
no_items : (b : Tables) (s : ℕ) (X : Set) → 0 < s → used b X s ≡ false → 0 ≡ items_of b s X
no_items b s X first unused = sym (count_none (size b) X (λ i. stimulus b i == s) (rest_false (nat_lt 0 s) _ (lt-ltb 0 s first) unused))

pub returns-else-has : goal.returns-else-has
returns-else-has c = no_items c.args.bank.now c.args.stimulus (has c.args.form.now) c.requires.stimulus (sym (c.requires.stimuli c.args.stimulus) ∙ sym c.has.ensures ∙ c.if-has.false)

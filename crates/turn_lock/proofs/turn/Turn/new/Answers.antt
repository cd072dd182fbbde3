use Rattle.std.proofs.Common.{◌≡◌, length, [], ◌∷◌, Some, sym, subst, arith}
use Rattle.std.proofs.lemmas.Grind.{common_steps}
use Rattle.atomic_table.specs.Table.{opening}
use Rattle.turn_lock.specs.Rule.{Holds}
use Rattle.turn_lock.specs.Seats.{first_view}
use Rattle.turn_lock.proofs.Keeping.{opens}
use Rattle.turn_lock.proofs.turn.Turn.new.Goals as goal

pub new-requires : goal.new-requires
new-requires g c =
    let count = c.history_len-count.result in
    let items : c.push.new.self.items ≡ Some c.args.value ∷ [] = grind (arith, common_steps) in
    let about : c.of-about.result.value ≡ c.args.value = grind (arith, common_steps) in
    let counted : count ≡ length (g.V.Kept.history c.args.value) = grind (arith, common_steps) in
    subst (λ x. Holds g.V.Kept.history (opening (0 ∷ 0 ∷ count ∷ []) c.push.new.self.items (first_view (g.V.Kept.history x)))) (sym about)
    (subst (λ l. Holds g.V.Kept.history (opening (0 ∷ 0 ∷ count ∷ []) l (first_view (g.V.Kept.history c.args.value)))) (sym items)
    (opens g.V.Kept.history c.args.value count counted))

use Rattle.std.proofs.Common.{ℕ, List, [], ◌++◌, ◌∷◌, get_or, ap, ◌∙◌}
use Rattle.std.specs.Int.{w32, w64, to_be_bytes}
use Rattle.std.proofs.lemmas.Result.{on_ok_weaker}
use Rattle.bank_tables.specs.Items.{has}
use Rattle.exam_records.specs.Sets.{set_bytes}
use Rattle.exam_records.specs.Spelling.{old_entry_bytes}
use Rattle.exam_records.proofs.Joins.{three_pieces}
use Rattle.exam_records.proofs.writing.push_old_entry.Goals as goal

pub returns-in_ok-extend_from_slice-in-Started : goal.returns-in_ok-extend_from_slice-in-Started
unfolding old_entry_bytes
returns-in_ok-extend_from_slice-in-Started c =
    let booking = c.in_ok-extend_from_slice-in-Started.ensures.items ∙ ap (λ (t : List ℕ). c.push_front.new.out.items ++ t) c.to_be_bytes.ensures in
    let set : List ℕ = get_or c.in-Started.eligible.sets c.args.first [] in
    rw c.in-Started.is (on_ok_weaker c.push_set.result (λ eligible. three_pieces c.args.out.now.items (1 ∷ to_be_bytes w32 c.in-Started.session) (to_be_bytes w64 c.in-Started.booking) (set_bytes (has set)) c.push_front.new.out.items c.extend_from_slice.new.self.items c.push_set.new.out.items c.in_ok-push_front-in-Started.ensures booking (eligible ∙ ap (λ (w : List ℕ). c.extend_from_slice.new.self.items ++ set_bytes (has w)) c.set_in.ensures)) c.push_set.ensures)

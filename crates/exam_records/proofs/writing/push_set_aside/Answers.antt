use Rattle.std.proofs.Common.{ℕ, List, [], ◌∷◌, ◌++◌, ap, ◌∙◌}
use Rattle.std.specs.Int.{w16, w32, to_be_bytes}
use Rattle.std.proofs.lemmas.Result.{on_ok_weaker}
use Rattle.exam_records.specs.Spelling.{cause_byte}
use Rattle.exam_records.proofs.Joins.{four_pieces, if_written}
use Rattle.exam_records.proofs.writing.push_set_aside.Goals as goal

pub returns : goal.returns
returns c =
    let step = c.in_ok-extend_from_slice.ensures.items ∙ ap (λ (t : List ℕ). c.push_front.new.out.items ++ t) c.to_be_bytes.ensures in
    let cause = c.in_ok-extend_from_slice-2.ensures.items ∙ ap (λ (n : ℕ). c.extend_from_slice.new.self.items ++ c.args.band ∷ n ∷ []) c.cause_byte.ensures in
    on_ok_weaker c.extend_from_slice-3.result (λ nodes. four_pieces c.args.out.now.items (7 ∷ to_be_bytes w32 c.args.session) (to_be_bytes w16 c.args.step) (c.args.band ∷ cause_byte c.args.cause.now ∷ []) (to_be_bytes w16 c.args.nodes) c.push_front.new.out.items c.extend_from_slice.new.self.items c.extend_from_slice-2.new.self.items c.extend_from_slice-3.new.self.items c.in_ok-push_front.ensures step cause (nodes ∙ ap (λ (t : List ℕ). c.extend_from_slice-2.new.self.items ++ t) c.to_be_bytes-2.ensures)) (if_written c.extend_from_slice-3.result c.extend_from_slice-3.new.self.items (c.extend_from_slice-2.new.self.items ++ c.to_be_bytes-2.result) c.extend_from_slice-2.new.self.items c.extend_from_slice-3.ensures.items)

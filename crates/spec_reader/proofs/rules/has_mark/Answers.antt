use Rattle.std.proofs.Common.{◌≡◌, ◌∙◌, ◌||◌, Bool, List, [], ◌∷◌, map, refl, sym, ap}
use Rattle.std.specs.List.{list_any}
use Rattle.spec_reader.specs.Rules.{Said, said}
use Rattle.spec_reader.specs.Lines.{mark_of, is_mark}
use Rattle.spec_reader.proofs.rules.has_mark.Goals as goal

any_mapped : {X Y : Type 0} (p : Y → Bool) (h : X → Y) (xs : List X) → list_any p (map h xs) ≡ list_any (λ x. p (h x)) xs
any_mapped p h [] = refl
any_mapped p h (x ∷ xs) = ap (λ (b : Bool). p (h x) || b) (any_mapped p h xs)

pub returns : goal.returns
returns c = c.has_rule.ensures ∙ sym (any_mapped (λ (r : Said). is_mark c.args.mark (mark_of r)) said c.args.rules.now)

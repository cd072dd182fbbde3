use Rattle.std.proofs.Common.{◌≡◌, ◌∙◌, ℕ, List, Bool, true, false, ◌&&◌, ◌++◌, length, take, drop, sym, ap}
use Rattle.std.specs.Str.{bytes_eq}
use Rattle.std.specs.Fmt.{decimal}
use Rattle.bank_reader.proofs.Leads.{split_eq}
use Rattle.bank_reader.proofs.header.is_numbered.Goals as goal

-- both parts are the same, or the first is not
both : (a b x y : Bool) → true ≡ a → x ≡ b → y ≡ (a && b) → x ≡ y
both a b x y same e whole = e ∙ sym (whole ∙ ap (λ (z : Bool). z && b) (sym same))

neither : (a b x y : Bool) → x ≡ false → false ≡ a → y ≡ (a && b) → x ≡ y
neither a b x y off e whole = off ∙ sym (whole ∙ ap (λ (z : Bool). z && b) (sym e))

pub returns-then-eq : goal.returns-then-eq
returns-then-eq c =
    let text = c.args.text.now in
    let front = c.args.front.now in
    let ds = decimal c.args.number in
    both (bytes_eq (take (length front) text) front) (bytes_eq (drop (length front) text) ds) c.is_decimal.result (bytes_eq text (front ++ ds))
    (c.if-eq.ensures ∙ ap (λ (x : List ℕ). bytes_eq x front) c.split_at.ensures.front)
    (c.is_decimal.ensures ∙ ap (λ (x : List ℕ). bytes_eq x ds) c.split_at.ensures.back)
    (split_eq front text ds c.if-text-front.false)

pub returns-else-eq : goal.returns-else-eq
returns-else-eq c =
    let text = c.args.text.now in
    let front = c.args.front.now in
    let ds = decimal c.args.number in
    neither (bytes_eq (take (length front) text) front) (bytes_eq (drop (length front) text) ds) c.eq.result (bytes_eq text (front ++ ds))
    c.if-eq.false
    (c.if-eq.ensures ∙ ap (λ (x : List ℕ). bytes_eq x front) c.split_at.ensures.front)
    (split_eq front text ds c.if-text-front.false)

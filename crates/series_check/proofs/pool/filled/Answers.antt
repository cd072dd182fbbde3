use Rattle.std.proofs.Common.{◌≡◌, ℕ, ◌+◌, ◌-◌, ◌*◌, inl, inr, arith, ap, ◌∙◌, subst}
use Rattle.std.proofs.Math.Path.{fun_ext}
use Rattle.bank_tables.specs.Items.{Set, has}
use Rattle.bank_tables.specs.Sums.{sum_in_z}
use Rattle.bank_tables.specs.Tables.{Tables, size}
use Rattle.form_model.specs.Forms.{size_in}
use Rattle.certificate_model.specs.Ranges.{at}
use Rattle.certificate_check.specs.Tops.{IsTopOf}
use Rattle.series_check.specs.declared.pool.Part.{Part}
use Rattle.series_check.specs.Pools.{rest_top, others_of}
use Rattle.series_check.proofs.Wide.{wide_top, nearer, three_summed, sums_alike}
use Rattle.series_check.proofs.pool.filled.Goals as goal
use Rattle.series_check.proofs.pool.filled.Goals.{then-all-taken-via-then-all-taken, then-all-taken-via-else-all-taken+then-taken-free}

pub returns-then-all-taken : goal.returns-then-all-taken
returns-then-all-taken c =
    let b : Tables = c.args.setting.now.bank.now in
    let part : Part = c.args.pool.now in
    let sure : Set = has c.args.sure.now in
    let taken : c.size_in-taken.result ≡ size_in b sure = c.size_in-taken.ensures.size in
    let free : c.size_in-free.result ≡ size_in b (others_of part sure) = c.size_in-free.ensures.size ∙ ap (λ (Y : Set). size_in b Y) (fun_ext c.minus-others.ensures) in
    let all : c.args.setting.now.forms * c.length.result ≡ c.args.setting.now.forms * c.args.setting.now.spec.now.length = ap (λ (n : ℕ). c.args.setting.now.forms * n) c.length.ensures in
    elim c.then-all-taken.branch [
      | then-all-taken-via-then-all-taken w ↦ inl (omega (arith, w.if-all-taken.true, taken, all))
      | then-all-taken-via-else-all-taken+then-taken-free w ↦ inr (omega (arith, w.if-taken-free.true, taken, free, all))
    ]

pub returns : goal.returns
returns c =
    let b : Tables = c.args.setting.now.bank.now in
    let part : Part = c.args.pool.now in
    let sure : Set = has c.args.sure.now in
    let T : Set = has c.top_of-top.result in
    let k = c.args.setting.now.forms * c.length.result - c.size_in-taken.result in
    let items : c.items-items.result ≡ size b = c.items-items.ensures.items in
    let others : has c.minus-others.result ≡ others_of part sure = fun_ext c.minus-others.ensures in
    let taken : c.size_in-taken.result ≡ size_in b sure = c.size_in-taken.ensures.size in
    let all : c.args.setting.now.forms * c.length.result ≡ c.args.setting.now.forms * c.args.setting.now.spec.now.length = ap (λ (n : ℕ). c.args.setting.now.forms * n) c.length.ensures in
    let top : IsTopOf (size b) part.counts (others_of part sure) k T =
    subst (λ (F : Set). IsTopOf (size b) part.counts F k T) others (subst (λ (n : ℕ). IsTopOf n part.counts (has c.minus-others.result) k T) items c.top_of-top.ensures) in
    let first : c.sum_of-first.result ≡ sum_in_z (size b) sure (at part.counts) = c.sum_of-first.ensures.value ∙ ap (λ (n : ℕ). sum_in_z n sure (at part.counts)) items in
    let second : c.sum_of-second.result ≡ sum_in_z (size b) T (at part.counts) = c.sum_of-second.ensures.value ∙ ap (λ (n : ℕ). sum_in_z n T (at part.counts)) items in
    let summed =
    three_summed part.rest c.sum_of-first.result c.sum_of-second.result
    (nearer rest_top wide_top part.rest (omega arith) c.requires.near.rest)
    (nearer 153600000000000000000000 wide_top c.sum_of-first.result (omega arith) c.sum_of-first.ensures.within)
    (nearer 153600000000000000000000 wide_top c.sum_of-second.result (omega arith) c.sum_of-second.ensures.within) in
    (T, k, top, omega (arith, taken, all, c.if-all-taken.false), summed ∙ sums_alike part.rest c.sum_of-first.result c.sum_of-second.result _ _ first second)

use Rattle.std.proofs.Common.{◌≡◌, Bool, true, ◌&&◌, ◌∙◌, sym, ap, nat_lt}
use Rattle.std.proofs.lemmas.Bool.{lt-ltb}
use Rattle.bank_tables.specs.Items.{has, Set}
use Rattle.bank_tables.specs.Tables.{size}
use Rattle.certificate_model.specs.Paths.{Path, is_free}
use Rattle.form_model.specs.Problem.{Problem}
use Rattle.series_model.specs.Series.{SeriesProblem}
use Rattle.series_model.specs.SeriesPaths.{SeriesPath, is_free_in}
use Rattle.series_model.specs.SeriesTwins.{same_items}
use Rattle.series_check.specs.Cuts.{problem_of, one_form, path_of}
use Rattle.series_check.proofs.twins.is_twin.Goals as goal

all_three : (a b d r : Bool) → a ≡ true → b ≡ true → r ≡ d → r ≡ (a && (b && d))
all_three a b d r e f g = rw (e, f) g

pub returns-then-same_items : goal.returns-then-same_items
returns-then-same_items c =
    let Q : SeriesProblem = problem_of c.args.setting.now in
    let p : SeriesPath = path_of c.args.cut.now in
    let P : Problem = one_form c.args.setting.now in
    let n = size Q.bank in
    let f = c.args.form in
    let g = c.args.other in
    let taken_f : has c.standing_on-first.result.taken ≡ p.taken f = ap (λ (q : Path). q.taken) c.standing_on-first.ensures.path in
    let taken_g : has c.standing_on-second.result.taken ≡ p.taken g = ap (λ (q : Path). q.taken) c.standing_on-second.ensures.path in
    let free_f : has c.standing_on-first.result.free ≡ is_free_in Q p f = c.standing_on-first.ensures.standing.free ∙ ap (λ (q : Path). is_free P q) c.standing_on-first.ensures.path in
    let free_g : has c.standing_on-second.result.free ≡ is_free_in Q p g = c.standing_on-second.ensures.standing.free ∙ ap (λ (q : Path). is_free P q) c.standing_on-second.ensures.path in
    let same_taken : same_items n (p.taken f) (p.taken g) ≡ true =
    ap (λ (X : Set). same_items n X (p.taken g)) (sym taken_f) ∙ ap (λ (Y : Set). same_items n (has c.standing_on-first.result.taken) Y) (sym taken_g) ∙ sym c.same_items.ensures ∙ c.if-same_items.true in
    let same_free : c.same_items-then-same_items.result ≡ same_items n (is_free_in Q p f) (is_free_in Q p g) =
    c.same_items-then-same_items.ensures ∙ ap (λ (X : Set). same_items n X (has c.standing_on-second.result.free)) free_f ∙ ap (λ (Y : Set). same_items n (is_free_in Q p f) Y) free_g in
    all_three (nat_lt g Q.forms) (same_items n (p.taken f) (p.taken g)) (same_items n (is_free_in Q p f) (is_free_in Q p g)) c.same_items-then-same_items.result (lt-ltb g Q.forms c.requires.other) same_taken same_free

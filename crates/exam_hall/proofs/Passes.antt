-- A pass by the marks that it has seen, and what ties it to a hall.
use Rattle.std.proofs.Common.{◌≡◌, ℕ, suc, ◌-◌, ◌<◌, List, [], ◌∷◌, ◌++◌, length, map, All, Contains, refl, sym, ap, ◌∙◌, subst, ⊎_elim, arith}
use Rattle.std.proofs.lemmas.List.{length-map, map-append}
use Rattle.std.proofs.lemmas.List.Elements.{Contains-append_left, Contains-push}
use Rattle.bank_tables.specs.Tables.{Tables}
use Rattle.form_model.specs.Plan.{Plan}
use Rattle.turn_lock.specs.Histories.{StartsWith, places}
use Rattle.turn_lock.specs.Passes.{Known, LockId, TakesTurn, TakesIn, new_pass}
use Rattle.turn_lock.proofs.Lists.{contains_cons, contains_nothing, starts_itself}
use Rattle.exam_office.specs.declared.mark.Mark.{Mark}
use Rattle.exam_office.specs.declared.mark.Mark.TheVariants.{Old, Opened, Own, Adopted, Fault}
use Rattle.exam_office.specs.Marks.{AreMarks, opened, own, fault, adopted}
use Rattle.exam_office.specs.Noting.{OpenedWith, NotedMark, noted, marks_of}
use Rattle.exam_hall.specs.Known.{HallKnown, HasGrown, marked, IsOfficeOf, HasOpening, IsOf}
use Rattle.exam_hall.proofs.Went.{starts_through}

pub marks_noted : (office : OpenedWith) (M : List Mark) → marks_of (noted office M) ≡ M
marks_noted office [] = refl
marks_noted office (m ∷ M) = ap (λ l. m ∷ l) (marks_noted office M)

pub noted_number : (office : OpenedWith) (M : List Mark) → length (noted office M) ≡ length M
noted_number office M = length-map M (λ (m : Mark). record { mark = m; office = office })

pub marks_number : (S : List NotedMark) → length (marks_of S) ≡ length S
marks_number S = length-map S (λ (n : NotedMark). n.mark)

pub marks_append : (S T : List NotedMark) → marks_of (S ++ T) ≡ marks_of S ++ marks_of T
marks_append S T = map-append (λ (n : NotedMark). n.mark) S T

pub marks_start : (S F : List NotedMark) → StartsWith S F → StartsWith (marks_of S) (marks_of F)
marks_start S F h = (marks_of h.0, ap marks_of h.1 ∙ marks_append F h.0)

-- each mark of an office's history is noted with what it was opened with
pub noted_with : (office : OpenedWith) (M : List Mark) (n : NotedMark) → Contains (noted office M) n → n.office ≡ office
noted_with office [] n c = absurd (contains_nothing n c)
noted_with office (m ∷ M) n c = ⊎_elim
    (λ (e : ◌≡◌ {A = NotedMark} (record { mark = m; office = office }) n). sym (ap (λ (x : NotedMark). x.office) e))
    (λ r. noted_with office M n r)
    (contains_cons (record { mark = m; office = office }) n (noted office M) c)

abbrev one : OpenedWith → Mark → NotedMark
one office m = record { mark = m; office = office }

pub noted_contains : (office : OpenedWith) (M : List Mark) (m : Mark) → Contains M m → Contains (noted office M) (record { mark = m; office = office })
noted_contains office [] m c = absurd (contains_nothing m c)
noted_contains office (x ∷ M) m c = ⊎_elim
    (λ (e : x ≡ m). (0, omega arith, ap (one office) e))
    (λ r. (let t = noted_contains office M m r in (suc t.0, (let lt = t.1 in omega arith), t.2)))
    (contains_cons x m M c)

-- a turn, by the marks
pub turn_marked : (a b : Known NotedMark) (before : List NotedMark) → TakesTurn a b before → TakesTurn (marked a) (marked b) (marks_of before)
turn_marked a b before t =
    let n = marks_number before in
    let m = marks_number b.seen in
    record {
      turn = t.turn;
      number = t.number;
      splits = t.splits;
      start = t.start;
      joined = t.joined;
      begins = marks_start before a.seen t.begins;
      grows = (marks_of t.grows.0, ap marks_of t.grows.1 ∙ marks_append before t.grows.0, (let k = marks_number t.grows.0 in let l = t.grows.2 in omega arith));
      mine = t.mine ∙ ap (λ k. a.mine ++ places k (length b.seen - k)) (sym n) ∙ ap (λ k. a.mine ++ places (length (marks_of before)) (k - length (marks_of before))) (sym m);
      within = subst (λ k. All (λ j. j < k) b.mine) (sym m) t.within;
      fronts = t.fronts ∙ ap (λ k. a.fronts ++ k ∷ []) (sym m);
    }

-- ---- what ties a pass to a hall
pub opening_later : (S F : List NotedMark) (h : HallKnown) → StartsWith S F → HasOpening F h → HasOpening S h
opening_later S F h begins o = record {
  size = o.size;
  office = o.office;
  is_of = o.is_of;
  noted = subst (λ l. Contains l (record { mark = Opened o.size; office = o.office })) (sym begins.1) (Contains-append_left F begins.0 (record { mark = Opened o.size; office = o.office }) o.noted);
}

pub opening_office : (office : OpenedWith) (M : List Mark) (h : HallKnown) → HasOpening (noted office M) h → IsOfficeOf office h
opening_office office M h o = subst (λ x. IsOfficeOf x h) (noted_with office M (record { mark = Opened o.size; office = o.office }) o.noted) o.is_of

pub of_new : (h : HallKnown) (n start : ℕ) (seen : List NotedMark) → HasOpening seen h → IsOf (new_pass h.lock n start seen) h
of_new h n start seen o = record { lock = refl; opening = o }

pub of_joined : (old other new : Known NotedMark) (h : HallKnown) → TakesIn old other new → IsOf old h → IsOf other h → IsOf new h
of_joined old other new h j is also = record {
  lock = j.turn ∙ is.lock;
  opening = ⊎_elim (λ t. subst (λ l. HasOpening l h) (sym t.1) is.opening) (λ t. subst (λ l. HasOpening l h) (sym t.1) also.opening) j.seen;
}

pub of_turned : (old new : Known NotedMark) (before : List NotedMark) (h : HallKnown) → TakesTurn old new before → IsOf old h → IsOf new h
of_turned old new before h t is = record {
  lock = t.turn ∙ is.lock;
  opening = opening_later new.seen before h (t.grows.0, t.grows.1) (opening_later before old.seen h t.begins is.opening);
}

-- ---- what a pass has seen grows
pub grown_once : (old new : Known NotedMark) (before : List NotedMark) → TakesTurn old new before → HasGrown old new
grown_once old new before t = record {
  start = t.start;
  seen = starts_through old.seen before new.seen t.begins (t.grows.0, t.grows.1);
}

pub grown_nowhere : (a : Known NotedMark) → HasGrown a a
grown_nowhere a = record { start = refl; seen = starts_itself a.seen }

pub grown_through : (a b c : Known NotedMark) → HasGrown a b → HasGrown b c → HasGrown a c
grown_through a b c p q = record { start = q.start ∙ p.start; seen = starts_through a.seen b.seen c.seen p.seen q.seen }

-- an office's marks have that of its opening
contains_after : (L : List Mark) (m : Mark) → Contains (L ++ m ∷ []) m
contains_after L m = Contains-push L m

pub opening_there : (M : List Mark) → AreMarks M → (size : ℕ) × Contains M (Opened size)
opening_there _ (opened H size) = (size, contains_after (map Old H) (Opened size))
opening_there _ (own M entry size before) = (let o = opening_there M before in (o.0, Contains-append_left M (Own entry size ∷ []) (Opened o.0) o.1))
opening_there _ (fault M entry before) = (let o = opening_there M before in (o.0, Contains-append_left M (Fault entry ∷ []) (Opened o.0) o.1))
opening_there _ (adopted M entry size before) = (let o = opening_there (M ++ Fault entry ∷ []) before in (o.0, Contains-append_left (M ++ Fault entry ∷ []) (Adopted entry size ∷ []) (Opened o.0) o.1))

pub has_opening : (office : OpenedWith) (M : List Mark) (h : HallKnown) → AreMarks M → IsOfficeOf office h → HasOpening (noted office M) h
has_opening office M h marks is =
    let o = opening_there M marks in
    record { size = o.0; office = office; noted = noted_contains office M (Opened o.0) o.1; is_of = is }

-- the first pass of a hall over an office
pub first_of : (lock : LockId) (b : Tables) (plan : Plan) (base : List ℕ) (office : OpenedWith) (M : List Mark) (p : Known NotedMark) → AreMarks M → p ≡ new_pass lock 0 (length (noted office M)) (noted office M)
    → b ≡ office.bank → plan ≡ office.plan → base ≡ office.base → IsOf p (record { lock = lock; bank = b; plan = plan; base = base })
first_of lock b plan base office M p marks new bank_is plan_is base_is =
    let h : HallKnown = record { lock = lock; bank = b; plan = plan; base = base } in
    subst (λ (x : Known NotedMark). IsOf x h) (sym new)
    (of_new h 0 (length (noted office M)) (noted office M) (has_opening office M h marks (record { bank = sym bank_is; plan = sym plan_is; base = sym base_is })))

-- The maximal runs of a set of items are runs, and their items are those of the set.
use Rattle.std.proofs.Common.{◌≡◌, ℕ, zero, suc, ◌+◌, ◌<◌, ◌≤◌, ◌⊎◌, inl, inr, Bool, true, false, ◌||◌, List, [], ◌∷◌, ◌++◌, length, Some, refl, sym, ap, subst, ◌∙◌, arith, add-one, length-append}
use Rattle.std.specs.Prelude.{nat_le}
use Rattle.std.proofs.lemmas.Bool.{cases_Bool, true≢false, false≢true, and_parts, and_from, or_cases, or_left, or_right, le-leb, leb-true, false_from_ne_true}
use Rattle.std.proofs.lemmas.List.{get_or_append_left, get_or_at}
use Rattle.bank_tables.specs.Items.{Set}
use Rattle.bank_tables.specs.Sums.{any_below}
use Rattle.exam_text.specs.declared.run.Run.{Run}
use Rattle.exam_text.specs.Runs.{IsRun, in_run}
use Rattle.spec_reader.specs.Sets.{start_of, runs_below, runs_of}
use Rattle.spec_reader.specs.Grammar.{no_run, run, in_runs, AreRuns, IsSet}
use Rattle.spec_reader.proofs.SayLaws.{any_same}

last_or_below : (i n : ℕ) → i < suc n → (i < n) ⊎ (i ≡ n)
last_or_below i n lt = grind arith

start_le : (X : Set) (n : ℕ) → start_of X n ≤ n
start_le X zero = omega arith
start_le X (suc n) = elim (cases_Bool (X n)) [
  | inl member ↦ rw member (omega (arith, start_le X n))
  | inr out ↦ rw out (omega arith)
]

start_in : (X : Set) (n x : ℕ) → start_of X n ≤ x → x < n → X x ≡ true
start_in X zero x le lt = absurd (omega arith)
start_in X (suc n) x le lt = elim (cases_Bool (X n)) [
  | inl member ↦ elim (last_or_below x n lt) [
    | inl less ↦ start_in X n x (rw member at le) less
    | inr same ↦ rw same member
  ]
  | inr out ↦ absurd (let high : n + 1 ≤ x = rw out at le in omega (arith, high, lt))
]

start_above : (X : Set) (n j : ℕ) → j < n → X j ≡ false → j < start_of X n
start_above X zero j lt out = absurd (omega arith)
start_above X (suc n) j lt out = elim (cases_Bool (X n)) [
  | inl member ↦ rw member (elim (last_or_below j n lt) [
    | inl less ↦ start_above X n j less out
    | inr same ↦ absurd (true≢false (sym member ∙ (ap X (sym same) ∙ out)))
  ])
  | inr gone ↦ rw gone (omega (arith, lt))
]

-- one run more
run_old : (rs : List Run) (r : Run) (i : ℕ) → i < length rs → run (rs ++ r ∷ []) i ≡ run rs i
run_old rs r i lt = get_or_append_left rs (r ∷ []) no_run i lt

run_new : (rs : List Run) (r : Run) → run (rs ++ r ∷ []) (length rs) ≡ r
run_new rs r = get_or_at rs r [] no_run (length rs) refl

count_more : (rs : List Run) (r : Run) → length (rs ++ r ∷ []) ≡ suc (length rs)
count_more rs r = omega (arith, length-append rs (r ∷ []))

in_more : (rs : List Run) (r : Run) (x : ℕ) → in_runs (rs ++ r ∷ []) x ≡ (in_runs rs x || in_run x (Some r))
in_more rs r x = rw (count_more rs r, any_same (length rs) (λ i. in_run x (Some (run (rs ++ r ∷ []) i))) (λ i. in_run x (Some (run rs i))) (λ i lt. ap (λ (q : Run). in_run x (Some q)) (run_old rs r i lt)), run_new rs r) refl

-- the maximal runs that end below n
record RunsTo (n : ℕ) (X : Set) (rs : List Run) : Type 0 where
  each : (i : ℕ) → i < length rs → IsRun (run rs i)
  behind : (i : ℕ) → i < length rs → (run rs i).high < n
  ends : (i : ℕ) → i < length rs → X ((run rs i).high + 1) ≡ false
  apart : (i : ℕ) → i + 1 < length rs → (run rs i).high < (run rs (i + 1)).low
  sound : (x : ℕ) → in_runs rs x ≡ true → X x ≡ true
  complete : (x : ℕ) → X x ≡ true → x < n → (in_runs rs x ≡ true) ⊎ ((start_of X n ≤ x) × (X n ≡ true))

-- each fact of the runs, from those before the last and the last
by_last : (rs : List Run) (r : Run) (P : ℕ → Run → Type 0) → ((i : ℕ) → i < length rs → P i (run rs i)) → P (length rs) r → (i : ℕ) → i < length (rs ++ r ∷ []) → P i (run (rs ++ r ∷ []) i)
by_last rs r P old new i lt =
    let below : i < suc (length rs) = subst (λ (k : ℕ). i < k) (count_more rs r) lt in
    elim (last_or_below i (length rs) below) [
      | inl less ↦ subst (P i) (sym (run_old rs r i less)) (old i less)
      | inr same ↦ subst (λ (k : ℕ). P k (run (rs ++ r ∷ []) k)) (sym same) (subst (P (length rs)) (sym (run_new rs r)) new)
    ]

in_new : (X : Set) (n x : ℕ) → start_of X n ≤ x → x ≤ n → in_run x (Some (record { low = start_of X n; high = n })) ≡ true
in_new X n x low high = and_from (nat_le (start_of X n) x) (nat_le x n) (le-leb (start_of X n) x low) (le-leb x n high)

pushed : (X : Set) (n : ℕ) (rs : List Run) → n < 512 → X n ≡ true → X (n + 1) ≡ false → RunsTo n X rs → RunsTo (suc n) X (rs ++ record { low = start_of X n; high = n } ∷ [])
pushed X n rs small member end h =
    let r : Run = record { low = start_of X n; high = n } in
    let new_run : IsRun r = record { order = start_le X n; high = omega (arith, small) } in
    record {
      each = by_last rs r (λ i q. IsRun q) h.each new_run;
      behind = by_last rs r (λ i q. q.high < suc n) (λ i lt. omega (arith, h.behind i lt)) (omega arith);
      ends = by_last rs r (λ i q. X (q.high + 1) ≡ false) h.ends end;
      apart = λ i lt.
          (let within : i + 1 < suc (length rs) = subst (λ (k : ℕ). i + 1 < k) (count_more rs r) lt in
          let before : i < length rs = omega (arith, within) in
          let first : run (rs ++ r ∷ []) i ≡ run rs i = run_old rs r i before in
          elim (last_or_below (i + 1) (length rs) within) [
            | inl less ↦ rw (first, run_old rs r (i + 1) less) (h.apart i less)
            | inr same ↦
                (let next : run (rs ++ r ∷ []) (i + 1) ≡ r = ap (run (rs ++ r ∷ [])) same ∙ run_new rs r in
                let gap : X ((run rs i).high + 1) ≡ false = h.ends i before in
                let at_most : (run rs i).high < n = h.behind i before in
                let other : (run rs i).high + 1 < n = strictly ((run rs i).high + 1) n (omega (arith, at_most)) (λ e. true≢false (sym member ∙ (ap X (sym e) ∙ gap))) in
                let above : (run rs i).high + 1 < start_of X n = start_above X n ((run rs i).high + 1) other gap in
                rw (first, next) (omega (arith, above)))
          ]);
      sound = λ x e.
          (let either : (in_runs rs x || in_run x (Some r)) ≡ true = sym (in_more rs r x) ∙ e in
          elim (or_cases (in_runs rs x) (in_run x (Some r)) either) [
            | inl old ↦ h.sound x old
            | inr new ↦
                (let p = and_parts (nat_le (start_of X n) x) (nat_le x n) new in
                let le : x < suc n = omega (arith, leb-true x n p.1) in
                elim (last_or_below x n le) [
                  | inl less ↦ start_in X n x (leb-true (start_of X n) x p.0) less
                  | inr same ↦ ap X same ∙ member
                ])
          ]);
      complete = λ x e lt.
          inl (in_more rs r x ∙ (elim (last_or_below x n lt) [
            | inl less ↦ elim (h.complete x e less) [
              | inl old ↦ or_left (in_runs rs x) (in_run x (Some r)) old
              | inr open_run ↦ or_right (in_runs rs x) (in_run x (Some r)) (let high : x ≤ n = omega (arith, less) in in_new X n x open_run.0 high)
            ]
            | inr same ↦ or_right (in_runs rs x) (in_run x (Some r)) (let low : start_of X n ≤ x = omega (arith, start_le X n, same) in let high : x ≤ n = omega (arith, same) in in_new X n x low high)
          ]));
    }
  where
    strictly : (a b : ℕ) → a ≤ b → (a ≡ b → ⊥) → a < b
    strictly a b le ne = grind arith

-- no run ends at n
kept : (X : Set) (n : ℕ) (rs : List Run) → ((X n ≡ false) ⊎ ((X n ≡ true) × (X (n + 1) ≡ true))) → RunsTo n X rs → RunsTo (suc n) X rs
kept X n rs case h = record {
  each = h.each;
  behind = λ i lt. omega (arith, h.behind i lt);
  ends = h.ends;
  apart = h.apart;
  sound = h.sound;
  complete = λ x e lt. by_case x e lt case;
}
  where
    by_case : (x : ℕ) → X x ≡ true → x < suc n → ((X n ≡ false) ⊎ ((X n ≡ true) × (X (n + 1) ≡ true))) → (in_runs rs x ≡ true) ⊎ ((start_of X (suc n) ≤ x) × (X (suc n) ≡ true))
    by_case x e lt (inl out) = elim (last_or_below x n lt) [
      | inl less ↦ elim (h.complete x e less) [
        | inl old ↦ inl old
        | inr open_run ↦ absurd (true≢false (sym open_run.1 ∙ out))
      ]
      | inr same ↦ absurd (true≢false (sym e ∙ (ap X same ∙ out)))
    ]
    by_case x e lt (inr on) =
        let next : X (suc n) ≡ true = subst (λ (k : ℕ). X k ≡ true) (add-one n) on.1 in
        let start : start_of X (suc n) ≡ start_of X n = rw on.0 refl in
        elim (last_or_below x n lt) [
          | inl less ↦ elim (h.complete x e less) [
            | inl old ↦ inl old
            | inr open_run ↦ inr (omega (arith, start, open_run.0), next)
          ]
          | inr same ↦ inr (omega (arith, start, start_le X n, same), next)
        ]

runs_to : (X : Set) (n : ℕ) → n ≤ 512 → RunsTo n X (runs_below n X)
runs_to X zero le = record {
  each = λ i lt. absurd (omega arith);
  behind = λ i lt. absurd (omega arith);
  ends = λ i lt. absurd (omega arith);
  apart = λ i lt. absurd (omega arith);
  sound = λ x e. absurd (false≢true e);
  complete = λ x e lt. absurd (omega (arith, lt));
}
runs_to X (suc n) le =
    let before : RunsTo n X (runs_below n X) = runs_to X n (omega (arith, le)) in
    elim (cases_Bool (X n)) [
      | inr out ↦ rw out (kept X n (runs_below n X) (inl out) before)
      | inl member ↦ elim (cases_Bool (X (n + 1))) [
        | inl next ↦ rw (member, next) (kept X n (runs_below n X) (inr (member, next)) before)
        | inr end ↦ rw (member, end) (pushed X n (runs_below n X) (omega (arith, le)) member end before)
      ]
    ]

some_below : (n : ℕ) (p : Set) → any_below n p ≡ true → 0 < n
some_below zero p e = absurd (false≢true e)
some_below (suc n) p e = omega arith

pub runs_items : (X : Set) → IsSet X → AreRuns (runs_of X) × ((x : ℕ) → X x ≡ in_runs (runs_of X) x)
unfolding runs_of
runs_items X is =
    let h : RunsTo 512 X (runs_below 512 X) = runs_to X 512 (omega arith) in
    let past : X 512 ≡ false = false_from_ne_true (X 512) (λ e. let lt : 512 < 512 = is.few 512 e in omega (arith, lt)) in
    let written : (x : ℕ) → X x ≡ true → in_runs (runs_below 512 X) x ≡ true =
    λ x e. elim (h.complete x e (is.few x e)) [ inl old ↦ old | inr open_run ↦ absurd (true≢false (sym open_run.1 ∙ past)) ] in (
      record { some = some_below (length (runs_below 512 X)) _ (written is.member is.is_member); each = h.each; apart = h.apart },
      λ x. same (X x) (in_runs (runs_below 512 X) x) (written x) (h.sound x),
    )
  where
    same : (a b : Bool) → (a ≡ true → b ≡ true) → (b ≡ true → a ≡ true) → a ≡ b
    same true b f g = sym (f refl)
    same false true f g = g refl
    same false false f g = refl

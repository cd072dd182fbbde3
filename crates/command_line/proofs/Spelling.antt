-- A command is asked for by its words, and by no others.
use Rattle.std.proofs.Common.{◌≡◌, ℕ, zero, suc, ◌<◌, ◌≤◌, ◌^◌, Bool, true, false, cond, eqb, ◌||◌, List, [], ◌∷◌, length, get_or, Option, Some, None, refl, ap, ap₂, ◌∙◌, subst, arith, codes}
use Rattle.std.specs.Fmt.{decimal}
use Rattle.std.specs.List.{list_any, list_all, slice_split, onto_first}
use Rattle.std.specs.Option.{option_map, option_and_then}
use Rattle.std.specs.Str.{bytes_eq}
use Rattle.std.proofs.lemmas.Bool.{false≢true, ne_eqb, or_parts, or_from}
use Rattle.std.proofs.lemmas.Fmt.{decimal_nonempty, first_decimal, decimal_digit}
use Rattle.std.proofs.lemmas.Slice.Eq.{bytes_eq-Decides}
use Rattle.exam_text.specs.Numbers.{number_of}
use Rattle.exam_text.proofs.Numerals.{number_is, number_again}
use Rattle.command_line.specs.Commands.{Command, Check, Assemble, Replay, Serve, Audit, Drill, Migrate, Series, Follow, Ship, IsCommand, is_no_name, sessions_of, drill_of, forms_of, series_of, room_of, server_of, of_two, of_three, table, command_of, words_of}
use Rattle.command_line.specs.Weights.{is_weight, are_weights}

-- ---- the words of a command ask for it

named : (ws : List (List ℕ)) (c : Command) → list_any is_no_name ws ≡ false → table ws ≡ Some c → command_of ws ≡ Some c
unfolding command_of
named ws c h e = ap (λ (b : Bool). cond b None (table ws)) h ∙ e

two_names : (a b : List ℕ) → is_no_name a ≡ false → is_no_name b ≡ false → (is_no_name a || (is_no_name b || false)) ≡ false
two_names a b p q = or_from (is_no_name a) (is_no_name b || false) p (or_from (is_no_name b) false q refl)

-- what is written of a number begins with a digit
number_named : (n : ℕ) → n < 2 ^ 64 → is_no_name (decimal n) ≡ false
number_named n h = or_from (eqb (length (decimal n)) 0) (eqb (get_or (decimal n) 0 0) 45) (ne_eqb _ _ (λ e. omega (arith, e, decimal_nonempty n h))) (first n h)
  where
    first : (k : ℕ) → k < 2 ^ 64 → eqb (get_or (decimal k) 0 0) 45 ≡ false
    first zero g = ap (λ (ds : List ℕ). eqb (get_or ds 0 0) 45) (decimal_digit 0 (omega arith))
    first (suc k) g = ne_eqb _ _ (λ e. omega (arith, e, first_decimal (suc k) (omega arith) g))

some_sessions : (s : ℕ) → 0 < s → s ≤ 200 → sessions_of (decimal s) ≡ Some s
some_sessions s some few =
    ap (option_and_then (λ (n : ℕ). cond (eqb n 0) None (Some n))) (number_again 200 s (omega arith) few)
    ∙ ap (λ (b : Bool). cond b None (Some s)) (ne_eqb s 0 (λ e. omega (arith, some, e)))

drill_again : (n s : ℕ) → n < 2 ^ 32 → 0 < s → s ≤ 200 → drill_of (decimal n) (decimal s) ≡ Some (Drill n s)
unfolding drill_of
drill_again n s small some few =
    ap (option_and_then (λ (k : ℕ). option_map (λ (r : ℕ). Drill k r) (sessions_of (decimal s)))) (number_again 4294967295 n (omega arith) (omega (arith, small)))
    ∙ ap (option_map (λ (r : ℕ). Drill n r)) (some_sessions s some few)

-- the number of forms of a series, and its weights
some_forms : (k : ℕ) → 0 < k → k ≤ 4 → forms_of (decimal k) ≡ Some k
some_forms k some few =
    ap (option_and_then (λ (n : ℕ). cond (eqb n 0) None (Some n))) (number_again 4 k (omega arith) few)
    ∙ ap (λ (b : Bool). cond b None (Some k)) (ne_eqb k 0 (λ e. omega (arith, some, e)))

series_again : (bank plan : List ℕ) (k : ℕ) (weights : List ℕ) → 0 < k → k ≤ 4 → are_weights weights ≡ true → series_of bank plan (decimal k) weights ≡ Some (Series bank plan k weights)
unfolding series_of
series_again bank plan k weights some few are =
    ap (option_and_then (λ (n : ℕ). cond (are_weights weights) (Some (Series bank plan n weights)) None)) (some_forms k some few)
    ∙ ap (λ (b : Bool). cond b (Some (Series bank plan k weights)) None) are

-- the room of a server
some_room : (n : ℕ) → 0 < n → n ≤ 1024 → room_of (decimal n) ≡ Some n
some_room n some few =
    ap (option_and_then (λ (k : ℕ). cond (eqb k 0) None (Some k))) (number_again 1024 n (omega arith) few)
    ∙ ap (λ (b : Bool). cond b None (Some n)) (ne_eqb n 0 (λ e. omega (arith, some, e)))

server_again : (bank plan : List ℕ) (n : ℕ) → 0 < n → n ≤ 1024 → server_of bank plan (decimal n) ≡ Some (Serve bank plan (Some n))
unfolding server_of
server_again bank plan n some few = ap (option_map (λ (k : ℕ). Serve bank plan (Some k))) (some_room n some few)

-- weights begin with a digit
no_hyphen : (parts : List (List ℕ)) → list_all is_weight (onto_first 45 parts) ≡ true → ⊥
unfolding number_of
no_hyphen [] are = false≢true are
no_hyphen (part ∷ parts) are = false≢true are

weights_named : (weights : List ℕ) → are_weights weights ≡ true → is_no_name weights ≡ false
unfolding number_of
weights_named [] are = absurd (false≢true are)
weights_named (b ∷ bs) are =
    let parts = slice_split (λ c. eqb c 44) bs in
    or_from (eqb (length (b ∷ bs)) 0) (eqb b 45) (ne_eqb _ _ (λ e. omega (arith, e)))
    (ne_eqb b 45 (λ e. no_hyphen parts (subst (λ (n : ℕ). list_all is_weight (cond (eqb n 44) ([] ∷ parts) (onto_first n parts)) ≡ true) e are)))

pub answered : (c : Command) → IsCommand c → command_of (words_of c) ≡ Some c
unfolding table of_two of_three
answered (Check bank plan) h = named (words_of (Check bank plan)) (Check bank plan) (two_names bank plan h.0 h.1) refl
answered (Assemble bank plan) h = named (words_of (Assemble bank plan)) (Assemble bank plan) (two_names bank plan h.0 h.1) refl
answered (Serve bank plan None) h = named (words_of (Serve bank plan None)) (Serve bank plan None) (two_names bank plan h.0 h.1) refl
answered (Serve bank plan (Some n)) h =
    named (words_of (Serve bank plan (Some n))) (Serve bank plan (Some n))
    (or_from (is_no_name bank) _ h.0 (two_names plan (decimal n) h.1 (number_named n (omega (arith, h.3)))))
    (server_again bank plan n h.2 h.3)
answered (Audit bank plan) h = named (words_of (Audit bank plan)) (Audit bank plan) (two_names bank plan h.0 h.1) refl
answered (Migrate bank plan) h = named (words_of (Migrate bank plan)) (Migrate bank plan) (two_names bank plan h.0 h.1) refl
answered (Follow bank plan) h = named (words_of (Follow bank plan)) (Follow bank plan) (two_names bank plan h.0 h.1) refl
answered (Ship bank plan) h = named (words_of (Ship bank plan)) (Ship bank plan) (two_names bank plan h.0 h.1) refl
answered (Replay bank plan script) h =
    named (words_of (Replay bank plan script)) (Replay bank plan script) (or_from (is_no_name bank) _ h.0 (two_names plan script h.1 h.2)) refl
answered (Drill n s) h =
    named (words_of (Drill n s)) (Drill n s)
    (two_names (decimal n) (decimal s) (number_named n (omega (arith, h.0))) (number_named s (omega (arith, h.2))))
    (drill_again n s h.0 h.1 h.2)
answered (Series bank plan k weights) h =
    named (words_of (Series bank plan k weights)) (Series bank plan k weights)
    (or_from (is_no_name bank) _ h.0
    (or_from (is_no_name plan) _ h.1
    (two_names (decimal k) weights (number_named k (omega (arith, h.3))) (weights_named weights h.4))))
    (series_again bank plan k weights h.2 h.3 h.4)

-- ---- and no others do

none_is : (c : Command) → None ≡ Some c → ⊥
none_is c e = cc

at : (P : Command → Type 0) (d c : Command) → Some d ≡ Some c → P d → P c
at P d c e p = let same : d ≡ c = cc in subst P same p

-- by cases of a test
either : (P : Type 0) (c : Command) (b : Bool) (x y : Option Command) → cond b x y ≡ Some c → (b ≡ true → x ≡ Some c → P) → (b ≡ false → y ≡ Some c → P) → P
either P c true x y e here other = here refl e
either P c false x y e here other = other refl e

abbrev IsAsked : List (List ℕ) → Command → Type 0
IsAsked words c = IsCommand c × (words ≡ words_of c)

same_word : (word text : List ℕ) → bytes_eq word text ≡ true → word ≡ text
same_word word text h = (bytes_eq-Decides word text).0 h

-- the numbers of a drill
drill_is : (o p : Option ℕ) (c : Command)
    → option_and_then (λ n. option_map (λ s. Drill n s) (option_and_then (λ k. cond (eqb k 0) None (Some k)) p)) o ≡ Some c
    → (n : ℕ) × (s : ℕ) × (o ≡ Some n) × (p ≡ Some s) × (0 < s) × (Drill n s ≡ c)
drill_is None p c e = absurd cc
drill_is (Some n) None c e = absurd cc
drill_is (Some n) (Some zero) c e = absurd cc
drill_is (Some n) (Some (suc s)) c e =
    let f : Some (Drill n (suc s)) ≡ Some c = rw (ne_eqb (suc s) 0 (λ h. omega (arith, h))) at e in
    (n, suc s, refl, refl, omega arith, cc)

drill_asked : (first second : List ℕ) (c : Command) → drill_of first second ≡ Some c → IsAsked (codes "drill" ∷ first ∷ second ∷ []) c
unfolding drill_of
drill_asked first second c e =
    let (n, s, number, sessions, some, is) = drill_is (number_of 4294967295 first) (number_of 200 second) c e in
    let n_is = number_is 4294967295 first n (omega arith) number in
    let s_is = number_is 200 second s (omega arith) sessions in
    subst (IsAsked (codes "drill" ∷ first ∷ second ∷ [])) is
    ((omega (arith, n_is.0), some, s_is.0), ap₂ (λ (a b : List ℕ). codes "drill" ∷ a ∷ b ∷ []) n_is.1 s_is.1)

two_asked : (word first second : List ℕ) (c : Command) → is_no_name first ≡ false → is_no_name second ≡ false
    → of_two word first second ≡ Some c → IsAsked (word ∷ first ∷ second ∷ []) c
unfolding of_two
two_asked word first second c a b e =
    let P = IsAsked (word ∷ first ∷ second ∷ []) in
    let front = λ (w : List ℕ). w ∷ first ∷ second ∷ [] in
    either (P c) c (bytes_eq word (codes "check")) _ _ e (λ h f. at P (Check first second) c f ((a, b), ap front (same_word word (codes "check") h)))
    (λ _ e1. either (P c) c (bytes_eq word (codes "assemble")) _ _ e1 (λ h f. at P (Assemble first second) c f ((a, b), ap front (same_word word (codes "assemble") h)))
    (λ _ e2. either (P c) c (bytes_eq word (codes "serve")) _ _ e2 (λ h f. at P (Serve first second None) c f ((a, b), ap front (same_word word (codes "serve") h)))
    (λ _ e3. either (P c) c (bytes_eq word (codes "audit")) _ _ e3 (λ h f. at P (Audit first second) c f ((a, b), ap front (same_word word (codes "audit") h)))
    (λ _ e4. either (P c) c (bytes_eq word (codes "drill")) _ _ e4
    (λ h f. (let d = drill_asked first second c f in (d.0, ap front (same_word word (codes "drill") h) ∙ d.1)))
    (λ _ e5. either (P c) c (bytes_eq word (codes "migrate")) _ _ e5 (λ h f. at P (Migrate first second) c f ((a, b), ap front (same_word word (codes "migrate") h)))
    (λ _ e6. either (P c) c (bytes_eq word (codes "follow")) _ _ e6 (λ h f. at P (Follow first second) c f ((a, b), ap front (same_word word (codes "follow") h)))
    (λ _ e7. either (P c) c (bytes_eq word (codes "ship")) _ _ e7 (λ h f. at P (Ship first second) c f ((a, b), ap front (same_word word (codes "ship") h)))
    (λ _ e8. absurd (none_is c e8)))))))))

-- the words of a server that prepares forms
server_is : (o : Option ℕ) (bank plan : List ℕ) (c : Command)
    → option_map (λ n. Serve bank plan (Some n)) (option_and_then (λ n. cond (eqb n 0) None (Some n)) o) ≡ Some c
    → (n : ℕ) × (o ≡ Some n) × (0 < n) × (Serve bank plan (Some n) ≡ c)
server_is None bank plan c e = absurd cc
server_is (Some zero) bank plan c e = absurd cc
server_is (Some (suc n)) bank plan c e =
    let f : Some (Serve bank plan (Some (suc n))) ≡ Some c = rw (ne_eqb (suc n) 0 (λ h. omega (arith, h))) at e in
    (suc n, refl, omega arith, cc)

server_asked : (bank plan ahead : List ℕ) (c : Command) → is_no_name bank ≡ false → is_no_name plan ≡ false
    → server_of bank plan ahead ≡ Some c → IsAsked (codes "serve" ∷ bank ∷ plan ∷ ahead ∷ []) c
unfolding server_of
server_asked bank plan ahead c a b e =
    let (n, number, some, is) = server_is (number_of 1024 ahead) bank plan c e in
    let n_is = number_is 1024 ahead n (omega arith) number in
    subst (IsAsked (codes "serve" ∷ bank ∷ plan ∷ ahead ∷ [])) is
    ((a, b, some, n_is.0), ap (λ (w : List ℕ). codes "serve" ∷ bank ∷ plan ∷ w ∷ []) n_is.1)

-- the words of a series
series_is : (o : Option ℕ) (bank plan weights : List ℕ) (are : Bool) (c : Command)
    → option_and_then (λ k. cond are (Some (Series bank plan k weights)) None) (option_and_then (λ n. cond (eqb n 0) None (Some n)) o) ≡ Some c
    → (k : ℕ) × (o ≡ Some k) × (0 < k) × (are ≡ true) × (Series bank plan k weights ≡ c)
series_is None bank plan weights are c e = absurd cc
series_is (Some zero) bank plan weights are c e = absurd cc
series_is (Some (suc k)) bank plan weights are c e =
    let f : cond are (Some (Series bank plan (suc k) weights)) None ≡ Some c = rw (ne_eqb (suc k) 0 (λ h. omega (arith, h))) at e in
    (suc k, refl, omega arith, either (are ≡ true) c are _ _ f (λ t g. t) (λ t g. absurd (none_is c g)), either (Series bank plan (suc k) weights ≡ c) c are _ _ f (λ t g. cc) (λ t g. absurd (none_is c g)))

series_asked : (bank plan forms weights : List ℕ) (c : Command) → is_no_name bank ≡ false → is_no_name plan ≡ false
    → series_of bank plan forms weights ≡ Some c → IsAsked (codes "series" ∷ bank ∷ plan ∷ forms ∷ weights ∷ []) c
unfolding series_of
series_asked bank plan forms weights c a b e =
    let (k, number, some, are, is) = series_is (number_of 4 forms) bank plan weights (are_weights weights) c e in
    let k_is = number_is 4 forms k (omega arith) number in
    subst (IsAsked (codes "series" ∷ bank ∷ plan ∷ forms ∷ weights ∷ [])) is
    ((a, b, some, k_is.0, are), ap (λ (w : List ℕ). codes "series" ∷ bank ∷ plan ∷ w ∷ weights ∷ []) k_is.1)

three_asked : (word x y z : List ℕ) (c : Command) → is_no_name x ≡ false → is_no_name y ≡ false → is_no_name z ≡ false
    → of_three word x y z ≡ Some c → IsAsked (word ∷ x ∷ y ∷ z ∷ []) c
unfolding of_three
three_asked word x y z c p q r e =
    let P = IsAsked (word ∷ x ∷ y ∷ z ∷ []) in
    let front = λ (w : List ℕ). w ∷ x ∷ y ∷ z ∷ [] in
    either (P c) c (bytes_eq word (codes "replay")) _ _ e
    (λ t f. at P (Replay x y z) c f ((p, q, r), ap front (same_word word (codes "replay") t)))
    (λ _ g. either (P c) c (bytes_eq word (codes "serve")) _ _ g
    (λ t f. (let is = server_asked x y z c p q f in (is.0, ap front (same_word word (codes "serve") t) ∙ is.1)))
    (λ _ k. absurd (none_is c k)))

table_asked : (words : List (List ℕ)) (c : Command) → list_any is_no_name words ≡ false → table words ≡ Some c → IsAsked words c
unfolding table
table_asked [] c h e = absurd (none_is c e)
table_asked (word ∷ []) c h e = absurd (none_is c e)
table_asked (word ∷ x ∷ []) c h e = absurd (none_is c e)
table_asked (word ∷ x ∷ y ∷ []) c h e =
    let p = or_parts (is_no_name word) _ h in
    let q = or_parts (is_no_name x) _ p.1 in
    let r = or_parts (is_no_name y) _ q.1 in
    two_asked word x y c q.0 r.0 e
table_asked (word ∷ x ∷ y ∷ z ∷ []) c h e =
    let p = or_parts (is_no_name word) _ h in
    let q = or_parts (is_no_name x) _ p.1 in
    let r = or_parts (is_no_name y) _ q.1 in
    let s = or_parts (is_no_name z) _ r.1 in
    three_asked word x y z c q.0 r.0 s.0 e
table_asked (word ∷ x ∷ y ∷ z ∷ u ∷ []) c h e =
    let p = or_parts (is_no_name word) _ h in
    let q = or_parts (is_no_name x) _ p.1 in
    let r = or_parts (is_no_name y) _ q.1 in
    let P = IsAsked (word ∷ x ∷ y ∷ z ∷ u ∷ []) in
    either (P c) c (bytes_eq word (codes "series")) _ _ e
    (λ t f. (let is = series_asked x y z u c q.0 r.0 f in (is.0, ap (λ (w : List ℕ). w ∷ x ∷ y ∷ z ∷ u ∷ []) (same_word word (codes "series") t) ∙ is.1)))
    (λ _ g. absurd (none_is c g))
table_asked (word ∷ x ∷ y ∷ z ∷ u ∷ more ∷ rest) c h e = absurd (none_is c e)

pub asked : (words : List (List ℕ)) (c : Command) → command_of words ≡ Some c → IsAsked words c
unfolding command_of
asked words c e =
    either (IsAsked words c) c (list_any is_no_name words) None (table words) e
    (λ _ f. absurd (none_is c f))
    (λ h f. table_asked words c h f)

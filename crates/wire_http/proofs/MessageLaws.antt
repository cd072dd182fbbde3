-- A byte text has one list of messages.
use Rattle.std.proofs.Common.{◌≡◌, ℕ, ◌<◌, ◌≤◌, List, [], ◌∷◌, ◌++◌, length, take, drop, refl, sym, ap, subst, ◌∙◌, codes, arith, rules, inl, inr, ◌⊎◌, length-append, append-nil}
use Rattle.std.specs.Prelude.{Ok, Err}
use Rattle.std.proofs.lemmas.List.{take-append-drop, take-append-le}
use Rattle.std.proofs.Math.Seq.{take-append_seam}
use Rattle.httparse.specs.Grammar.{RequestHead, crlf, is_token_byte, print_request, print_blank, print_version, print_end, print_section, ReadsRequest}
use Rattle.httparse.proofs.GrammarLemmas.{request_unique, print_request-append}
use Rattle.wire_http.specs.declared.message.WireFault.{WireFault}
use Rattle.wire_http.specs.declared.message.WireFault.TheVariants.{BadHead, HeadTooLong, NoLength, BodyTooLong, Cut, Link, Memory}
use Rattle.wire_http.specs.declared.message.Message.{Message}
use Rattle.wire_http.specs.Heads.{IsHead, BeginsNoHead, body_length, path_of, authorization, asks_to_close}
use Rattle.wire_http.specs.Messages.{IsMessage, IsFault, HasHeadFault, HasNoHead, HasLongHead, EndsInHead, EndsInBody, IsSame, IsUndecided}

pub one_head : (bytes : List ℕ) (h k : RequestHead) (r q : List ℕ) → IsHead bytes h r → IsHead bytes k q → (h ≡ k) × (r ≡ q)
one_head bytes h k r q a b = request_unique bytes h k r q a.reads b.reads

front_has : (p r front rest : List ℕ) → p ++ r ≡ front ++ rest → length p ≤ length front → front ≡ p ++ drop (length p) front
front_has p r front rest e le =
    let n = length p in
    let same : take n front ≡ p = sym (take-append-le n front rest le) ∙ ap (take n) (sym e) ∙ take-append_seam p r in
    sym (take-append-drop (length p) front) ∙ ap (λ (x : List ℕ). x ++ drop (length p) front) same

pub not_without : (bytes : List ℕ) (h : RequestHead) (r : List ℕ) → IsHead bytes h r → HasNoHead bytes → ⊥
not_without bytes h r head none =
    let more : 64 < length h.fields = none.4 none.1 h r (subst (λ (b : List ℕ). ReadsRequest b h r) none.2 head.reads) in
    let few = head.fields in
    omega (arith, more, few)

pub not_long : (bytes : List ℕ) (h : RequestHead) (r : List ℕ) → IsHead bytes h r → HasLongHead bytes → ⊥
not_long bytes h r head long =
    let size : length (print_request h) ≤ length long.0 = omega (arith, head.size, long.3) in
    let n = length (print_request h) in
    long.4.none h (drop n long.0) (head.reads.0, front_has (print_request h) r long.0 long.1 (sym head.reads.1 ∙ long.2) size)

pub not_cut_in_head : (bytes : List ℕ) (h : RequestHead) (r : List ℕ) → IsHead bytes h r → EndsInHead bytes → ⊥
not_cut_in_head bytes h r head cut = cut.part.none h r head.reads

ok_err : (h k : RequestHead) (n : ℕ) (f : WireFault) → h ≡ k → body_length h ≡ Ok n → body_length k ≡ Err f → ⊥
ok_err h k n f same a b =
    let e : Ok n ≡ Err f = sym a ∙ ap body_length same ∙ b in
    absurd cc

ok_ok : (h k : RequestHead) (n m : ℕ) → h ≡ k → body_length h ≡ Ok n → body_length k ≡ Ok m → n ≡ m
ok_ok h k n m same a b =
    let e : Ok n ≡ Ok m = sym a ∙ ap body_length same ∙ b in
    cc

not_faulty : (bytes : List ℕ) (m : Message) (next : List ℕ) (f : WireFault) → IsMessage bytes m next → HasHeadFault bytes f → ⊥
not_faulty bytes m next f x fault =
    let same = one_head bytes x.head fault.0 x.rest fault.1 x.announces.head fault.2 in
    ok_err x.head fault.0 x.length_of_body f same.0 x.announces.announced fault.3

not_short : (bytes : List ℕ) (m : Message) (next : List ℕ) → IsMessage bytes m next → EndsInBody bytes → ⊥
not_short bytes m next x short =
    let same = one_head bytes x.head short.0 x.rest short.2 x.announces.head short.3.head in
    let size = ok_ok x.head short.0 x.length_of_body short.1 same.0 x.announces.announced short.3.announced in
    let l = ap (λ (b : List ℕ). length b) same.1 in
    omega (arith, size, l, x.enough, short.4)

-- where there is a message, there is no fault
pub no_fault : (bytes : List ℕ) (m : Message) (next : List ℕ) (f : WireFault) → IsMessage bytes m next → IsFault bytes f → ⊥
no_fault bytes m next BadHead x (inl none) = not_without bytes x.head x.rest x.announces.head none
no_fault bytes m next BadHead x (inr fault) = not_faulty bytes m next BadHead x fault
no_fault bytes m next HeadTooLong x long = not_long bytes x.head x.rest x.announces.head long
no_fault bytes m next NoLength x fault = not_faulty bytes m next NoLength x fault
no_fault bytes m next BodyTooLong x fault = not_faulty bytes m next BodyTooLong x fault
no_fault bytes m next Cut x (inl cut) = not_cut_in_head bytes x.head x.rest x.announces.head cut
no_fault bytes m next Cut x (inr short) = not_short bytes m next x short
no_fault bytes m next Link x fault = fault
no_fault bytes m next Memory x fault = fault

pub one_message : (bytes : List ℕ) (m k : Message) (next after : List ℕ) → IsMessage bytes m next → IsMessage bytes k after
    → IsSame m k × (next ≡ after)
one_message bytes m k next after x y =
    let same = one_head bytes x.head y.head x.rest y.rest x.announces.head y.announces.head in
    let size = ok_ok x.head y.head x.length_of_body y.length_of_body same.0 x.announces.announced y.announces.announced in (
      record {
        method = x.method ∙ ap (λ (h : RequestHead). h.method) same.0 ∙ sym y.method;
        path = x.path ∙ ap (λ (h : RequestHead). path_of h.target) same.0 ∙ sym y.path;
        authorization = x.authorization ∙ ap authorization same.0 ∙ sym y.authorization;
        body = x.body ∙ ap (λ n. take n x.rest) size ∙ ap (take y.length_of_body) same.1 ∙ sym y.body;
        close = x.close ∙ ap asks_to_close same.0 ∙ sym y.close;
      },
      x.follows ∙ ap (λ n. drop n x.rest) size ∙ ap (drop y.length_of_body) same.1 ∙ sym y.follows,
    )

-- ---- no bytes

pub no_head_of_no_bytes : (h : RequestHead) (r : List ℕ) → ReadsRequest [] h r → ⊥
no_head_of_no_bytes h r x =
    let tail = h.target ++ 32 ∷ (print_version h.minor ++ (print_end h.line_end ++ (print_section h.fields h.last ++ r))) in
    let whole : [] ≡ print_blank h.blank ++ (h.method ++ 32 ∷ tail) = x.1 ∙ print_request-append h r in
    let a = length-append (print_blank h.blank) (h.method ++ 32 ∷ tail) in
    let b = length-append h.method (32 ∷ tail) in
    let e = ap (λ (l : List ℕ). length l) whole in
    omega (arith, a, b, e)

abbrev shortest : RequestHead
shortest = record { blank = []; method = codes "GET"; target = codes "/"; minor = 1; line_end = crlf; fields = []; last = crlf }

shortest_reads : ReadsRequest ([] ++ print_request shortest) shortest []
unfolding is_token_byte
shortest_reads = (
  record {
    method = search rules;
    target = search rules;
    target_text = search rules;
    minor = search rules;
    fields = search rules;
  },
  sym (append-nil (print_request shortest)),
)

-- no bytes are no message, and have no fault
pub no_message_of_no_bytes : (m : Message) (next : List ℕ) → IsMessage [] m next → ⊥
no_message_of_no_bytes m next x = no_head_of_no_bytes x.head x.rest x.announces.head.reads

some_front : (front rest : List ℕ) → [] ≡ front ++ rest → front ≡ []
some_front [] rest e = refl
some_front (b ∷ bs) rest e = absurd cc

pub no_fault_of_no_bytes : (f : WireFault) → IsFault [] f → ⊥
no_fault_of_no_bytes BadHead (inl none) =
    let begins = subst BeginsNoHead (some_front none.0 none.1 none.2) none.4 in
    let more : 64 < 0 = begins (print_request shortest) shortest [] shortest_reads in
    omega (arith, more)
no_fault_of_no_bytes BadHead (inr fault) = no_head_of_no_bytes fault.0 fault.1 fault.2.reads
no_fault_of_no_bytes HeadTooLong long =
    let size = ap (λ (l : List ℕ). length l) (some_front long.0 long.1 long.2) in
    omega (arith, size, long.3)
no_fault_of_no_bytes NoLength fault = no_head_of_no_bytes fault.0 fault.1 fault.2.reads
no_fault_of_no_bytes BodyTooLong fault = no_head_of_no_bytes fault.0 fault.1 fault.2.reads
no_fault_of_no_bytes Cut (inl cut) = cut.some refl
no_fault_of_no_bytes Cut (inr short) = no_head_of_no_bytes short.0 short.2 short.3.head.reads
no_fault_of_no_bytes Link fault = fault
no_fault_of_no_bytes Memory fault = fault

-- ---- one fault

abbrev Kinds : List ℕ → WireFault → Type 0
Kinds bytes f =
    HasHeadFault bytes f
    ⊎ ((HasNoHead bytes × (BadHead ≡ f))
    ⊎ ((HasLongHead bytes × (HeadTooLong ≡ f)) ⊎ ((EndsInHead bytes × (Cut ≡ f)) ⊎ (EndsInBody bytes × (Cut ≡ f)))))

kinds_of : (bytes : List ℕ) (f : WireFault) → IsFault bytes f → Kinds bytes f
kinds_of bytes BadHead (inl none) = inr (inl (none, refl))
kinds_of bytes BadHead (inr fault) = inl fault
kinds_of bytes HeadTooLong long = inr (inr (inl (long, refl)))
kinds_of bytes NoLength fault = inl fault
kinds_of bytes BodyTooLong fault = inl fault
kinds_of bytes Cut (inl cut) = inr (inr (inr (inl (cut, refl))))
kinds_of bytes Cut (inr short) = inr (inr (inr (inr (short, refl))))
kinds_of bytes Link fault = absurd fault
kinds_of bytes Memory fault = absurd fault

faulty_same : (bytes : List ℕ) (f g : WireFault) → HasHeadFault bytes f → HasHeadFault bytes g → f ≡ g
faulty_same bytes f g x y =
    let e : Err f ≡ Err g = sym x.3 ∙ ap body_length (one_head bytes x.0 y.0 x.1 y.1 x.2 y.2).0 ∙ y.3 in
    cc

faulty_short : (bytes : List ℕ) (f : WireFault) → HasHeadFault bytes f → EndsInBody bytes → ⊥
faulty_short bytes f x y = ok_err y.0 x.0 y.1 f (one_head bytes y.0 x.0 y.2 x.1 y.3.head x.2).0 y.3.announced x.3

long_cut : (bytes : List ℕ) → HasLongHead bytes → EndsInHead bytes → ⊥
long_cut bytes long cut =
    let l = length-append long.0 long.1 in
    let e = ap (λ (b : List ℕ). length b) long.2 in
    omega (arith, l, e, long.3, cut.few)

two : (bytes : List ℕ) (f g : WireFault) → Kinds bytes f → Kinds bytes g → (f ≡ g) ⊎ IsUndecided bytes
two bytes f g (inl x) (inl y) = inl (faulty_same bytes f g x y)
two bytes f g (inl x) (inr (inl y)) = absurd (not_without bytes x.0 x.1 x.2 y.0)
two bytes f g (inl x) (inr (inr (inl y))) = absurd (not_long bytes x.0 x.1 x.2 y.0)
two bytes f g (inl x) (inr (inr (inr (inl y)))) = absurd (not_cut_in_head bytes x.0 x.1 x.2 y.0)
two bytes f g (inl x) (inr (inr (inr (inr y)))) = absurd (faulty_short bytes f x y.0)
two bytes f g (inr (inl x)) (inl y) = absurd (not_without bytes y.0 y.1 y.2 x.0)
two bytes f g (inr (inl x)) (inr (inl y)) = inl (sym x.1 ∙ y.1)
two bytes f g (inr (inl x)) (inr (inr (inl y))) = inr (x.0, inl y.0)
two bytes f g (inr (inl x)) (inr (inr (inr (inl y)))) = inr (x.0, inr y.0)
two bytes f g (inr (inl x)) (inr (inr (inr (inr y)))) = absurd (not_without bytes y.0.0 y.0.2 y.0.3.head x.0)
two bytes f g (inr (inr (inl x))) (inl y) = absurd (not_long bytes y.0 y.1 y.2 x.0)
two bytes f g (inr (inr (inl x))) (inr (inl y)) = inr (y.0, inl x.0)
two bytes f g (inr (inr (inl x))) (inr (inr (inl y))) = inl (sym x.1 ∙ y.1)
two bytes f g (inr (inr (inl x))) (inr (inr (inr (inl y)))) = absurd (long_cut bytes x.0 y.0)
two bytes f g (inr (inr (inl x))) (inr (inr (inr (inr y)))) = absurd (not_long bytes y.0.0 y.0.2 y.0.3.head x.0)
two bytes f g (inr (inr (inr (inl x)))) (inl y) = absurd (not_cut_in_head bytes y.0 y.1 y.2 x.0)
two bytes f g (inr (inr (inr (inl x)))) (inr (inl y)) = inr (y.0, inr x.0)
two bytes f g (inr (inr (inr (inl x)))) (inr (inr (inl y))) = absurd (long_cut bytes y.0 x.0)
two bytes f g (inr (inr (inr (inl x)))) (inr (inr (inr (inl y)))) = inl (sym x.1 ∙ y.1)
two bytes f g (inr (inr (inr (inl x)))) (inr (inr (inr (inr y)))) = absurd (not_cut_in_head bytes y.0.0 y.0.2 y.0.3.head x.0)
two bytes f g (inr (inr (inr (inr x)))) (inl y) = absurd (faulty_short bytes g y x.0)
two bytes f g (inr (inr (inr (inr x)))) (inr (inl y)) = absurd (not_without bytes x.0.0 x.0.2 x.0.3.head y.0)
two bytes f g (inr (inr (inr (inr x)))) (inr (inr (inl y))) = absurd (not_long bytes x.0.0 x.0.2 x.0.3.head y.0)
two bytes f g (inr (inr (inr (inr x)))) (inr (inr (inr (inl y)))) = absurd (not_cut_in_head bytes x.0.0 x.0.2 x.0.3.head y.0)
two bytes f g (inr (inr (inr (inr x)))) (inr (inr (inr (inr y)))) = inl (sym x.1 ∙ y.1)

-- two faults of one text only where no head can come and yet the front is a part of one
pub one_fault : (bytes : List ℕ) (f g : WireFault) → IsFault bytes f → IsFault bytes g → (f ≡ g) ⊎ IsUndecided bytes
one_fault bytes f g x y = two bytes f g (kinds_of bytes f x) (kinds_of bytes g y)

-- What follows for all the bytes from a look at the first of them.
use Rattle.std.proofs.Common.{◌≡◌, ◌≢◌, ℕ, ◌+◌, ◌-◌, ◌<◌, ◌≤◌, List, [], ◌++◌, length, take, drop, refl, sym, ap, subst, ◌∙◌, arith, inl, inr, ◌⊎◌, append_assoc, append-nil, length-append, length-drop, Bool, true, false, map, codes}
use Rattle.std.specs.Prelude.{Result, Ok, Err, slice_range, nat_lt, if◌then◌else◌}
use Rattle.std.specs.Str.Parse.{digits_value}
use Rattle.std.proofs.lemmas.Bool.{ltb-false}
use Rattle.exam_text.specs.First.{fault_where, unless}
use Rattle.httparse.specs.Spans.{name_and_value}
use Rattle.wire_http.specs.Fields as Fields
use Rattle.wire_http.specs.Fields.{values_of, first_of}
use Rattle.wire_http.specs.declared.message.Message.{Message}
use Rattle.std.proofs.lemmas.List.{take-append-drop, drop-append-le, take-append-le, length-take-le, drop-drop}
use Rattle.httparse.specs.Grammar.{RequestHead, print_request}
use Rattle.httparse.proofs.GrammarLemmas.{ReadsRequest-append}
use Rattle.wire_http.specs.declared.message.WireFault.{WireFault}
use Rattle.wire_http.specs.declared.message.WireFault.TheVariants.{BadHead, NoLength, BodyTooLong, Cut, Link}
use Rattle.wire_http.specs.declared.head.Head.{Head}
use Rattle.wire_http.specs.Heads.{IsHead, IsOfHead, StartsWithHead, BeginsNoHead, IsPartOfHead, body_length, path_of, authorization, asks_to_close}
use Rattle.wire_http.specs.Messages.{IsFault, HasNoHead, HasLongHead, EndsInBody, IsFree, IsMessage}

-- a head of a front is one of the whole
pub head_longer : (bytes more : List ℕ) (head : Head) (h : RequestHead) → IsOfHead bytes head h → IsOfHead (bytes ++ more) head h
head_longer bytes more head h x =
    let e : length bytes ≡ length (print_request h ++ drop head.len bytes) = ap (λ (l : List ℕ). length l) x.reads.1 in
    let l = length-append (print_request h) (drop head.len bytes) in
    record {
      reads = rw (drop-append-le head.len bytes more (omega (arith, e, l, x.len)))
          (ReadsRequest-append bytes h (drop head.len bytes) more x.reads);
      len = x.len;
      fields = x.fields;
      method = x.method;
      path = x.path;
      authorization = x.authorization;
      body = x.body;
      close = x.close;
    }

pub head_fits : (bytes : List ℕ) (head : Head) (h : RequestHead) → IsOfHead bytes head h → head.len ≤ length bytes
head_fits bytes head h x =
    let e : length bytes ≡ length (print_request h ++ drop head.len bytes) = ap (λ (l : List ℕ). length l) x.reads.1 in
    let l = length-append (print_request h) (drop head.len bytes) in
    omega (arith, e, l, x.len)

-- a front that is seen, and the whole
pub seen : (kept left whole : List ℕ) (n : ℕ) → kept ++ left ≡ whole → whole ≡ take n kept ++ (drop n kept ++ left)
seen kept left whole n e =
    sym e ∙ ap (λ (l : List ℕ). l ++ left) (sym (take-append-drop n kept)) ∙ append_assoc (take n kept) (drop n kept) left

pub head_seen : (kept : List ℕ) (n : ℕ) (head : Head) → n ≤ 8192 → n ≤ length kept → (h : RequestHead) × IsOfHead (take n kept) head h
    → StartsWithHead kept head
head_seen kept n head small le x =
    let fits = head_fits (take n kept) head x.0 x.1 in
    let size = length-take-le n kept le in
    let longer = head_longer (take n kept) (drop n kept) head x.0 x.1 in
    (x.0, subst (λ (b : List ℕ). IsOfHead b head x.0) (take-append-drop n kept) longer, omega (arith, fits, size, small))

pub bad_seen : (kept left whole : List ℕ) (n : ℕ) → kept ++ left ≡ whole → n ≤ 8192 → n ≤ length kept → BeginsNoHead (take n kept)
    → HasNoHead whole
bad_seen kept left whole n e small le x =
    let size = length-take-le n kept le in
    (take n kept, drop n kept ++ left, seen kept left whole n e, omega (arith, size, small), x)

pub long_seen : (kept left whole : List ℕ) (n : ℕ) → kept ++ left ≡ whole → n ≡ 8192 → n ≤ length kept → IsPartOfHead (take n kept)
    → HasLongHead whole
long_seen kept left whole n e full le x =
    (take n kept, drop n kept ++ left, seen kept left whole n e, length-take-le n kept le ∙ full, x)

-- nothing is left after what is kept
pub all_seen : (kept left whole : List ℕ) → kept ++ left ≡ whole → left ≡ [] → whole ≡ kept
all_seen kept left whole e none = sym e ∙ ap (λ (l : List ℕ). kept ++ l) none ∙ append-nil kept

-- ---- after the head

abbrev chain : Bool → Bool → Bool → ℕ → Result ℕ WireFault
chain a b c n = unless (fault_where a BadHead) (unless (fault_where b NoLength) (if c then Err BodyTooLong else Ok n))

chain_ok : (a b c : Bool) (n m : ℕ) → chain a b c n ≡ Ok m → (c ≡ false) × (n ≡ m)
chain_ok true b c n m e = absurd cc
chain_ok false true c n m e = absurd cc
chain_ok false false true n m e = absurd cc
chain_ok false false false n m e = (refl, cc)

chain_err : (a b c : Bool) (n : ℕ) (f : WireFault) → chain a b c n ≡ Err f → (BadHead ≡ f) ⊎ ((NoLength ≡ f) ⊎ (BodyTooLong ≡ f))
chain_err true b c n f e = inl cc
chain_err false true c n f e = inr (inl cc)
chain_err false false true n f e = inr (inr cc)
chain_err false false false n f e = absurd cc

pub size_is : (h : RequestHead) (n : ℕ) → body_length h ≡ Ok n → n ≤ 4096
unfolding Fields.body_length
size_is h n e =
    let c = chain_ok _ _ (nat_lt 4096 (digits_value 10 (length_text h))) (digits_value 10 (length_text h)) n e in
    let le : digits_value 10 (length_text h) ≤ 4096 = ltb-false _ _ c.0 in
    omega (arith, le, c.1)
  where
    length_text : RequestHead → List ℕ
    length_text h = first_of (values_of (codes "content-length") (map name_and_value h.fields))

pub head_fault : (whole : List ℕ) (h : RequestHead) (rest : List ℕ) (f : WireFault) → IsHead whole h rest → body_length h ≡ Err f
    → IsFault whole f
unfolding Fields.body_length
head_fault whole h rest f head e = elim (chain_err _ _ _ _ f e) [
  | inl b ↦ subst (λ (x : WireFault). IsFault whole x) b (inr (h, rest, head, e ∙ ap Err (sym b)))
  | inr (inl b) ↦ subst (λ (x : WireFault). IsFault whole x) b (h, rest, head, e ∙ ap Err (sym b))
  | inr (inr b) ↦ subst (λ (x : WireFault). IsFault whole x) b (h, rest, head, e ∙ ap Err (sym b))
]

pub not_of_link : (h : RequestHead) (f : WireFault) → body_length h ≡ Err f → f ≢ Link
unfolding Fields.body_length
not_of_link h f e l = elim (chain_err _ _ _ _ f e) [
  | inl b ↦ absurd cc
  | inr (inl b) ↦ absurd cc
  | inr (inr b) ↦ absurd cc
]

-- the head at the front of what is kept is one of the whole
pub is_head : (kept left : List ℕ) (head : Head) (h : RequestHead) → IsOfHead kept head h → head.len ≤ 8192
    → IsHead (kept ++ left) h (drop head.len (kept ++ left))
is_head kept left head h x small = record {
  reads = (head_longer kept left head h x).reads;
  fields = x.fields;
  size = omega (arith, x.len, small);
}

pub fits_whole : (kept left : List ℕ) (head : Head) (h : RequestHead) → IsOfHead kept head h → head.len ≤ length (kept ++ left)
fits_whole kept left head h x =
    let fits = head_fits kept head h x in
    let l = length-append kept left in
    omega (arith, fits, l)

pub short_body : (whole : List ℕ) (h : RequestHead) (len n : ℕ) → IsHead whole h (drop len whole) → body_length h ≡ Ok n
    → len ≤ length whole → length whole < len + n → EndsInBody whole
short_body whole h len n head e fits short =
    let l = length-drop len whole in
    (h, n, drop len whole, record { head = head; announced = e }, omega (arith, l, fits, short))

-- the fault of a body that was read: of the link or of memory, or the bytes end within it
pub body_fault : (whole : List ℕ) (h : RequestHead) (len n : ℕ) (f : WireFault) → IsHead whole h (drop len whole) → body_length h ≡ Ok n
    → len ≤ length whole → IsFree f ⊎ ((f ≡ Cut) × (length whole < len + n)) → IsFree f ⊎ IsFault whole f
body_fault whole h len n f head e fits (inl free) = inl free
body_fault whole h len n f head e fits (inr cut) =
    inr (subst (λ (x : WireFault). IsFault whole x) (sym cut.0) (inr (short_body whole h len n head e fits cut.1)))

pub message_is : (whole kept left next : List ℕ) (h : RequestHead) (len n : ℕ) (m : Message) → IsHead whole h (drop len whole)
    → body_length h ≡ Ok n
    → kept ++ left ≡ whole → len + n ≤ length kept → next ≡ drop (len + n) kept
    → m.method ≡ h.method → m.path.items ≡ path_of h.target → m.authorization.items ≡ authorization h → m.body.items ≡ slice_range kept len (len + n) → m.close ≡ asks_to_close h
    → IsMessage whole m (next ++ left)
message_is whole kept left next h len n m head e joined fits behind method path bears body close =
    let k = length-drop len kept in
    let size : len + n - len ≡ n = omega arith in
    let rest : drop len whole ≡ drop len kept ++ left = ap (drop len) (sym joined) ∙ drop-append-le len kept left (omega (arith, fits)) in
    let enough : n ≤ length (drop len kept) = omega (arith, k, fits) in
    let l = length-append (drop len kept) left in
    let r = ap (λ (x : List ℕ). length x) rest in
    record {
      head = h;
      length_of_body = n;
      rest = drop len whole;
      announces = record { head = head; announced = e };
      enough = omega (arith, l, r, enough);
      method = method;
      path = path;
      authorization = bears;
      body = body ∙ ap (λ k. take k (drop len kept)) size ∙ sym (ap (take n) rest ∙ take-append-le n (drop len kept) left enough);
      close = close;
      follows = ap (λ (x : List ℕ). x ++ left) (behind ∙ sym (drop-drop n len kept))
          ∙ sym (ap (drop n) rest ∙ drop-append-le n (drop len kept) left enough);
    }

-- One route, the messages of a connection, and a worked row.
use Rattle.std.proofs.Common.{◌≡◌, ℕ, ◌≤◌, List, [], ◌∷◌, ◌++◌, Option, Some, None, refl, sym, ap, ◌∙◌, codes, arith, option_map, drop}
use Rattle.std.specs.Fmt.{decimal}
use Rattle.std.proofs.lemmas.Fmt.{decimal_injective}
use Rattle.std.proofs.lemmas.List.{append_cancel_right}
use Rattle.matchit.specs.Router.{RouteOf}
use Rattle.matchit.specs.Seek.{first}
use Rattle.std.specs.Prelude.{Result}
use Rattle.exam_handler.specs.declared.health.Health as found
use Rattle.history_model.specs.declared.refusal.Refusal.{Refusal}
use Rattle.history_model.specs.declared.request.Request.{Request}
use Rattle.history_model.specs.declared.request.Reply.{Reply}
use Rattle.wire_http.specs.declared.message.Message.{Message}
use Rattle.wire_http.specs.Messages.{Messages, none_yet, one_more}
use Rattle.exam_http.specs.declared.route.RouteKind.{RouteKind}
use Rattle.exam_http.specs.declared.route.Route.{Route}
use Rattle.exam_http.specs.declared.route.Route.TheVariants.{Sessions, Session, Answers, Close, Exposure, Health}
use Rattle.exam_http.specs.Paths.{IsRoute, path_of, Names}
use Rattle.exam_http.specs.Table.{table, kind_of}
use Rattle.exam_http.specs.Serving as serving
use Rattle.exam_http.specs.Serving.{Serves}
use Rattle.exam_http.proofs.Names.{leads}

same_kind : (r s : Route) → IsRoute r → IsRoute s → path_of r ≡ path_of s → kind_of r ≡ kind_of s
same_kind r s x y e =
    let both : Some (kind_of r) ≡ Some (kind_of s) = sym (leads r x)
    ∙ ap (λ (p : List ℕ). option_map (λ (q : RouteOf RouteKind). q.value) (first table p)) e ∙ leads s y in
    cc

same_number : (a b : ℕ) (tail : List ℕ) → a ≤ 4294967295 → b ≤ 4294967295
    → codes "/sessions/" ++ decimal a ++ tail ≡ codes "/sessions/" ++ decimal b ++ tail → a ≡ b
same_number a b tail x y e = decimal_injective a b (omega arith) (omega arith)
    (append_cancel_right (decimal a) (decimal b) tail (ap (drop 10) e))

whole_number : (a b : ℕ) → a ≤ 4294967295 → b ≤ 4294967295 → codes "/sessions/" ++ decimal a ≡ codes "/sessions/" ++ decimal b → a ≡ b
whole_number a b x y e = decimal_injective a b (omega arith) (omega arith) (ap (drop 10) e)

same_route : (r s : Route) → IsRoute r → IsRoute s → path_of r ≡ path_of s → kind_of r ≡ kind_of s → r ≡ s
same_route Sessions Sessions x y e k = refl
same_route Sessions (Session b) x y e k = absurd cc
same_route Sessions (Answers b) x y e k = absurd cc
same_route Sessions (Close b) x y e k = absurd cc
same_route Sessions Exposure x y e k = absurd cc
same_route Sessions Health x y e k = absurd cc
same_route (Session a) Sessions x y e k = absurd cc
same_route (Session a) (Session b) x y e k = ap Session (whole_number a b x y e)
same_route (Session a) (Answers b) x y e k = absurd cc
same_route (Session a) (Close b) x y e k = absurd cc
same_route (Session a) Exposure x y e k = absurd cc
same_route (Session a) Health x y e k = absurd cc
same_route (Answers a) Sessions x y e k = absurd cc
same_route (Answers a) (Session b) x y e k = absurd cc
same_route (Answers a) (Answers b) x y e k = ap Answers (same_number a b (codes "/answers") x y e)
same_route (Answers a) (Close b) x y e k = absurd cc
same_route (Answers a) Exposure x y e k = absurd cc
same_route (Answers a) Health x y e k = absurd cc
same_route (Close a) Sessions x y e k = absurd cc
same_route (Close a) (Session b) x y e k = absurd cc
same_route (Close a) (Answers b) x y e k = absurd cc
same_route (Close a) (Close b) x y e k = ap Close (same_number a b (codes "/close") x y e)
same_route (Close a) Exposure x y e k = absurd cc
same_route (Close a) Health x y e k = absurd cc
same_route Exposure Sessions x y e k = absurd cc
same_route Exposure (Session b) x y e k = absurd cc
same_route Exposure (Answers b) x y e k = absurd cc
same_route Exposure (Close b) x y e k = absurd cc
same_route Exposure Exposure x y e k = refl
same_route Exposure Health x y e k = absurd cc
same_route Health Sessions x y e k = absurd cc
same_route Health (Session b) x y e k = absurd cc
same_route Health (Answers b) x y e k = absurd cc
same_route Health (Close b) x y e k = absurd cc
same_route Health Exposure x y e k = absurd cc
same_route Health Health x y e k = refl

-- a path names one route, or none
pub one_route : (path : List ℕ) (o q : Option Route) → Names path o → Names path q → o ≡ q
one_route path None None x y = refl
one_route path None (Some s) x y = absurd (x s y.0 y.1)
one_route path (Some r) None x y = absurd (y r x.0 x.1)
one_route path (Some r) (Some s) x y =
    let e = sym x.1 ∙ y.1 in
    ap Some (same_route r s x.0 y.0 e (same_kind r s x.0 y.0 e))

-- what a connection served are messages of its bytes
pub messages_of : {H : Type 0} (token : Option (List ℕ)) (does : H → Request → Reply → H → Type 0)
    (probes : H → Result found.Health Refusal → H → Type 0) (idles : H → H → Type 0) (start : H)
    (bytes texts rest : List ℕ) (s : H) → Serves token does probes idles start bytes texts rest s → (ms : List Message) × Messages bytes ms rest
messages_of token does probes idles start bytes _ _ _ serving.begun = ([], none_yet)
messages_of token does probes idles start bytes _ _ _ (serving.one_more texts rest text left old new before now) =
    let earlier = messages_of token does probes idles start bytes texts rest old before in
    (earlier.0 ++ now.message ∷ [], one_more earlier.0 rest now.message left earlier.1 now.reads)

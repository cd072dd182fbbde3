-- The rows of the router.
use Rattle.std.specs.Prelude.{ℕ, List, [], ◌∷◌, ◌++◌, codes}
use Rattle.matchit.specs.Rows.{RowsOf}
use Rattle.matchit.specs.Router.{RouteOf}
use Rattle.exam_http.specs.declared.route.RouteKind.{RouteKind}
use Rattle.exam_http.specs.declared.route.RouteKind.TheVariants as kind
use Rattle.exam_http.specs.declared.route.Route.{Route}
use Rattle.exam_http.specs.declared.route.Route.TheVariants.{Sessions, Session, Answers, Close, Exposure, Health}

abbrev pub entry : List ℕ → List ℕ → List (ℕ × ℕ) → RouteKind → List ℕ × RouteOf RouteKind
entry pattern text names value =
    (pattern, record { pattern = pattern; text = text; names = names; value = value })

abbrev pub id_name : List (ℕ × ℕ)
id_name = (11, 13) ∷ []

-- the rows, in the router's order
abbrev pub table : RowsOf (RouteOf RouteKind)
table =
    entry (codes "/exposure") (codes "/exposure") [] kind.Exposure
    ∷ entry (codes "/health") (codes "/health") [] kind.Health
    ∷ entry (codes "/sessions/" ++ 256 ∷ codes "/answers")
    (codes "/sessions/{id}/answers") id_name kind.Answers
    ∷ entry (codes "/sessions/" ++ 256 ∷ codes "/close")
    (codes "/sessions/{id}/close") id_name kind.Close
    ∷ entry (codes "/sessions/" ++ 256 ∷ []) (codes "/sessions/{id}") id_name kind.Session
    ∷ entry (codes "/sessions") (codes "/sessions") [] kind.Sessions
    ∷ []

-- what the router finds for a route
abbrev pub kind_of : Route → RouteKind
kind_of Sessions = kind.Sessions
kind_of (Session s) = kind.Session
kind_of (Answers s) = kind.Answers
kind_of (Close s) = kind.Close
kind_of Exposure = kind.Exposure
kind_of Health = kind.Health

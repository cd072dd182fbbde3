-- Where a request may stop before its end, on one thread.
use Rattle.std.specs.Prelude.{◌≡◌, ℕ, Bool, List, [], ◌∷◌, ◌++◌, Option, Some}
use Rattle.bank_tables.specs.Tables.{Tables}
use Rattle.form_model.specs.Plan.{Plan}
use Rattle.history_model.specs.declared.entry.Entry.{Entry}
use Rattle.history_model.specs.declared.entry.Entry.TheVariants.{Closed}
use Rattle.history_model.specs.declared.place.Place.TheVariants.{Pending}
use Rattle.history_model.specs.declared.request.Request.{Request}
use Rattle.history_model.specs.declared.request.Request.TheVariants.{Close}
use Rattle.history_model.specs.Legality.{Legal}
use Rattle.history_model.specs.Places.{place}
use Rattle.history_model.specs.Requests.{Leads, IsFirmServing, IsSettingAside}

-- the history before the item of the request is served: its session waits for one, perhaps after
-- eligibility was set aside
pub data IsBeforeServing (b : Tables) (plan : Plan) (H : List Entry) (request : Request) : ℕ
    → List Entry → Type 0 where
  led : (session step : ℕ) (fresh : Bool) (G : List Entry) → Leads b plan H request session fresh G
      → place plan G session ≡ Some (Pending step) → IsBeforeServing b plan H request session G
  set_aside : (session : ℕ) (fresh : Bool) (G : List Entry) (aside : Entry)
      → Leads b plan H request session fresh G → IsSettingAside b plan G session aside
      → IsBeforeServing b plan H request session (G ++ aside ∷ [])

-- the history H with the entries of the request so far: not all of them, where it has any
pub data IsCutOff (b : Tables) (plan : Plan) (H : List Entry) (request : Request) : List Entry
    → Type 0 where
  at_start : IsCutOff b plan H request H
  before_serving : (session : ℕ) (G : List Entry) → IsBeforeServing b plan H request session G
      → IsCutOff b plan H request G

-- the entry that comes next in the request, after the history at which it was cut off
pub data IsNextOf (b : Tables) (plan : Plan) (H : List Entry) (request : Request) : List Entry
    → Entry → Type 0 where
  first : (session : ℕ) (fresh : Bool) (entry : Entry)
      → Leads b plan H request session fresh (H ++ entry ∷ []) → IsNextOf b plan H request H entry
  closing : (session : ℕ) (booking : Option ℕ) → request ≡ Close session booking → Legal b plan H (Closed session)
      → IsNextOf b plan H request H (Closed session)
  aside : (session : ℕ) (fresh : Bool) (G : List Entry) (entry : Entry)
      → Leads b plan H request session fresh G → IsSettingAside b plan G session entry
      → IsNextOf b plan H request G entry
  served : (session : ℕ) (G : List Entry) (entry : Entry)
      → IsBeforeServing b plan H request session G → IsFirmServing b plan G session entry
      → IsNextOf b plan H request G entry

-- A record that is lifted may follow wherever the old one may.
use Rattle.std.proofs.Common.{◌≡◌, ◌≢◌, ℕ, false, inl, inr, ◌==◌, List, refl, sym, ◌∙◌, subst}
use Rattle.std.proofs.lemmas.Bool.{eqb-true, eq-eqb}
use Rattle.std.proofs.Math.Bool.{true≢false}
use Rattle.bank_tables.specs.Tables.{Tables}
use Rattle.form_model.specs.Plan.{Plan}
use Rattle.serving_model.specs.Seats.{first_band}
use Rattle.form_model.proofs.SumLaws.{either}
use Rattle.history_model.specs.declared.entry.Bands.{Bands}
use Rattle.history_model.specs.declared.entry.Entry.{Entry}
use Rattle.history_model.specs.declared.entry.Entry.TheVariants.{Started, SetAside, Served, Answered, Closed}
use Rattle.history_model.specs.Entries.{items_in}
use Rattle.history_model.specs.Draws.{SameItems, draw, AreDrawn}
use Rattle.history_model.specs.Judging.{MayFollow}
use Rattle.history_model.specs.Lifting.{AreLifted, LiftedMayFollow}

-- with the one set that of its draw, all sets are
all_drawn : (b : Tables) (plan : Plan) (H : List Entry) (session : ℕ) (old new : Bands) → SameItems (items_in old.sets 0) (draw b plan H session (first_band b plan)) → AreLifted b plan H session old new → AreDrawn b plan H session new
all_drawn b plan H session old new drawn lifted = record { number = lifted.number; each = each }
  where
    differs : (band : ℕ) → (band == first_band b plan) ≡ false → band ≢ first_band b plan
    differs band other same = true≢false (sym (eq-eqb band (first_band b plan) same) ∙ other)

    each : (band : ℕ) → SameItems (items_in new.sets band) (draw b plan H session band)
    each band = elim (either (band == first_band b plan)) [
      | inl same ↦
          let at : band ≡ first_band b plan = eqb-true band (first_band b plan) same in
          subst (λ (k : ℕ). SameItems (items_in new.sets k) (draw b plan H session k)) (sym at) (λ i. lifted.kept i ∙ drawn i)
      | inr other ↦ lifted.others band (differs band other)
    ]

pub lifted_may_follow : LiftedMayFollow
lifted_may_follow b plan H (Started session booking old without) new tree may lifted =
    subst (λ (e : Entry). MayFollow b plan H e tree) (sym lifted.2)
    (record { number = may.0.number; not_booked = may.0.not_booked; drawn = all_drawn b plan H session old lifted.0 may.0.drawn lifted.1; listed = tt }, may.1)
lifted_may_follow b plan H (SetAside session step band cause nodes) new tree may lifted =
    subst (λ (e : Entry). MayFollow b plan H e tree) (sym (lifted.pending may.step may.problem may.is_problem))
    (record { problem = may.problem; is_problem = may.is_problem; band_is = refl; not_aside = may.not_aside; shows = may.shows })
lifted_may_follow b plan H (Served session step item form proved nodes) new tree may lifted = subst (λ (e : Entry). MayFollow b plan H e tree) (sym lifted) may
lifted_may_follow b plan H (Answered session step response) new tree may lifted = subst (λ (e : Entry). MayFollow b plan H e tree) (sym lifted) may
lifted_may_follow b plan H (Closed session) new tree may lifted = subst (λ (e : Entry). MayFollow b plan H e tree) (sym lifted) may

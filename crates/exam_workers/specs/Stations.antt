-- What the workers do at the stations.
use Rattle.std.specs.Prelude.{◌≡◌, ℕ, ◌+◌, ◌-◌, ◌^◌, ◌<◌, ◌≤◌, Bool, false, List, [], ◌∷◌, ◌++◌, length, min, Contains, IsTrue, MatchBool, slice_index_or}
use Rattle.exam_edge.specs.Faults.{Rose}
use Rattle.exam_workers.specs.declared.Station.{Station}

-- `given` are links as the door gave them, `back` the same links as they went back, in order: each
-- was served once, on the token that the one before it had left
abbrev pub ServesLinks : {K T : Type 0} → (T → K → T → K → Type 0) → T → List K → List K → T
    → Type 0
ServesLinks serves t [] [] u = t ≡ u
ServesLinks {K} {T} serves t (k ∷ given) (l ∷ back) u =
    (v : T) × serves t k v l × ServesLinks serves v given back u
ServesLinks serves t [] (l ∷ back) u = ⊥
ServesLinks serves t (k ∷ given) [] u = ⊥

module _ {D K T : Type 0} (tells : D → Bool) (coming : D → List K) (faults : D → ℕ) where
  -- the door failed, or it gives no more links
  abbrev pub Ends : Station D T K → Station D T K → Type 0
  Ends old new = MatchBool new.failed (Rose (faults old.door) (faults new.door))
      (IsTrue (tells old.door) → coming new.door ≡ [])

module _ {D K T : Type 0} (tells : D → Bool) (coming : D → List K)
    (serves : T → K → T → K → Type 0) (fair : T → K → Type 0) where
  -- each link that the station's door may still give is fair, on whatever token links that were
  -- served before it may leave
  abbrev pub IsFair : Station D T K → Type 0
  IsFair station = (given back : List K) (token : T) (link : K)
      → ServesLinks serves station.token given back token
      → (IsTrue (tells station.door) → Contains (coming station.door) link) → fair token link

module _ {D K T : Type 0} (tells : D → Bool) (coming returned : D → List K) (is_out : D
    → Bool) (faults identity : D → ℕ)
    (serves : T → K → T → K → Type 0) where
  -- the link k, which was out, was served on the station's token, went back to the door as it was
  -- then, and was counted
  pub record ServesLink (old : Station D T K) (k : K) (new : Station D T K) : Type 0 where
    pub back : K
    pub served : serves old.token k new.token back
    pub went : IsTrue (tells old.door) → returned new.door ≡ returned old.door ++ back ∷ []
    pub came : IsTrue (tells old.door) → coming new.door ≡ coming old.door
    pub links : new.links ≡ min (old.links + 1) (2 ^ 64 - 1)
    pub failed : new.failed ≡ old.failed
    pub same : (tells new.door ≡ tells old.door) × (identity new.door ≡ identity old.door)
    pub home : is_out new.door ≡ false
    pub faults_same : faults new.door ≡ faults old.door

  -- the links that the door gave were served on the station's token, and each went back to the door
  pub record Serves (old new : Station D T K) : Type 0 where
    pub given : List K
    pub back : List K
    pub served : ServesLinks serves old.token given back new.token
    pub came : IsTrue (tells old.door) → coming old.door ≡ given ++ coming new.door
    pub went : IsTrue (tells old.door) → returned new.door ≡ returned old.door ++ back
    pub links : new.links ≡ min (old.links + length given) (2 ^ 64 - 1)
    pub same : (tells new.door ≡ tells old.door) × (identity new.door ≡ identity old.door)
    pub home : is_out new.door ≡ false
    pub grows : faults old.door ≤ faults new.door

  -- each station was worked at until its door failed or gave no more
  abbrev pub EachServes : List (Station D T K) → List (Station D T K) → Type 0
  EachServes old new = (k : ℕ) (s : Station D T K) → k < length old
      → let a = slice_index_or old k s in
      let b = slice_index_or new k s in
      Serves a b × Ends tells coming faults a b

-- How the work ended, by whether a door failed and whether a connection ended for lack of memory.
use Rattle.std.proofs.Common.{◌≡◌, ◌⊎◌, Bool, true, false, ◌||◌, sym, refl, ◌∙◌, ⊎_elim}
use Rattle.exam_serve.specs.declared.serve.End.{End}
use Rattle.exam_serve.specs.declared.serve.End.TheVariants.{Done, Starved, DoorFailed, Memory}
use Rattle.exam_serve.specs.Doors.{end_of}

-- work that was begun did not run out of memory
pub never_memory : (failed starved : Bool) (end : End) → end ≡ end_of failed starved → end ≡ Memory → ⊥
never_memory true starved end e is = let f : DoorFailed ≡ Memory = sym e ∙ is in cc
never_memory false true end e is = let f : Starved ≡ Memory = sym e ∙ is in cc
never_memory false false end e is = let f : Done ≡ Memory = sym e ∙ is in cc

pub none_failed : (failed starved : Bool) (end : End) → end ≡ end_of failed starved → (end ≡ Done) ⊎ (end ≡ Starved) → failed ≡ false
none_failed false starved end e is = refl
none_failed true starved end e is = absurd (⊎_elim
    (λ d. let f : DoorFailed ≡ Done = sym e ∙ d in cc)
    (λ d. let f : DoorFailed ≡ Starved = sym e ∙ d in cc) is)

pub some_failed : (failed starved : Bool) (end : End) → end ≡ end_of failed starved → end ≡ DoorFailed → failed ≡ true
some_failed true starved end e is = refl
some_failed false true end e is = absurd (let f : Starved ≡ DoorFailed = sym e ∙ is in cc)
some_failed false false end e is = absurd (let f : Done ≡ DoorFailed = sym e ∙ is in cc)

pub none_starved : (failed starved : Bool) (end : End) → end ≡ end_of failed starved → end ≡ Done → starved ≡ false
none_starved failed false end e is = refl
none_starved true true end e is = absurd (let f : DoorFailed ≡ Done = sym e ∙ is in cc)
none_starved false true end e is = absurd (let f : Starved ≡ Done = sym e ∙ is in cc)

pub first_false : (a b : Bool) → (a || b) ≡ false → a ≡ false
first_false true b e = e
first_false false b e = refl

pub rest_false : (a b : Bool) → (a || b) ≡ false → b ≡ false
rest_false true b e = absurd (let f : true ≡ false = e in cc)
rest_false false b e = e

-- From what an archive says of version k to what it says of the newest.
use Rattle.std.proofs.Common.{◌≡◌, ℕ, ◌-◌, ◌<◌, List, [], ◌∷◌, length, get_or, Some, None}
use Rattle.std.proofs.Common.{refl, ap, arith}
use Rattle.std.proofs.lemmas.Bool.Decides.{nat_tests}
use Rattle.std.proofs.lemmas.Option.{slice_get-get_or, slice_get_past}
use Rattle.std.specs.List.{slice_get}
use Rattle.model.specs.declared.version.Version.{Version}
use Rattle.model.specs.declared.fault.Cause.TheVariants.{Missing}
use Rattle.model.specs.Archives.{Archived, granule_fault, question_fault, newest}

-- the last version is the newest
pub newest_get : (vs : List Version) → newest vs ≡ slice_get vs (length vs - 1)
newest_get [] = refl
newest_get (v ∷ []) = refl
newest_get (v ∷ w ∷ vs) = let r = newest_get (w ∷ vs) in grind arith

pub told_newest : (a : Archived) (g k : ℕ) (v : Version) → length (a.history g) - 1 ≡ k
    → question_fault a g k ≡ None → v ≡ get_or (a.history g) k v
    → (granule_fault a g ≡ None) × (Some v ≡ newest (a.history g))
told_newest a g k v n h e =
    let l : k < length (a.history g) = grind (arith, nat_tests) in
    let s = slice_get-get_or (a.history g) k v l in
    let z = newest_get (a.history g) in
    (grind (arith, nat_tests), rw (z, n, s) (ap Some e))

pub told_none : (a : Archived) (g k : ℕ) → length (a.history g) - 1 ≡ k → g < a.count
    → question_fault a g k ≡ Some Missing
    → (granule_fault a g ≡ None) × (None ≡ newest (a.history g))
told_none a g k n l h =
    let s = slice_get_past (a.history g) k (grind (arith, nat_tests)) in
    let z = newest_get (a.history g) in
    (grind (arith, nat_tests), rw (z, n, s) refl)

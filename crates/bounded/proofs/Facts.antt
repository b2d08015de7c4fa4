-- Replacing an item within the part of a list that is in use.
use Rattle.std.proofs.Common.{◌≡◌, ℕ, zero, suc, List, [], ◌∷◌, take, set, refl, ap}

pub take_set_in : {X : Type 0} (n : ℕ) (xs : List X) (i : ℕ) (x : X)
    → take n (set xs i x) ≡ set (take n xs) i x
take_set_in zero xs i x = refl
take_set_in (suc n) [] i x = refl
take_set_in (suc n) (y ∷ xs) zero x = refl
take_set_in (suc n) (y ∷ xs) (suc i) x = ap (λ ys. y ∷ ys) (take_set_in n xs i x)

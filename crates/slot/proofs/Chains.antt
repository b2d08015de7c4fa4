-- What a chain of calls over a list gives, in the words of the definitions.
use Rattle.std.proofs.Common.{◌≡◌, ℕ, suc, ◌+◌, Bool, true, false, cond, find, List, [], ◌∷◌, map}
use Rattle.std.proofs.Common.{Some, None, count_by, sym, refl, ap, arith}
use Rattle.std.specs.List.{position_from}
use Rattle.std.specs.Option.{option_map}
use Rattle.std.proofs.lemmas.Bool.Decides.{nat_tests}
use Rattle.std.proofs.lemmas.List.Recursion.{is_count_by}
use Rattle.model.specs.Slots as M

pub position_of : {X Y : Type 0} (p : Y → Bool) (f : X → Y) (n : ℕ) (xs : List X)
    → position_from p n (map f xs) ≡ position_from (λ x. p (f x)) n xs
position_of p f n [] = refl
position_of p f n (x ∷ xs) = ap (cond (p (f x)) (Some n)) (position_of p f (n + 1) xs)

tally_step : (b : Bool) (n : ℕ) → cond b (suc n) n ≡ cond b (1 + n) n
tally_step b n = grind (arith, nat_tests)

pub tally_of : {X : Type 0} (p : M.Slot → Bool) (f : X → M.Slot) (xs : List X)
    → M.tally p (map f xs) ≡ count_by (λ x. p (f x)) xs
tally_of p f xs =
    is_count_by (λ ys. M.tally p (map f ys)) (λ x. p (f x)) refl
    (λ x ys. tally_step (p (f x)) (M.tally p (map f ys))) xs

pub held_of : {X Y : Type 0} (p : Y → Bool) (f : X → Y) (xs : List X)
    → find p (map f xs) ≡ option_map f (find (λ x. p (f x)) xs)
held_of p f [] = refl
held_of p f (x ∷ xs) = let r = held_of p f xs in grind (arith, nat_tests)

-- what holds of the place that a search has found, by its steps

record Placed {X : Type 0} (P : List X → ℕ → Type 0) (xs : List X) (n i : ℕ) : Type 0 where
  pub place : ℕ
  pub counted : i ≡ n + place
  pub holds : P xs place

module _ {X : Type 0} (p : X → Bool) where
  module _ (P : List X → ℕ → Type 0) (here : (x : X) (xs : List X) → p x ≡ true → P (x ∷ xs) 0)
      (next : (x : X) (xs : List X) (i : ℕ) → p x ≡ false → P xs i → P (x ∷ xs) (suc i)) where
    placed_from : (xs : List X) (n i : ℕ) → position_from p n xs ≡ Some i → Placed P xs n i
    placed_from [] n i e = cc
    placed_from (x ∷ xs) n i e = go (p x) refl (λ q. placed_from xs (n + 1) i q) e
      where
        go : (b : Bool) → p x ≡ b → (position_from p (n + 1) xs ≡ Some i → Placed P xs (n + 1) i)
            → cond b (Some n) (position_from p (n + 1) xs) ≡ Some i → Placed P (x ∷ xs) n i
        go true q r e = record {
          place = 0;
          counted = let z : n ≡ i = cc in omega arith;
          holds = here x xs q;
        }
        go false q r e =
            let s = r e in
            record {
              place = suc s.place;
              counted = omega (arith, s.counted);
              holds = next x xs s.place q s.holds;
            }

    pub at_place : (xs : List X) (i : ℕ) → Some i ≡ position_from p 0 xs → P xs i
    at_place xs i e =
        let f = placed_from xs 0 i (sym e) in
        let q : f.place ≡ i = omega (arith, f.counted) in
        rw q at f.holds

  -- and where it has found none
  module _ (Q : List X → Type 0) (nil : Q [])
      (skip : (x : X) (xs : List X) → p x ≡ false → Q xs → Q (x ∷ xs)) where
    nowhere_from : (xs : List X) (n : ℕ) → position_from p n xs ≡ None → Q xs
    nowhere_from [] n e = nil
    nowhere_from (x ∷ xs) n e = go (p x) refl (λ q. nowhere_from xs (n + 1) q) e
      where
        go : (b : Bool) → p x ≡ b → (position_from p (n + 1) xs ≡ None → Q xs)
            → cond b (Some n) (position_from p (n + 1) xs) ≡ None → Q (x ∷ xs)
        go true q r e = cc
        go false q r e = skip x xs q (r e)

    pub nowhere : (xs : List X) → None ≡ position_from p 0 xs → Q xs
    nowhere xs e = nowhere_from xs 0 (sym e)

-- One turn of a loop over the slots.
use Rattle.std.proofs.Common.{◌≡◌, ℕ, ◌+◌, ◌<◌, Bool, true, false, cond, List}
use Rattle.std.proofs.Common.{◌++◌, map, length, get_or, take, drop, set, Some, None}
use Rattle.std.proofs.Common.{Option, sym, refl, ap, ◌∙◌, arith}
use Rattle.std.proofs.lemmas.List.{at_drop_more}
use Rattle.std.proofs.lemmas.List.{map-set, get_or-map, length-map}
use Rattle.std.proofs.lemmas.Bool.{cond-true, cond-false}
use Rattle.std.proofs.lemmas.Bool.Decides.{nat_tests}
use Rattle.std.proofs.lemmas.List.Edits.{map_over_more}
use Rattle.model.specs.Slots as M
use Rattle.slot.specs.Tests.{join}

-- the oldest of those that pass

module _ {X : Type 0} (p : M.Slot → Bool) (f : X → M.Slot) (xs : List X) (i : ℕ) (x : X)
    (h : i < length xs) (e : x ≡ get_or xs i x) where
  older_step : M.oldest p (map f (drop i xs))
      ≡ cond (p (f (get_or xs i x)))
      (M.elder (f (get_or xs i x)) (M.oldest p (map f (drop (i + 1) xs))))
      (M.oldest p (map f (drop (i + 1) xs)))
  older_step = at_drop_more (λ ys. M.oldest p (map f ys)) xs i x h

  oldest_here : p (f x) ≡ true
      → M.oldest p (map f (drop i xs)) ≡ M.elder (f x) (M.oldest p (map f (drop (i + 1) xs)))
  oldest_here y =
      older_step ∙ (cond-true _ _ _ (ap (λ v. p (f v)) (sym e) ∙ y)
      ∙ ap (λ v. M.elder (f v) (M.oldest p (map f (drop (i + 1) xs)))) (sym e))

  oldest_next : p (f x) ≡ false
      → M.oldest p (map f (drop i xs)) ≡ M.oldest p (map f (drop (i + 1) xs))
  oldest_next y = older_step ∙ cond-false _ _ _ (ap (λ v. p (f v)) (sym e) ∙ y)

elder_elder : (x y : M.Slot) (b : Option M.Slot)
    → M.elder x (M.elder y b) ≡ join (M.elder x (Some y)) b
elder_elder x y None = grind (arith, nat_tests)
elder_elder x y (Some z) = grind (arith, nat_tests)

join_elder : (b : Option M.Slot) (y : M.Slot) (r : Option M.Slot)
    → join b (M.elder y r) ≡ join (join b (Some y)) r
join_elder None y r = refl
join_elder (Some x) y r = elder_elder x y r

pub best_here : {X : Type 0} (p : M.Slot → Bool) (f : X → M.Slot) (xs : List X) (i : ℕ) (x : X)
    (b b' : Option M.Slot) → i < length xs → x ≡ get_or xs i x → p (f x) ≡ true
    → b' ≡ join b (Some (f x))
    → join b (M.oldest p (map f (drop i xs))) ≡ join b' (M.oldest p (map f (drop (i + 1) xs)))
best_here p f xs i x b b' h e y q =
    ap (join b) (oldest_here p f xs i x h e y) ∙ (join_elder b (f x) _
    ∙ ap (λ v. join v (M.oldest p (map f (drop (i + 1) xs)))) (sym q))

pub best_next : {X : Type 0} (p : M.Slot → Bool) (f : X → M.Slot) (xs : List X) (i : ℕ) (x : X)
    (b : Option M.Slot) → i < length xs → x ≡ get_or xs i x → p (f x) ≡ false
    → join b (M.oldest p (map f (drop i xs))) ≡ join b (M.oldest p (map f (drop (i + 1) xs)))
best_next p f xs i x b h e y = ap (join b) (oldest_next p f xs i x h e y)

-- each slot changed as g says: zs is as it was, xs as it is

pub each_more : {X Y : Type 0} (f : X → Y) (g : Y → Y) (zs xs : List X) (i : ℕ) (x x' : X)
    → i < length zs → length xs ≡ length zs
    → map f xs ≡ map g (take i (map f zs)) ++ drop i (map f zs) → f x' ≡ g (f (get_or xs i x))
    → map f (set xs i x') ≡ map g (take (i + 1) (map f zs)) ++ drop (i + 1) (map f zs)
each_more f g zs xs i x x' h n e y =
    let k : i < length xs = omega arith in
    let j : i < length (map f zs) = rw length-map h in
    let d = f (get_or xs i x) in
    map-set f xs i x' ∙ (ap (set (map f xs) i) y
    ∙ map_over_more g (map f zs) (map f xs) i d j e (sym (get_or-map f xs i x d k)))

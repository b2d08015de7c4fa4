-- What is made from parts that pass a test. A test has one proof at most, so what is made does
-- not depend on the proof.
use Rattle.std.specs.Prelude.{◌≡◌, Bool, true, false, Some, None, Option, refl}
use Rattle.std.specs.Option.{option_map}
use Rattle.std.proofs.Common.{ap}
use Rattle.std.proofs.Math.Bool.{Bool-set}
use Rattle.kind.specs.Kinds.{made_if}

pub made_true : {E : Type 0} (t : Bool) (f : t ≡ true → E) (h : t ≡ true)
    → made_if t f ≡ Some (f h)
made_true true f h = ap (λ x. Some (f x)) (Bool-set _ _ refl h)
made_true false f h = cc

pub made_from : {E : Type 0} (t : Bool) (f : t ≡ true → E) (e : E) → made_if t f ≡ Some e
    → (h : t ≡ true) × (f h ≡ e)
made_from true f e q = (refl, cc)
made_from false f e q = cc

pub mapped_from : {T U : Type 0} (f : T → U) (o : Option T) (u : U) → option_map f o ≡ Some u
    → (t : T) × (o ≡ Some t) × (f t ≡ u)
mapped_from f (Some t) u q = (t, refl, cc)
mapped_from f None u q = cc

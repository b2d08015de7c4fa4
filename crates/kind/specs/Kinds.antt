-- What the kinds share.
use Rattle.std.specs.Prelude.{◌≡◌, Bool, true, false, Some, None, Option, refl}

-- every entry is of the kind
abbrev pub every : {K E : Type 0} → K → E → Type 0
every k e = Unit {0}

-- what is made from parts that pass a test
abbrev pub made_if : {E : Type 0} (t : Bool) → (t ≡ true → E) → Option E
made_if true make = Some (make refl)
made_if false make = None

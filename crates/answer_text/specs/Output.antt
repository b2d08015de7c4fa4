-- Text at the end of the output.
use Rattle.std.specs.Prelude.{◌≡◌, ℕ, List, ◌++◌, Ok, Err, Result}

-- the output begins with what it was
abbrev pub Begins : List ℕ → List ℕ → Type 0
Begins before after = (more : List ℕ) × (after ≡ before ++ more)

-- the text is put behind what was there; where there is no memory, perhaps only a part of it
abbrev pub Appends : {X E : Type 0} → List ℕ → List ℕ → List ℕ → Result X E → Type 0
Appends before after text (Ok x) = after ≡ before ++ text
Appends before after text (Err e) = Begins before after

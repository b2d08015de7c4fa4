-- The lines of a script.
use Rattle.std.specs.Prelude.{◌≡◌, ℕ, ◌⊎◌, List, [], ◌∷◌, ◌++◌}
use Rattle.std.specs.Option.{unwrap_or}
use Rattle.script.specs.Pieces.{first, others, pieces, closed}

-- how many bytes a script has at most
abbrev pub max_script : ℕ
max_script = 16384

abbrev pub first_line : List ℕ → List ℕ
first_line s = first 10 s

abbrev pub after_line : List ℕ → List ℕ
after_line s = unwrap_or (others 10 s) []

-- no line follows a last byte 10, and an empty script has none
abbrev pub lines_of : List ℕ → List (List ℕ)
lines_of s = pieces 10 [] s

-- a script is its lines with byte 10 after each, or after each but the last
abbrev pub Joined : List ℕ → Type 0
Joined s = (s ≡ closed 10 (lines_of s)) ⊎ (s ++ (10 ∷ []) ≡ closed 10 (lines_of s))

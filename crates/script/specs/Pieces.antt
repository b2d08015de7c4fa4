-- A list of bytes cut at a separator.
use Rattle.std.specs.Prelude.{ℕ, ◌+◌, cond, List, [], ◌∷◌, ◌++◌, drop, Some}
use Rattle.std.specs.Prelude.{None, Option, ◌==◌}
use Rattle.std.specs.List.{before_first, onto_first, position}
use Rattle.std.specs.Option.{option_map}

abbrev pub first : ℕ → List ℕ → List ℕ
first sep s = before_first (λ c. c == sep) s

-- what follows the first separator
abbrev pub others : ℕ → List ℕ → Option (List ℕ)
others sep s = option_map (λ i. drop (i + 1) s) (position (λ c. c == sep) s)

-- the pieces between separators; an empty list has the pieces `none`
abbrev pub pieces : ℕ → List (List ℕ) → List ℕ → List (List ℕ)
pieces sep none [] = none
pieces sep none (c ∷ cs) =
    cond (c == sep) ([] ∷ pieces sep none cs) (onto_first c (pieces sep none cs))

abbrev pub pieces_left : ℕ → List (List ℕ) → Option (List ℕ) → List (List ℕ)
pieces_left sep none None = []
pieces_left sep none (Some s) = pieces sep none s

-- each piece before a separator
abbrev pub closed : ℕ → List (List ℕ) → List ℕ
closed sep [] = []
closed sep (p ∷ ps) = p ++ (sep ∷ closed sep ps)

-- Tables in the subject's own words: lists of versions, written out one after the other.
use Rattle.std.specs.Prelude.{◌≡◌, ℕ, zero, suc, ◌*◌, ◌%◌, ◌<◌, ◌≤◌, List, [], ◌∷◌, length, take}
use Rattle.std.specs.Prelude.{drop, Ok, Err, Result}
use Rattle.model.specs.declared.version.Version.{Version}
use Rattle.model.specs.Archives.{Rising}
use Rattle.table.specs.declared.check.TableFault.{TableFault}
use Rattle.table.specs.declared.check.TableFault.TheVariants.{Pair, Shape}
use Rattle.table.specs.Words.{first_word, second_word, table_archive}

-- m pairs of words: these versions, two words each, then zero words only
abbrev pub written : ℕ → List Version → List ℕ
written zero vs = []
written (suc m) [] = 0 ∷ 0 ∷ written m []
written (suc m) (v ∷ vs) =
    first_word v.stamp v.content ∷ second_word v.content ∷ written m vs

-- the words ws hold a table of n granules of depth d: granule g has at most d versions, their
-- stamps rise, and they are written out in the 2 * d words from word 2 * g * d on
pub record Written (ws : List ℕ) (n d : ℕ) (history : ℕ → List Version) : Type 0 where
  pub fits : (g : ℕ) → g < n → length (history g) ≤ d
  pub rising : (g : ℕ) → g < n → Rising 0 (history g)
  pub words : (g : ℕ) → g < n
      → take (2 * d) (drop (2 * (g * d)) ws) ≡ written d (history g)

abbrev pub FitsShape : List ℕ → ℕ → ℕ → Type 0
FitsShape ws n d = (n ≤ 4096) × (1 ≤ d) × (d ≤ 64) × (2 * (n * d) ≤ length ws)

-- words are accepted if a table is written out in them, which is then what the table means; they
-- are refused at a pair only if no table is
abbrev pub Lawful : List ℕ → ℕ → ℕ → Result (Unit {0}) TableFault → Type 0
Lawful ws n d (Ok u) = FitsShape ws n d × Written ws n d (table_archive ws n d).history
Lawful ws n d (Err (Pair i)) =
    FitsShape ws n d × (i % 2 ≡ 0) × (i < 2 * (n * d))
    × ((history : ℕ → List Version) → Written ws n d history → ⊥)
Lawful ws n d (Err Shape) = FitsShape ws n d → ⊥

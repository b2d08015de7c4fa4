-- What the check answers, which tables are sound, and what an append does to a table's words.
use Rattle.std.specs.Prelude.{◌≡◌, ℕ, zero, suc, ◌*◌, ◌<◌, ◌≤◌, Bool, false, cond, ◌&&◌, List}
use Rattle.std.specs.Prelude.{length, Some, None, Ok, Err, Option, Result, nat_le}
use Rattle.model.specs.declared.version.Version.{Version}
use Rattle.model.specs.declared.fault.Fault.{Fault}
use Rattle.model.specs.declared.fault.Cause.{Cause}
use Rattle.std.specs.Option.{option_or}
use Rattle.model.specs.Stores.{stored, append_fault}
use Rattle.table.specs.declared.check.TableFault.{TableFault}
use Rattle.table.specs.declared.check.TableFault.TheVariants.{Pair, Shape}
use Rattle.table.specs.Words.{wrong_pair, put_behind, table_archive, table_room}

abbrev pub fault_number : TableFault → ℕ
fault_number (Pair i) = 25
fault_number Shape = 26

-- the first word of the first wrong pair of n granules of depth d
abbrev pub wrong_below : List ℕ → ℕ → ℕ → Option ℕ
wrong_below ws d zero = None
wrong_below ws d (suc n) = option_or (wrong_below ws d n) (wrong_pair ws (n * d) d 0 false)

abbrev pub in_shape : List ℕ → ℕ → ℕ → Bool
in_shape ws n d =
    nat_le n 4096 && (nat_le 1 d && (nat_le d 64 && nat_le (2 * (n * d)) (length ws)))

abbrev pub pair_verdict : Option ℕ → Result (Unit {0}) TableFault
pair_verdict None = Ok tt
pair_verdict (Some i) = Err (Pair i)

-- whether the words ws are taken for n granules of depth d
abbrev pub table_verdict : List ℕ → ℕ → ℕ → Result (Unit {0}) TableFault
table_verdict ws n d = cond (in_shape ws n d) (pair_verdict (wrong_below ws d n)) (Err Shape)

-- n granules of depth d in the words ws, with no wrong pair
pub record SoundTable (ws : List ℕ) (n d : ℕ) : Type 0 where
  pub few : n ≤ 4096
  pub deep : 1 ≤ d
  pub shallow : d ≤ 64
  pub long : 2 * (n * d) ≤ length ws
  pub right : (g : ℕ) → g < n → wrong_pair ws (g * d) d 0 false ≡ None

-- the granules and the depth of the table that is made after the check's verdict
abbrev pub kept_granules : Result (Unit {0}) TableFault → ℕ → ℕ
kept_granules (Ok u) n = n
kept_granules (Err f) n = 0

abbrev pub kept_depth : Result (Unit {0}) TableFault → ℕ → ℕ
kept_depth (Ok u) d = d
kept_depth (Err f) d = 1

-- why a version with stamp t is not appended to granule g of a table
abbrev pub table_fault : List ℕ → ℕ → ℕ → ℕ → ℕ → Option Cause
table_fault ws n d g t = append_fault (stored (table_archive ws n d) (table_room ws n d)) g t

-- what an append of v to granule g answers, and which words us then stand for ws
abbrev pub PutTable :
    List ℕ → List ℕ → ℕ → ℕ → ℕ → Version → Result (Unit {0}) Fault → Type 0
PutTable ws us n d g v (Ok u) =
    (table_fault ws n d g v.stamp ≡ None) × (us ≡ put_behind ws (g * d) d v)
PutTable ws us n d g v (Err f) =
    (table_fault ws n d g v.stamp ≡ Some f.cause)
    × (f.layer ≡ 1) × (f.granule ≡ g) × (us ≡ ws)

-- the same in lent words; where the check refuses them there is no granule, so that any is missing
abbrev pub PutLent :
    List ℕ → List ℕ → ℕ → ℕ → ℕ → Version → Result (Unit {0}) Fault → Type 0
PutLent ws us n d g v r =
    PutTable ws us (kept_granules (table_verdict ws n d) n) (kept_depth (table_verdict ws n d) d)
    g v r

-- What an archive means, and what it answers.
use Rattle.std.specs.Prelude.{◌≡◌, ℕ, zero, suc, ◌^◌, ◌<◌, ◌≤◌, max, Bool, false, cond, List, []}
use Rattle.std.specs.Prelude.{◌∷◌, length, Some, None, Ok, Err, Option, Result, nat_lt}
use Rattle.std.specs.Prelude.{slice_index_or}
use Rattle.std.specs.Option.{option_or}
use Rattle.model.specs.declared.version.Content.{Content}
use Rattle.model.specs.declared.version.Version.{Version}
use Rattle.model.specs.declared.fault.Fault.{Fault}
use Rattle.model.specs.declared.fault.Cause.{Cause}
use Rattle.model.specs.declared.fault.Cause.TheVariants.{Missing, OutOfReach}

-- how many granules there are, the versions of each, and whether each is within reach
pub record Archived : Type 0 where
  pub count : ℕ
  pub history : ℕ → List Version
  pub reach : ℕ → Bool

abbrev pub version_with : ℕ → Content → Version
version_with t c = record { stamp = t; content = c }

-- the last version of a list
abbrev pub newest : List Version → Option Version
newest [] = None
newest (v ∷ vs) = option_or (newest vs) (Some v)

abbrev pub stamp_or_0 : Option Version → ℕ
stamp_or_0 None = 0
stamp_or_0 (Some v) = v.stamp

-- the last stamp of a list, 0 where it is empty
abbrev pub top : List Version → ℕ
top vs = stamp_or_0 (newest vs)

-- the greatest stamp of the granules below n
abbrev pub top_below : ℕ → (ℕ → List Version) → ℕ
top_below zero h = 0
top_below (suc n) h = max (top_below n h) (top (h n))

-- the latest stamp of all, 0 where there is no version
abbrev pub latest_of : Archived → ℕ
latest_of a = top_below a.count a.history

-- stamps above n, each above the one before, and below 2 ^ 62
abbrev pub Rising : ℕ → List Version → Type 0
Rising n [] = Unit {0}
Rising n (v ∷ vs) = (n < v.stamp) × (v.stamp < 2 ^ 62) × Rising v.stamp vs

-- what holds of every archive
pub record Proper (a : Archived) : Type 0 where
  pub small : a.count ≤ 4096
  pub rising : (g : ℕ) → Rising 0 (a.history g)
  pub no_history : (g : ℕ) → a.count ≤ g → a.history g ≡ []
  pub no_reach : (g : ℕ) → a.count ≤ g → a.reach g ≡ false

-- why granule g cannot be asked about
abbrev pub granule_fault : Archived → ℕ → Option Cause
granule_fault a g =
    cond (nat_lt g a.count) (cond (a.reach g) None (Some OutOfReach)) (Some Missing)

-- why version k of granule g is not told
abbrev pub question_fault : Archived → ℕ → ℕ → Option Cause
question_fault a g k =
    option_or (granule_fault a g) (cond (nat_lt k (length (a.history g))) None (Some Missing))

-- the answer to the question for version k of granule g; `origin` says which faults may arise
-- there, by the layer and the granule as that layer counts it
abbrev pub Told : Archived → (ℕ → Fault → Type 0) → ℕ → ℕ → Result Version Fault → Type 0
Told a origin g k (Ok v) = (question_fault a g k ≡ None) × (v ≡ slice_index_or (a.history g) k v)
Told a origin g k (Err f) = (question_fault a g k ≡ Some f.cause) × origin g f

-- the answer to the question for the newest version of granule g, which may have none
abbrev pub ToldNewest :
    Archived → (ℕ → Fault → Type 0) → ℕ → Result (Option Version) Fault → Type 0
ToldNewest a origin g (Ok o) = (granule_fault a g ≡ None) × (o ≡ newest (a.history g))
ToldNewest a origin g (Err f) = (granule_fault a g ≡ Some f.cause) × origin g f

-- What a version store means: an archive with the free places of each granule.
use Rattle.std.specs.Prelude.{◌≡◌, ℕ, ◌+◌, ◌-◌, ◌^◌, ◌≤◌, Bool, false, cond, List, [], ◌∷◌, ◌++◌}
use Rattle.std.specs.Prelude.{length, Some, None, Ok, Err, Option, Result, ◌==◌, nat_lt}
use Rattle.model.specs.declared.version.Version.{Version}
use Rattle.model.specs.declared.fault.Fault.{Fault}
use Rattle.model.specs.declared.fault.Cause.{Cause}
use Rattle.model.specs.declared.fault.Cause.TheVariants.{BadStamp, NoFreePlace}
use Rattle.std.specs.Option.{option_or}
use Rattle.model.specs.Archives.{Archived, top, granule_fault}

pub record Stored : Type 0 where
  pub archive : Archived
  pub room : ℕ → ℕ

abbrev pub stored : Archived → (ℕ → ℕ) → Stored
stored a r = record { archive = a; room = r }

-- a stamp in range that can follow these versions
abbrev pub may_follow : List Version → ℕ → Bool
may_follow vs t = cond (nat_lt (top vs) t) (nat_lt t (2 ^ 62)) false

-- why a version with this stamp does not find its place behind these, with so many places free
abbrev pub place_fault : List Version → ℕ → ℕ → Option Cause
place_fault vs free t =
    cond (may_follow vs t) (cond (nat_lt 0 free) None (Some NoFreePlace)) (Some BadStamp)

-- why a version with stamp t is not appended to granule g
abbrev pub append_fault : Stored → ℕ → ℕ → Option Cause
append_fault s g t =
    option_or (granule_fault s.archive g) (place_fault (s.archive.history g) (s.room g) t)

-- granule g has got the version v, and one free place fewer; nothing else has changed
pub record Grown (s s' : Stored) (g : ℕ) (v : Version) : Type 0 where
  pub count : s'.archive.count ≡ s.archive.count
  pub history : (h : ℕ) → s'.archive.history h
      ≡ cond (h == g) (s.archive.history h ++ (v ∷ [])) (s.archive.history h)
  pub reach : (h : ℕ) → s'.archive.reach h ≡ s.archive.reach h
  pub room : (h : ℕ) → s'.room h ≡ cond (h == g) (s.room h - 1) (s.room h)

-- what an append of the version v to granule g answers, and what then stands
abbrev pub Appended :
    Stored → Stored → (ℕ → Fault → Type 0) → ℕ → Version → Result (Unit {0}) Fault → Type 0
Appended s s' origin g v (Ok u) = (append_fault s g v.stamp ≡ None) × Grown s s' g v
Appended s s' origin g v (Err f) =
    (append_fault s g v.stamp ≡ Some f.cause) × origin g f × (s' ≡ s)

-- reach alone may have changed
pub record ReachOnly (s s' : Stored) : Type 0 where
  pub count : s'.archive.count ≡ s.archive.count
  pub history : (h : ℕ) → s'.archive.history h ≡ s.archive.history h
  pub room : (h : ℕ) → s'.room h ≡ s.room h

-- versions and free places of a granule are at most 64; a granule that does not exist has none
pub record Roomy (a : Archived) (g free : ℕ) : Type 0 where
  pub most : free + length (a.history g) ≤ 64
  pub no_room : a.count ≤ g → free ≡ 0

-- a fault that arose in this layer, at this granule
abbrev pub Arose : ℕ → ℕ → Fault → Type 0
Arose layer g f = (f.layer ≡ layer) × (f.granule ≡ g)

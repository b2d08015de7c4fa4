-- What a certifier means, beside a store.
use Rattle.std.specs.Prelude.{◌≡◌, ℕ, List, is_some}
use Rattle.std.specs.Option.{unwrap_or}
use Rattle.model.specs.Archives.{Archived}
use Rattle.model.specs.Stores.{Stored, stored}
use Rattle.model.specs.Slots as M
use Rattle.model.specs.Worlds.{World, world, made}
use Rattle.slot.specs.Means.{slots_of}
use Rattle.certifier.specs.declared.certifier.Certifier.{Certifier}

abbrev pub slots_in : Certifier → List M.Slot
slots_in c = slots_of c.slots

abbrev pub beside : Certifier → Archived → (ℕ → ℕ) → World
beside c a room =
    world (is_some c.last) (unwrap_or c.last 0) (slots_in c) (stored a room)

-- not opened, and all slots free
abbrev pub JustMade : Certifier → Type 0
JustMade c =
    (s : Stored) → world (is_some c.last) (unwrap_or c.last 0) (slots_in c) s ≡ made s

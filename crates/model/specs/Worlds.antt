-- A certifier beside its store.
use Rattle.std.specs.Prelude.{ℕ, ◌-◌, Bool, false, cond, List, [], ◌∷◌, ◌++◌, replicate}
use Rattle.std.specs.Prelude.{Option, ◌==◌}
use Rattle.std.specs.Option.{unwrap_or}
use Rattle.model.specs.declared.version.Content.{Content}
use Rattle.model.specs.declared.version.Version.{Version}
use Rattle.model.specs.Stores.{Stored}
use Rattle.model.specs.Slots.{Slot, free_slot, held, own, tally, older_live}

pub record World : Type 0 where
  pub opened : Bool
  pub last : ℕ
  pub slots : List Slot
  pub store : Stored

abbrev pub world : Bool → ℕ → List Slot → Stored → World
world o t xs s = record { opened = o; last = t; slots = xs; store = s }

-- a certifier just made: not opened, its 32 slots free
abbrev pub made : Stored → World
made s = world false 0 (replicate 32 free_slot) s

abbrev pub with_slots : List Slot → World → World
with_slots xs w = world w.opened w.last xs w.store

-- the slot of transaction t
abbrev pub slot_with : List Slot → ℕ → Slot
slot_with xs t = unwrap_or (held t xs) free_slot

-- what transaction t has written to granule g
abbrev pub own_of : List Slot → ℕ → ℕ → Option Content
own_of xs t g = own g (slot_with xs t).writes

-- how many live transactions are older than t
abbrev pub older : ℕ → List Slot → ℕ
older t xs = tally (older_live t) xs

-- granule g with the version v behind its others, and one free place fewer
abbrev pub append_to : Stored → ℕ → Version → Stored
append_to s g v = record {
  archive = record {
    count = s.archive.count;
    history = λ h. cond (h == g) (s.archive.history h ++ (v ∷ [])) (s.archive.history h);
    reach = s.archive.reach;
  };
  room = λ h. cond (h == g) (s.room h - 1) (s.room h);
}

-- the same store with other granules within reach
abbrev pub reaching : (ℕ → Bool) → Stored → Stored
reaching r s = record {
  archive = record {
    count = s.archive.count;
    history = s.archive.history;
    reach = r;
  };
  room = s.room;
}

-- What an append followed by a question for the newest version answers.
use Rattle.std.specs.Prelude.{◌≡◌, ℕ, Some, None, Ok, Err, Option, Result}
use Rattle.model.specs.declared.version.Version.{Version}
use Rattle.model.specs.declared.fault.Fault.{Fault}
use Rattle.model.specs.Stores.{Stored, append_fault}

-- the version is read back, or the append is refused
abbrev pub ReadBack :
    Stored → (ℕ → Fault → Type 0) → ℕ → Version → Result (Option Version) Fault → Type 0
ReadBack s origin g v (Ok o) = (append_fault s g v.stamp ≡ None) × (o ≡ Some v)
ReadBack s origin g v (Err f) = (append_fault s g v.stamp ≡ Some f.cause) × origin g f

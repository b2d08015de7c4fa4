-- The code of a duty: pilot + 1024 * (berth + 256 * watch).
use Rattle.std.specs.Prelude.{ℕ, ◌+◌, ◌*◌, ◌/◌, ◌%◌, Option}
use Rattle.kind.specs.Kinds.{made_if}
use Rattle.kind.specs.Ranges.{duty_range}
use Rattle.kind.specs.declared.duty.Duty.{Duty}

abbrev pub duty_code : Duty → ℕ
duty_code d = d.pilot + 1024 * (d.berth + 256 * d.watch)

-- the duty with these parts, if they are in range
abbrev pub duty_with : ℕ → ℕ → ℕ → Option Duty
duty_with p b w =
    made_if (duty_range p b w) (λ h. record { pilot = p; berth = b; watch = w; sound = h })

abbrev pub duty_of : ℕ → Option Duty
duty_of c = duty_with (c % 1024) (c / 1024 % 256) (c / 1024 / 256)

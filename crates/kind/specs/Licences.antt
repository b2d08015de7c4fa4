-- The code of a licence: 1, 2 or 3 times 2^32 for held, suspended or expired, and the parts
-- below that.
use Rattle.std.specs.Prelude.{ℕ, ◌+◌, ◌*◌, ◌/◌, ◌%◌, ◌^◌, cond, None, Option, ◌==◌}
use Rattle.std.specs.Bool.{then_some}
use Rattle.std.specs.Option.{option_map}
use Rattle.kind.specs.Kinds.{made_if}
use Rattle.kind.specs.Ranges.{held_range, reason_range}
use Rattle.kind.specs.declared.licence.HeldLicence.{HeldLicence}
use Rattle.kind.specs.declared.licence.Suspension.{Suspension}
use Rattle.kind.specs.declared.licence.Licence.{Licence}
use Rattle.kind.specs.declared.licence.Licence.TheVariants.{Held, Suspended, Expired}

abbrev pub licence_code : Licence → ℕ
licence_code (Held h) = 2 ^ 32 + h.class * 2 ^ 16 + h.last_day
licence_code (Suspended s) = 2 * 2 ^ 32 + s.reason
licence_code Expired = 3 * 2 ^ 32

abbrev pub held_with : ℕ → ℕ → Option HeldLicence
held_with c d = made_if (held_range c d) (λ h. record { class = c; last_day = d; sound = h })

abbrev pub suspension_with : ℕ → Option Suspension
suspension_with r = made_if (reason_range r) (λ h. record { reason = r; sound = h })

-- by the lower half of a code
abbrev pub held_of : ℕ → Option Licence
held_of n = option_map Held (held_with (n / 2 ^ 16) (n % 2 ^ 16))

abbrev pub suspended_of : ℕ → Option Licence
suspended_of n = option_map Suspended (suspension_with n)

abbrev pub expired_of : ℕ → Option Licence
expired_of n = then_some (n == 0) Expired

-- by the upper half and the lower half
abbrev pub licence_at : ℕ → ℕ → Option Licence
licence_at u n =
    cond (u == 1) (held_of n)
    (cond (u == 2) (suspended_of n)
    (cond (u == 3) (expired_of n) None))

abbrev pub licence_of : ℕ → Option Licence
licence_of c = licence_at (c / 2 ^ 32) (c % 2 ^ 32)

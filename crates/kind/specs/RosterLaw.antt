-- The code laws of the roster's kinds.
use Rattle.std.specs.Prelude.{◌≡◌, ℕ, Some}
use Rattle.std.proofs.Common.{arith}
use Rattle.kind.specs.Roster.{of_kind, roster_code, roster_entry}
use Rattle.kind.specs.declared.roster.RosterKind.{RosterKind}
use Rattle.kind.specs.declared.roster.RosterEntry.{RosterEntry}
use Rattle.kind.specs.DutyLaw.{duty_there, duty_back}
use Rattle.kind.specs.LicenceLaw.{licence_there, licence_back}

pub roster_there : (k : RosterKind) (e : RosterEntry) → of_kind k e
    → roster_entry k (roster_code e) ≡ Some e
roster_there k e h = grind (arith, duty_there, licence_there)

pub roster_back : (k : RosterKind) (c : ℕ) (e : RosterEntry) → roster_entry k c ≡ Some e
    → roster_code e ≡ c
roster_back k c e q = grind (arith, duty_back, licence_back)

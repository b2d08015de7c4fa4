-- The roster: duties in granules 0 to 7, licences above, each with its own codes.
use Rattle.std.specs.Prelude.{ℕ, cond, Option, nat_lt}
use Rattle.std.specs.Option.{option_map}
use Rattle.kind.specs.Duties.{duty_code, duty_of}
use Rattle.kind.specs.Licences.{licence_code, licence_of}
use Rattle.kind.specs.declared.roster.RosterKind.{RosterKind}
use Rattle.kind.specs.declared.roster.RosterKind.TheVariants as K
use Rattle.kind.specs.declared.roster.RosterEntry.{RosterEntry}
use Rattle.kind.specs.declared.roster.RosterEntry.TheVariants as E

abbrev pub kind_at : ℕ → RosterKind
kind_at g = cond (nat_lt g 8) K.Duty K.Licence

abbrev pub of_kind : RosterKind → RosterEntry → Type 0
of_kind K.Duty (E.Duty d) = Unit {0}
of_kind K.Duty (E.Licence l) = ⊥
of_kind K.Licence (E.Duty d) = ⊥
of_kind K.Licence (E.Licence l) = Unit {0}

abbrev pub roster_code : RosterEntry → ℕ
roster_code (E.Duty d) = duty_code d
roster_code (E.Licence l) = licence_code l

abbrev pub roster_entry : RosterKind → ℕ → Option RosterEntry
roster_entry K.Duty c = option_map E.Duty (duty_of c)
roster_entry K.Licence c = option_map E.Licence (licence_of c)

-- The numbers of what is not read; those of refusals stand below them.
use Rattle.std.specs.Prelude.{ℕ}
use Rattle.script.specs.declared.unread.Unread.{Unread}
use Rattle.script.specs.declared.unread.Unread.TheVariants as U

-- a line that is no event, and a script that is too long
abbrev pub unread_number : Unread → ℕ
unread_number U.Line = 16
unread_number U.Script = 17

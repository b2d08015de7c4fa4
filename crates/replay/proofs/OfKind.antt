-- The kind of a granule, in what a call does.
use Rattle.std.proofs.Common.{◌≡◌, ℕ, is_some, subst}
use Rattle.kind.specs.declared.roster.RosterKind.{RosterKind}
use Rattle.kind.specs.Roster.{kind_at, roster_entry}
use Rattle.model.specs.Worlds.{World}
use Rattle.model.specs.Calls.{Call, Answer, Does, call_read, call_write}
use Rattle.replay.specs.Replays.{of_kind}

module _ (w w' : World) (t a g : ℕ) (k : RosterKind) (x : Answer) (e : k ≡ kind_at g) where
  pub read_at : Does w (call_read t a g (λ n. is_some (roster_entry k n))) x w'
      → Does w (call_read t a g (of_kind g)) x w'
  read_at d =
      subst (λ (j : RosterKind). Does w (call_read t a g (λ n. is_some (roster_entry j n))) x w')
      e d

  pub write_at : (c : ℕ) → Does w (call_write t a g c (λ n. is_some (roster_entry k n))) x w'
      → Does w (call_write t a g c (of_kind g)) x w'
  write_at c d =
      subst (λ (j : RosterKind). Does w (call_write t a g c (λ n. is_some (roster_entry j n))) x w')
      e d

-- the same answer in other words
pub answered_as : (w w' : World) (c : Call) (x y : Answer) → x ≡ y → Does w c x w' → Does w c y w'
answered_as w w' c x y e d = subst (λ (z : Answer). Does w c z w') e d

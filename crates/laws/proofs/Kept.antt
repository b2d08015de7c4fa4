-- The proofs: a change of one slot leaves the search for another stamp alone.
use Rattle.std.proofs.Common.{◌≡◌, ℕ, Bool, false, cond, List, [], ◌∷◌, Some, Option}
use Rattle.std.proofs.Common.{refl, arith}
use Rattle.std.proofs.lemmas.Bool.Decides.{nat_tests}
use Rattle.model.specs.declared.version.Write.{Write}
use Rattle.model.specs.Slots as M
use Rattle.model.specs.Worlds.{World}
use Rattle.model.specs.Refusals.{Refused}
use Rattle.model.specs.Calls as C
use Rattle.laws.specs.Keeping.{caller}

-- a change that keeps a slot's stamp, and whether it is held
pub record Steady (f : M.Slot → M.Slot) : Type 0 where
  pub stamp : (x : M.Slot) → (f x).stamp ≡ x.stamp
  pub held : (x : M.Slot) → M.is_free x ≡ false → M.is_free (f x) ≡ false

held_adjust : (t u : ℕ) (f : M.Slot → M.Slot) → Steady f → (u ≡ t → ⊥) → (xs : List M.Slot)
    → M.held u (M.adjust t f xs) ≡ M.held u xs
held_adjust t u f s n [] = refl
held_adjust t u f s n (x ∷ xs) =
    let r = held_adjust t u f s n xs in
    let e = s.stamp x in
    let h = s.held x in
    grind (arith, nat_tests)

held_place : (t u : ℕ) → (u ≡ t → ⊥) → (xs : List M.Slot)
    → M.held u (M.place (M.new_slot t) xs) ≡ M.held u xs
held_place t u n [] = refl
held_place t u n (x ∷ xs) = let r = held_place t u n xs in grind (arith, nat_tests)

steady_notes : (ns : List ℕ) → Steady (M.with_notes ns)
steady_notes ns = record { stamp = λ x. refl; held = λ x h. h }

steady_writes : (ws : List Write) → Steady (M.with_writes ws)
steady_writes ws = record { stamp = λ x. refl; held = λ x h. h }

steady_commit : (b : Bool) → Steady (cond b M.in_section (M.in_phase 2))
steady_commit b = record {
  stamp = λ x. grind (arith, nat_tests);
  held = λ x h. grind (arith, nat_tests);
}

-- what an answer leaves of others, whether the call is refused or not
pub answered_others : (r : Option Refused) (c : C.Call) (w : World) (t u : ℕ)
    → caller c ≡ Some t → (u ≡ t → ⊥) → M.held u (C.answered r c w).0.slots ≡ M.held u w.slots
answered_others r c w t u e n =
    grind (arith, nat_tests, held_adjust, held_place, steady_notes, steady_writes, steady_commit)

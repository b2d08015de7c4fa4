-- Write sets: the record of a write.
use Rattle.std.proofs.Common.{◌≡◌, ℕ, Bool, true, false, cond, ltb, List, [], ◌∷◌, ◌++◌}
use Rattle.std.proofs.Common.{length, set, is_some, Some, None, ◌==◌, sym, refl}
use Rattle.model.specs.declared.version.Content.{Content}
use Rattle.model.specs.declared.version.Write.{Write}
use Rattle.model.specs.Slots as M
use Rattle.slot.specs.Changes.{place_of, recorded_in}
use Rattle.slot.proofs.Chains.{at_place, nowhere}

-- the write of g stands at place i
pub record Written (g : ℕ) (ws : List Write) (i : ℕ) : Type 0 where
  pub own : is_some (M.own g ws) ≡ true
  pub sets : (c : Content) → M.set_own g c ws ≡ set ws i (M.write_to g c)

pub written : (g : ℕ) (ws : List Write) (i : ℕ) → Some i ≡ place_of g ws → Written g ws i
written g ws i e =
    at_place (λ w. w.granule == g) (Written g)
    (λ w us q. record { own = rw q; sets = λ c. rw q })
    (λ w us k q s. record { own = rw q s.own; sets = λ c. rw (q, s.sets c) }) ws i e

-- g is not written yet
pub record Unwritten (g : ℕ) (ws : List Write) : Type 0 where
  pub own : M.own g ws ≡ None
  pub sets : (c : Content) → M.set_own g c ws ≡ ws ++ (M.write_to g c ∷ [])

pub unwritten : (g : ℕ) (ws : List Write) → None ≡ place_of g ws → Unwritten g ws
unwritten g ws e =
    nowhere (λ w. w.granule == g) (Unwritten g) (record { own = refl; sets = λ c. refl })
    (λ w us q s. record { own = rw q s.own; sets = λ c. rw (q, s.sets c) }) ws e

pub recorded_over : (g : ℕ) (c : Content) (ws us : List Write) (i : ℕ)
    → Some i ≡ place_of g ws → us ≡ set ws i (M.write_to g c) → us ≡ recorded_in g c ws
recorded_over g c ws us i e q =
    let s = written g ws i e in
    let k = s.sets c in
    let o = s.own in
    rw (o, k) q

pub recorded_new : (g : ℕ) (c : Content) (ws us : List Write) (r : Bool)
    → None ≡ place_of g ws → r ≡ ltb (length ws) 16
    → us ≡ cond r (ws ++ (M.write_to g c ∷ [])) ws → us ≡ recorded_in g c ws
recorded_new g c ws us true e f q =
    let s = unwritten g ws e in
    let o = s.own in let k = s.sets c in let l = sym f in
    rw (o, l, k) q
recorded_new g c ws us false e f q =
    let s = unwritten g ws e in
    let o = s.own in let l = sym f in
    rw (o, l) q

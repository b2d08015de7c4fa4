-- What a pair means, over what stands below it.
use Rattle.std.specs.Prelude.{◌≡◌, ℕ, ◌+◌, ◌-◌, ◌≤◌, Bool, false, cond, ◌&&◌, List, [], MatchBool}
use Rattle.std.specs.Prelude.{◌<◌, true, nat_le, nat_lt, Some, None, Ok, Err, Option}
use Rattle.std.specs.Prelude.{Result}
use Rattle.std.proofs.Common.{◌∙◌, arith}
use Rattle.std.proofs.lemmas.Bool.{and_left, and_right, cond-true, cond-false, cond_both, leb-true}
use Rattle.std.proofs.lemmas.Bool.{le-ltb}
use Rattle.model.specs.declared.fault.Fault.{Fault}
use Rattle.model.specs.declared.fault.Cause.TheVariants.{Missing}
use Rattle.model.specs.declared.version.Version.{Version}
use Rattle.model.specs.Archives.{Archived, Proper, Rising}
use Rattle.model.specs.Stores.{Arose}
use Rattle.pair.specs.declared.halves.Half.{Half}
use Rattle.pair.specs.declared.halves.Half.TheVariants.{First, Second}

-- whether a pair shows both
abbrev pub both : Archived → Archived → Bool
both a b = nat_le (a.count + b.count) 4096

-- where granule g of a pair is sought: in the first half, in the second as another granule, or
-- nowhere
abbrev pub Halved : Archived → Archived → ℕ → Option Half → Type 0
Halved a b g None = (a.count ≤ g) × (both a b ≡ false)
Halved a b g (Some First) = g < a.count
Halved a b g (Some (Second h)) = (a.count ≤ g) × (both a b ≡ true) × (h ≡ g - a.count)

-- the versions of granule g of a pair
abbrev pub joined_history : Archived → Archived → ℕ → List Version
joined_history a b g =
    cond (nat_lt g a.count) (a.history g) (cond (both a b) (b.history (g - a.count)) [])

abbrev pub joined_reach : Archived → Archived → ℕ → Bool
joined_reach a b g = cond (nat_lt g a.count) (a.reach g) (both a b && b.reach (g - a.count))

-- a pair: the granules of a, then those of b
abbrev pub joined : Archived → Archived → Archived
joined a b = record {
  count = cond (both a b) (a.count + b.count) a.count;
  history = joined_history a b;
  reach = joined_reach a b;
}

abbrev pub joined_room : Archived → Archived → (ℕ → ℕ) → (ℕ → ℕ) → ℕ → ℕ
joined_room a b room-a room-b g =
    cond (nat_lt g a.count) (room-a g) (cond (both a b) (room-b (g - a.count)) 0)

-- which half has granule g of a pair, if there is such a granule
abbrev pub HalfWith : Archived → Archived → ℕ → Result Half Fault → Type 0
HalfWith a b g (Ok half) = (g < (joined a b).count) × Halved a b g (Some half)
HalfWith a b g (Err f) = ((joined a b).count ≤ g) × (f.cause ≡ Missing) × Arose 2 g f

-- a pair finds a missing granule itself; other faults come from the half that has the granule
abbrev pub joined_origin : Archived → Archived
    → (ℕ → Fault → Type 0) → (ℕ → Fault → Type 0) → ℕ → Fault → Type 0
joined_origin a b origin-a origin-b g f =
    MatchBool (nat_lt g a.count) (origin-a g f)
    (MatchBool (nat_lt g (joined a b).count) (origin-b (g - a.count) f) (Arose 2 g f))

pub pair_proper : (a b : Archived) → Proper a → Proper b → Proper (joined a b)
pair_proper a b p q = record {
  small = cond_both (both a b) (a.count + b.count) a.count (λ n. n ≤ 4096)
      (λ e. leb-true _ _ e) (λ e. p.small);
  rising = λ g. cond_both (nat_lt g a.count) (a.history g) _ (Rising 0)
      (λ e. p.rising g)
      (λ e. cond_both (both a b) (b.history (g - a.count)) [] (Rising 0)
      (λ f. q.rising (g - a.count)) (λ f. tt));
  no_history = λ g. cond_both (both a b) (a.count + b.count) a.count
      (λ n. n ≤ g → joined_history a b g ≡ [])
      (λ e h. cond-false _ _ _ (le-ltb g a.count (omega arith)) ∙ cond-true _ _ _ e
      ∙ q.no_history (g - a.count) (omega arith))
      (λ e h. cond-false _ _ _ (le-ltb g a.count h) ∙ cond-false _ _ _ e);
  no_reach = λ g. cond_both (both a b) (a.count + b.count) a.count
      (λ n. n ≤ g → joined_reach a b g ≡ false)
      (λ e h. cond-false _ _ _ (le-ltb g a.count (omega arith))
      ∙ and_right _ _ (q.no_reach (g - a.count) (omega arith)))
      (λ e h. cond-false _ _ _ (le-ltb g a.count h) ∙ and_left _ _ e);
}

-- The slot that a search has found, in the list of what the slots mean.
use Rattle.std.proofs.Common.{◌≡◌, ℕ, suc, ◌<◌, ◌≤◌, Bool, true, false, cond, List, [], ◌∷◌, map}
use Rattle.std.proofs.Common.{length, get_or, set, Some, None, sym, refl, ap, ◌∙◌, ⊎_elim, arith}
use Rattle.std.specs.List.{position_from}
use Rattle.std.proofs.lemmas.List.{map-set, get_or-map, set_past, length-map}
use Rattle.std.proofs.lemmas.Bool.{cases_lt}
use Rattle.std.proofs.lemmas.Bool.Decides.{nat_tests}
use Rattle.model.specs.Slots as M
use Rattle.model.specs.Worlds.{slot_with}
use Rattle.slot.specs.declared.slot.Slot.{Slot}
use Rattle.slot.specs.Changes.{noted}
use Rattle.slot.specs.Means.{Stands, slot_of, slots_of}
use Rattle.slot.proofs.Chains.{position_of, at_place, nowhere}

-- the slot that has the stamp t

module _ (t : ℕ) where
  stands_here : (x : M.Slot) (xs : List M.Slot) → M.holds t x ≡ true → Stands t (x ∷ xs) 0
  stands_here x xs q = record { held = rw q; changes = λ f. rw q }

  stands_next : (x : M.Slot) (xs : List M.Slot) (i : ℕ) → M.holds t x ≡ false → Stands t xs i
      → Stands t (x ∷ xs) (suc i)
  stands_next x xs i q s = record { held = rw q s.held; changes = λ f. rw (q, s.changes f) }

  pub stands : (xs : List Slot) (i : ℕ) → Some i ≡ position_from (λ x. M.holds t (slot_of x)) 0 xs
      → Stands t (slots_of xs) i
  stands xs i e =
      at_place (M.holds t) (Stands t) stands_here stands_next (slots_of xs) i
      (e ∙ sym (position_of (M.holds t) slot_of 0 xs))

  pub not_held : (xs : List Slot) → None ≡ position_from (λ x. M.holds t (slot_of x)) 0 xs
      → M.held t (slots_of xs) ≡ None
  not_held xs e =
      nowhere (M.holds t) (λ ys. M.held t ys ≡ None) refl (λ x ys q k. rw q k) (slots_of xs)
      (e ∙ sym (position_of (M.holds t) slot_of 0 xs))

  pub adjust_none : (f : M.Slot → M.Slot) (xs : List M.Slot) → M.held t xs ≡ None
      → M.adjust t f xs ≡ xs
  adjust_none f [] e = refl
  adjust_none f (x ∷ xs) e = let r = adjust_none f xs in grind (arith, nat_tests)

  -- what is done to that slot counts, and nothing else of a change
  pub adjust_as : (f h : M.Slot → M.Slot) (xs : List M.Slot) (x : M.Slot)
      → M.held t xs ≡ Some x → f x ≡ h x → M.adjust t f xs ≡ M.adjust t h xs
  adjust_as f h [] x e q = refl
  adjust_as f h (y ∷ ys) x e q = go (M.holds t y) refl (λ k. adjust_as f h ys x k q) e
    where
      go : (b : Bool) → M.holds t y ≡ b
          → (M.held t ys ≡ Some x → M.adjust t f ys ≡ M.adjust t h ys)
          → cond b (Some y) (M.held t ys) ≡ Some x
          → M.adjust t f (y ∷ ys) ≡ M.adjust t h (y ∷ ys)
      go true b r k = let z : y ≡ x = cc in rw (b, z) (ap (λ v. v ∷ ys) q)
      go false b r k = rw b (ap (λ v. y ∷ v) (r k))

  adjust_nothing : (xs : List M.Slot) → M.adjust t (λ x. x) xs ≡ xs
  adjust_nothing [] = refl
  adjust_nothing (x ∷ xs) = let r = adjust_nothing xs in grind (arith, nat_tests)

  pub adjust_kept : (f : M.Slot → M.Slot) (xs : List M.Slot) (x : M.Slot)
      → M.held t xs ≡ Some x → f x ≡ x → M.adjust t f xs ≡ xs
  adjust_kept f xs x e q = adjust_as f (λ y. y) xs x e q ∙ adjust_nothing xs

-- the first free slot

pub record Vacant (xs : List M.Slot) (i : ℕ) : Type 0 where
  pub some : M.full xs ≡ false
  pub places : (y : M.Slot) → M.place y xs ≡ set xs i y

pub vacant : (xs : List Slot) (i : ℕ) → Some i ≡ position_from (λ x. M.is_free (slot_of x)) 0 xs
    → Vacant (slots_of xs) i
vacant xs i e =
    at_place M.is_free Vacant
    (λ x ys q. record { some = rw q; places = λ y. rw q })
    (λ x ys k q v. record { some = rw q v.some; places = λ y. rw (q, v.places y) })
    (slots_of xs) i (e ∙ sym (position_of M.is_free slot_of 0 xs))

pub vacant_at : (xs : List Slot) (i : ℕ)
    → Some i ≡ position_from (λ x. M.is_free (slot_of x)) 0 xs → M.full (slots_of xs) ≡ false
vacant_at xs i e = (vacant xs i e).some

pub placed : (xs : List Slot) (i t : ℕ) (y : Slot)
    → Some i ≡ position_from (λ x. M.is_free (slot_of x)) 0 xs → slot_of y ≡ M.new_slot t
    → slots_of (set xs i y) ≡ M.place (M.new_slot t) (slots_of xs)
placed xs i t y e q =
    map-set slot_of xs i y
    ∙ (ap (set (slots_of xs) i) q ∙ sym ((vacant xs i e).places (M.new_slot t)))

pub all_held : (xs : List Slot) → None ≡ position_from (λ x. M.is_free (slot_of x)) 0 xs
    → M.full (slots_of xs) ≡ true
all_held xs e =
    nowhere M.is_free (λ ys. M.full ys ≡ true) refl (λ x ys q k. rw q k) (slots_of xs)
    (e ∙ sym (position_of M.is_free slot_of 0 xs))

pub unplaced : (xs : List Slot) (y : M.Slot)
    → None ≡ position_from (λ x. M.is_free (slot_of x)) 0 xs → slots_of xs ≡ M.place y (slots_of xs)
unplaced xs y e =
    sym (nowhere M.is_free (λ ys. M.place y ys ≡ ys) refl
    (λ x ys q k. rw q (ap (λ zs. x ∷ zs) k)) (slots_of xs)
    (e ∙ sym (position_of M.is_free slot_of 0 xs)))

-- a slot that a method has changed as g says
pub one_changed : {X Y : Type 0} (f : X → Y) (g : Y → Y) (xs : List X) (i : ℕ) (x x' : X) (d : Y)
    → f x' ≡ g (f (get_or xs i x))
    → map f (set xs i x') ≡ set (map f xs) i (g (get_or (map f xs) i d))
one_changed f g xs i x x' d y =
    map-set f xs i x' ∙ ⊎_elim
    (λ h. let r : get_or (map f xs) i d ≡ f (get_or xs i x) = get_or-map f xs i x d h in
    ap (set (map f xs) i) (y ∙ ap g (sym r)))
    (λ h. let l : length (map f xs) ≤ i = rw length-map h in
    set_past (map f xs) i (f x') l
    ∙ sym (set_past (map f xs) i (g (get_or (map f xs) i d)) l))
    (cases_lt i (length xs))

pub noted_at : (t g i : ℕ) (xs : List Slot) (x y : Slot)
    → Some i ≡ position_from (λ x. M.holds t (slot_of x)) 0 xs → x ≡ get_or xs i x
    → slot_of y ≡ noted g (slot_of x)
    → slots_of (set xs i y) ≡ M.adjust t (noted g) (slots_of xs)
noted_at t g i xs x y e q n =
    let s = stands t xs i e in
    one_changed slot_of (noted g) xs i x y M.free_slot (n ∙ ap (λ z. noted g (slot_of z)) q)
    ∙ sym (s.changes (noted g))

pub fits_at : (t g i : ℕ) (xs : List Slot) (x : Slot) (b : Bool)
    → Some i ≡ position_from (λ x. M.holds t (slot_of x)) 0 xs → i < length xs
    → x ≡ get_or xs i x → b ≡ M.note_fits g (slot_of x).notes
    → b ≡ M.note_fits g (slot_with (slots_of xs) t).notes
fits_at t g i xs x b e h q n =
    let s = stands t xs i e in
    let k : slot_of x ≡ get_or (slots_of xs) i M.free_slot
    = ap slot_of q ∙ sym (get_or-map slot_of xs i x M.free_slot h) in
    n ∙ rw (s.held, ← k) refl

pub fits_nowhere : (t g : ℕ) (xs : List Slot)
    → None ≡ position_from (λ x. M.holds t (slot_of x)) 0 xs
    → true ≡ M.note_fits g (slot_with (slots_of xs) t).notes
fits_nowhere t g xs e = rw (not_held t xs e) refl

pub noted_nowhere : (t g : ℕ) (xs : List Slot)
    → None ≡ position_from (λ x. M.holds t (slot_of x)) 0 xs
    → slots_of xs ≡ M.adjust t (noted g) (slots_of xs)
noted_nowhere t g xs e = sym (adjust_none t (noted g) (slots_of xs) (not_held t xs e))

-- what `take_free` and `note` cite
pub ruleset taking = (placed, unplaced, vacant_at, all_held)

pub ruleset noting = (noted_at, noted_nowhere, fits_at, fits_nowhere)

-- Why a table that is sound means a proper archive.
use Rattle.std.specs.Prelude.{◌≡◌, ℕ, zero, suc, ◌+◌, ◌-◌, ◌*◌, ◌%◌, ◌^◌, ◌<◌, ◌≤◌, Bool, true}
use Rattle.std.specs.Prelude.{false, cond, ◌&&◌, ◌⊎◌, List, [], ◌∷◌, Some, None, Option, ◌≢◌}
use Rattle.std.specs.Prelude.{nat_le, nat_lt, refl}
use Rattle.std.proofs.Common.{inl, inr, ⊎_elim, arith}
use Rattle.std.proofs.lemmas.Bool.{eq-eqb, ne_eqb, eqb-true, ltb-true, ltb-false, leb-true}
use Rattle.std.proofs.lemmas.Bool.{leb-false, le-ltb, cond-true, cond-false, cond_both, and_parts}
use Rattle.std.proofs.lemmas.Bool.{and_cases, or_parts}
use Rattle.model.specs.Archives.{Proper, Rising}
use Rattle.table.specs.Words.{stamp_of, first_at, second_at, version_at, versions_in}
use Rattle.table.specs.Words.{low_bits, is_unused, is_wrong, wrong_pair, table_archive}
use Rattle.table.specs.Check.{SoundTable}

pub versions_stop : (ws : List ℕ) (p m : ℕ) → first_at ws p ≡ 0 → versions_in ws p m ≡ []
versions_stop ws p zero e = refl
versions_stop ws p (suc m) e = cond-true _ _ _ (eq-eqb _ _ e)

-- one used pair, where q is the next pair and n pairs are left
pub versions_more : (ws : List ℕ) (p m q n : ℕ) → (first_at ws p ≢ 0) → q ≡ p + 1 → m ≡ n + 1
    → versions_in ws p m ≡ version_at ws p ∷ versions_in ws q n
versions_more ws p zero q n ne eq em = absurd (omega arith)
versions_more ws p (suc m) q n ne eq em =
    let e : n ≡ m = omega arith in
    rw (eq, e) (cond-false _ _ _ (ne_eqb _ _ ne))

-- a used pair that is not wrong
pub record RightPair (last : ℕ) (met : Bool) (w c : ℕ) : Type 0 where
  pub before : met ≡ false
  pub clear : (w < 2 ^ 62) ⊎ ((2 ^ 63 ≤ w) × (w < 2 ^ 63 + 2 ^ 62))
  pub absent : 2 ^ 63 ≤ w → c ≡ 0
  pub above : last < stamp_of w

clear_cases : (w : ℕ) → low_bits w < 2 ^ 62 → (w < 2 ^ 62) ⊎ ((2 ^ 63 ≤ w) × (w < 2 ^ 63 + 2 ^ 62))
clear_cases w = cond_both (nat_le (2 ^ 63) w) (w - 2 ^ 63) w
    (λ l. l < 2 ^ 62 → (w < 2 ^ 62) ⊎ ((2 ^ 63 ≤ w) × (w < 2 ^ 63 + 2 ^ 62)))
    (λ e h. inr (leb-true _ _ e, omega arith))
    (λ e h. inl h)

right_parts : (last : ℕ) (met : Bool) (w c : ℕ) → is_wrong last met w c ≡ false
    → RightPair last met w c
right_parts last met w c h =
    let p = or_parts met _ h in
    let q = or_parts (nat_le (2 ^ 62) (low_bits w)) _ p.1 in
    let r = or_parts (nat_le (2 ^ 63) w && nat_lt 0 c) _ q.1 in
    record {
      before = p.0;
      clear = clear_cases w (leb-false _ _ q.0);
      absent = λ i. ⊎_elim
          (λ e. let l = leb-false (2 ^ 63) w e in absurd (omega arith))
          (λ e. let l = ltb-false 0 c e in omega arith)
          (and_cases _ _ r.0);
      above = leb-false _ _ r.1;
    }

unused_parts : (w c : ℕ) → is_unused w c ≡ true → (w ≡ 0) × (c ≡ 0)
unused_parts w c h =
    let p = and_parts _ _ h in (eqb-true _ _ p.0, eqb-true _ _ p.1)

pub right_used : (last : ℕ) (met : Bool) (w c : ℕ) → RightPair last met w c → w ≢ 0
right_used last met w c f e =
    let a = f.above in let z : w % 2 ^ 62 ≡ 0 = rw e in omega arith

step_cases : (b w : Bool) (x z : Option ℕ) (s : ℕ) → cond b x (cond w (Some s) z) ≡ None
    → ((b ≡ true) × (x ≡ None)) ⊎ ((b ≡ false) × (w ≡ false) × (z ≡ None))
step_cases true w x z s h = inl (refl, h)
step_cases false true x z s h = let z : ◌≡◌ {A = ℕ} 0 1 = cc in absurd (omega arith)
step_cases false false x z s h = inr (refl, refl, h)

-- the first of several pairs of which none is wrong
pub pair_cases : (ws : List ℕ) (p m last : ℕ) (met : Bool)
    → wrong_pair ws p (suc m) last met ≡ None
    → ((first_at ws p ≡ 0) × (second_at ws p ≡ 0) × (wrong_pair ws (p + 1) m last true ≡ None))
    ⊎ (RightPair last met (first_at ws p) (second_at ws p)
    × (wrong_pair ws (p + 1) m (stamp_of (first_at ws p)) met ≡ None))
pair_cases ws p m last met h =
    ⊎_elim
    (λ x. let b = unused_parts _ _ x.0 in inl (b.0, b.1, x.1))
    (λ y. inr (right_parts _ _ _ _ y.1, y.2))
    (step_cases _ _ _ _ _ h)

-- where no pair is wrong the stamps rise
pub rises : (ws : List ℕ) (p m last : ℕ) → wrong_pair ws p m last false ≡ None
    → Rising last (versions_in ws p m)
rises ws p zero last h = tt
rises ws p (suc m) last h =
    ⊎_elim
    (λ x. rw (versions_stop ws p (suc m) x.0) tt)
    (λ y.
    let used = right_used _ _ _ _ y.0 in
    let more = versions_more ws p (suc m) (p + 1) m used refl (omega arith) in
    rw more (y.0.above, omega arith, rises ws (p + 1) m _ y.1))
    (pair_cases ws p m last false h)

pub table_proper : (ws : List ℕ) (n d : ℕ) → SoundTable ws n d → Proper (table_archive ws n d)
table_proper ws n d c = record {
  small = c.few;
  rising = λ g. cond_both (nat_lt g n) (versions_in ws (g * d) d) [] (Rising 0)
      (λ e. rises ws (g * d) d 0 (c.right g (ltb-true _ _ e)))
      (λ e. tt);
  no_history = λ g h. cond-false _ _ _ (le-ltb _ _ h);
  no_reach = λ g h. le-ltb _ _ h;
}

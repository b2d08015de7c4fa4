-- How versions and wrong pairs go on from pair to pair and from granule to granule.
use Rattle.std.proofs.Common.{◌≡◌, ℕ, zero, suc, ◌+◌, ◌-◌, ◌*◌, ◌<◌, ◌≤◌, Bool, true, false}
use Rattle.std.proofs.Common.{cond, eqb, List, length, slice_get, Some, None}
use Rattle.std.proofs.Common.{refl, ap, max, add-one, add-mul, one-mul, arith}
use Rattle.std.proofs.lemmas.Bool.Decides.{nat_tests}
use Rattle.std.proofs.lemmas.Nat.{mul-le}
use Rattle.model.specs.declared.version.Version.{Version}
use Rattle.std.specs.Option.{unwrap_or}
use Rattle.std.specs.List.{position, position_or_len, range_with_len, fold}
use Rattle.std.proofs.lemmas.List.FromFn.{length-range_with_len}
use Rattle.model.specs.Archives.{top, top_below}
use Rattle.store.proofs.Asked.{newest_get}
use Rattle.table.specs.Words.{stamp_of, first_at, second_at, version_at, versions_in}
use Rattle.table.specs.Words.{is_unused, is_wrong, wrong_pair}
use Rattle.table.specs.Check.{wrong_below}
use Rattle.table.specs.Rows.{RightPair}

pub versions_length : (ws : List ℕ) (p m : ℕ) → length (versions_in ws p m) ≤ m
versions_length ws p zero = omega arith
versions_length ws p (suc m) =
    let r = versions_length ws (p + 1) m in grind (arith, nat_tests)

-- the first unused pair, from pair p + a on, comes behind the versions
first_unused : (ws : List ℕ) (p a m q : ℕ) → q ≡ p + a
    → position_or_len (λ k. eqb (first_at ws (p + k)) 0) (range_with_len a m)
    ≡ length (versions_in ws q m)
first_unused ws p a zero q e = refl
first_unused ws p a (suc m) q e =
    let r = first_unused ws p (a + 1) m (q + 1) (omega arith) in rw e (grind (arith, nat_tests))

pub used_pairs : (ws : List ℕ) (p d : ℕ)
    → unwrap_or (position (λ k. eqb (first_at ws (p + k)) 0) (range_with_len 0 d)) d
    ≡ length (versions_in ws p d)
used_pairs ws p d =
    let e = first_unused ws p 0 d p (omega arith) in
    let l = length-range_with_len 0 d in
    let m = versions_length ws p d in
    grind (arith, nat_tests)

-- version k stands in pair q
pub versions_get : (ws : List ℕ) (p m k q : ℕ) → q ≡ p + k → k < length (versions_in ws p m)
    → slice_get (versions_in ws p m) k ≡ Some (version_at ws q)
versions_get ws p zero k q e h = absurd (omega arith)
versions_get ws p (suc m) zero q e h =
    let f : q ≡ p = omega arith in rw f (grind (arith, nat_tests))
versions_get ws p (suc m) (suc k) q e h =
    let r = versions_get ws (p + 1) m k q (omega arith) in grind (arith, nat_tests)

-- the last of the versions, in pair q, has the last stamp
pub last_top : (ws : List ℕ) (p m k q : ℕ) → k ≡ length (versions_in ws p m) → 0 < k
    → q ≡ p + (k - 1) → stamp_of (first_at ws q) ≡ top (versions_in ws p m)
last_top ws p m k q e h eq =
    let t = newest_get (versions_in ws p m) in
    let a = versions_get ws p m (length (versions_in ws p m) - 1) q (omega arith) (omega arith) in
    rw (t, a) refl

-- the greatest of the last stamps, granule by granule
pub tops : (h : ℕ → List Version) (a n m : ℕ) → m ≡ a + n
    → fold (λ t g. max t (top (h g))) (top_below a h) (range_with_len a n) ≡ top_below m h
tops h a zero m e = ap (λ k. top_below k h) (omega arith)
tops h a (suc n) m e = rw add-one (tops h (suc a) n m (omega arith))

pub right_made : (last : ℕ) (met : Bool) (w c : ℕ) → RightPair last met w c
    → (is_wrong last met w c ≡ false) × (is_unused w c ≡ false)
right_made last met w c f =
    let a = f.before in let b = f.clear in let k = f.absent in let u = f.above in
    (grind (arith, nat_tests), grind (arith, nat_tests))

-- one pair further, where q is the next pair and n pairs are left
pub pair_step : (ws : List ℕ) (p m q n last : ℕ) (met : Bool) → q ≡ p + 1 → m ≡ n + 1
    → wrong_pair ws p m last met
    ≡ cond (is_unused (first_at ws p) (second_at ws p))
    (wrong_pair ws q n last true)
    (cond (is_wrong last met (first_at ws p) (second_at ws p))
    (Some (2 * p))
    (wrong_pair ws q n (stamp_of (first_at ws p)) met))
pair_step ws p zero q n last met eq em = absurd (omega arith)
pair_step ws p (suc m) q n last met eq em = let e : n ≡ m = omega arith in rw (eq, e) refl

-- granule g has its pairs below those of granule n
pub row_fits : (g n d : ℕ) → g < n → g * d + d ≤ n * d
row_fits g n d h =
    omega (arith, mul-le (g + 1) d n d (omega arith) (omega arith), add-mul g 1 d, one-mul d)

-- no granule below n has a wrong pair
pub none_below : (ws : List ℕ) (d n : ℕ) → wrong_below ws d n ≡ None
    → (g : ℕ) → g < n → wrong_pair ws (g * d) d 0 false ≡ None
none_below ws d zero h g l = absurd (omega arith)
none_below ws d (suc n) h g l =
    let r = none_below ws d n in grind (arith, nat_tests, r)

-- the first granule that has a wrong pair decides
pub some_below : (ws : List ℕ) (d g n i : ℕ) → wrong_below ws d g ≡ None
    → wrong_pair ws (g * d) d 0 false ≡ Some i → g < n → wrong_below ws d n ≡ Some i
some_below ws d g zero i a b l = absurd (omega arith)
some_below ws d g (suc n) i a b l =
    let r = some_below ws d g n i a b in grind (arith, nat_tests, r)

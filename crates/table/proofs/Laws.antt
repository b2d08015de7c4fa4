-- The check's answer and the tables that are written out in the words.
use Rattle.std.proofs.Common.{◌≡◌, ℕ, zero, suc, ◌+◌, ◌*◌, ◌%◌, ◌<◌, ◌≤◌, Bool, true, false}
use Rattle.std.proofs.Common.{List, [], ◌∷◌, length, take, drop, Some, None, Ok}
use Rattle.std.proofs.Common.{Err, Option, Result, sym, refl, subst, ⊎_elim}
use Rattle.std.proofs.Common.{arith, drop-cons}
use Rattle.std.proofs.lemmas.Bool.Decides.{nat_tests}
use Rattle.std.proofs.lemmas.Bool.{lt-ltb, cond_both, both_ways}
use Rattle.model.specs.declared.version.Version.{Version}
use Rattle.model.specs.Archives.{Rising}
use Rattle.table.specs.declared.check.TableFault.{TableFault}
use Rattle.table.specs.declared.check.TableFault.TheVariants.{Shape}
use Rattle.table.specs.Words.{stamp_of, content_of, first_word, second_word}
use Rattle.table.specs.Words.{first_at, second_at, versions_in}
use Rattle.table.specs.Words.{wrong_pair, table_archive}
use Rattle.table.specs.Check.{wrong_below, in_shape, pair_verdict, table_verdict, SoundTable}
use Rattle.table.specs.Rows.{RightPair, right_used, pair_cases, rises}
use Rattle.table.specs.Law.{written, Written, FitsShape, Lawful}
use Rattle.table.proofs.Pairs.{versions_length, right_made}
use Rattle.table.proofs.Pairs.{row_fits, none_below, some_below}
use Rattle.table.proofs.Grown.{word_back, right_word}

-- the words of m + 1 pairs from pair p on
row_step : (ws : List ℕ) (p m : ℕ) → 2 * (p + suc m) ≤ length ws
    → take (2 * suc m) (drop (2 * p) ws)
    ≡ first_at ws p ∷ second_at ws p ∷ take (2 * m) (drop (2 * (p + 1)) ws)
row_step ws p m h =
    let a : 2 * suc m ≡ suc (suc (2 * m)) = omega arith in
    let b : 2 * (p + 1) ≡ suc (suc (2 * p)) = omega arith in
    let c : 2 * p + 1 ≡ suc (2 * p) = omega arith in
    let d = drop-cons ws (2 * p) 0 (omega arith) in
    let e = drop-cons ws (suc (2 * p)) 0 (omega arith) in
    rw (a, b, c, d, e) refl

-- a right pair holds its version, written out
word_again : (last : ℕ) (met : Bool) (w c : ℕ) → RightPair last met w c
    → (first_word (stamp_of w) (content_of w c) ≡ w) × (second_word (content_of w c) ≡ c)
word_again last met w c f =
    let a = f.clear in let z = f.absent in (grind (arith, nat_tests), grind (arith, nat_tests))

-- behind an unused pair there are zero words only
rest_written : (ws : List ℕ) (p m last : ℕ) → 2 * (p + m) ≤ length ws
    → wrong_pair ws p m last true ≡ None → take (2 * m) (drop (2 * p) ws) ≡ written m []
rest_written ws p zero last k h = refl
rest_written ws p (suc m) last k h =
    let s = row_step ws p m k in
    let r = rest_written ws (p + 1) m last (omega arith) in grind (arith, nat_tests, r)

-- where no pair is wrong the versions are written out
pairs_written : (ws : List ℕ) (p m last : ℕ) → 2 * (p + m) ≤ length ws
    → wrong_pair ws p m last false ≡ None
    → take (2 * m) (drop (2 * p) ws) ≡ written m (versions_in ws p m)
pairs_written ws p zero last k h = refl
pairs_written ws p (suc m) last k h =
    let s = row_step ws p m k in
    let r = pairs_written ws (p + 1) m (stamp_of (first_at ws p)) (omega arith) in
    ⊎_elim
    (λ x.
    let e = x.0 in let f = x.1 in let g = rest_written ws (p + 1) m last (omega arith) x.2 in
    grind (arith, nat_tests))
    (λ y.
    let u = right_used _ _ _ _ y.0 in
    let w = word_again _ _ _ _ y.0 in
    let e = w.0 in let f = w.1 in let g = r y.1 in
    grind (arith, nat_tests))
    (pair_cases ws p m last false h)

table_written : (ws : List ℕ) (n d : ℕ) → SoundTable ws n d
    → Written ws n d (table_archive ws n d).history
table_written ws n d c = record {
  fits = λ g l. let e = lt-ltb g n l in rw e (versions_length ws (g * d) d);
  rising = λ g l. let e = lt-ltb g n l in rw e (rises ws (g * d) d 0 (c.right g l));
  words = λ g l.
      let e = lt-ltb g n l in let k = row_fits g n d l in
      rw e (pairs_written ws (g * d) d 0 (omega arith) (c.right g l));
}

rest_right : (ws : List ℕ) (p m last : ℕ) (met : Bool) → 2 * (p + m) ≤ length ws
    → take (2 * m) (drop (2 * p) ws) ≡ written m [] → wrong_pair ws p m last met ≡ None
rest_right ws p zero last met k h = refl
rest_right ws p (suc m) last met k h =
    let s = row_step ws p m k in
    let r = rest_right ws (p + 1) m last true (omega arith) in grind (arith, nat_tests, r)

-- where versions are written out no pair is wrong
pairs_right : (ws : List ℕ) (p m last : ℕ) (vs : List Version) → 2 * (p + m) ≤ length ws
    → length vs ≤ m → Rising last vs → take (2 * m) (drop (2 * p) ws) ≡ written m vs
    → wrong_pair ws p m last false ≡ None
pairs_right ws p zero last vs k l r h = refl
pairs_right ws p (suc m) last [] k l r h = rest_right ws p (suc m) last false k h
pairs_right ws p (suc m) last (v ∷ vs) k l r h =
    let s = row_step ws p m k in
    let e : first_at ws p ≡ first_word v.stamp v.content = cc in
    let f : second_at ws p ≡ second_word v.content = cc in
    let b = word_back v.stamp v.content r.1 in
    let t = b.0 in
    let w = right_made _ _ _ _ (right_word last v.stamp v.content r.1 r.0) in
    let i = w.0 in let u = w.1 in
    let rest = pairs_right ws (p + 1) m v.stamp vs (omega arith) (omega arith) r.2 cc in
    grind (arith, nat_tests)

right_below : (ws : List ℕ) (n d : ℕ)
    → ((g : ℕ) → g < n → wrong_pair ws (g * d) d 0 false ≡ None) → wrong_below ws d n ≡ None
right_below ws zero d h = refl
right_below ws (suc n) d h =
    let r = right_below ws n d (λ g l. h g (omega arith)) in
    let e = h n (omega arith) in grind (arith, nat_tests)

written_right : (ws : List ℕ) (n d : ℕ) (history : ℕ → List Version) → 2 * (n * d) ≤ length ws
    → Written ws n d history → wrong_below ws d n ≡ None
written_right ws n d history k w =
    right_below ws n d
    (λ g l.
    let r = row_fits g n d l in
    pairs_right ws (g * d) d 0 (history g) (omega arith) (w.fits g l) (w.rising g l)
    (w.words g l))

-- a wrong pair is one of those looked at
wrong_place : (ws : List ℕ) (p m last : ℕ) (met : Bool) (i : ℕ)
    → wrong_pair ws p m last met ≡ Some i
    → (i % 2 ≡ 0) × (2 * p ≤ i) × (i < 2 * (p + m))
wrong_place ws p zero last met i h = let z : ◌≡◌ {A = ℕ} 0 1 = cc in absurd (omega arith)
wrong_place ws p (suc m) last met i h =
    let a = wrong_place ws (p + 1) m last true i in
    let b = wrong_place ws (p + 1) m (stamp_of (first_at ws p)) met i in (
      grind (arith, nat_tests, a, b),
      grind (arith, nat_tests, a, b),
      grind (arith, nat_tests, a, b),
    )

below_place : (ws : List ℕ) (d n i : ℕ) → wrong_below ws d n ≡ Some i
    → (i % 2 ≡ 0) × (i < 2 * (n * d))
below_place ws d zero i h = let z : ◌≡◌ {A = ℕ} 0 1 = cc in absurd (omega arith)
below_place ws d (suc n) i h =
    let k = row_fits n (suc n) d (omega arith) in
    let r = below_place ws d n i in
    let w = wrong_place ws (n * d) d 0 false i in
    (grind (arith, nat_tests, r, w), grind (arith, nat_tests, r, w))

shape_parts : (ws : List ℕ) (n d : ℕ) → in_shape ws n d ≡ true → FitsShape ws n d
shape_parts ws n d h = (
  grind (arith, nat_tests),
  grind (arith, nat_tests),
  grind (arith, nat_tests),
  grind (arith, nat_tests),
)

shape_from : (ws : List ℕ) (n d : ℕ) → FitsShape ws n d → in_shape ws n d ≡ true
shape_from ws n d s =
    let a = s.0 in let b = s.1 in let c = s.2 in let e = s.3 in grind (arith, nat_tests)

shape_sound : (ws : List ℕ) (n d : ℕ) → FitsShape ws n d → wrong_below ws d n ≡ None
    → SoundTable ws n d
shape_sound ws n d s h = record {
  few = s.0;
  deep = s.1;
  shallow = s.2;
  long = s.3;
  right = none_below ws d n h;
}

verdict_law : (ws : List ℕ) (n d : ℕ) (o : Option ℕ) → FitsShape ws n d
    → wrong_below ws d n ≡ o → Lawful ws n d (pair_verdict o)
verdict_law ws n d None s h = (s, table_written ws n d (shape_sound ws n d s h))
verdict_law ws n d (Some i) s h =
    let p = below_place ws d n i h in (
      s,
      p.0,
      p.1,
      λ history w.
          let e = written_right ws n d history s.3 w in
          let z : ◌≡◌ {A = ℕ} 0 1 = cc in omega arith,
    )

lawful : (ws : List ℕ) (n d : ℕ) → Lawful ws n d (table_verdict ws n d)
lawful ws n d =
    cond_both (in_shape ws n d) (pair_verdict (wrong_below ws d n)) (Err Shape) (Lawful ws n d)
    (λ e. verdict_law ws n d _ (shape_parts ws n d e) refl)
    (λ e s. both_ways _ e (shape_from ws n d s))

-- what a check owes
pub checked : (ws : List ℕ) (n d : ℕ) (r : Result (Unit {0}) TableFault)
    → table_verdict ws n d ≡ r → (r ≡ table_verdict ws n d) × Lawful ws n d r
checked ws n d r e = (sym e, subst (Lawful ws n d) e (lawful ws n d))

-- a table that is accepted is sound
pub accepted_sound : (ws : List ℕ) (n d : ℕ) → table_verdict ws n d ≡ Ok tt → SoundTable ws n d
accepted_sound ws n d h =
    let s : in_shape ws n d ≡ true = grind (arith, nat_tests) in
    let w : wrong_below ws d n ≡ None = grind (arith, nat_tests) in
    shape_sound ws n d (shape_parts ws n d s) w

-- a granule with a wrong pair, where those before it have none
pub refused_at : (ws : List ℕ) (n d g : ℕ) (f : TableFault) → FitsShape ws n d
    → wrong_below ws d g ≡ None → pair_verdict (wrong_pair ws (g * d) d 0 false) ≡ Err f
    → g < n → table_verdict ws n d ≡ Err f
refused_at ws n d g f s a b l =
    let t = shape_from ws n d s in
    let e = some_below ws d g n in grind (arith, nat_tests, e)

pub accepted : (ws : List ℕ) (n d g : ℕ) → FitsShape ws n d → wrong_below ws d g ≡ None
    → g ≡ n → table_verdict ws n d ≡ Ok tt
accepted ws n d g s h e = let t = shape_from ws n d s in let k = rw e at h in rw (t, k) refl

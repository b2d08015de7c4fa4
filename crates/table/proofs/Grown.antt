-- What a version put behind the others does to its granule, and to the table.
use Rattle.std.proofs.Common.{◌≡◌, ℕ, zero, suc, ◌+◌, ◌-◌, ◌*◌, ◌^◌, ◌<◌, ◌≤◌, Bool, true}
use Rattle.std.proofs.Common.{false, List, [], ◌∷◌, ◌++◌, length, set, None}
use Rattle.std.proofs.Common.{Ok, Err, Result, refl, ap, ◌∙◌, inl, inr, ⊎_elim, arith}
use Rattle.std.proofs.Common.{length-set, get_or-set_other, get_or-set_same}
use Rattle.std.proofs.lemmas.Bool.Decides.{nat_tests}
use Rattle.std.proofs.lemmas.Bool.{cases_eq}
use Rattle.std.proofs.lemmas.List.{length_push}
use Rattle.model.specs.declared.version.Content.{Content}
use Rattle.model.specs.declared.version.Content.TheVariants.{Entry, Absence}
use Rattle.model.specs.declared.version.Version.{Version}
use Rattle.model.specs.declared.fault.Fault.{Fault}
use Rattle.model.specs.Archives.{version_with, top, Rising}
use Rattle.model.specs.Stores.{stored, place_fault, Grown, Appended, Arose}
use Rattle.table.specs.Words.{stamp_of, version_of, first_word, second_word}
use Rattle.table.specs.Words.{first_at, second_at, version_at, versions_in, wrong_pair}
use Rattle.table.specs.Words.{put_at, put_behind, pairs_fault, table_archive, table_room}
use Rattle.table.specs.Check.{SoundTable, table_fault, PutTable}
use Rattle.table.specs.Rows.{RightPair, right_used, pair_cases, rises}
use Rattle.table.specs.Rows.{versions_stop, versions_more}
use Rattle.table.proofs.Pairs.{right_made, row_fits}

-- pair j is the same in both
abbrev SamePair : List ℕ → List ℕ → ℕ → Type 0
SamePair ws us j = (first_at us j ≡ first_at ws j) × (second_at us j ≡ second_at ws j)

abbrev ZeroPair : List ℕ → ℕ → Type 0
ZeroPair ws j = (first_at ws j ≡ 0) × (second_at ws j ≡ 0)

-- behind an unused pair all are unused
unused_after : (ws : List ℕ) (p m last : ℕ) → wrong_pair ws p m last true ≡ None
    → (j : ℕ) → p ≤ j → j < p + m → ZeroPair ws j
unused_after ws p zero last h j a b = absurd (omega arith)
unused_after ws p (suc m) last h j a b =
    let r = unused_after ws (p + 1) m last in
    (grind (arith, nat_tests, r), grind (arith, nat_tests, r))

all_unused : (ws : List ℕ) (p m last : ℕ) (met : Bool)
    → ((j : ℕ) → p ≤ j → j < p + m → ZeroPair ws j)
    → (wrong_pair ws p m last met ≡ None) × (versions_in ws p m ≡ [])
all_unused ws p zero last met h = (refl, refl)
all_unused ws p (suc m) last met h =
    let here = h p (omega arith) (omega arith) in
    let e = here.0 in let f = here.1 in
    let r = all_unused ws (p + 1) m last true (λ j a b. h j (omega arith) (omega arith)) in
    let a = r.0 in (grind (arith, nat_tests), grind (arith, nat_tests))

-- words that have the same pairs from p to p + m mean the same there
same_pairs : (ws us : List ℕ) (p m last : ℕ) (met : Bool)
    → ((j : ℕ) → p ≤ j → j < p + m → SamePair ws us j)
    → (wrong_pair us p m last met ≡ wrong_pair ws p m last met)
    × (versions_in us p m ≡ versions_in ws p m)
same_pairs ws us p zero last met h = (refl, refl)
same_pairs ws us p (suc m) last met h =
    let here = h p (omega arith) (omega arith) in
    let there : (j : ℕ) → p + 1 ≤ j → j < p + 1 + m → SamePair ws us j =
    λ j a b. h j (omega arith) (omega arith) in
    let e = here.0 in let f = here.1 in
    let a = same_pairs ws us (p + 1) m last true there in
    let b = same_pairs ws us (p + 1) m (stamp_of (first_at ws p)) met there in
    (rw (e, f, a.0, b.0), rw (e, f, a.1))

-- where stamps rise the last is the greatest
top_most : (v : Version) (vs : List Version) → Rising v.stamp vs
    → (v.stamp ≤ top (v ∷ vs)) × (top vs ≤ top (v ∷ vs))
top_most v [] h = (omega arith, omega arith)
top_most v (u ∷ us) h = let r = top_most u us h.2 in grind arith

-- us is ws with the words w and c in pair q, the first unused one of m from pair p on
record OneMore (ws us : List ℕ) (p m last q w c : ℕ) : Type 0 where
  right : wrong_pair ws p m last false ≡ None
  place : q ≡ p + length (versions_in ws p m)
  within : q < p + m
  first : first_at us q ≡ w
  second : second_at us q ≡ c
  others : (j : ℕ) → (j ≡ q → ⊥) → SamePair ws us j
  pair : RightPair last false w c
  above : top (versions_in ws p m) < stamp_of w

abbrev Grows : List ℕ → List ℕ → ℕ → ℕ → ℕ → ℕ → ℕ → Type 0
Grows ws us p m last w c = (wrong_pair us p m last false ≡ None)
    × (versions_in us p m ≡ versions_in ws p m ++ (version_of w c ∷ []))

grows : (ws us : List ℕ) (p m last q w c : ℕ) → OneMore ws us p m last q w c
    → Grows ws us p m last w c
grows ws us p zero last q w c o = absurd (omega arith)
grows ws us p (suc m) last q w c o =
    ⊎_elim
    (λ x.
    let none = versions_stop ws p (suc m) x.0 in
    let here : q ≡ p = grind arith in
    let e : first_at us p ≡ w = rw here at o.first in
    let f : second_at us p ≡ c = rw here at o.second in
    let free = unused_after ws (p + 1) m last x.2 in
    let rest = all_unused us (p + 1) m (stamp_of w) false
    (λ j a b. let s = o.others j (λ i. omega arith) in let y = free j a b in
    (s.0 ∙ y.0, s.1 ∙ y.1)) in
    let r = rest.0 in let v = rest.1 in
    let a = right_made last false w c o.pair in
    let i = a.0 in let u = a.1 in
    let n = right_used last false w c o.pair in
    (grind (arith, nat_tests), grind (arith, nat_tests)))
    (λ y.
    let used = right_used _ _ _ _ y.0 in
    let more = versions_more ws p (suc m) (p + 1) m used refl (omega arith) in
    let z = ap length more in
    let t = ap top more in
    let s = o.others p (λ e. omega (arith, z)) in
    let s0 = s.0 in let s1 = s.1 in
    let st = stamp_of (first_at ws p) in
    let most = top_most (version_at ws p) (versions_in ws (p + 1) m)
    (rises ws (p + 1) m st y.1) in
    let rest = grows ws us (p + 1) m st q w c (record {
      right = y.1;
      place = omega (arith, z);
      within = omega arith;
      first = o.first;
      second = o.second;
      others = o.others;
      pair = record {
        before = refl;
        clear = o.pair.clear;
        absent = o.pair.absent;
        above = omega (arith, t, most);
      };
      above = omega (arith, t, most);
    }) in
    let r = rest.0 in let v = rest.1 in
    let a = right_made _ _ _ _ y.0 in
    let i = a.0 in let u = a.1 in
    (grind (arith, nat_tests), grind (arith, nat_tests)))
    (pair_cases ws p m last false o.right)

-- a pair that is written
put_pair : (ws : List ℕ) (q w c : ℕ) → 2 * q + 1 < length ws
    → (first_at (set (set ws (2 * q) w) (2 * q + 1) c) q ≡ w)
    × (second_at (set (set ws (2 * q) w) (2 * q + 1) c) q ≡ c)
    × ((j : ℕ) → (j ≡ q → ⊥) → SamePair ws (set (set ws (2 * q) w) (2 * q + 1) c) j)
put_pair ws q w c h = grind (arith, length-set, get_or-set_other, get_or-set_same)

-- a version that is written is read back
pub word_back : (t : ℕ) (c : Content) → t < 2 ^ 62
    → (stamp_of (first_word t c) ≡ t)
    × (version_of (first_word t c) (second_word c) ≡ version_with t c)
word_back t Absence h = (omega arith, grind (arith, nat_tests))
word_back t (Entry c) h = (omega arith, grind (arith, nat_tests))

pub right_word : (last t : ℕ) (c : Content) → t < 2 ^ 62 → last < t
    → RightPair last false (first_word t c) (second_word c)
right_word last t Absence h up = record {
  before = refl;
  clear = inr (omega arith, omega arith);
  absent = λ _. refl;
  above = omega arith;
}
right_word last t (Entry c) h up = record {
  before = refl;
  clear = inl (omega arith);
  absent = λ l. absurd (omega arith);
  above = omega arith;
}

-- what holds of the d pairs from pair p on, and of all others, with the version v put there
record PutMore (ws us : List ℕ) (p d : ℕ) (v : Version) : Type 0 where
  right : wrong_pair us p d 0 false ≡ None
  more : versions_in us p d ≡ versions_in ws p d ++ (v ∷ [])
  others : (j : ℕ) → (p ≤ j → j < p + d → ⊥) → SamePair ws us j

put_more : (ws : List ℕ) (p d : ℕ) (v : Version) → wrong_pair ws p d 0 false ≡ None
    → length (versions_in ws p d) < d → 2 * (p + d) ≤ length ws
    → v.stamp < 2 ^ 62 → top (versions_in ws p d) < v.stamp
    → PutMore ws (put_behind ws p d v) p d v
put_more ws p d v right room fits small up =
    let q = p + length (versions_in ws p d) in
    let t = v.stamp in let c = v.content in
    let w = put_pair ws q (first_word t c) (second_word c) (omega arith) in
    let back = word_back t c small in
    let b = back.0 in
    let one : OneMore ws (put_at ws q v) p d 0 q (first_word t c) (second_word c) = record {
      right = right;
      place = refl;
      within = omega arith;
      first = w.0;
      second = w.1;
      others = w.2;
      pair = right_word 0 t c small (omega arith);
      above = omega arith;
    } in
    let g = grows ws (put_at ws q v) p d 0 q (first_word t c) (second_word c) one in
    record {
      right = g.0;
      more = g.1 ∙ ap (λ x. versions_in ws p d ++ (x ∷ [])) back.1;
      others = λ j out. w.2 j (λ i. out (omega arith) (omega arith));
    }

-- a table with one version more in granule g
module _ (ws us : List ℕ) (n d g : ℕ) (v : Version) (l : g < n)
    (p : PutMore ws us (g * d) d v) where
  -- another granule keeps its pairs
  apart : (h : ℕ) → (h ≡ g → ⊥) → (j : ℕ) → h * d ≤ j → j < h * d + d → SamePair ws us j
  apart h ne j a b =
      let k = row_fits h g d in let m = row_fits g h d in
      p.others j (λ x y. grind (arith, k, m))

  others_same : (h : ℕ) → (h ≡ g → ⊥)
      → (wrong_pair us (h * d) d 0 false ≡ wrong_pair ws (h * d) d 0 false)
      × (versions_in us (h * d) d ≡ versions_in ws (h * d) d)
  others_same h ne = same_pairs ws us (h * d) d 0 false (apart h ne)

  stays_sound : SoundTable ws n d → length us ≡ length ws → SoundTable us n d
  stays_sound c e = record {
    few = c.few;
    deep = c.deep;
    shallow = c.shallow;
    long = rw e c.long;
    right = λ h k. ⊎_elim (λ (i : h ≡ g). rw i p.right)
        (λ ne. (others_same h ne).0 ∙ c.right h k) (cases_eq h g);
  }

  grown : Grown (stored (table_archive ws n d) (table_room ws n d))
      (stored (table_archive us n d) (table_room us n d)) g v
  grown = record {
    count = refl;
    history = λ h. ⊎_elim
        (λ (i : h ≡ g). let m = p.more in rw i (grind (arith, nat_tests)))
        (λ ne. let m = (others_same h ne).1 in grind (arith, nat_tests))
        (cases_eq h g);
    reach = λ h. refl;
    room = λ h. ⊎_elim
        (λ (i : h ≡ g).
        let m = ap length p.more ∙ length_push _ _ in rw i (grind (arith, nat_tests)))
        (λ ne. let m = (others_same h ne).1 in grind (arith, nat_tests))
        (cases_eq h g);
  }

-- where nothing stands against it
place_parts : (vs : List Version) (d t : ℕ) → place_fault vs (d - length vs) t ≡ None
    → (top vs < t) × (t < 2 ^ 62) × (length vs < d)
place_parts vs d t h =
    (grind (arith, nat_tests), grind (arith, nat_tests), grind (arith, nat_tests))

-- where nothing stands against it in the table
table_parts : (ws : List ℕ) (n d g t : ℕ) → table_fault ws n d g t ≡ None
    → (g < n) × (pairs_fault ws (g * d) d t ≡ None)
table_parts ws n d g t h =
    let l : g < n = grind (arith, nat_tests) in (l, grind (arith, nat_tests))

table_grown : (ws us : List ℕ) (n d g : ℕ) (v : Version) → SoundTable ws n d
    → table_fault ws n d g v.stamp ≡ None → us ≡ put_behind ws (g * d) d v
    → SoundTable us n d × Grown (stored (table_archive ws n d) (table_room ws n d))
    (stored (table_archive us n d) (table_room us n d)) g v
table_grown ws us n d g v c h e =
    let f = table_parts ws n d g v.stamp h in
    let l = f.0 in
    let a = place_parts (versions_in ws (g * d) d) d v.stamp f.1 in
    let k = row_fits g n d l in
    let m = put_more ws (g * d) d v (c.right g l) a.2 (omega arith) a.1 a.0 in
    let long = length-set _ (2 * (g * d + length (versions_in ws (g * d) d)) + 1) _
    ∙ length-set ws (2 * (g * d + length (versions_in ws (g * d) d))) _ in
    rw e (stays_sound ws _ n d g v l m c long, grown ws _ n d g v l m)

-- what an append owes
pub table_appended : (ws us : List ℕ) (n d m e g : ℕ) (v : Version) (r : Result (Unit {0}) Fault)
    → SoundTable ws n d → PutTable ws us n d g v r → m ≡ n → e ≡ d
    → SoundTable us m e
    × Appended (stored (table_archive ws n d) (table_room ws n d))
    (stored (table_archive us m e) (table_room us m e)) (Arose 1) g v r
table_appended ws us n d m e g v (Ok u) c p a b =
    let t = table_grown ws us n d g v c p.0 p.1 in rw (a, b) (t.0, (p.0, t.1))
table_appended ws us n d m e g v (Err f) c p a b =
    let s = p.3 in rw (a, b, s) (c, (p.0, (p.1, p.2), refl))

-- The pieces of a list of bytes: the first and the others.
use Rattle.std.proofs.Common.{◌≡◌, ℕ, suc, ◌+◌, ◌≤◌, true, false, eqb, ltb, List, []}
use Rattle.std.proofs.Common.{◌∷◌, length, take, drop, Some, None, Option, sym, ap, ◌∙◌, ⊎_elim}
use Rattle.std.proofs.Common.{one-add, arith}
use Rattle.std.proofs.lemmas.Bool.{cases_Bool, lt-ltb}
use Rattle.std.specs.List.{onto_first, position, position_from, position_or_len}
use Rattle.std.specs.Option.{option_map}
use Rattle.std.proofs.lemmas.Bool.Decides.{nat_tests}
use Rattle.std.proofs.lemmas.List.{take_all, take_rest}
use Rattle.std.proofs.lemmas.Iterator.Adapters.{position_from-zero}
use Rattle.script.specs.Pieces.{first, others, pieces, pieces_left}

-- what a search for the first separator says of the pieces
module _ (p : ℕ) (s : List ℕ) where
  found : (o : Option ℕ) → o ≡ position_from (λ c. eqb c p) 0 s → position (λ c. eqb c p) s ≡ o
  found o e = position_from-zero (λ c. eqb c p) s ∙ sym e

  pub first_some : (i : ℕ) → Some i ≡ position_from (λ c. eqb c p) 0 s → first p s ≡ take i s
  first_some i e =
      let q = found (Some i) e in
      let n : position_or_len (λ c. eqb c p) s ≡ i = grind (arith, nat_tests) in
      ap (λ k. take k s) n

  pub others_some : (i : ℕ) → Some i ≡ position_from (λ c. eqb c p) 0 s
      → others p s ≡ Some (drop (i + 1) s)
  others_some i e = ap (option_map (λ k. drop (k + 1) s)) (found (Some i) e)

  pub first_none : None ≡ position_from (λ c. eqb c p) 0 s → first p s ≡ s
  first_none e =
      let q = found None e in
      let n : length s ≤ position_or_len (λ c. eqb c p) s = grind (arith, nat_tests) in
      take_all _ s n

  pub others_none : None ≡ position_from (λ c. eqb c p) 0 s → others p s ≡ None
  others_none e = ap (option_map (λ k. drop (k + 1) s)) (found None e)

pub ruleset cut_facts = (first_some, others_some, first_none, others_none, take_rest)

pub first_on : (p c : ℕ) (cs : List ℕ) → eqb c p ≡ false → first p (c ∷ cs) ≡ c ∷ first p cs
first_on p c cs f = rw (f, one-add)

pub others_on : (p c : ℕ) (cs : List ℕ) → eqb c p ≡ false → others p (c ∷ cs) ≡ others p cs
others_on p c cs f = grind (arith, nat_tests)

pub first_end : (p c : ℕ) (cs : List ℕ) → eqb c p ≡ true → first p (c ∷ cs) ≡ []
first_end p c cs t = rw t

pub others_end : (p c : ℕ) (cs : List ℕ) → eqb c p ≡ true → others p (c ∷ cs) ≡ Some cs
others_end p c cs t =
    let u : ltb 0 (suc (length cs)) ≡ true = lt-ltb _ _ (omega arith) in rw (t, u)

-- a list that is not empty has a first piece
pub pieces_cut : (p : ℕ) (e : List (List ℕ)) → ((c : ℕ) → onto_first c e ≡ (c ∷ []) ∷ [])
    → (c : ℕ) (cs : List ℕ)
    → pieces p e (c ∷ cs) ≡ first p (c ∷ cs) ∷ pieces_left p e (others p (c ∷ cs))
pieces_cut p e one c [] =
    ⊎_elim
    (λ (t : eqb c p ≡ true). rw (first_end p c [] t, others_end p c [] t, t))
    (λ (f : eqb c p ≡ false). rw (first_on p c [] f, others_on p c [] f, f, one c))
    (cases_Bool (eqb c p))
pieces_cut p e one c (d ∷ ds) =
    let h = pieces_cut p e one d ds in
    ⊎_elim
    (λ (t : eqb c p ≡ true). rw (first_end p c (d ∷ ds) t, others_end p c (d ∷ ds) t, t))
    (λ (f : eqb c p ≡ false). rw (first_on p c (d ∷ ds) f, others_on p c (d ∷ ds) f, f, h))
    (cases_Bool (eqb c p))

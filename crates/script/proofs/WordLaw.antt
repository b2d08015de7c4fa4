-- The words of a line, and the numbers that are read from them.
use Rattle.std.proofs.Common.{◌≡◌, ℕ, ◌+◌, ◌<◌, true, false, ltb, List, [], ◌∷◌, ◌++◌, length}
use Rattle.std.proofs.Common.{Some, None, Option, sym, refl, ⊎_elim, arith, length-append}
use Rattle.std.specs.Option.{option_and_then}
use Rattle.std.proofs.lemmas.Bool.{cases_Bool, lt-ltb}
use Rattle.std.proofs.lemmas.Option.{option_and_then_some, none-some}
use Rattle.std.proofs.lemmas.Bool.Decides.{nat_tests}
use Rattle.script.specs.declared.events.EventKind.{EventKind}
use Rattle.script.specs.declared.events.EventKind.TheVariants as K
use Rattle.script.specs.Events.{Said, with_numbers}
use Rattle.script.specs.Numbers.{number_of}
use Rattle.script.specs.Pieces.{first, others}
use Rattle.script.specs.Reading.{words_left, gathered, plain_from, by_next, at_end, read_from}
use Rattle.script.proofs.PieceLaw.{pieces_cut}

pub words_cut : (s : List ℕ) → words_left (Some s) ≡ first 32 s ∷ words_left (others 32 s)
words_cut [] = refl
words_cut (c ∷ cs) = pieces_cut 32 ([] ∷ []) (λ _. refl) c cs

-- each word is one number
gathered_size : (ws : List (List ℕ)) (ns ms : List ℕ) → gathered ns ws ≡ Some ms
    → length ms ≡ length ns + length ws
gathered_size [] ns ms q = let e : ns ≡ ms = cc in rw e (omega arith)
gathered_size (w ∷ ws) ns ms q =
    ⊎_elim
    (λ (t : ltb (length ns) 4 ≡ true).
    option_and_then_some (λ n. gathered (ns ++ (n ∷ [])) ws) (number_of w) ms (rw t at q)
    (λ n e g.
    let h = gathered_size ws (ns ++ (n ∷ [])) ms g in
    omega (arith, simp length-append at h)))
    (λ (f : ltb (length ns) 4 ≡ false). absurd (none-some _ (rw f at q)))
    (cases_Bool (ltb (length ns) 4))

-- the event by the numbers ns and by those that the words o are
abbrev By : EventKind → List ℕ → Option (List ℕ) → Option Said
By k ns o = option_and_then (with_numbers k) (gathered ns (words_left o))

-- a number more is read
more : (k : EventKind) (ns : List ℕ) (f : ℕ → Option (List ℕ) → Option Said)
    → length ns < 4 → with_numbers k ns ≡ None
    → ((n : ℕ) (o : Option (List ℕ)) → f n o ≡ By k (ns ++ (n ∷ [])) o)
    → (o : Option (List ℕ)) → by_next f o ≡ By k ns o
more k ns f l none h None = sym none
more k ns f l none h (Some s) =
    let t : ltb (length ns) 4 ≡ true = lt-ltb _ _ l in
    rw (words_cut s, t) (go (number_of (first 32 s)))
  where
    go : (o : Option ℕ) → option_and_then (λ n. f n (others 32 s)) o ≡ option_and_then
        (with_numbers k)
        (option_and_then (λ n. gathered (ns ++ (n ∷ [])) (words_left (others 32 s))) o)
    go None = refl
    go (Some n) = h n (others 32 s)

-- no number more is read
last : (k : EventKind) (ns : List ℕ) (e : Said) → with_numbers k ns ≡ Some e
    → ((ms : List ℕ) → length ns < length ms → with_numbers k ms ≡ None)
    → (o : Option (List ℕ)) → at_end e o ≡ By k ns o
last k ns e some none None = sym some
last k ns e some none (Some s) = go (gathered ns (words_left (Some s))) refl
  where
    go : (g : Option (List ℕ)) → gathered ns (words_left (Some s)) ≡ g
        → None ≡ option_and_then (with_numbers k) g
    go None q = refl
    go (Some ms) q =
        let h = gathered_size (words_left (Some s)) ns ms q in
        sym (none ms (omega (arith, rw words_cut at h)))

pub reads : (k : EventKind) (o : Option (List ℕ)) → read_from k o ≡ plain_from k o
reads K.Open o = last K.Open [] _ refl (λ ms h. grind (arith, nat_tests)) o
reads K.Begin o = go (gathered [] (words_left o))
  where
    go : (g : Option (List ℕ)) → None ≡ option_and_then (with_numbers K.Begin) g
    go None = refl
    go (Some ms) = refl
reads K.Read o =
    more K.Read [] _ (omega arith) refl
    (λ t. more K.Read (t ∷ []) _ (omega arith) refl
    (λ a. more K.Read (t ∷ a ∷ []) _ (omega arith) refl
    (λ g. last K.Read (t ∷ a ∷ g ∷ []) _ refl (λ ms h. grind (arith, nat_tests))))) o
reads K.Write o =
    more K.Write [] _ (omega arith) refl
    (λ t. more K.Write (t ∷ []) _ (omega arith) refl
    (λ a. more K.Write (t ∷ a ∷ []) _ (omega arith) refl
    (λ g. more K.Write (t ∷ a ∷ g ∷ []) _ (omega arith) refl
    (λ c. last K.Write (t ∷ a ∷ g ∷ c ∷ []) _ refl (λ ms h. grind (arith, nat_tests)))))) o
reads K.Erase o =
    more K.Erase [] _ (omega arith) refl
    (λ t. more K.Erase (t ∷ []) _ (omega arith) refl
    (λ a. more K.Erase (t ∷ a ∷ []) _ (omega arith) refl
    (λ g. last K.Erase (t ∷ a ∷ g ∷ []) _ refl (λ ms h. grind (arith, nat_tests))))) o
reads K.Commit o =
    more K.Commit [] _ (omega arith) refl
    (λ t. more K.Commit (t ∷ []) _ (omega arith) refl
    (λ a. last K.Commit (t ∷ a ∷ []) _ refl (λ ms h. grind (arith, nat_tests)))) o
reads K.RollBack o =
    more K.RollBack [] _ (omega arith) refl
    (λ t. more K.RollBack (t ∷ []) _ (omega arith) refl
    (λ a. last K.RollBack (t ∷ a ∷ []) _ refl (λ ms h. grind (arith, nat_tests)))) o
reads K.Advance o = last K.Advance [] _ refl (λ ms h. grind (arith, nat_tests)) o
reads K.Status o =
    more K.Status [] _ (omega arith) refl
    (λ t. last K.Status (t ∷ []) _ refl (λ ms h. grind (arith, nat_tests))) o
reads K.Notice o =
    more K.Notice [] _ (omega arith) refl
    (λ n. last K.Notice (n ∷ []) _ refl (λ ms h. grind (arith, nat_tests))) o

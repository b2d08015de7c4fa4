-- The lines that have been put: none, one more.
use Rattle.std.proofs.Common.{◌≡◌, ℕ, List, [], ◌∷◌, ◌++◌, sym, ap, ◌∙◌, append_assoc}
use Rattle.certifier.specs.declared.certifier.Certifier.{Certifier}
use Rattle.replay.specs.Replays.{Sense, AnsweredLine, no_line, one_more, PutFront}

module _ {X : Type 0} (σ : Sense X) (c : Certifier) (s : X) (all : List (List ℕ)) where
  pub front_none : (left : List (List ℕ)) → all ≡ left → PutFront σ c s all left [] c s
  front_none left e = ([], e, no_line)

  module _ (left : List (List ℕ)) (text : List ℕ) (c' : Certifier) (s' : X) where
    pub front_more : (l : List ℕ) (left' : List (List ℕ)) (more : List ℕ)
        (c'' : Certifier) (s'' : X)
        → left ≡ l ∷ left' → PutFront σ c s all left text c' s'
        → AnsweredLine σ c' s' l more c'' s'' → PutFront σ c s all left' (text ++ more) c'' s''
    front_more l left' more c'' s'' e p a = (
      p.0 ++ (l ∷ []),
      (p.1 ∙ ap (λ ms. p.0 ++ ms) e) ∙ sym (append_assoc p.0 (l ∷ []) left'),
      one_more l p.2 a,
    )

-- The latest stamp of two ranges of granules, one after the other.
use Rattle.std.proofs.Common.{◌≡◌, ℕ, zero, suc, ◌+◌, ◌<◌, max, true, List, refl, ap, ◌∙◌}
use Rattle.std.proofs.Common.{add-zero, add-suc, arith}
use Rattle.std.proofs.lemmas.Bool.{cond-true}
use Rattle.std.proofs.lemmas.Bool.Decides.{nat_tests}
use Rattle.model.specs.declared.version.Version.{Version}
use Rattle.model.specs.Archives.{Archived, top_below, latest_of}
use Rattle.pair.specs.Pairs.{both, joined}

same_top : (n : ℕ) (f h : ℕ → List Version) → ((g : ℕ) → g < n → f g ≡ h g)
    → top_below n f ≡ top_below n h
same_top zero f h e = refl
same_top (suc n) f h e =
    let a = same_top n f h (λ g l. e g (omega arith)) in
    let b = e n (omega arith) in rw (a, b) refl

joined_top : (n m : ℕ) (f h k : ℕ → List Version) → ((g : ℕ) → g < n → k g ≡ f g)
    → ((g : ℕ) → g < m → k (n + g) ≡ h g)
    → top_below (n + m) k ≡ max (top_below n f) (top_below m h)
joined_top n zero f h k ef eh = rw add-zero (same_top n k f ef ∙ omega arith)
joined_top n (suc m) f h k ef eh =
    let a = joined_top n m f h k ef (λ g l. eh g (omega arith)) in
    let b = eh m (omega arith) in rw (add-suc, a, b) (omega arith)

pub latest_both : (a b : Archived) → both a b ≡ true
    → latest_of (joined a b) ≡ max (latest_of a) (latest_of b)
latest_both a b f =
    let t = joined_top a.count b.count a.history b.history (joined a b).history
    (λ h l. grind (arith, nat_tests)) (λ h l. grind (arith, nat_tests)) in
    ap (λ n. top_below n (joined a b).history) (cond-true _ _ _ f) ∙ t

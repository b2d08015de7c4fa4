-- A version that was appended is the newest.
use Rattle.std.proofs.Common.{◌≡◌, ℕ, List, [], ◌∷◌, ◌++◌, Some, None, Ok, Err, Option, Result}
use Rattle.std.proofs.Common.{refl, arith}
use Rattle.std.proofs.lemmas.Bool.Decides.{nat_tests}
use Rattle.model.specs.declared.version.Version.{Version}
use Rattle.model.specs.declared.fault.Fault.{Fault}
use Rattle.model.specs.Archives.{newest, ToldNewest}
use Rattle.model.specs.Stores.{Stored, append_fault, Grown}
use Rattle.store_tests.specs.Reads.{ReadBack}

newest_last : (vs : List Version) (v : Version) → newest (vs ++ (v ∷ [])) ≡ Some v
newest_last [] v = refl
newest_last (x ∷ vs) v = let r = newest_last vs v in rw r refl

pub read_back : (s s' : Stored) (o o' : ℕ → Fault → Type 0) (g : ℕ) (v : Version)
    (r : Result (Option Version) Fault) → append_fault s g v.stamp ≡ None → Grown s s' g v
    → ToldNewest s'.archive o' g r → ReadBack s o g v r
read_back s s' o o' g v (Ok x) h p t =
    let e = p.history g in
    let n = newest_last (s.archive.history g) v in
    (h, grind (arith, nat_tests))
read_back s s' o o' g v (Err f) h p t =
    let e = p.count in let r = p.reach g in let a = t.0 in absurd (grind (arith, nat_tests))

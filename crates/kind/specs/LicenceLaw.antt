-- The code law of licences.
use Rattle.std.specs.Prelude.{◌≡◌, ℕ, ◌+◌, ◌*◌, ◌/◌, ◌%◌, ◌^◌, ◌≤◌, true, false, cond, Some, None}
use Rattle.std.specs.Prelude.{◌==◌, nat_eq, refl}
use Rattle.std.proofs.Common.{sym, ap, ◌∙◌, ⊎_elim, arith}
use Rattle.std.proofs.lemmas.Bool.{cases_Bool, eqb-true}
use Rattle.std.proofs.lemmas.Bool.Decides.{nat_tests}
use Rattle.kind.specs.Licences.{licence_code, held_of, suspended_of, expired_of, licence_at}
use Rattle.kind.specs.Licences.{licence_of}
use Rattle.kind.specs.declared.licence.HeldLicence.{HeldLicence}
use Rattle.kind.specs.declared.licence.Licence.{Licence}
use Rattle.kind.specs.declared.licence.Licence.TheVariants.{Held, Suspended, Expired}
use Rattle.kind.specs.Made.{made_true, made_from, mapped_from}

held_there : (h : HeldLicence) → held_of (h.class * 2 ^ 16 + h.last_day) ≡ Some (Held h)
held_there h =
    let s = h.sound in
    let d : h.last_day ≤ 65535 = grind (arith, nat_tests) in
    let c-is : (h.class * 2 ^ 16 + h.last_day) / 2 ^ 16 ≡ h.class = omega arith in
    let d-is : (h.class * 2 ^ 16 + h.last_day) % 2 ^ 16 ≡ h.last_day = omega arith in
    rw (c-is, d-is, made_true _ _ h.sound)

pub licence_there : (e : Licence) → licence_of (licence_code e) ≡ Some e
licence_there (Held h) =
    let s = h.sound in
    let c : h.class ≤ 5 = grind (arith, nat_tests) in
    let d : h.last_day ≤ 65535 = grind (arith, nat_tests) in
    let u : licence_code (Held h) / 2 ^ 32 ≡ 1 = omega arith in
    let n : licence_code (Held h) % 2 ^ 32 ≡ h.class * 2 ^ 16 + h.last_day = omega arith in
    rw (u, n) (held_there h)
licence_there (Suspended s) =
    let h = s.sound in
    let r : s.reason ≤ 9 = grind (arith, nat_tests) in
    let u : licence_code (Suspended s) / 2 ^ 32 ≡ 2 = omega arith in
    let n : licence_code (Suspended s) % 2 ^ 32 ≡ s.reason = omega arith in
    rw (u, n, made_true _ _ s.sound)
licence_there Expired = refl

held_back : (n : ℕ) (e : Licence) → held_of n ≡ Some e → licence_code e ≡ 2 ^ 32 + n
held_back n e q =
    let m = mapped_from Held _ e q in
    let k = made_from _ _ m.0 m.1 in
    let code : 2 ^ 32 + n / 2 ^ 16 * 2 ^ 16 + n % 2 ^ 16 ≡ 2 ^ 32 + n = omega arith in
    ap licence_code (sym m.2) ∙ (ap (λ h. licence_code (Held h)) (sym k.1) ∙ code)

suspended_back : (n : ℕ) (e : Licence) → suspended_of n ≡ Some e
    → licence_code e ≡ 2 * 2 ^ 32 + n
suspended_back n e q =
    let m = mapped_from Suspended _ e q in
    let k = made_from _ _ m.0 m.1 in
    ap licence_code (sym m.2) ∙ ap (λ s. licence_code (Suspended s)) (sym k.1)

expired_back : (u n : ℕ) (e : Licence) → cond (u == 3) (expired_of n) None ≡ Some e
    → licence_code e ≡ u * 2 ^ 32 + n
expired_back u n e q =
    let is : Expired ≡ e = grind (arith, nat_tests) in
    let u-is : u ≡ 3 = grind (arith, nat_tests) in
    let n-is : n ≡ 0 = grind (arith, nat_tests) in
    omega (arith, ap licence_code is)

not_held_back : (u n : ℕ) (e : Licence)
    → cond (u == 2) (suspended_of n) (cond (u == 3) (expired_of n) None) ≡ Some e
    → licence_code e ≡ u * 2 ^ 32 + n
not_held_back u n e q =
    ⊎_elim
    (λ (t : nat_eq u 2 ≡ true). omega (arith, eqb-true u 2 t, suspended_back n e (rw t at q)))
    (λ (f : nat_eq u 2 ≡ false). expired_back u n e (rw f at q))
    (cases_Bool (u == 2))

at_back : (u n : ℕ) (e : Licence) → licence_at u n ≡ Some e → licence_code e ≡ u * 2 ^ 32 + n
at_back u n e q =
    ⊎_elim
    (λ (t : nat_eq u 1 ≡ true). omega (arith, eqb-true u 1 t, held_back n e (rw t at q)))
    (λ (f : nat_eq u 1 ≡ false). not_held_back u n e (rw f at q))
    (cases_Bool (u == 1))

pub licence_back : (c : ℕ) (e : Licence) → licence_of c ≡ Some e → licence_code e ≡ c
licence_back c e q = omega (arith, at_back (c / 2 ^ 32) (c % 2 ^ 32) e q)

-- The code law of duties.
use Rattle.std.specs.Prelude.{◌≡◌, ℕ, ◌+◌, ◌*◌, ◌/◌, ◌%◌, ◌≤◌, Some}
use Rattle.std.proofs.Common.{sym, ap, ◌∙◌, arith}
use Rattle.std.proofs.lemmas.Bool.Decides.{nat_tests}
use Rattle.kind.specs.Duties.{duty_code, duty_of}
use Rattle.kind.specs.declared.duty.Duty.{Duty}
use Rattle.kind.specs.Made.{made_true, made_from}

low : (b w : ℕ) → b ≤ 255 → (b + 256 * w) % 256 ≡ b
low b w h = omega arith

pub duty_there : (e : Duty) → duty_of (duty_code e) ≡ Some e
duty_there e =
    let s = e.sound in
    let p : e.pilot ≤ 999 = grind (arith, nat_tests) in
    let b : e.berth ≤ 255 = grind (arith, nat_tests) in
    let p-is : duty_code e % 1024 ≡ e.pilot = omega arith in
    let rest : duty_code e / 1024 ≡ e.berth + 256 * e.watch = omega arith in
    let b-is : duty_code e / 1024 % 256 ≡ e.berth = rw rest (low e.berth e.watch b) in
    let w-is : duty_code e / 1024 / 256 ≡ e.watch = omega arith in
    rw (p-is, b-is, w-is) (made_true _ _ e.sound)

pub duty_back : (c : ℕ) (e : Duty) → duty_of c ≡ Some e → duty_code e ≡ c
duty_back c e q =
    let m = made_from _ _ e q in
    let code : c % 1024 + 1024 * (c / 1024 % 256 + 256 * (c / 1024 / 256)) ≡ c = omega arith in
    ap duty_code (sym m.1) ∙ code

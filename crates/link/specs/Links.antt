-- What a link means, over what stands below it.
use Rattle.std.specs.Prelude.{ℕ, Bool, true, false, cond, ◌&&◌, MatchBool, ◌==◌, nat_lt, Ok, Err}
use Rattle.std.specs.Prelude.{Result}
use Rattle.std.proofs.lemmas.Bool.{and_right}
use Rattle.model.specs.declared.fault.Fault.{Fault}
use Rattle.model.specs.declared.fault.Cause.{Cause}
use Rattle.model.specs.declared.fault.Cause.TheVariants.{Missing, OutOfReach}
use Rattle.model.specs.Archives.{Archived, Proper}
use Rattle.model.specs.Stores.{Arose}

-- a link over a: within reach only while a radio is up
abbrev pub linked : Bool → Archived → Archived
linked up a = record {
  count = a.count;
  history = a.history;
  reach = λ g. up && a.reach g;
}

-- a fault of the link's own at granule g
abbrev pub fault_at : Cause → ℕ → Fault
fault_at c g = record { cause = c; layer = 3; granule = g }

-- a link finds a missing granule and tests its radios itself; other faults come from below
abbrev pub link_origin : Bool → ℕ → (ℕ → Fault → Type 0) → ℕ → Fault → Type 0
link_origin up n origin g f = MatchBool (nat_lt g n && up) (origin g f) (Arose 3 g f)

-- what a link answers itself when granule g of n is asked for, before what is below is asked
abbrev pub passed : Bool → ℕ → ℕ → Result (Unit {0}) Fault
passed up n g =
    cond (nat_lt g n) (cond up (Ok tt) (Err (fault_at OutOfReach g))) (Err (fault_at Missing g))

-- a radio after a notice; of two notices one puts it down and the other up
abbrev pub radio : ℕ → ℕ → ℕ → Bool → Bool
radio down up number before = cond (number == down) false (cond (number == up) true before)

pub link_proper : (up : Bool) (a : Archived) → Proper a → Proper (linked up a)
link_proper up a p = record {
  small = p.small;
  rising = p.rising;
  no_history = p.no_history;
  no_reach = λ g h. and_right _ _ (p.no_reach g h);
}

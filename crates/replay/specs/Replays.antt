-- What a script does, line by line, and what is written for it.
use Rattle.std.specs.Prelude.{◌≡◌, ℕ, Bool, List, [], ◌∷◌, ◌++◌, length, is_some, Some, None, Ok}
use Rattle.std.specs.Prelude.{Err, MatchBool, Result, nat_le}
use Rattle.std.specs.declared.alloc.AllocError.{AllocError}
use Rattle.model.specs.declared.fault.Fault.{Fault}
use Rattle.model.specs.declared.answer.Reply.{Reply}
use Rattle.model.specs.declared.answer.Refusal.{Refusal}
use Rattle.model.specs.Archives.{Archived}
use Rattle.model.specs.Calls as M
use Rattle.kind.specs.Roster.{kind_at, roster_entry}
use Rattle.certifier.specs.declared.certifier.Certifier.{Certifier}
use Rattle.certifier.specs.Beside.{beside}
use Rattle.script.specs.Events as S
use Rattle.script.specs.Reading.{event_of}
use Rattle.script.specs.Lines.{lines_of, max_script}
use Rattle.answer_text.specs.Output.{Appends, Begins}
use Rattle.answer_text.specs.Texts.{answer_line, unreadable_line, too_long_line}

-- the entry kind of a granule, as a test on codes: duties in granules 0 to 7, licences above
abbrev pub of_kind : ℕ → ℕ → Bool
of_kind g c = is_some (roster_entry (kind_at g) c)

-- the call that an event makes; a notice is what is within reach after it
abbrev pub call_of : S.Said → (ℕ → Bool) → M.Call
call_of S.open_event reach = M.call_open
call_of (S.begin_event t n) reach = M.call_begin t
call_of (S.read_event t a g) reach = M.call_read t a g (of_kind g)
call_of (S.write_event t a g c) reach = M.call_write t a g c (of_kind g)
call_of (S.erase_event t a g) reach = M.call_erase t a g
call_of (S.commit_event t a) reach = M.call_commit t a
call_of (S.roll_back_event t a) reach = M.call_roll_back t a
call_of S.advance_event reach = M.call_advance
call_of (S.status_event t) reach = M.call_status t
call_of (S.notice_event n) reach = M.call_notice reach

-- what a store of some type means
pub record Sense (S : Type 0) : Type 1 where
  pub means : S → Archived
  pub room : S → ℕ → ℕ
  pub origin : S → ℕ → Fault → Type 0

abbrev pub sense : {X : Type 0} → (X → Archived) → (X → ℕ → ℕ) → (X → ℕ → Fault → Type 0) → Sense X
sense m r o = record { means = m; room = r; origin = o }

-- an event put to the certifier c beside the store s: the answer o, and what they then are
pub record PutEvent {X : Type 0} (σ : Sense X) (c : Certifier) (s : X) (e : S.Said)
    (o : Result Reply Refusal) (c' : Certifier) (s' : X) : Type 0 where
  pub arising : M.Arising (σ.origin s) o
  pub does : M.Does (beside c (σ.means s) (σ.room s)) (call_of e (σ.means s').reach)
      (M.outcome (λ y. y) o) (beside c' (σ.means s') (σ.room s'))

-- a line put to the certifier c beside the store s: the text that is written for it, and what
-- certifier and store then are
pub data AnsweredLine {X : Type 0} (σ : Sense X) (c : Certifier) (s : X) (l : List ℕ)
    : List ℕ → Certifier → X → Type 0 where
  unreadable : event_of l ≡ None → AnsweredLine σ c s l (unreadable_line ++ (10 ∷ [])) c s
  answered : {c' : Certifier} {s' : X} (e : S.Said) (o : Result Reply Refusal)
      → event_of l ≡ Some e → PutEvent σ c s e o c' s'
      → AnsweredLine σ c s l (answer_line e o ++ (10 ∷ [])) c' s'

-- the lines of a script in order
pub data Replayed {X : Type 0} (σ : Sense X) (c : Certifier) (s : X)
    : List (List ℕ) → List ℕ → Certifier → X → Type 0 where
  no_line : Replayed σ c s [] [] c s
  one_more : {ls : List (List ℕ)} {text more : List ℕ} {c' c'' : Certifier} {s' s'' : X}
      (l : List ℕ)
      → Replayed σ c s ls text c' s' → AnsweredLine σ c' s' l more c'' s''
      → Replayed σ c s (ls ++ (l ∷ [])) (text ++ more) c'' s''

-- one line, where the output was `out` and is `out'`
abbrev pub PutLine : {X : Type 0} → Sense X → Certifier → X → List ℕ → List ℕ → List ℕ
    → Result (Unit {0}) AllocError → Certifier → X → Type 0
PutLine σ c s l out out' r c' s' =
    (text : List ℕ) × AnsweredLine σ c s l text c' s' × Appends out out' text r

-- the lines before some others have been put
abbrev pub PutFront : {X : Type 0} → Sense X → Certifier → X → List (List ℕ) → List (List ℕ)
    → List ℕ → Certifier → X → Type 0
PutFront σ c s all left text c' s' =
    (ls : List (List ℕ)) × (all ≡ ls ++ left) × Replayed σ c s ls text c' s'

-- a script that fits; where there is no memory for the output, some of its lines have been put
abbrev pub PutLines : {X : Type 0} → Sense X → Certifier → X → List ℕ → List ℕ → List ℕ
    → Result (Unit {0}) AllocError → Certifier → X → Type 0
PutLines σ c s script out out' (Ok u) c' s' =
    (text : List ℕ) × Replayed σ c s (lines_of script) text c' s' × (out' ≡ out ++ text)
PutLines σ c s script out out' (Err e) c' s' =
    (left : List (List ℕ)) × (text : List ℕ) × PutFront σ c s (lines_of script) left text c' s'
    × Begins out out'

-- a script: of one that is too long no line is put
abbrev pub PutScript : {X : Type 0} → Sense X → Certifier → X → List ℕ → List ℕ → List ℕ
    → Result (Unit {0}) AllocError → Certifier → X → Type 0
PutScript σ c s script out out' r c' s' =
    MatchBool (nat_le (length script) max_script)
    (PutLines σ c s script out out' r c' s')
    (Appends out out' (too_long_line ++ (10 ∷ [])) r × (c' ≡ c) × (s' ≡ s))

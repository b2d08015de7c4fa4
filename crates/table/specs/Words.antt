-- How versions stand in words, two words to a version, and when a pair of words is wrong.
use Rattle.std.specs.Prelude.{◌≡◌, ℕ, zero, suc, ◌+◌, ◌-◌, ◌*◌, ◌%◌, ◌^◌, Bool, true, cond, ◌&&◌}
use Rattle.std.specs.Prelude.{◌||◌, List, [], ◌∷◌, length, Some, None, Ok, Err, Option, Result}
use Rattle.std.specs.Prelude.{◌==◌, nat_le, nat_lt, slice_index, slice_set}
use Rattle.model.specs.declared.version.Content.{Content}
use Rattle.model.specs.declared.version.Content.TheVariants.{Entry, Absence}
use Rattle.model.specs.declared.version.Version.{Version}
use Rattle.model.specs.declared.fault.Cause.{Cause}
use Rattle.model.specs.Archives.{Archived, version_with}
use Rattle.model.specs.Stores.{place_fault}

-- the stamp stands in bits 0 to 61 of the first word
abbrev pub stamp_of : ℕ → ℕ
stamp_of w = w % 2 ^ 62

-- bit 63 of the first word is set for an absence
abbrev pub content_of : ℕ → ℕ → Content
content_of w c = cond (nat_le (2 ^ 63) w) Absence (Entry c)

abbrev pub version_of : ℕ → ℕ → Version
version_of w c = version_with (stamp_of w) (content_of w c)

-- the two words of a version
abbrev pub first_word : ℕ → Content → ℕ
first_word t Absence = 2 ^ 63 + t
first_word t (Entry c) = t

abbrev pub second_word : Content → ℕ
second_word Absence = 0
second_word (Entry c) = c

-- the two words of pair p
abbrev pub first_at : List ℕ → ℕ → ℕ
first_at ws p = slice_index ws (2 * p)

abbrev pub second_at : List ℕ → ℕ → ℕ
second_at ws p = slice_index ws (2 * p + 1)

abbrev pub version_at : List ℕ → ℕ → Version
version_at ws p = version_of (first_at ws p) (second_at ws p)

-- the versions in m pairs from pair p on, up to the first unused one
abbrev pub versions_in : List ℕ → ℕ → ℕ → List Version
versions_in ws p zero = []
versions_in ws p (suc m) =
    cond (first_at ws p == 0) [] (version_at ws p ∷ versions_in ws (p + 1) m)

-- a pair that is zero is unused
abbrev pub is_unused : ℕ → ℕ → Bool
is_unused w c = w == 0 && c == 0

-- a first word without bit 63; bit 62 is set where 2 ^ 62 or more is left
abbrev pub low_bits : ℕ → ℕ
low_bits w = cond (nat_le (2 ^ 63) w) (w - 2 ^ 63) w

-- a used pair is wrong behind an unused one, with bit 62 set, as an absence with a code, or with
-- a stamp that is not above the last
abbrev pub is_wrong : ℕ → Bool → ℕ → ℕ → Bool
is_wrong last met w c =
    met || (nat_le (2 ^ 62) (low_bits w)
    || ((nat_le (2 ^ 63) w && nat_lt 0 c) || nat_le (stamp_of w) last))

-- the first word of the first wrong pair of m from pair p on, behind the stamp `last`, where
-- `met` says that an unused pair came before
abbrev pub wrong_pair : List ℕ → ℕ → ℕ → ℕ → Bool → Option ℕ
wrong_pair ws p zero last met = None
wrong_pair ws p (suc m) last met =
    cond (is_unused (first_at ws p) (second_at ws p))
    (wrong_pair ws (p + 1) m last true)
    (cond (is_wrong last met (first_at ws p) (second_at ws p))
    (Some (2 * p))
    (wrong_pair ws (p + 1) m (stamp_of (first_at ws p)) met))

-- the words with the version v in pair q
abbrev pub put_at : List ℕ → ℕ → Version → List ℕ
put_at ws q v =
    slice_set (slice_set ws (2 * q) (first_word v.stamp v.content)) (2 * q + 1)
    (second_word v.content)

-- the words with v behind the versions of the d pairs from pair p on
abbrev pub put_behind : List ℕ → ℕ → ℕ → Version → List ℕ
put_behind ws p d v = put_at ws (p + length (versions_in ws p d)) v

-- why a version with stamp t finds no place in the d pairs from pair p on
abbrev pub pairs_fault : List ℕ → ℕ → ℕ → ℕ → Option Cause
pairs_fault ws p d t =
    place_fault (versions_in ws p d) (d - length (versions_in ws p d)) t

-- in which pair a version with stamp t comes to stand, behind those of these pairs
abbrev pub Placed : List ℕ → ℕ → ℕ → ℕ → Result ℕ Cause → Type 0
Placed ws p d t (Ok q) = (pairs_fault ws p d t ≡ None) × (q ≡ p + length (versions_in ws p d))
Placed ws p d t (Err c) = pairs_fault ws p d t ≡ Some c

-- what n granules of depth d in these words mean
abbrev pub table_archive : List ℕ → ℕ → ℕ → Archived
table_archive ws n d = record {
  count = n;
  history = λ g. cond (nat_lt g n) (versions_in ws (g * d) d) [];
  reach = λ g. nat_lt g n;
}

abbrev pub table_room : List ℕ → ℕ → ℕ → ℕ → ℕ
table_room ws n d g = cond (nat_lt g n) (d - length (versions_in ws (g * d) d)) 0

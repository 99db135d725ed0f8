-- Reading from left to right, to the first fault: numbers, and references by their rule.
use Rattle.std.specs.Prelude.{ℕ, zero, suc, ◌+◌, nat_le, nat_lt, max, Bool, true, false, ◌&&◌, List, [], ◌∷◌, length, take, drop, Option, Some, None}
use Rattle.std.specs.Int.{Width, w32, byte_len, from_be_bytes}
use Rattle.cc_meaning.specs.declared.fault.ImageFault.{ImageFault}
use Rattle.cc_meaning.specs.declared.fault.ImageFault.TheVariants.{CutOff, BadKind, BadRef}

-- where reading stands: so many bytes in, before these bytes, when the greatest number of an object that was mentioned is this one
pub record Spot : Type 0 where
  pub at : ℕ
  pub rest : List ℕ
  pub greatest : ℕ

-- what was read, and where reading stands then; or the fault
pub data Got (A : Type 0) : Type 0 where
  got : A → Spot → Got A
  wrong : ImageFault → Got A

-- reads on
unfoldable pub reading : {A B : Type 0} → Got A → (A → Spot → Got B) → Got B
reading (got a s) k = k a s
reading (wrong fault) k = wrong fault

-- a number at a place that isn't allowed there
unfoldable pub allowed : {A : Type 0} → Bool → (at : ℕ) → Got A → Got A
allowed true at more = more
allowed false at more = wrong (BadKind at)

-- reads on with what a number names; one that names nothing isn't allowed
unfoldable pub on_named : {A B : Type 0} → Option A → (at : ℕ) → (A → Got B) → Got B
on_named None at k = wrong (BadKind at)
on_named (Some a) at k = k a

-- ---- numbers

-- behind so many bytes
unfoldable pub behind : ℕ → Spot → Spot
behind n s = record s { at = s.at + n; rest = drop n s.rest }

unfoldable pub number_if : Bool → Width → Spot → Got ℕ
number_if true w s = got (from_be_bytes w (take (byte_len w) s.rest)) (behind (byte_len w) s)
number_if false w s = wrong CutOff

-- a number of two, four or eight bytes
unfoldable pub number : Width → Spot → Got ℕ
number w s = number_if (nat_le (byte_len w) (length s.rest)) w s

unfoldable pub byte_in : List ℕ → Spot → Got ℕ
byte_in [] s = wrong CutOff
byte_in (b ∷ rest) s = got b (behind 1 s)

unfoldable pub byte : Spot → Got ℕ
byte s = byte_in s.rest s

-- ---- references

unfoldable pub mentioning : ℕ → Spot → Spot
mentioning n s = record s { greatest = max n s.greatest }

unfoldable pub numbered_if : Bool → (at n : ℕ) → Spot → Got ℕ
numbered_if true at n s = got n (mentioning n s)
numbered_if false at n s = wrong (BadRef at)

unfoldable pub reference_of : ℕ → Option ℕ
reference_of zero = None
reference_of (suc n) = Some (suc n)

-- a reference is null, or at most one more than the greatest before it
unfoldable pub reference : Spot → Got (Option ℕ)
reference s = reading (number w32 s) (λ n s1. reading (numbered_if (nat_le n (suc s.greatest)) s.at n s1) (λ m s2. got (reference_of m) s2))

-- of an object that has to be there, a reference isn't null either
unfoldable pub object_named : Spot → Got ℕ
object_named s = reading (number w32 s) (λ n s1. numbered_if (nat_lt 0 n && nat_le n (suc s.greatest)) s.at n s1)

-- ---- many

-- so many items
unfoldable pub items : {A : Type 0} → (Spot → Got A) → ℕ → Spot → Got (List A)
items read zero s = got [] s
items read (suc n) s = reading (read s) (λ a s1. reading (items read n s1) (λ rest s2. got (a ∷ rest) s2))

-- a count, and that many items
unfoldable pub counted_items : {A : Type 0} → (Spot → Got A) → Spot → Got (List A)
counted_items read s = reading (number w32 s) (λ n s1. items read n s1)

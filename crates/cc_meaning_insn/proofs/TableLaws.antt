-- The rows of the table that are no instruction.
use Rattle.std.proofs.Common.{◌≡◌, ℕ, zero, suc, ◌<◌, inl, inr, Bool, true, false, length, refl, ap, ◌∙◌, arith}
use Rattle.std.specs.Prelude.{◌&&◌}
use Rattle.std.proofs.lemmas.Bool.{cases_eq}
use Rattle.cc_meaning_insn.specs.Opcodes.{kinds, tests, hows, ops, literal_ops, shifts, moves_and_returns, constants, objects, jumps, accesses, invokes, unary_ops, binary_ops, literal_forms, opcodes, opcode_at}
use Rattle.cc_meaning_insn.specs.Laws.{is_within, is_float, is_unused, float_ranges, unused_ranges, OpcodeTable}

same : Bool → Bool → Bool
same true true = true
same true false = false
same false true = false
same false false = true

same_is : (a b : Bool) → same a b ≡ true → a ≡ b
unfolding same
same_is true true e = refl
same_is true false e = absurd cc
same_is false true e = absurd cc
same_is false false e = refl

every : (ℕ → Bool) → ℕ → Bool
every f zero = true
every f (suc n) = f n && every f n

both : (a b : Bool) → a && b ≡ true → (a ≡ true) × (b ≡ true)
both true b e = (refl, e)
both false b e = absurd cc

every_is : (f : ℕ → Bool) (n : ℕ) → every f n ≡ true → (k : ℕ) → k < n → f k ≡ true
unfolding every
every_is f zero e k h = absurd (omega arith)
every_is f (suc n) e k h = elim (cases_eq k n) [
  | inl last ↦ ap f last ∙ (both (f n) (every f n) e).0
  | inr before ↦ every_is f n (both (f n) (every f n) e).1 k (omega arith)
]

floats : ℕ → Bool
floats n = same (is_float (opcode_at n)) (is_within float_ranges n)

unuseds : ℕ → Bool
unuseds n = same (is_unused (opcode_at n)) (is_within unused_ranges n)

all_floats : every floats 256 ≡ true
unfolding kinds tests hows ops literal_ops shifts moves_and_returns constants objects jumps accesses invokes unary_ops binary_ops literal_forms opcodes opcode_at every same floats
all_floats = refl

all_unuseds : every unuseds 256 ≡ true
unfolding kinds tests hows ops literal_ops shifts moves_and_returns constants objects jumps accesses invokes unary_ops binary_ops literal_forms opcodes opcode_at every same unuseds
all_unuseds = refl

rows : length opcodes ≡ 256
unfolding kinds tests hows ops literal_ops shifts moves_and_returns constants objects jumps accesses invokes unary_ops binary_ops literal_forms opcodes
rows = refl

float_rows : (n : ℕ) → n < 256 → is_float (opcode_at n) ≡ is_within float_ranges n
unfolding floats
float_rows n h = same_is (is_float (opcode_at n)) (is_within float_ranges n) (every_is floats 256 all_floats n h)

unused_rows : (n : ℕ) → n < 256 → is_unused (opcode_at n) ≡ is_within unused_ranges n
unfolding unuseds
unused_rows n h = same_is (is_unused (opcode_at n)) (is_within unused_ranges n) (every_is unuseds 256 all_unuseds n h)

pub opcode_table : OpcodeTable
opcode_table = record { rows = rows; float = float_rows; unused = unused_rows }

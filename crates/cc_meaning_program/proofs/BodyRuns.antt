-- Instructions that stand one behind the other, from one address to another.
use Rattle.std.proofs.Common.{◌≡◌, ◌≢◌, ℕ, zero, suc, ◌+◌, ◌/◌, ◌%◌, ◌<◌, ◌≤◌, ◌⊎◌, inl, inr, true, false, List, [], ◌∷◌, ◌++◌, length, take, drop, get_or, Some, None, Ok, Err, refl, sym, ap, ◌∙◌, subst, append_assoc, arith}
use Rattle.std.specs.Prelude.{slice_get, slice_range, nat_lt}
use Rattle.std.proofs.lemmas.Bool.{cases_lt, cases_eq, cases_Bool}
use Rattle.std.proofs.lemmas.Bool.Decides.{nat_tests}
use Rattle.std.proofs.lemmas.List.{length-drop, append-nil}
use Rattle.cc_meaning.specs.declared.fault.InsnFault.{InsnFault}
use Rattle.cc_meaning.specs.declared.fault.InsnFault.TheVariants as fault
use Rattle.cc_meaning.specs.declared.instruction.Insn.{Insn}
use Rattle.cc_meaning.specs.declared.program.Placed.{Placed}
use Rattle.cc_meaning_insn.specs.declared.forms.Opcode.{Opcode}
use Rattle.cc_meaning_insn.specs.declared.forms.Opcode.TheVariants.{Float, Unused, One, Two, Three, Five, Listed, Ranged}
use Rattle.cc_meaning_insn.specs.Opcodes.{opcode_at}
use Rattle.cc_meaning.specs.declared.instruction.Insn.TheVariants.{ArrayPayload}
use Rattle.cc_meaning_insn.specs.Payloads.{bytes_of, byte_count, packed_payload, sparse_payload, array_payload, packed_size, sparse_size, array_size, element_width, is_width}
use Rattle.cc_meaning_insn.specs.Decoded.{if_there, of_opcode, front_of, decoded}
use Rattle.cc_meaning_program.specs.Instructions.{StandFrom, StandUntil, BreaksOff, InstructionsLaidOut, StandToEnd, OneReading, OneBreak}

-- ---- an instruction takes a unit at least

-- so many units, which are there
record Taken (units : List ℕ) (size : ℕ) : Type 0 where
  some : 0 < size
  there : size ≤ length units

size_of : (made insn : Insn) (count size : ℕ) → ◌≡◌ {A = Insn × ℕ} (made, count) (insn, size) → count ≡ size
size_of made insn count size e = ap (λ (read : Insn × ℕ). read.1) e

if_there_taken : (count : ℕ) (units : List ℕ) (made insn : Insn) (size : ℕ) → 0 < count → if_there count units made ≡ Ok (insn, size) → Taken units size
if_there_taken count units made insn size some e = elim (cases_lt (length units) count) [
  | inl short ↦
      let fails : if_there count units made ≡ Err fault.CutOff = grind (arith, nat_tests) in
      absurd cc
  | inr enough ↦
      let found : if_there count units made ≡ Ok (made, count) = grind (arith, nat_tests) in
      let whole : ◌≡◌ {A = Insn × ℕ} (made, count) (insn, size) = cc in
      let same : count ≡ size = size_of made insn count size whole in
      record { some = omega arith; there = omega arith }
]

of_opcode_taken : (opcode : Opcode) (units : List ℕ) (insn : Insn) (size : ℕ) → of_opcode opcode units ≡ Ok (insn, size) → Taken units size
unfolding of_opcode
of_opcode_taken Float units insn size e = absurd cc
of_opcode_taken Unused units insn size e = absurd cc
of_opcode_taken (One form) units insn size e = if_there_taken 1 units _ insn size (omega arith) e
of_opcode_taken (Two form) units insn size e = if_there_taken 2 units _ insn size (omega arith) e
of_opcode_taken (Three form) units insn size e = if_there_taken 3 units _ insn size (omega arith) e
of_opcode_taken Five units insn size e = if_there_taken 5 units _ insn size (omega arith) e
of_opcode_taken (Listed form) units insn size e = elim (cases_lt 5 (get_or units 0 0 / 256 / 16)) [
  | inl above ↦
      let test : nat_lt 5 (get_or units 0 0 / 256 / 16) ≡ true = grind (arith, nat_tests) in
      let fails : of_opcode (Listed form) units ≡ Err fault.Unused = rw (test, of_opcode) refl in
      absurd cc
  | inr few ↦
      let test : nat_lt 5 (get_or units 0 0 / 256 / 16) ≡ false = grind (arith, nat_tests) in
      if_there_taken 3 units _ insn size (omega arith) (rw (test, of_opcode) at e)
]
of_opcode_taken (Ranged form) units insn size e = if_there_taken 3 units _ insn size (omega arith) e

packed_taken : (units : List ℕ) (insn : Insn) (size : ℕ) → packed_payload units ≡ Ok (insn, size) → Taken units size
unfolding packed_payload
packed_taken units insn size e = if_there_taken (packed_size units) units _ insn size (omega arith) e

sparse_taken : (units : List ℕ) (insn : Insn) (size : ℕ) → sparse_payload units ≡ Ok (insn, size) → Taken units size
unfolding sparse_payload
sparse_taken units insn size e = if_there_taken (sparse_size units) units _ insn size (omega arith) e

array_taken : (units : List ℕ) (insn : Insn) (size : ℕ) → array_payload units ≡ Ok (insn, size) → Taken units size
unfolding array_payload
array_taken units insn size e = elim (cases_lt (length units) (array_size units)) [
  | inl short ↦
      let test : nat_lt (length units) (array_size units) ≡ true = grind (arith, nat_tests) in
      let fails : array_payload units ≡ Err fault.CutOff = rw (test, array_payload) refl in
      absurd cc
  | inr enough ↦
      let test : nat_lt (length units) (array_size units) ≡ false = grind (arith, nat_tests) in
      elim (cases_Bool (is_width (element_width units))) [
        | inl good ↦
            let made : Insn = ArrayPayload (element_width units) (take (byte_count units) (bytes_of (slice_range units 4 (array_size units)))) in
            let found : array_payload units ≡ Ok (made, array_size units) = rw (test, good, array_payload) refl in
            let whole : ◌≡◌ {A = Insn × ℕ} (made, array_size units) (insn, size) = cc in
            let same : array_size units ≡ size = size_of made insn (array_size units) size whole in
            record { some = omega arith; there = omega arith }
        | inr bad ↦
            let fails : array_payload units ≡ Err fault.BadPayload = rw (test, bad, array_payload) refl in
            absurd cc
      ]
]

front_nil : front_of [] ≡ Err fault.CutOff
unfolding front_of
front_nil = refl

front_taken : (first : ℕ) (rest : List ℕ) (insn : Insn) (size : ℕ) → front_of (first ∷ rest) ≡ Ok (insn, size) → Taken (first ∷ rest) size
unfolding front_of
front_taken first rest insn size e = elim (cases_eq first 256) [
  | inl packed ↦
      let is : front_of (first ∷ rest) ≡ packed_payload (first ∷ rest) = grind (arith, nat_tests) in
      packed_taken (first ∷ rest) insn size (sym is ∙ e)
  | inr a ↦ elim (cases_eq first 512) [
    | inl sparse ↦
        let is : front_of (first ∷ rest) ≡ sparse_payload (first ∷ rest) = grind (arith, nat_tests) in
        sparse_taken (first ∷ rest) insn size (sym is ∙ e)
    | inr b ↦ elim (cases_eq first 768) [
      | inl array ↦
          let is : front_of (first ∷ rest) ≡ array_payload (first ∷ rest) = grind (arith, nat_tests) in
          array_taken (first ∷ rest) insn size (sym is ∙ e)
      | inr c ↦
          let is : front_of (first ∷ rest) ≡ of_opcode (opcode_at (first % 256)) (first ∷ rest) = grind (arith, nat_tests) in
          of_opcode_taken (opcode_at (first % 256)) (first ∷ rest) insn size (sym is ∙ e)
    ]
  ]
]

units_taken : (units : List ℕ) (insn : Insn) (size : ℕ) → front_of units ≡ Ok (insn, size) → Taken units size
units_taken [] insn size e = let fails : front_of [] ≡ Err fault.CutOff = front_nil in absurd cc
units_taken (first ∷ rest) insn size e = front_taken first rest insn size e

-- what stands at a place has at least one unit, and none past the end
pub decoded_taken : (units : List ℕ) (at size : ℕ) (insn : Insn) → decoded units at ≡ Ok (insn, size) → (0 < size) × (at + size ≤ length units)
unfolding decoded
decoded_taken units at size insn e =
    let taken = units_taken (drop at units) insn size e in
    let some = taken.some in
    let there = taken.there in
    (some, omega (arith, length-drop at units))

-- ---- from one address to another

pub data Run (units : List ℕ) : ℕ → List Placed → ℕ → Type 0 where
  none : {at : ℕ} → Run units at [] at
  next : {at size end : ℕ} {insn : Insn} {rest : List Placed} → at < length units → decoded units at ≡ Ok (insn, size) → Run units (at + size) rest end → Run units at (record { at = at; units = size; insn = insn } ∷ rest) end

run_snoc : {units : List ℕ} {from at size : ℕ} {insn : Insn} {before : List Placed} → Run units from before at → at < length units → decoded units at ≡ Ok (insn, size) → Run units from (before ++ record { at = at; units = size; insn = insn } ∷ []) (at + size)
run_snoc Run.none h d = Run.next h d Run.none
run_snoc (Run.next g e rest) h d = Run.next g e (run_snoc rest h d)

pub until_run : {units : List ℕ} {at : ℕ} {before : List Placed} → StandUntil units at before → Run units 0 before at
until_run StandUntil.none = Run.none
until_run (StandUntil.next stand h d) = run_snoc (until_run stand) h d

pub from_run : {units : List ℕ} {at : ℕ} {placed : List Placed} → StandFrom units at placed → Run units at placed (length units)
from_run StandFrom.none = Run.none
from_run (StandFrom.next h d rest) = Run.next h d (from_run rest)

pub run_from : {units : List ℕ} {at end : ℕ} {placed : List Placed} → Run units at placed end → end ≡ length units → StandFrom units at placed
run_from {units = units} (Run.none {at = at}) e = subst (λ (n : ℕ). StandFrom units n []) (sym e) StandFrom.none
run_from (Run.next h d rest) e = StandFrom.next h d (run_from rest e)

-- from one address there is one instruction at most
same_insn : (units : List ℕ) (at size size' : ℕ) (insn insn' : Insn) → decoded units at ≡ Ok (insn, size) → decoded units at ≡ Ok (insn', size') → insn ≡ insn'
same_insn units at size size' insn insn' d e =
    let whole : (insn, size) ≡ (insn', size') = cc in
    ap (λ (read : Insn × ℕ). read.0) whole

same_size : (units : List ℕ) (at size size' : ℕ) (insn insn' : Insn) → decoded units at ≡ Ok (insn, size) → decoded units at ≡ Ok (insn', size') → size ≡ size'
same_size units at size size' insn insn' d e =
    let whole : (insn, size) ≡ (insn', size') = cc in
    ap (λ (read : Insn × ℕ). read.1) whole

-- the first instructions are those of the others, and what stands behind them there goes on where they end
pub record Goes (units : List ℕ) (these those : List Placed) (here there : ℕ) : Type 0 where
  pub more : List Placed
  pub whole : those ≡ these ++ more
  pub further : Run units here more there

-- of two runs from one address one goes on from the other
pub one_goes : (units : List ℕ) (at here there : ℕ) (these those : List Placed) → Run units at these here → Run units at those there → Goes units these those here there ⊎ Goes units those these there here
one_goes units at here there [] those Run.none other = inl (record { more = those; whole = refl; further = other })
one_goes units at here there these [] run Run.none = inr (record { more = these; whole = refl; further = run })
one_goes units at here there (this ∷ these) (that ∷ those) (Run.next {size = size} {insn = insn} h d run) (Run.next {size = size'} {insn = insn'} h' d' run') =
    let at_once : size' ≡ size = same_size units at size' size insn' insn d' d in
    let same : insn' ≡ insn = same_insn units at size' size insn' insn d' d in
    let moved : Run units (at + size) those there = subst (λ (n : ℕ). Run units (at + n) those there) at_once run' in
    elim (one_goes units (at + size) here there these those run moved) [
      | inl goes ↦ inl (record { more = goes.more; whole = λ i. record { at = at; units = at_once i; insn = same i } ∷ goes.whole i; further = goes.further })
      | inr goes ↦ inr (record { more = goes.more; whole = λ i. record { at = at; units = sym at_once i; insn = sym same i } ∷ goes.whole i; further = goes.further })
    ]

-- ---- where instructions end

-- no instruction stands at the address
pub Stops : List ℕ → ℕ → Type 0
Stops units at = (size : ℕ) (insn : Insn) → at < length units → decoded units at ≢ Ok (insn, size)

pub record Same (these those : List Placed) (here there : ℕ) : Type 0 where
  pub placed : these ≡ those
  pub at : here ≡ there

goes_nowhere : (units : List ℕ) (here there : ℕ) (more : List Placed) → Stops units here → Run units here more there → Same more [] here there
unfolding Stops
goes_nowhere units here there [] stops Run.none = record { placed = refl; at = refl }
goes_nowhere units here there (one ∷ more) stops (Run.next {size = size} {insn = insn} h d run) = absurd (stops size insn h d)

ends_there : (units : List ℕ) (here there : ℕ) (these those : List Placed) → Stops units here → Goes units these those here there → Same these those here there
ends_there units here there these those stops goes =
    let same = goes_nowhere units here there goes.more stops goes.further in
    record { placed = sym (goes.whole ∙ ap (λ (more : List Placed). these ++ more) same.placed ∙ append-nil these); at = same.at }

-- two runs from one address to where none stands are one
pub one_stop : (units : List ℕ) (at here there : ℕ) (these those : List Placed) → Stops units here → Stops units there → Run units at these here → Run units at those there → Same these those here there
one_stop units at here there these those stops stops' run run' = elim (one_goes units at here there these those run run') [
  | inl goes ↦ ends_there units here there these those stops goes
  | inr goes ↦
      let same = ends_there units there here those these stops' goes in
      record { placed = sym same.placed; at = sym same.at }
]

-- what stands to anywhere begins what stands to where none does
pub begins_whole : (units : List ℕ) (at here end : ℕ) (these all : List Placed) → Stops units end → Run units at these here → Run units at all end → (more : List Placed) × (all ≡ these ++ more)
begins_whole units at here end these all stops run whole = elim (one_goes units at here end these all run whole) [
  | inl goes ↦ (goes.more, goes.whole)
  | inr goes ↦
      let same = ends_there units end here all these stops goes in
      ([], same.placed ∙ sym (append-nil these))
]

pub stops_at_end : (units : List ℕ) → Stops units (length units)
unfolding Stops
stops_at_end units = λ size insn h d. absurd (omega arith)

pub stops_at_break : (units : List ℕ) (before : List Placed) (at : ℕ) (fault : InsnFault) → BreaksOff units before at fault → Stops units at
unfolding Stops
stops_at_break units before at fault breaks = λ size insn h d. let none = breaks.none in absurd cc

-- ---- laws

run_until : {units : List ℕ} {at end : ℕ} {before placed : List Placed} → StandUntil units at before → Run units at placed end → StandUntil units end (before ++ placed)
run_until {units = units} {before = before} stand (Run.none {at = at}) = subst (λ (all : List Placed). StandUntil units at all) (sym (append-nil before)) stand
run_until {units = units} {end = end} {before = before} stand (Run.next {at = at} {size = size} {insn = insn} {rest = rest} h d run) =
    let one : Placed = record { at = at; units = size; insn = insn } in
    subst (λ (all : List Placed). StandUntil units end all) (append_assoc before (one ∷ []) rest) (run_until (StandUntil.next stand h d) run)

pub stand_to_end : StandToEnd
stand_to_end units placed = (λ whole. run_until StandUntil.none (from_run whole), λ stand. run_from (until_run stand) refl)

pub one_reading : OneReading
one_reading units these those whole other =
    (one_stop units 0 (length units) (length units) these those (stops_at_end units) (stops_at_end units) (from_run whole) (from_run other)).placed

both_break : (units : List ℕ) (these those : List Placed) (here there : ℕ) (fault other : InsnFault) → BreaksOff units these here fault → BreaksOff units those there other → Same these those here there
both_break units these those here there fault other breaks breaks' =
    one_stop units 0 here there these those (stops_at_break units these here fault breaks) (stops_at_break units those there other breaks') (until_run breaks.stand) (until_run breaks'.stand)

pub one_break : OneBreak
one_break =
    record {
      before = λ units these those here there fault other breaks breaks'. (both_break units these those here there fault other breaks breaks').placed;
      at = λ units these those here there fault other breaks breaks'. (both_break units these those here there fault other breaks breaks').at;
      cause = λ units these those here there fault other breaks breaks'.
          let same = (both_break units these those here there fault other breaks breaks').at in
          let first = breaks.none in
          let second = breaks'.none in
          let moved : decoded units here ≡ decoded units there = ap (decoded units) same in
          cc;
      no_reading = λ units these those here fault breaks whole.
          let same = one_stop units 0 here (length units) these those (stops_at_break units these here fault breaks) (stops_at_end units) (until_run breaks.stand) (from_run whole) in
          let at = same.at in
          let inside = breaks.inside in
          omega arith;
    }

-- ---- one behind the other

begins_at : (units : List ℕ) (at end : ℕ) (placed : List Placed) → Run units at placed end → (first : Placed) → slice_get placed 0 ≡ Some first → first.at ≡ at
begins_at units at end [] Run.none first e = absurd cc
begins_at units at end (this ∷ rest) (Run.next h d run) first e =
    let same : this ≡ first = cc in
    sym (ap (λ (placed : Placed). placed.at) same)

follow_on : (units : List ℕ) (at end : ℕ) (placed : List Placed) → Run units at placed end →
    (number : ℕ) (this behind : Placed) → slice_get placed number ≡ Some this → slice_get placed (suc number) ≡ Some behind → behind.at ≡ this.at + this.units
follow_on units at end [] Run.none number this behind e f = absurd cc
follow_on units at end (one ∷ rest) (Run.next {size = size} h d run) zero this behind e f =
    let same : one ≡ this = cc in
    begins_at units (at + size) end rest run behind f ∙ ap (λ (placed : Placed). placed.at + placed.units) same
follow_on units at end (one ∷ rest) (Run.next {size = size} h d run) (suc number) this behind e f = follow_on units (at + size) end rest run number this behind e f

pub ends_behind : (units : List ℕ) (at end : ℕ) (placed : List Placed) → Run units at placed end → at ≤ end
ends_behind units at end [] Run.none = omega arith
ends_behind units at end (one ∷ rest) (Run.next {size = size} h d run) =
    let behind = ends_behind units (at + size) end rest run in
    omega arith

takes_units : (units : List ℕ) (at end : ℕ) (placed : List Placed) → Run units at placed end →
    (number : ℕ) (this : Placed) → slice_get placed number ≡ Some this → (0 < this.units) × (this.at + this.units ≤ end)
takes_units units at end [] Run.none number this e = absurd cc
takes_units units at end (one ∷ rest) (Run.next {size = size} {insn = insn} h d run) zero this e =
    let same : one ≡ this = cc in
    let taken = decoded_taken units at size insn d in
    let behind = ends_behind units (at + size) end rest run in
    subst (λ (placed : Placed). (0 < placed.units) × (placed.at + placed.units ≤ end)) same (taken.0, behind)
takes_units units at end (one ∷ rest) (Run.next {size = size} h d run) (suc number) this e = takes_units units (at + size) end rest run number this e

ends_at : (units : List ℕ) (at end : ℕ) (placed : List Placed) → Run units at placed end →
    (number : ℕ) (last : Placed) → slice_get placed number ≡ Some last → slice_get placed (suc number) ≡ None → last.at + last.units ≡ end
ends_at units at end [] Run.none number last e f = absurd cc
ends_at units at end (one ∷ []) (Run.next {size = size} h d Run.none) zero last e f =
    let same : one ≡ last = cc in
    sym (ap (λ (placed : Placed). placed.at + placed.units) same)
ends_at units at end (one ∷ two ∷ rest) (Run.next {size = size} h d run) zero last e f = absurd cc
ends_at units at end (one ∷ rest) (Run.next {size = size} h d run) (suc number) last e f = ends_at units (at + size) end rest run number last e f

ends_empty : (units : List ℕ) (at end : ℕ) (placed : List Placed) → Run units at placed end → placed ≡ [] → end ≡ at
ends_empty units at end [] Run.none e = refl
ends_empty units at end (one ∷ rest) run e = absurd cc

pub instructions_laid_out : InstructionsLaidOut
instructions_laid_out units placed whole =
    let run = from_run whole in
    let end = length units in
    record {
      begins = λ first e. begins_at units 0 end placed run first e;
      follows = λ number this behind e f. follow_on units 0 end placed run number this behind e f;
      takes = λ number this e. (takes_units units 0 end placed run number this e).0;
      within = λ number this e. (takes_units units 0 end placed run number this e).1;
      ends = λ number last e f. ends_at units 0 end placed run number last e f;
      empty = λ e. ends_empty units 0 end placed run e;
    }

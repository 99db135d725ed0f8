-- The laws of what bytes spell: each function gives what the relation says, and nothing else is spelled.
use Rattle.std.specs.Prelude.{◌≡◌, ◌≢◌, ◌↔◌, ℕ, ◌+◌, ◌<◌, ◌≤◌, List, [], length, drop, Some, None, Ok, Err, ℤ}
use Rattle.cc_meaning_dex.specs.Leb128.{SpellsUleb, SpellsSleb, uleb_at, sleb_at}
use Rattle.cc_meaning.specs.declared.fault.TextFault.{TextFault}
use Rattle.cc_meaning.specs.declared.fault.TextFault.TheVariants.{CutOff, BadForm, BadCount, Memory}
use Rattle.cc_meaning_dex.specs.Mutf8.{SpellsMutf8, FormsStand, IsCut, IsNoForm, front_of, behind_unit, text_of, mutf8_at}
use Rattle.cc_meaning_dex.specs.Texts.{SpellsText, text_at}

abbrev pub UlebAgrees : Type 0
UlebAgrees = (bytes : List ℕ) (at n next : ℕ) → (uleb_at bytes at ≡ Ok (n, next)) ↔ SpellsUleb bytes at n next

abbrev pub SlebAgrees : Type 0
SlebAgrees = (bytes : List ℕ) (at : ℕ) (n : ℤ) (next : ℕ) → (sleb_at bytes at ≡ Ok (n, next)) ↔ SpellsSleb bytes at n next

abbrev pub Mutf8Agrees : Type 0
Mutf8Agrees = (bytes : List ℕ) (at : ℕ) (units : List ℕ) (next : ℕ) →
    (mutf8_at bytes at (length units) ≡ Ok (units, next)) ↔ SpellsMutf8 bytes at units next

abbrev pub TextAgrees : Type 0
TextAgrees = (file : List ℕ) (at : ℕ) (units : List ℕ) → (text_at file at ≡ Some units) ↔ SpellsText file at units

-- a text that is read has that many units, and no reading fails for want of memory: that fault is left to those who keep the text
pub record Mutf8Answers : Type 0 where
  pub counted : (bytes : List ℕ) (at count : ℕ) (units : List ℕ) (next : ℕ) → mutf8_at bytes at count ≡ Ok (units, next) → length units ≡ count
  pub faults : (bytes : List ℕ) (at count : ℕ) → mutf8_at bytes at count ≢ Err Memory

-- what stands in front is at fault exactly where it is a form that is cut, or no form
pub record FrontFaults : Type 0 where
  pub cut : (at : ℕ) (bytes : List ℕ) → (front_of at bytes ≡ Err CutOff) ↔ IsCut bytes
  pub bad : (at : ℕ) (bytes : List ℕ) → (front_of at bytes ≡ Err (BadForm at)) ↔ IsNoForm bytes

-- each fault of a text comes exactly where the forms of some units stand from `at` on, and behind them stands a form that is cut, or no form;
-- and a wrong count exactly where a text of another number of units stands
pub record TextFaults : Type 0 where
  pub cut : (bytes : List ℕ) (at count : ℕ) →
      (mutf8_at bytes at count ≡ Err CutOff) ↔ ((units : List ℕ) × (place : ℕ) × FormsStand bytes at units place × IsCut (drop place bytes))
  pub bad : (bytes : List ℕ) (at count place : ℕ) →
      (mutf8_at bytes at count ≡ Err (BadForm place)) ↔ ((units : List ℕ) × FormsStand bytes at units place × IsNoForm (drop place bytes))
  pub count : (bytes : List ℕ) (at count : ℕ) →
      (mutf8_at bytes at count ≡ Err BadCount) ↔ ((units : List ℕ) × (next : ℕ) × SpellsMutf8 bytes at units next × (length units ≢ count))

-- a text is read form by form, by what stands in front
pub record TextSteps : Type 0 where
  pub fails : (at : ℕ) (bytes : List ℕ) (fault : TextFault) → front_of at bytes ≡ Err fault → text_of at bytes ≡ Err fault
  pub ends : (at : ℕ) (bytes : List ℕ) → front_of at bytes ≡ Ok None → text_of at bytes ≡ Ok ([], at + 1)
  pub stands : (at : ℕ) (bytes : List ℕ) → front_of at bytes ≡ Ok None → 0 < length bytes
  pub goes_on : (at : ℕ) (bytes : List ℕ) (u n : ℕ) → front_of at bytes ≡ Ok (Some (u, n)) → text_of at bytes ≡ behind_unit u (text_of (at + n) (drop n bytes))
  pub faults : (at : ℕ) (bytes : List ℕ) → text_of at bytes ≢ Err Memory
  pub some : (at : ℕ) (bytes : List ℕ) (u n : ℕ) → front_of at bytes ≡ Ok (Some (u, n)) → 0 < n
  pub fits : (at : ℕ) (bytes : List ℕ) (u n : ℕ) → front_of at bytes ≡ Ok (Some (u, n)) → n ≤ length bytes

-- at one place stands at most one number
abbrev pub OneUleb : Type 0
OneUleb = (bytes : List ℕ) (at m n here there : ℕ) → SpellsUleb bytes at m here → SpellsUleb bytes at n there → (m ≡ n) × (here ≡ there)

-- at one place stands at most one text item
abbrev pub OneText : Type 0
OneText = (file : List ℕ) (at : ℕ) (these those : List ℕ) → SpellsText file at these → SpellsText file at those → these ≡ those

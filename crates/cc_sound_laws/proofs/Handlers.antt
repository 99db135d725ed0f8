-- Which handler takes an exception, and which instructions start a class.
use Rattle.std.proofs.Common.{◌≡◌, ℕ, zero, suc, Bool, true, false, cond, List, [], ◌∷◌, Option, Some, None, refl, slice_get}
use Rattle.std.specs.Prelude.{Contains}
use Rattle.cc_meaning.specs.declared.instruction.Insn.{Insn}
use Rattle.cc_meaning.specs.declared.instruction.Insn.TheVariants as insn
use Rattle.cc_meaning.specs.declared.program.Catch.{Catch}
use Rattle.cc_meaning.specs.declared.program.DexType.{DexType}
use Rattle.cc_meaning.specs.declared.program.Program.{Program}
use Rattle.cc_meaning_typing.specs.Types.{held, IsBelow}
use Rattle.cc_meaning_typing.specs.Code.{throwable_type, can_throw}
use Rattle.cc_meaning_typing.specs.Rules.{caught_type}
use Rattle.cc_meaning_exec.specs.Exceptions.{takes, handler_in}
use Rattle.cc_meaning_exec.specs.Starts.{is_of_file_in, if_of_file, class_named_in, class_needed, climbed, climb_up}
use Rattle.cc_meaning_fits.specs.Premises.{IsLinked}
use Rattle.cc_sound_laws.proofs.Lists.{contains_head, contains_tail}
use Rattle.cc_sound_laws.proofs.Casts.{passes_below}

-- a handler that takes a type, at an address
pub record Handler (p : Program) (cs : List Catch) (type : DexType) (at : ℕ) : Type 0 where
  pub catch : Catch
  pub among : Contains cs catch
  pub is : catch.at ≡ at
  pub takes_it : takes p catch.kind type ≡ true

handler_if : (p : Program) (c : Catch) (cs : List Catch) (type : DexType) (at : ℕ) (b : Bool) → takes p c.kind type ≡ b → cond b (Some c.at) (handler_in p cs type) ≡ Some at → (handler_in p cs type ≡ Some at → Handler p cs type at) → Handler p (c ∷ cs) type at
handler_if p c cs type at true t e ih = record { catch = c; among = contains_head c cs; is = cc; takes_it = t }
handler_if p c cs type at false t e ih = let x = ih e in record { catch = x.catch; among = contains_tail x.catch c cs x.among; is = x.is; takes_it = x.takes_it }

pub handler_found : (p : Program) (cs : List Catch) (type : DexType) (at : ℕ) → handler_in p cs type ≡ Some at → Handler p cs type at
unfolding handler_in
handler_found p [] type at e = absurd (cc)
handler_found p (c ∷ cs) type at e = handler_if p c cs type at (takes p c.kind type) refl e (handler_found p cs type at)

-- an exception that a handler takes is below the handler's type
pub taken_below : (p : Program) (linked : IsLinked p) (kind : Option DexType) (type : DexType) → takes p kind type ≡ true → IsBelow p (held p type) (throwable_type p) → IsBelow p (held p type) (caught_type p kind)
unfolding takes caught_type
taken_below p linked None type e b = b
taken_below p linked (Some named) type e b = passes_below p linked false type named e

-- ---- starts

-- an instruction that names a class to start can throw
named_throw : (p : Program) (i : Insn) (class : ℕ) → class_named_in p (Some i) ≡ Some class → can_throw i ≡ true
unfolding class_named_in can_throw
named_throw p (insn.NewInstance to named) class e = refl
named_throw p (insn.StaticGet k to field) class e = refl
named_throw p (insn.StaticPut k from field) class e = refl
named_throw p (insn.Invoke h named args) class e = refl
named_throw p i class e = absurd (cc)

pub needed_throw : (p : Program) (i : Insn) (class : ℕ) → class_needed p (Some i) ≡ Some class → can_throw i ≡ true
unfolding class_needed if_of_file
needed_throw p i class e = by (class_named_in p (Some i)) refl e
  where
    by : (x : Option ℕ) → class_named_in p (Some i) ≡ x → if_of_file p x ≡ Some class → can_throw i ≡ true
    by None q e = absurd (cc)
    by (Some c) q e = named_throw p i c q

-- where no class is to be started, climbing finds none
pub climbs_none : (p : Program) (n : ℕ) (statuses : List ℕ) → climb_up p n None [] statuses ≡ climbed [] statuses false
unfolding climb_up
climbs_none p zero statuses = refl
climbs_none p (suc n) statuses = refl

-- The methods of a plain file's class, in the order in which the class data lists them.
use Rattle.std.specs.Prelude.{◌≡◌, ◌⊎◌, ℕ, List, [], ◌∷◌, map, Option, Some, None}
use Rattle.std.specs.List.Sorted.{IsPermutation}
use Rattle.cc_meaning.specs.Order.{IsRising}
use Rattle.cc_meaning_plain.specs.declared.plain.Member.{Member}
use Rattle.cc_meaning_plain.specs.declared.plain.PlainFunction.{PlainFunction}
use Rattle.cc_meaning_plain.specs.declared.plain.Plain.{Plain}
use Rattle.cc_meaning_plain.specs.Names.{IsMain}
use Rattle.cc_meaning_plain.specs.Code.{Scope, IsOfMain, IsPlainCode}
use Rattle.cc_meaning_plain.specs.Plain.{IsStaticCode, IsFunctionMember, name_of, scope_of}

-- A function calls none, so it can be told by itself.
abbrev pub alone : List ℕ → Scope
alone class = record { class = class; functions = [] }

-- a method of the class is a static `main`, whatever its code
pub record IsCalledMain (file class : List ℕ) (member : Member) : Type 0 where
  pub static : IsStaticCode member.flags
  pub named : IsMain file class member.method

-- each of these methods is the `main`, if there is one, or the next of these functions
abbrev pub AreMethods : List ℕ → List ℕ → List Member → Option Member → List PlainFunction → Type 0
AreMethods file class [] main functions = (main ≡ None) × (functions ≡ [])
AreMethods file class (m ∷ ms) main functions =
    (IsCalledMain file class m × (main ≡ Some m) × AreMethods file class ms None functions)
    ⊎ ((f : PlainFunction) × (fs : List PlainFunction) × (functions ≡ f ∷ fs) × IsFunctionMember file (alone class) m f × AreMethods file class ms main fs)

-- these are the methods of a plain file, told one by one
pub record ListsMethods (file : List ℕ) (members : List Member) (plain : Plain) : Type 0 where
  pub main : Member
  pub functions : List PlainFunction
  pub methods : AreMethods file plain.class members (Some main) functions
  pub returns : IsOfMain plain.main.last
  pub code : IsPlainCode file (scope_of plain) main.code_at plain.main
  pub same : IsPermutation functions plain.functions
  pub in_order : IsRising (map name_of plain.functions)

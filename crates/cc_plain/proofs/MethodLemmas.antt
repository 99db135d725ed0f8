-- The reader of methods: each is the `main` or a function, and one is the `main`.
use Rattle.std.proofs.Common.{◌≡◌, inl, inr, ℕ, zero, suc, ◌+◌, ◌<◌, true, false, List, [], ◌∷◌, ◌++◌, length, get_or, take, map, Option, Some, None, refl, ap, subst, sym, ◌∙◌, arith}
use Rattle.std.specs.Option.{is_some}
use Rattle.std.proofs.lemmas.List.{take_more}
use Rattle.cc_meaning.specs.Order.{IsRising}
use Rattle.cc_meaning_plain.specs.declared.plain.Member.{Member}
use Rattle.cc_meaning_plain.specs.declared.plain.PlainFunction.{PlainFunction}
use Rattle.cc_meaning_plain.specs.Names.{IsFunction}
use Rattle.cc_meaning_plain.specs.Plain.{IsOrdinaryName, IsFunctionMember, name_of}
use Rattle.cc_meaning_plain.specs.Methods.{alone, IsCalledMain, AreMethods}
use Rattle.cc_meaning_plain.specs.Laws.{NameOnce, MainIsNoFunction, MethodsOnce}
use Rattle.cc_plain.specs.declared.kind.Known.{Known}
use Rattle.cc_plain.specs.Code.{scope_in}

-- ---- a function

pub none_rise : (functions : List PlainFunction) → functions ≡ [] → IsRising (map name_of functions)
none_rise functions none = subst (λ (fs : List PlainFunction). IsRising (map name_of fs)) (sym none) (λ i j d below within. absurd (omega arith))

pub scope_alone : (known : Known) → known.functions ≡ [] → scope_in known ≡ alone known.class
scope_alone known none = ap (λ (fs : List PlainFunction). record { class = known.class; functions = map name_of fs }) none

pub no_ordinary : NameOnce → (file class : List ℕ) (m : Member) (name : List ℕ) (f : PlainFunction) → IsFunction file class m.method name → (IsOrdinaryName name → ⊥) →
    IsFunctionMember file (alone class) m f → ⊥
no_ordinary names file class m name f named other h = other (subst IsOrdinaryName (names file class m.method f.name name h.named named) h.ordinary)

-- ---- one more method

pub main_more : (file class : List ℕ) (ms : List Member) (m : Member) (main : Option Member) (fs : List PlainFunction) → main ≡ None → AreMethods file class ms main fs → IsCalledMain file class m →
    AreMethods file class (ms ++ m ∷ []) (Some m) fs
main_more file class [] m main fs none h called = inl (called, refl, (refl, h.1))
main_more file class (x ∷ xs) m main fs none (inl h) called = absurd (let e = sym none ∙ h.1 in cc)
main_more file class (x ∷ xs) m main fs none (inr h) called = inr (h.0, h.1, h.2, h.3, main_more file class xs m main h.1 none h.4 called)

pub function_more : (file class : List ℕ) (ms : List Member) (m : Member) (main : Option Member) (fs : List PlainFunction) (f : PlainFunction) → AreMethods file class ms main fs →
    IsFunctionMember file (alone class) m f → AreMethods file class (ms ++ m ∷ []) main (fs ++ f ∷ [])
function_more file class [] m main fs f h is = inr (f, [], ap (λ xs. xs ++ f ∷ []) h.1, is, (h.0, refl))
function_more file class (x ∷ xs) m main fs f (inl h) is = inl (h.0, h.1, function_more file class xs m None fs f h.2 is)
function_more file class (x ∷ xs) m main fs f (inr h) is = inr (h.0, h.1 ++ f ∷ [], ap (λ xs. xs ++ f ∷ []) h.2, h.3, function_more file class xs m main h.1 f h.4 is)

-- ---- where the methods are none of a plain file

-- one that is neither
pub no_method : (file class : List ℕ) (ms : List Member) (k : ℕ) (d : Member) (main : Option Member) (fs : List PlainFunction) → k < length ms →
    (IsCalledMain file class (get_or ms k d) → ⊥) → ((f : PlainFunction) → IsFunctionMember file (alone class) (get_or ms k d) f → ⊥) → AreMethods file class ms main fs → ⊥
no_method file class [] k d main fs within no_main no_function h = omega arith
no_method file class (x ∷ xs) zero d main fs within no_main no_function (inl h) = no_main h.0
no_method file class (x ∷ xs) zero d main fs within no_main no_function (inr h) = no_function h.0 h.3
no_method file class (x ∷ xs) (suc k) d main fs within no_main no_function (inl h) = no_method file class xs k d None fs (omega arith) no_main no_function h.2
no_method file class (x ∷ xs) (suc k) d main fs within no_main no_function (inr h) = no_method file class xs k d main h.1 (omega arith) no_main no_function h.4

main_behind : MainIsNoFunction → (file class : List ℕ) (ms : List Member) (k : ℕ) (d : Member) (main : Option Member) (fs : List PlainFunction) → main ≡ None → k < length ms →
    IsCalledMain file class (get_or ms k d) → AreMethods file class ms main fs → ⊥
main_behind other file class [] k d main fs none within called h = omega arith
main_behind other file class (x ∷ xs) k d main fs none within called (inl h) = absurd (let e = sym none ∙ h.1 in cc)
main_behind other file class (x ∷ xs) zero d main fs none within called (inr h) = other file class x.method h.0.name called.named h.3.named
main_behind other file class (x ∷ xs) (suc k) d main fs none within called (inr h) = main_behind other file class xs k d main h.1 none (omega arith) called h.4

-- a second `main`
pub two_mains : MainIsNoFunction → (file class : List ℕ) (ms : List Member) (k : ℕ) (d : Member) (first main : Option Member) (fs gs : List PlainFunction) → is_some first ≡ true →
    k < length ms → IsCalledMain file class (get_or ms k d) → AreMethods file class (take k ms) first fs → AreMethods file class ms main gs → ⊥
two_mains other file class [] k d first main fs gs some within called a b = omega arith
two_mains other file class (x ∷ xs) zero d first main fs gs some within called a b = absurd (let e = ap is_some a.0 in cc)
two_mains other file class (x ∷ xs) (suc k) d first main fs gs some within called (inl a) (inl b) = main_behind other file class xs k d None gs refl (omega arith) called b.2
two_mains other file class (x ∷ xs) (suc k) d first main fs gs some within called (inl a) (inr b) = other file class x.method b.0.name a.0.named b.3.named
two_mains other file class (x ∷ xs) (suc k) d first main fs gs some within called (inr a) (inl b) = other file class x.method a.0.name b.0.named a.3.named
two_mains other file class (x ∷ xs) (suc k) d first main fs gs some within called (inr a) (inr b) = two_mains other file class xs k d first main a.1 b.1 some (omega arith) called a.4 b.4

pub none_of : (main : Option Member) → is_some main ≡ false → main ≡ None
none_of None e = refl
none_of (Some m) e = absurd cc

-- no `main` at all
pub no_main : MethodsOnce → (file class : List ℕ) (ms : List Member) (main : Member) (fs gs : List PlainFunction) → AreMethods file class ms None fs → AreMethods file class ms (Some main) gs → ⊥
no_main once file class ms main fs gs a b = absurd (let e = (once file class ms None (Some main) fs gs a b).0 in cc)

-- ---- the loop

pub main_step : (file class : List ℕ) (ms : List Member) (k : ℕ) (d : Member) (main main' : Option Member) (fs fs' : List PlainFunction) → k < length ms → is_some main ≡ false →
    IsCalledMain file class (get_or ms k d) → AreMethods file class (take k ms) main fs → main' ≡ Some (get_or ms k d) → fs' ≡ fs → AreMethods file class (take (k + 1) ms) main' fs'
main_step file class ms k d main main' fs fs' within none called h m f =
    rw (m, f, take_more ms k d within) (main_more file class (take k ms) (get_or ms k d) main fs (none_of main none) h called)

pub function_step : (file class : List ℕ) (ms : List Member) (k : ℕ) (d : Member) (main main' : Option Member) (fs fs' : List PlainFunction) (g : PlainFunction) → k < length ms →
    IsFunctionMember file (alone class) (get_or ms k d) g → AreMethods file class (take k ms) main fs → main' ≡ main → fs' ≡ fs ++ g ∷ [] → AreMethods file class (take (k + 1) ms) main' fs'
function_step file class ms k d main main' fs fs' g within is h m f =
    rw (m, f, take_more ms k d within) (function_more file class (take k ms) (get_or ms k d) main fs g h is)

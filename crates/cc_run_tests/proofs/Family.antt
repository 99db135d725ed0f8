-- The small program is a hierarchy.
use Rattle.std.proofs.Common.{◌≡◌, ℕ, zero, suc, ◌<◌, refl, arith}
use Rattle.cc_meaning.specs.BuiltIn.{object_name}
use Rattle.cc_meaning_typing.specs.Hierarchy.{on_value, superclass_in, superclass_of, object_class, climb, IsHierarchy}
use Rattle.cc_run_tests.specs.Family.{family}

leads : (class : ℕ) → class < 6 → climb family 6 class ≡ object_class family
unfolding on_value superclass_in superclass_of object_class climb object_name
leads zero l = refl
leads (suc zero) l = refl
leads (suc (suc zero)) l = refl
leads (suc (suc (suc zero))) l = refl
leads (suc (suc (suc (suc zero)))) l = refl
leads (suc (suc (suc (suc (suc zero))))) l = refl
leads (suc (suc (suc (suc (suc (suc n)))))) l = absurd (omega arith)

pub family_leads : IsHierarchy family
unfolding on_value superclass_in superclass_of object_class climb object_name
family_leads = record { object = refl; top = refl; leads = leads }

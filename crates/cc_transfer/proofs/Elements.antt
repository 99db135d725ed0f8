-- Registers that hold arrays.
use Rattle.std.proofs.Common.{◌≡◌, ℕ, zero, suc, true, refl, sym, ◌∙◌, ap, subst, inl, inr}
use Rattle.cc_meaning.specs.declared.program.Base.{Base}
use Rattle.cc_meaning.specs.declared.program.DexType.{DexType}
use Rattle.cc_meaning.specs.declared.program.RegType.TheVariants.{Reference}
use Rattle.cc_meaning_typing.specs.declared.state.State.{State}
use Rattle.cc_meaning_typing.specs.Types.{typed, array_of, fewer}
use Rattle.cc_meaning_typing.specs.States.{register_at}
use Rattle.cc_meaning_typing.specs.Code.{is_array_of, is_array, element_of}
use Rattle.cc_meaning_typing.specs.Rules.{HoldsArray}

array_of_dims : (dims : ℕ) (base : Base) → is_array_of dims ≡ true → typed (suc (fewer dims)) base ≡ typed dims base
unfolding is_array_of fewer
array_of_dims zero base t = absurd cc
array_of_dims (suc dims) base t = refl

array_of_element : (type : DexType) → is_array type ≡ true → array_of (element_of type) ≡ type
unfolding is_array element_of
array_of_element type t = array_of_dims type.dims type.base t

element_of_array : (type : DexType) → element_of (array_of type) ≡ type
unfolding element_of fewer
element_of_array type = refl

array_is_array : (type : DexType) → is_array (array_of type) ≡ true
unfolding is_array is_array_of
array_is_array type = refl

module _ (s : State) (r : ℕ) (type : DexType) (P : DexType → Type 0) (known : register_at s.registers r ≡ Reference type) where
  pub array_holds : is_array type ≡ true → P (element_of type) → HoldsArray s r P
  array_holds t p = inr (element_of type, known ∙ ap Reference (sym (array_of_element type t)), p)

  pub array_held : HoldsArray s r P → (is_array type ≡ true) × P (element_of type)
  array_held (inl e) = absurd cc
  array_held (inr h) =
      let e : array_of h.0 ≡ type = let f = h.1 in cc in
      (ap is_array (sym e) ∙ array_is_array h.0, subst P (sym (element_of_array h.0) ∙ ap element_of e) h.2)

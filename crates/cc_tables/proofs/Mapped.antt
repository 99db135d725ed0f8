-- What is in order by the keys of what things are mapped to.
use Rattle.std.proofs.Common.{◌≡◌, Ok, Err, Result, List, ℕ, map, sym, subst, arith}
use Rattle.std.specs.Prelude.{Contains, IfOk}
use Rattle.std.proofs.lemmas.List.{length-map}
use Rattle.std.proofs.lemmas.Simd.{map-map}
use Rattle.cc_meaning.specs.Order.{IsRising}
use Rattle.cc_names.specs.InOrder.{AreInOrder}
use Rattle.cc_names.proofs.Ordered.{contains_mapped, mapped_from}

pub in_order_mapped : {A B : Type 0} (key : B → List ℕ) (f : A → B) (given sorted : List A) → AreInOrder (λ x. key (f x)) given sorted → AreInOrder key (map f given) (map f sorted)
in_order_mapped {A} {B} key f given sorted are = record {
  rise = subst IsRising (sym (map-map key f sorted)) are.rise;
  among = λ item here. let (x, there, is) = mapped_from f sorted item here in subst (Contains (map f given)) is (contains_mapped f given x (are.among x there));
  named = λ item here.
      let (x, there, is) = mapped_from f given item here in
      let named : Contains (map key (map f sorted)) (key (f x)) = subst (λ names. Contains names (key (f x))) (sym (map-map key f sorted)) (are.named x there) in
      subst (λ y. Contains (map key (map f sorted)) (key y)) is named;
  few = omega (arith, are.few, length-map given f, length-map sorted f);
}

-- what holds of a value holds of an answer that is the value
pub ok_copied : {A E : Type 0} (P : A → Type 0) (made : A) → P made → (result : Result A E) → IfOk result (λ all. all ≡ made) → IfOk result P
ok_copied P made holds (Ok all) same = subst P (sym same) holds
ok_copied P made holds (Err error) same = tt

-- what holds of an answer's value holds of it in other words
pub ok_weaker : {A E : Type 0} (P Q : A → Type 0) → ((x : A) → P x → Q x) → (result : Result A E) → IfOk result P → IfOk result Q
ok_weaker P Q weaker (Ok x) holds = weaker x holds
ok_weaker P Q weaker (Err error) holds = tt

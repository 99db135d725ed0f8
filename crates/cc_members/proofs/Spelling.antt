-- Types that spell texts, and bodies that are read.
use Rattle.std.proofs.Common.{◌≡◌, ◌⊎◌, inl, inr, ℕ, List, map, Option, Some, None, subst}
use Rattle.cc_bodies.specs.Bodies.{IsBody}
use Rattle.cc_meaning.specs.declared.file.RawCode.{RawCode}
use Rattle.cc_meaning.specs.declared.program.DexType.{DexType}
use Rattle.cc_meaning.specs.declared.program.Placed.{Placed}
use Rattle.cc_meaning_program.specs.Instructions.{AreInstructions}
use Rattle.cc_meaning_program.specs.TypeNames.{IsTypeOf}
use Rattle.cc_meaning_program.specs.Members.{Pairs, ResultSpelled}
use Rattle.cc_members.specs.MadeMethods.{IsSpelled}

-- pairs with their sides changed
pub flipped : {A B C : Type 0} (holds : B → C → Type 0) (f : A → C) (xs : List A) (ys : List B) → Pairs (λ x y. holds y (f x)) xs ys → Pairs holds ys (map f xs)
flipped holds f _ _ Pairs.none = Pairs.none
flipped holds f _ _ (Pairs.next {xs = xs} {ys = ys} first rest) = Pairs.next first (flipped holds f xs ys rest)

-- a result that is none is that of V, where the text is V's or is spelled
pub result_spelled : (names : List (List ℕ)) (text : List ℕ) (found : Option DexType) → IsTypeOf names text found → ResultSpelled names None text ⊎ IsSpelled names text → ResultSpelled names found text
result_spelled names text None is (inl void) = void
result_spelled names text None is (inr (ty, spells)) = absurd (is ty spells)
result_spelled names text (Some ty) is either = is

-- what is read of a code are its instructions
pub body_read : (code : Option RawCode) (taken : Option (List Placed)) → IsBody code taken → (units : RawCode) (insns : List Placed) → code ≡ Some units → taken ≡ Some insns → AreInstructions units.units insns
body_read None taken is units insns e f = absurd (cc)
body_read (Some code) None is units insns e f = absurd (cc)
body_read (Some code) (Some placed) is units insns e f =
    let one : code ≡ units = cc in
    let two : placed ≡ insns = cc in
    subst (λ (c : RawCode). AreInstructions c.units insns) one (subst (AreInstructions code.units) two is)

-- The first class that isn't spelled has one fault.
use Rattle.std.proofs.Common.{◌≡◌, ◌⊎◌, inl, inr, ℕ, zero, suc, ◌<◌, List, [], ◌∷◌, Some, refl, sym, ap, ◌∙◌, subst, arith}
use Rattle.std.specs.Prelude.{slice_get}
use Rattle.cc_meaning.specs.declared.fault.DexFault.{DexFault}
use Rattle.cc_meaning.specs.declared.fault.DexFault.TheVariants as fault
use Rattle.cc_meaning.specs.declared.file.ClassRow.{ClassRow}
use Rattle.cc_meaning.specs.declared.file.Ids.{Ids}
use Rattle.cc_meaning.specs.declared.file.RawClass.{RawClass}
use Rattle.cc_meaning_dex.specs.declared.items.Members.{Members}
use Rattle.cc_meaning_dex.specs.declared.items.StatedMethod.{StatedMethod}
use Rattle.cc_meaning_dex.specs.Causes.{IsFirstWithout, EachIs, IsSpelled, LacksCode, LacksTries, IsCause, IsFirstCause}
use Rattle.cc_meaning_dex.specs.Classes.{EachPair, SpellsClass, SpellsClasses}
use Rattle.cc_meaning_dex.specs.CodeItems.{HasSoundCode}
use Rattle.cc_meaning_dex.specs.ClassLaws.{MembersAgree}
use Rattle.cc_meaning_dex.specs.Members.{SpellsMembers}

some_same : {A : Type 0} (x y : A) → Some x ≡ Some y → x ≡ y
some_same x y e = cc

order : (a b : ℕ) → (a ≡ b) ⊎ ((a < b) ⊎ (b < a))
order zero zero = inl refl
order zero (suc b) = inr (inl (omega arith))
order (suc a) zero = inr (inr (omega arith))
order (suc a) (suc b) = grind (arith, order a b)

-- the first item that isn't so is one, at one place
one_place : {A : Type 0} (is_so : A → Type 0) (items : List A) (k l : ℕ) (x y : A) → IsFirstWithout is_so items k x → IsFirstWithout is_so items l y → k ≡ l
one_place is_so items k l x y one other = by (order k l)
  where
    by : (k ≡ l) ⊎ ((k < l) ⊎ (l < k)) → k ≡ l
    by (inl same) = same
    by (inr (inl before)) = absurd (one.lacks (other.before k x before one.there))
    by (inr (inr before)) = absurd (other.lacks (one.before l y before other.there))

one_item : {A : Type 0} (is_so : A → Type 0) (items : List A) (k l : ℕ) (x y : A) → IsFirstWithout is_so items k x → IsFirstWithout is_so items l y → x ≡ y
one_item is_so items k l x y one other =
    some_same x y (sym one.there ∙ (ap (slice_get items) (one_place is_so items k l x y one other) ∙ other.there))

module _ (file : List ℕ) (ids : Ids) where
  -- where code is lacking, not all have it
  code_lacks : (methods : List StatedMethod) (row : ℕ) → LacksCode file ids methods row → EachIs (HasSoundCode file ids) methods → ⊥
  code_lacks methods row lacks each = lacks.first.lacks (each lacks.place lacks.method lacks.first.there)

  tries_lack : (methods : List StatedMethod) (row : ℕ) → LacksTries file ids methods row → EachIs (IsSpelled file ids) methods → ⊥
  tries_lack methods row lacks each = lacks.first.lacks (each lacks.place lacks.method lacks.first.there)

  one_code : (methods : List StatedMethod) (row other : ℕ) → LacksCode file ids methods row → LacksCode file ids methods other → row ≡ other
  one_code methods row other one two =
      sym one.named ∙ (ap (λ (method : StatedMethod). method.row) (one_item (HasSoundCode file ids) methods one.place two.place one.method two.method one.first two.first) ∙ two.named)

  one_tries : (methods : List StatedMethod) (row other : ℕ) → LacksTries file ids methods row → LacksTries file ids methods other → row ≡ other
  one_tries methods row other one two =
      sym one.named ∙ (ap (λ (method : StatedMethod). method.row) (one_item (IsSpelled file ids) methods one.place two.place one.method two.method one.first two.first) ∙ two.named)

  module _ (agree : MembersAgree) (number : ℕ) (stated : ClassRow) where
    one_members : (these those : Members) → SpellsMembers file ids stated these → SpellsMembers file ids stated those → those ≡ these
    one_members these those one other =
        some_same those these (sym ((agree file ids stated those).1 other) ∙ (agree file ids stated these).1 one)

    pub one_cause : (f g : DexFault) → IsCause file ids number stated f → IsCause file ids number stated g → f ≡ g
    one_cause (fault.BadClassData a) (fault.BadClassData b) (this, none) (that, nor) = ap fault.BadClassData (this ∙ sym that)
    one_cause (fault.BadClassData a) (fault.BadCode b) (this, none) (members, spelled, lacks) = absurd (none members spelled)
    one_cause (fault.BadClassData a) (fault.BadTry b) (this, none) (members, spelled, lacks) = absurd (none members spelled)
    one_cause (fault.BadClassData a) (fault.BadValue b) (this, none) (that, members, spelled, lacks) = absurd (none members spelled)
    one_cause (fault.BadCode a) (fault.BadClassData b) (members, spelled, lacks) (that, none) = absurd (none members spelled)
    one_cause (fault.BadCode a) (fault.BadCode b) (these, one, lacks) (those, two, lack) =
        ap fault.BadCode (one_code these.methods a b lacks (subst (λ (m : Members). LacksCode file ids m.methods b) (one_members these those one two) lack))
    one_cause (fault.BadCode a) (fault.BadTry b) (these, one, lacks) (those, two, lack) =
        absurd (code_lacks these.methods a lacks (subst (λ (m : Members). EachIs (HasSoundCode file ids) m.methods) (one_members these those one two) lack.sound))
    one_cause (fault.BadCode a) (fault.BadValue b) (these, one, lacks) (that, those, two, lack) =
        absurd (code_lacks these.methods a lacks (subst (λ (m : Members). EachIs (HasSoundCode file ids) m.methods) (one_members these those one two) lack.sound))
    one_cause (fault.BadTry a) (fault.BadClassData b) (members, spelled, lacks) (that, none) = absurd (none members spelled)
    one_cause (fault.BadTry a) (fault.BadCode b) (these, one, lacks) (those, two, lack) =
        absurd (code_lacks those.methods b lack (subst (λ (m : Members). EachIs (HasSoundCode file ids) m.methods) (one_members those these two one) lacks.sound))
    one_cause (fault.BadTry a) (fault.BadTry b) (these, one, lacks) (those, two, lack) =
        ap fault.BadTry (one_tries these.methods a b lacks (subst (λ (m : Members). LacksTries file ids m.methods b) (one_members these those one two) lack))
    one_cause (fault.BadTry a) (fault.BadValue b) (these, one, lacks) (that, those, two, lack) =
        absurd (tries_lack these.methods a lacks (subst (λ (m : Members). EachIs (IsSpelled file ids) m.methods) (one_members these those one two) lack.spelled))
    one_cause (fault.BadValue a) (fault.BadClassData b) (this, members, spelled, lacks) (that, none) = absurd (none members spelled)
    one_cause (fault.BadValue a) (fault.BadCode b) (this, these, one, lacks) (those, two, lack) =
        absurd (code_lacks those.methods b lack (subst (λ (m : Members). EachIs (HasSoundCode file ids) m.methods) (one_members those these two one) lacks.sound))
    one_cause (fault.BadValue a) (fault.BadTry b) (this, these, one, lacks) (those, two, lack) =
        absurd (tries_lack those.methods b lack (subst (λ (m : Members). EachIs (IsSpelled file ids) m.methods) (one_members those these two one) lacks.spelled))
    one_cause (fault.BadValue a) (fault.BadValue b) (this, these, one, lacks) (that, those, two, lack) = ap fault.BadValue (this ∙ sym that)
    one_cause (fault.BadClassData a) g one two = absurd two
    one_cause (fault.BadCode a) g one two = absurd two
    one_cause (fault.BadTry a) g one two = absurd two
    one_cause (fault.BadValue a) g one two = absurd two
    one_cause f g one two = absurd one

  pub one_first_cause : MembersAgree → (f g : DexFault) → IsFirstCause file ids f → IsFirstCause file ids g → f ≡ g
  one_first_cause agree f g one two =
      let IsSo : ClassRow → Type 0 = λ stated. (class : RawClass) × SpellsClass file ids stated class in
      let place = one_place IsSo ids.classes one.number two.number one.stated two.stated one.first two.first in
      let item = one_item IsSo ids.classes one.number two.number one.stated two.stated one.first two.first in
      let cause = subst (λ (s : ClassRow). IsCause file ids two.number s g) (sym item) two.cause in
      one_cause agree one.number one.stated f g one.cause (subst (λ n. IsCause file ids n one.stated g) (sym place) cause)

  each_spelled : (rows : List ClassRow) (classes : List RawClass) → EachPair (SpellsClass file ids) rows classes → (k : ℕ) (stated : ClassRow) → slice_get rows k ≡ Some stated → (class : RawClass) × SpellsClass file ids stated class
  each_spelled [] classes pairs k stated e = absurd cc
  each_spelled (row ∷ rows) [] pairs k stated e = absurd pairs
  each_spelled (row ∷ rows) (class ∷ classes) pairs zero stated e = (class, subst (λ (s : ClassRow). SpellsClass file ids s class) (some_same row stated e) pairs.0)
  each_spelled (row ∷ rows) (class ∷ classes) pairs (suc k) stated e = each_spelled rows classes pairs.1 k stated e

  -- classes that are spelled have none
  pub spelled_has_none : (classes : List RawClass) (f : DexFault) → SpellsClasses file ids classes → IsFirstCause file ids f → ⊥
  spelled_has_none classes f spelled one = one.first.lacks (each_spelled ids.classes classes spelled one.number one.stated one.first.there)

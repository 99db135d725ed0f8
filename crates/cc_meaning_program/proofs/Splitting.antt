-- A whole name falls into class and member in one way, since no descriptor of a class or an array goes on as another.
use Rattle.std.proofs.Common.{◌≡◌, inl, inr, ℕ, zero, suc, Bool, true, false, eqb, ◌&&◌, cond, List, [], ◌∷◌, ◌++◌, refl, sym, ap, ◌∙◌, subst, arith}
use Rattle.std.specs.List.{list_all}
use Rattle.std.proofs.lemmas.Bool.Decides.{nat_tests}
use Rattle.cc_meaning_dex.specs.Descriptors.{is_name_unit, is_primitive, dimensions, IsClassDescriptor, IsValue, IsValueDescriptor}

-- what stands up to the first `;`
unfoldable pub to_semicolon : List ℕ → List ℕ
to_semicolon [] = []
to_semicolon (u ∷ us) = cond (eqb u 59) (u ∷ []) (u ∷ to_semicolon us)

-- the descriptor that a text begins with
unfoldable pub lead : List ℕ → List ℕ
lead [] = []
lead (u ∷ us) = cond (eqb u 91) (u ∷ lead us) (cond (eqb u 76) (u ∷ to_semicolon us) (u ∷ []))

name_unit : (u : ℕ) → is_name_unit u ≡ true → eqb u 59 ≡ false
name_unit u plain = grind (arith, nat_tests)

front : (a b : Bool) → (a && b) ≡ true → a ≡ true
front true b e = refl
front false b e = absurd (cc)

behind : (a b : Bool) → (a && b) ≡ true → b ≡ true
behind true b e = e
behind false b e = absurd (cc)

class_stops : (name rest : List ℕ) → list_all is_name_unit name ≡ true → to_semicolon (name ++ 59 ∷ rest) ≡ name ++ 59 ∷ []
unfolding to_semicolon
class_stops [] rest plain = refl
class_stops (u ∷ us) rest plain =
    let other : eqb u 59 ≡ false = name_unit u (front (is_name_unit u) (list_all is_name_unit us) plain) in
    let on : to_semicolon (us ++ 59 ∷ rest) ≡ us ++ 59 ∷ [] = class_stops us rest (behind (is_name_unit u) (list_all is_name_unit us) plain) in
    rw other (ap (λ xs. u ∷ xs) on)

-- a text that begins with this descriptor begins with no other
abbrev pub Leads : List ℕ → Type 0
Leads name = (rest : List ℕ) → lead (name ++ rest) ≡ name

class_lead : (name rest : List ℕ) → list_all is_name_unit name ≡ true → lead (76 ∷ name ++ 59 ∷ rest) ≡ 76 ∷ name ++ 59 ∷ []
unfolding lead
class_lead name rest plain = ap (λ xs. 76 ∷ xs) (class_stops name rest plain)

joined : (name rest : List ℕ) → (name ++ 59 ∷ []) ++ rest ≡ name ++ 59 ∷ rest
joined [] rest = refl
joined (u ∷ us) rest = ap (λ xs. u ∷ xs) (joined us rest)

class_leads : (name : List ℕ) → IsClassDescriptor name → Leads name
class_leads name is rest =
    subst (λ d. lead (d ++ rest) ≡ d) (sym is.form) (ap lead (joined (76 ∷ is.name) rest) ∙ class_lead is.name rest is.plain)

letter_leads : (u : ℕ) → is_primitive u ≡ true → Leads (u ∷ [])
unfolding lead
letter_leads u is rest =
    let bracket : eqb u 91 ≡ false = grind (arith, nat_tests) in
    let class : eqb u 76 ≡ false = grind (arith, nat_tests) in
    rw bracket (rw class refl)

pub value_leads : (name : List ℕ) → IsValue name → Leads name
value_leads name (inl letter) = subst Leads (sym letter.2) (letter_leads letter.0 letter.1)
value_leads name (inr class) = class_leads name class

array_leads : (dims : ℕ) (base : List ℕ) → Leads base → Leads (dimensions dims ++ base)
unfolding lead
array_leads zero base leads rest = leads rest
array_leads (suc n) base leads rest = ap (λ xs. 91 ∷ xs) (array_leads n base leads rest)

pub descriptor_leads : (name : List ℕ) → IsValueDescriptor name → Leads name
descriptor_leads name is = subst Leads (sym is.form) (array_leads is.dims is.base (value_leads is.base is.value))

-- of two texts with such descriptors in front that are one, the descriptors are one
pub same_lead : (a b : List ℕ) (x y : List ℕ) → Leads a → Leads b → a ++ x ≡ b ++ y → a ≡ b
same_lead a b x y leads also same = sym (leads x) ∙ (ap lead same ∙ also y)

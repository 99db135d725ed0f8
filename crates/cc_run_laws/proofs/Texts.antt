-- What the text of a method's name says of its parameters.
use Rattle.std.proofs.Common.{◌≡◌, ℕ, zero, suc, ◌<◌, Bool, true, false, eqb, cond, List, [], ◌∷◌, ◌++◌, replicate, refl, sym, ap, ◌∙◌, subst, arith}
use Rattle.std.specs.Prelude.{codes, slice_index_or}
use Rattle.std.specs.List.{flat_map}
use Rattle.std.proofs.lemmas.Bool.Decides.{nat_tests}
use Rattle.std.proofs.lemmas.List.{append_assoc, append_cancel_left}
use Rattle.cc_meaning.specs.declared.program.Base.{Base}
use Rattle.cc_meaning.specs.declared.program.Base.TheVariants as base
use Rattle.cc_meaning.specs.declared.program.DexType.{DexType}
use Rattle.cc_meaning.specs.declared.program.Program.{Program}
use Rattle.cc_meaning.specs.Names.{descriptor}
use Rattle.cc_meaning_dex.specs.Descriptors.{begins_with, names_class}
use Rattle.cc_meaning_program.specs.Members.{Pairs}
use Rattle.cc_meaning_program.specs.Resolved.{names_of}
use Rattle.cc_meaning_program.specs.TypeNames.{base_spelled, type_spelled, IsBase, Spells}
use Rattle.cc_meaning_program.proofs.Alike.{descriptor_by_names}
use Rattle.cc_meaning_program.proofs.Splitting.{Leads, same_lead}

-- ---- what stands behind the only `(`

unfoldable pub behind_open : List ℕ → List ℕ
behind_open [] = []
behind_open (u ∷ us) = cond (eqb u 40) us (behind_open us)

unfoldable pub opens : List ℕ → ℕ
opens [] = 0
opens (u ∷ us) = cond (eqb u 40) (suc (opens us)) (opens us)

opens_some : (us rest : List ℕ) → 0 < opens (us ++ 40 ∷ rest)
unfolding opens
opens_some [] rest = omega arith
opens_some (u ∷ us) rest = by (eqb u 40) (opens_some us rest)
  where
    by : (b : Bool) → 0 < opens (us ++ 40 ∷ rest) → 0 < cond b (suc (opens (us ++ 40 ∷ rest))) (opens (us ++ 40 ∷ rest))
    by true more = omega arith
    by false more = more

behind : (name rest : List ℕ) → opens (name ++ 40 ∷ rest) ≡ 1 → behind_open (name ++ 40 ∷ rest) ≡ rest
unfolding opens behind_open
behind [] rest e = refl
behind (u ∷ us) rest e = by (eqb u 40) e (opens_some us rest) (behind us rest)
  where
    by : (b : Bool) → cond b (suc (opens (us ++ 40 ∷ rest))) (opens (us ++ 40 ∷ rest)) ≡ 1 → 0 < opens (us ++ 40 ∷ rest) → (opens (us ++ 40 ∷ rest) ≡ 1 → behind_open (us ++ 40 ∷ rest) ≡ rest) → cond b (us ++ 40 ∷ rest) (behind_open (us ++ 40 ∷ rest)) ≡ rest
    by true e some more = absurd (omega (arith, e, some))
    by false e some more = more e

-- of a text with one `(`, what stands behind it is what stands there
pub split_open : (name rest target : List ℕ) → name ++ 40 ∷ rest ≡ target → opens target ≡ 1 → rest ≡ behind_open target
split_open name rest target e one = sym (behind name rest (ap opens e ∙ one)) ∙ ap behind_open e

-- ---- the descriptors of parameters

apart : false ≡ true → ⊥
apart e = cc

-- no descriptor begins with `)`
record BeginsApart (text : List ℕ) : Type 0 where
  first : ℕ
  others : List ℕ
  is : text ≡ first ∷ others
  apart : eqb first 41 ≡ false

class_apart : (name : List ℕ) → names_class name ≡ true → BeginsApart name
class_apart [] e = absurd cc
class_apart (u ∷ us) e = record { first = u; others = us; is = refl; apart = grind (arith, nat_tests) }

type_apart : (p : Program) (type : DexType) (text : List ℕ) → Spells (names_of p) type text → BeginsApart (descriptor p type)
unfolding type_spelled base_spelled
type_apart p type text s = subst BeginsApart (sym (descriptor_by_names p type)) (by type.dims type.base s.based)
  where
    by : (n : ℕ) (b : Base) → IsBase (names_of p) b → BeginsApart (replicate n 91 ++ base_spelled (names_of p) b)
    by (suc n) b based = record { first = 91; others = replicate n 91 ++ base_spelled (names_of p) b; is = refl; apart = refl }
    by zero base.Boolean based = record { first = 90; others = []; is = refl; apart = refl }
    by zero base.Byte based = record { first = 66; others = []; is = refl; apart = refl }
    by zero base.Short based = record { first = 83; others = []; is = refl; apart = refl }
    by zero base.Char based = record { first = 67; others = []; is = refl; apart = refl }
    by zero base.Int based = record { first = 73; others = []; is = refl; apart = refl }
    by zero base.Long based = record { first = 74; others = []; is = refl; apart = refl }
    by zero (base.Class n) based = class_apart (slice_index_or (names_of p) n []) based

-- parameters whose list ends at once are none
pub no_params : (p : Program) (types : List DexType) (texts : List (List ℕ)) (result : List ℕ) → Pairs (Spells (names_of p)) types texts → begins_with 41 (flat_map (descriptor p) types ++ codes ")" ++ result) ≡ true → types ≡ []
no_params p _ _ result Pairs.none e = refl
no_params p _ _ result (Pairs.next {x = t} {y = text} {xs = types} {ys = texts} s rest) e =
    let b = type_apart p t text s in
    absurd (apart (sym b.apart ∙ (ap (λ d. begins_with 41 (d ++ flat_map (descriptor p) types ++ codes ")" ++ result)) (sym b.is) ∙ e)))

-- one parameter, where the list begins with its descriptor and then ends
pub one_param : (p : Program) (name : List ℕ) (types : List DexType) (texts : List (List ℕ)) (result back : List ℕ) → Leads name → ((text : List ℕ) (rest : List (List ℕ)) → texts ≡ text ∷ rest → Leads text) → begins_with 41 name ≡ false → begins_with 41 back ≡ true → Pairs (Spells (names_of p)) types texts →
    flat_map (descriptor p) types ++ codes ")" ++ result ≡ name ++ back → begins_with 41 (name ++ back) ≡ false → (type : DexType) × (types ≡ type ∷ []) × Spells (names_of p) type name
one_param p name _ _ result back leads all n b Pairs.none e apart_too = absurd (apart (sym apart_too ∙ sym (ap (begins_with 41) e)))
one_param p name _ _ result back leads all n b (Pairs.next {x = t} {y = text} {xs = types} {ys = texts} s rest) e apart_too =
    let d : descriptor p t ≡ text = descriptor_by_names p t ∙ s.spelled in
    let long : text ++ (flat_map (descriptor p) types ++ codes ")" ++ result) ≡ name ++ back =
    sym (ap (λ z. z ++ result) (append_assoc text (flat_map (descriptor p) types) (codes ")")) ∙ append_assoc text (flat_map (descriptor p) types ++ codes ")") result)
    ∙ (ap (λ z. z ++ flat_map (descriptor p) types ++ codes ")" ++ result) (sym d) ∙ e) in
    let same : text ≡ name = same_lead text name (flat_map (descriptor p) types ++ codes ")" ++ result) back (all text texts refl) leads long in
    let behind : flat_map (descriptor p) types ++ codes ")" ++ result ≡ back = append_cancel_left name (flat_map (descriptor p) types ++ codes ")" ++ result) back (ap (λ z. z ++ (flat_map (descriptor p) types ++ codes ")" ++ result)) (sym same) ∙ long) in
    let none = no_params p types texts result rest (ap (begins_with 41) behind ∙ b) in
    (t, ap (λ ts. t ∷ ts) none, subst (Spells (names_of p) t) same s)

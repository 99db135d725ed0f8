-- Parameters fall apart in one way.
use Rattle.std.proofs.Common.{◌≡◌, ◌≢◌, ℕ, true, false, eqb, List, [], ◌∷◌, ◌++◌, length, map, take, drop, refl, sym, ap, subst, ◌∙◌, append_assoc, length-append, arith}
use Rattle.std.specs.Prelude.{All}
use Rattle.std.specs.List.{flat_map}
use Rattle.std.proofs.lemmas.Bool.Decides.{nat_tests}
use Rattle.std.proofs.lemmas.List.{append_cancel_left, take_at, drop_at}
use Rattle.std.proofs.lemmas.List.Elements.{All-head, All-tail}
use Rattle.cc_meaning.specs.declared.file.Ids.{Ids}
use Rattle.cc_meaning_dex.specs.Descriptors.{IsValueDescriptor}
use Rattle.cc_meaning_program.specs.Named.{type_name}
use Rattle.cc_meaning_program.proofs.Splitting.{descriptor_leads, same_lead}
use Rattle.cc_tables.specs.Params.{AreParams, AreTypes, ends_params}
use Rattle.cc_meaning_builder.specs.WellNamed.{IsPrototypeName}
use Rattle.cc_tables.specs.Rows.{IsSplit, TypesRise}
use Rattle.cc_tables.proofs.Leading.{no_close}
use Rattle.cc_tables.proofs.Typed.{names_once}

joined : List (List ℕ) → List ℕ
joined params = flat_map (λ (param : List ℕ). param) params

-- two descriptors of values that begin one text
pub one_front : (this that x y : List ℕ) → IsValueDescriptor this → IsValueDescriptor that → this ++ x ≡ that ++ y → (this ≡ that) × (x ≡ y)
one_front this that x y one other same =
    let front : this ≡ that = same_lead this that x y (descriptor_leads this one) (descriptor_leads that other) same in
    (front, append_cancel_left that x y (sym (ap (λ t. t ++ x) front) ∙ same))

-- the first parameter, and the others
pub first_apart : (param : List ℕ) (params : List (List ℕ)) (after units : List ℕ) → AreParams (param ∷ params) after units →
    IsValueDescriptor param × (units ≡ param ++ (flat_map (λ (p : List ℕ). p) params ++ 41 ∷ after)) × All IsValueDescriptor params
first_apart param params after units are = (
  All-head IsValueDescriptor param params are.values,
  are.form ∙ append_assoc param (flat_map (λ (p : List ℕ). p) params) (41 ∷ after),
  All-tail IsValueDescriptor param params are.values,
)

no_param_closes : (param x y : List ℕ) → IsValueDescriptor param → param ++ x ≡ 41 ∷ y → ⊥
no_param_closes param x y is same =
    let (first, others, form, unlike) = no_close param is in
    let e : first ∷ (others ++ x) ≡ 41 ∷ y = sym (ap (λ p. p ++ x) form) ∙ same in
    let head : first ≡ 41 = cc in
    let close : eqb first 41 ≡ true = ap (λ u. eqb u 41) head in
    absurd (let f : true ≡ false = sym close ∙ unlike in cc)

-- no parameter stands before `)`
pub closed : (params : List (List ℕ)) (after rest units : List ℕ) → AreParams params after units → units ≡ 41 ∷ rest → params ≡ []
closed [] after rest units are is = refl
closed (param ∷ params) after rest units are is =
    let (value, form, values) = first_apart param params after units are in
    absurd (no_param_closes param (flat_map (λ (p : List ℕ). p) params ++ 41 ∷ after) rest value (sym form ∙ is))

pub not_empty : (params : List (List ℕ)) (after units : List ℕ) → AreParams params after units → units ≡ [] → ⊥
not_empty params after units are none =
    let e = ap length (sym none ∙ are.form) in
    omega (arith, e, length-append (flat_map (λ (p : List ℕ). p) params) (41 ∷ after))

-- where the parameters end
pub ended : (params : List (List ℕ)) (after units : List ℕ) → AreParams params after units → ends_params units ≡ true → params ≡ []
ended params after [] are end = absurd (not_empty params after [] are refl)
ended params after (u ∷ us) are end =
    let same : u ≡ 41 = grind (arith, nat_tests) in
    closed params after us (u ∷ us) are (ap (λ v. v ∷ us) same)

pub next : (params : List (List ℕ)) (after units front behind : List ℕ) (n : ℕ) → AreParams params after units → ends_params units ≡ false → front ≡ take n units → behind ≡ drop n units →
    ((d r : List ℕ) → IsValueDescriptor d → units ≡ d ++ r → n ≡ length d) → (more : List (List ℕ)) × (params ≡ front ∷ more) × AreParams more after behind
next [] after units front behind n are end taken dropped long = absurd (let e : false ≡ true = sym end ∙ ap ends_params are.form in cc)
next (param ∷ params) after units front behind n are end taken dropped long =
    let (value, form, values) = first_apart param params after units are in
    let rest = flat_map (λ (p : List ℕ). p) params ++ 41 ∷ after in
    let at : n ≡ length param = long param rest value form in
    let first : param ≡ front = sym (taken ∙ (ap (λ k. take k units) at ∙ (ap (take (length param)) form ∙ take_at param rest (length param) refl))) in
    let back : behind ≡ rest = dropped ∙ (ap (λ k. drop k units) at ∙ (ap (drop (length param)) form ∙ drop_at param rest (length param) refl)) in
    (params, ap (λ p. p ∷ params) first, record { values = values; form = back })

-- of two ways there is one
pub params_once : (these those : List (List ℕ)) (x y units : List ℕ) → AreParams these x units → AreParams those y units → (these ≡ those) × (x ≡ y)
params_once [] [] x y units one other = (refl, let e : 41 ∷ x ≡ 41 ∷ y = sym one.form ∙ other.form in cc)
params_once [] (that ∷ those) x y units one other = absurd (let e = closed (that ∷ those) y x units other one.form in let f : that ∷ those ≡ [] = e in cc)
params_once (this ∷ these) [] x y units one other = absurd (let e = closed (this ∷ these) x y units one other.form in let f : this ∷ these ≡ [] = e in cc)
params_once (this ∷ these) (that ∷ those) x y units one other =
    let (value, form, values) = first_apart this these x units one in
    let (also, formed, others) = first_apart that those y units other in
    let front = one_front this that _ _ value also (sym form ∙ formed) in
    let rest = params_once these those x y (flat_map (λ (p : List ℕ). p) these ++ 41 ∷ x) (record { values = values; form = refl }) (record { values = others; form = front.1 }) in
    (ap (λ p. p ∷ these) front.0 ∙ ap (λ ps. that ∷ ps) rest.0, rest.1)

-- ---- types of parameters

pub value_some : (name : List ℕ) → IsValueDescriptor name → name ≢ []
value_some name is none =
    let (first, others, form, unlike) = no_close name is in
    let e : first ∷ others ≡ [] = sym form ∙ none in
    cc

same_types : (ids : Ids) → TypesRise ids → (these those : List ℕ) → All IsValueDescriptor (map (type_name ids) these) → map (type_name ids) these ≡ map (type_name ids) those → these ≡ those
same_types ids rise [] [] values same = refl
same_types ids rise [] (that ∷ those) values same = absurd (let e : [] ≡ type_name ids that ∷ map (type_name ids) those = same in cc)
same_types ids rise (this ∷ these) [] values same = absurd (let e : type_name ids this ∷ map (type_name ids) these ≡ [] = same in cc)
same_types ids rise (this ∷ these) (that ∷ those) values same =
    let e : type_name ids this ∷ map (type_name ids) these ≡ type_name ids that ∷ map (type_name ids) those = same in
    let head : type_name ids this ≡ type_name ids that = cc in
    let tail : map (type_name ids) these ≡ map (type_name ids) those = cc in
    let value = All-head IsValueDescriptor (type_name ids this) (map (type_name ids) these) values in
    let one = names_once ids rise this that (type_name ids this) (value_some (type_name ids this) value) refl (sym head) in
    let rest = same_types ids rise these those (All-tail IsValueDescriptor (type_name ids this) (map (type_name ids) these) values) tail in
    ap (λ t. t ∷ these) one ∙ ap (λ ts. that ∷ ts) rest

pub types_once : (ids : Ids) → TypesRise ids → (these those : List ℕ) (x y units : List ℕ) → AreTypes ids these x units → AreTypes ids those y units → (these ≡ those) × (x ≡ y)
types_once ids rise these those x y units one other =
    let same = params_once (map (type_name ids) these) (map (type_name ids) those) x y units one.params other.params in
    (same_types ids rise these those one.params.values same.0, same.1)

-- ---- a prototype's name

pub named_params : (name : List ℕ) (is : IsPrototypeName name) → AreParams is.params is.result (drop 1 name)
named_params name is = record { values = is.values; form = ap (drop 1) is.form }

pub is_split : (name : List ℕ) (is : IsPrototypeName name) (params : List (List ℕ)) (result : List ℕ) → params ≡ is.params → result ≡ is.result → IsSplit name params result
is_split name is params result same gives =
    let whole : IsSplit name is.params is.result = record { values = is.values; described = is.described; form = is.form } in
    subst (IsSplit name params) (sym gives) (subst (λ ps. IsSplit name ps is.result) (sym same) whole)

-- The types of parameters, one after another, in their order.
use Rattle.std.proofs.Common.{◌≡◌, ◌≢◌, ℕ, zero, suc, ◌+◌, ◌<◌, ◌≤◌, List, [], ◌∷◌, ◌++◌, length, map, get_or, take, drop, Option, Some, None, refl, sym, ap, subst, ◌∙◌, drop-cons, append_assoc, add-one, arith}
use Rattle.std.specs.Prelude.{MatchOption}
use Rattle.std.specs.List.{flat_map}
use Rattle.std.specs.Cmp.Lexicographic.{slice_cmp}
use Rattle.std.specs.Ordering.{nat_cmp, ordering_then}
use Rattle.std.specs.declared.cmp.Ordering.TheVariants.{Greater}
use Rattle.std.proofs.lemmas.Grind.{flat_map-append}
use Rattle.std.proofs.lemmas.List.{append_cancel_left, append-nil, drop_all, take_more}
use Rattle.std.proofs.lemmas.List.Elements.{All-head, All-tail}
use Rattle.cc_meaning.specs.declared.file.Ids.{Ids}
use Rattle.cc_meaning_program.specs.Named.{type_name}
use Rattle.cc_tables.specs.Params.{AreParams, AreTypes}
use Rattle.cc_tables.specs.Rows.{TypesRise}
use Rattle.cc_tables.proofs.Splitting.{first_apart, value_some}
use Rattle.cc_tables.proofs.Typed.{names_once}

-- ---- the first type

-- the type of the first parameter, and the others
pub record IsFirst (ids : Ids) (types after param behind : List ℕ) : Type 0 where
  pub type : ℕ
  pub others : List ℕ
  pub form : types ≡ type ∷ others
  pub within : type < length ids.types
  pub named : type_name ids type ≡ param
  pub some : param ≢ []
  pub rest : AreTypes ids others after behind

pub no_types : (ids : Ids) (types : List ℕ) → map (type_name ids) types ≡ [] → types ≡ []
no_types ids [] none = refl
no_types ids (type ∷ types) none = absurd (let e : type_name ids type ∷ map (type_name ids) types ≡ [] = none in cc)

pub first_type : (ids : Ids) (types after units param behind : List ℕ) (more : List (List ℕ)) → AreTypes ids types after units → map (type_name ids) types ≡ param ∷ more → AreParams more after behind →
    IsFirst ids types after param behind
first_type ids [] after units param behind more are same rest = absurd (let e : [] ≡ param ∷ more = same in cc)
first_type ids (type ∷ types) after units param behind more are same rest =
    let e : type_name ids type ∷ map (type_name ids) types ≡ param ∷ more = same in
    let head : type_name ids type ≡ param = cc in
    let tail : map (type_name ids) types ≡ more = cc in
    let (value, form, values) = first_apart (type_name ids type) (map (type_name ids) types) after units are.params in
    record {
      type = type;
      others = types;
      form = refl;
      within = All-head (λ t. t < length ids.types) type types are.there;
      named = head;
      some = subst (λ p. p ≢ []) head (value_some (type_name ids type) value);
      rest = record { there = All-tail (λ t. t < length ids.types) type types are.there; params = subst (λ ps. AreParams ps after behind) (sym tail) rest };
    }

pub next_found : (ids : Ids) → TypesRise ids → (types after param behind : List ℕ) (row : ℕ) → IsFirst ids types after param behind → type_name ids row ≡ param →
    (more : List ℕ) × (types ≡ row ∷ more) × AreTypes ids more after behind
next_found ids rise types after param behind row first named =
    let same : first.type ≡ row = names_once ids rise first.type row param first.some first.named named in
    (first.others, first.form ∙ ap (λ t. t ∷ first.others) same, first.rest)

-- ---- the order

pub compare_step : (stated : List ℕ) (i one row : ℕ) (more : List ℕ) → i < length stated → one ≡ get_or stated i one →
    slice_cmp nat_cmp (drop i stated) (row ∷ more) ≡ ordering_then (nat_cmp one row) (slice_cmp nat_cmp (drop (i + 1) stated) more)
compare_step stated i one row more within is =
    let apart : drop i stated ≡ one ∷ drop (suc i) stated = drop-cons stated i one within ∙ ap (λ x. x ∷ drop (suc i) stated) (sym is) in
    ap (λ xs. slice_cmp nat_cmp xs (row ∷ more)) apart ∙ ap (λ n. ordering_then (nat_cmp one row) (slice_cmp nat_cmp (drop n stated) more)) (sym (add-one i))

pub compare_longer : (stated : List ℕ) (i one : ℕ) → i < length stated → one ≡ get_or stated i one → slice_cmp nat_cmp (drop i stated) [] ≡ Greater
compare_longer stated i one within is =
    let apart : drop i stated ≡ one ∷ drop (suc i) stated = drop-cons stated i one within ∙ ap (λ x. x ∷ drop (suc i) stated) (sym is) in
    ap (λ xs. slice_cmp nat_cmp xs []) apart

-- ---- descriptors one behind the other

pub flat_more : (f : ℕ → List ℕ) (types : List ℕ) (i row : ℕ) (units rest behind : List ℕ) → i < length types → row ≡ get_or types i row → units ≡ flat_map f (take i types) ++ rest → rest ≡ f row ++ behind →
    units ≡ flat_map f (take (i + 1) types) ++ behind
flat_more f types i row units rest behind within is form next =
    let more : take (i + 1) types ≡ take i types ++ row ∷ [] = take_more types i row within ∙ ap (λ x. take i types ++ x ∷ []) (sym is) in
    let joined : flat_map f (take (i + 1) types) ≡ flat_map f (take i types) ++ f row = ap (flat_map f) more ∙ (flat_map-append f (take i types) (row ∷ []) ∙ ap (λ last. flat_map f (take i types) ++ last) (append-nil (f row))) in
    form ∙ (ap (λ r. flat_map f (take i types) ++ r) next ∙ (sym (append_assoc (flat_map f (take i types)) (f row) behind) ∙ ap (λ front. front ++ behind) (sym joined)))

apart_at : (f : ℕ → List ℕ) (types : List ℕ) (i row : ℕ) → i < length types → row ≡ get_or types i row → flat_map f types ≡ flat_map f (take i types) ++ (f row ++ flat_map f (drop (suc i) types))
apart_at f [] i row within is = absurd (omega arith)
apart_at f (type ∷ types) zero row within is = ap (λ t. f t ++ flat_map f types) (sym is)
apart_at f (type ∷ types) (suc i) row within is =
    ap (λ rest. f type ++ rest) (apart_at f types i row (omega arith) is) ∙ sym (append_assoc (f type) (flat_map f (take i types)) (f row ++ flat_map f (drop (suc i) types)))

pub flat_stops : (f : ℕ → List ℕ) (types : List ℕ) (i row : ℕ) (units rest : List ℕ) → i < length types → row ≡ get_or types i row → units ≡ flat_map f (take i types) ++ rest →
    ((behind : List ℕ) → rest ≡ f row ++ behind → ⊥) → (behind : List ℕ) → units ≡ flat_map f types ++ behind → ⊥
flat_stops f types i row units rest within is form none behind whole =
    let front = flat_map f (take i types) in
    let others = flat_map f (drop (suc i) types) in
    let split : units ≡ front ++ (f row ++ (others ++ behind)) =
    whole ∙ (ap (λ all. all ++ behind) (apart_at f types i row within is) ∙ (append_assoc front (f row ++ others) behind ∙ ap (λ r. front ++ r) (append_assoc (f row) others behind))) in
    none (others ++ behind) (append_cancel_left front rest (f row ++ (others ++ behind)) (sym form ∙ split))

pub none_left : (stated : List ℕ) (i : ℕ) (left : List ℕ) → length stated ≤ i → slice_cmp nat_cmp (drop i stated) left ≡ slice_cmp nat_cmp [] left
none_left stated i left past = ap (λ xs. slice_cmp nat_cmp xs left) (drop_all i stated past)

-- ---- answers

pub match_by : {T : Type 0} (o : Option T) (P R : Type 0) (Q S : T → Type 0) → (P → R) → ((x : T) → Q x → S x) → MatchOption o P Q → MatchOption o R S
match_by None P R Q S none some is = none is
match_by (Some x) P R Q S none some is = some x is

-- ---- parameters between `(` and `)`

pub opened : (name params inner : List ℕ) → name ≡ 40 ∷ params → name ≡ 40 ∷ inner → params ≡ inner
opened name params inner one other = let e : 40 ∷ params ≡ 40 ∷ inner = sym one ∙ other in cc

pub closed_by : (front params close rest : List ℕ) → params ≡ front ++ close → params ≡ front ++ 41 ∷ rest → close ≡ 41 ∷ rest
closed_by front params close rest one other = append_cancel_left front close (41 ∷ rest) (sym one ∙ other)

pub results_same : (front this that : List ℕ) → 40 ∷ (front ++ 41 ∷ this) ≡ 40 ∷ (front ++ 41 ∷ that) → this ≡ that
results_same front this that same =
    let inner : front ++ 41 ∷ this ≡ front ++ 41 ∷ that = cc in
    let e : 41 ∷ this ≡ 41 ∷ that = append_cancel_left front (41 ∷ this) (41 ∷ that) inner in
    cc

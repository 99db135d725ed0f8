-- That handlers are spelled where they are written.
use Rattle.std.proofs.Common.{◌≡◌, ◌≢◌, ◌⊎◌, inl, inr, ℕ, zero, suc, ◌+◌, ◌^◌, ◌<◌, ◌≤◌, pos, ◌<ℤ◌, ◌≤ℤ◌, Bool, true, false, List, [], ◌∷◌, ◌++◌, length, All, Option, Some, None, refl, sym, ap, subst, ◌∙◌, arith, length-append, unsigned_abs}
use Rattle.std.specs.Prelude.{not, is_some, nat_lt, slice_index_or}
use Rattle.std.specs.List.{filter, flat_map}
use Rattle.std.proofs.lemmas.Grind.{flat_map-append}
use Rattle.std.proofs.lemmas.Int.{ints}
use Rattle.std.proofs.lemmas.List.Elements.{All-cons, All-head, All-tail, All-weaker, Contains-get_or, filter-append}
use Rattle.cc_meaning.specs.declared.file.Ids.{Ids}
use Rattle.cc_meaning.specs.declared.file.RawCatch.{RawCatch}
use Rattle.cc_meaning_dex.specs.Leb128.{SpellsUleb}
use Rattle.cc_meaning_dex.specs.Numbers.{Stands}
use Rattle.cc_meaning_dex.specs.Tables.{longest_file}
use Rattle.cc_meaning_dex.specs.declared.items.Handler.{Handler}
use Rattle.cc_meaning_dex.specs.Sequences.{ListStands}
use Rattle.cc_meaning_dex.specs.Tries.{IsValueType, PairStands, catch_all, HandlerStands}
use Rattle.cc_meaning_builder.specs.Forms.{uleb_form, sleb_form, caught_form, catch_form, takes_all, typed_count, handler_form}
use Rattle.cc_meaning_builder.specs.Laws.{CatchesFit, signed}
use Rattle.cc_meaning_builder.specs.Written.{IsSmallCatch}
use Rattle.cc_builder_laws.proofs.Following.{cursor, FollowBytes, list_stands}
use Rattle.cc_builder_laws.specs.Lower.{Lower}
use Rattle.cc_builder_laws.proofs.MemberParts.{is_shorter}
use Rattle.cc_builder_laws.proofs.Ordered.{none_kept, all_kept}

-- ---- what a handler catches

-- a handler of a type
pub record PairFits (ids : Ids) (catch : RawCatch) : Type 0 where
  pub type : ℕ
  pub row : catch.row ≡ Some type
  pub caught : IsValueType ids type
  pub number : type < 2 ^ 32
  pub address : catch.at < 2 ^ 32

-- handlers of types, and then what takes all
record EndsWithAll (ids : Ids) (catches : List RawCatch) : Type 0 where
  pairs : List RawCatch
  address : ℕ
  fit : All (PairFits ids) pairs
  small : address < 2 ^ 32
  form : catches ≡ pairs ++ catch_all address ∷ []

abbrev Parted : Ids → List RawCatch → Type 0
Parted ids catches = All (PairFits ids) catches ⊎ EndsWithAll ids catches

abbrev OnlyLastTakesAll : List RawCatch → Type 0
OnlyLastTakesAll catches = (front back : List RawCatch) (catch : RawCatch) → catches ≡ front ++ (catch ∷ back) → catch.row ≡ None → back ≡ []

catch_from : Option ℕ → ℕ → RawCatch
catch_from row at = record { row = row; at = at }

is_catch_all : (catch : RawCatch) → catch.row ≡ None → catch ≡ catch_all catch.at
unfolding catch_from
is_catch_all catch none = ap (λ row. catch_from row catch.at) none

abbrev TypesFit : Ids → RawCatch → Type 0
TypesFit ids catch = (type : ℕ) → catch.row ≡ Some type → IsValueType ids type

parted : (ids : Ids) (catches : List RawCatch) → OnlyLastTakesAll catches → All (TypesFit ids) catches → All IsSmallCatch catches → Parted ids catches
parted ids [] last types small = inl (λ k d within. absurd (omega (arith, within)))
parted ids (catch ∷ catches) last types small =
    cases catch.row refl (parted ids catches (λ front back other e none. last (catch ∷ front) back other (ap (λ cs. catch ∷ cs) e) none)
    (All-tail (TypesFit ids) catch catches types) (All-tail IsSmallCatch catch catches small))
  where
    is_small : IsSmallCatch catch
    is_small = All-head IsSmallCatch catch catches small

    with : PairFits ids catch → Parted ids catches → Parted ids (catch ∷ catches)
    with fits (inl typed) = inl (All-cons (PairFits ids) catch catches fits typed)
    with fits (inr ends) = inr (record {
      pairs = catch ∷ ends.pairs;
      address = ends.address;
      fit = All-cons (PairFits ids) catch ends.pairs fits ends.fit;
      small = ends.small;
      form = ap (λ cs. catch ∷ cs) ends.form;
    })

    cases : (row : Option ℕ) → catch.row ≡ row → Parted ids catches → Parted ids (catch ∷ catches)
    cases None e others = inr (record {
      pairs = [];
      address = catch.at;
      fit = λ k d within. absurd (omega (arith, within));
      small = is_small.address;
      form = ap (λ cs. catch ∷ cs) (last [] catches catch refl e) ∙ ap (λ c. c ∷ []) (is_catch_all catch e);
    })
    cases (Some type) e others = with (record {
      type = type;
      row = e;
      caught = All-head (TypesFit ids) catch catches types type e;
      number = is_small.type type e;
      address = is_small.address;
    }) others

-- ---- how a handler is written

typed_keeps : (ids : Ids) (pairs : List RawCatch) → All (PairFits ids) pairs → filter (λ catch. not (takes_all catch)) pairs ≡ pairs
typed_keeps ids pairs fit = all_kept (λ catch. not (takes_all catch)) pairs (All-weaker (PairFits ids) (λ catch. not (takes_all catch) ≡ true) (λ catch fits. ap (λ row. not (not (is_some row))) fits.row) pairs fit)

typed_drops : (ids : Ids) (pairs : List RawCatch) → All (PairFits ids) pairs → filter takes_all pairs ≡ []
typed_drops ids pairs fit = none_kept takes_all pairs (All-weaker (PairFits ids) (λ catch. takes_all catch ≡ false) (λ catch fits. ap (λ row. not (is_some row)) fits.row) pairs fit)

typed_form : (ids : Ids) (pairs : List RawCatch) → All (PairFits ids) pairs → handler_form pairs ≡ sleb_form false (length pairs) ++ flat_map catch_form pairs
unfolding handler_form
typed_form ids pairs fit =
    let kept = ap length (typed_keeps ids pairs fit) in
    let any = ap (λ (cs : List RawCatch). nat_lt 0 (length cs)) (typed_drops ids pairs fit) in
    ap (λ is. sleb_form is (typed_count pairs) ++ flat_map catch_form pairs) any ∙ ap (λ n. sleb_form false n ++ flat_map catch_form pairs) kept

abbrev with_all : List RawCatch → ℕ → List RawCatch
with_all pairs address = pairs ++ catch_all address ∷ []

all_form : (ids : Ids) (pairs : List RawCatch) (address : ℕ) → All (PairFits ids) pairs →
    handler_form (with_all pairs address) ≡ sleb_form true (length pairs) ++ (flat_map catch_form pairs ++ (uleb_form address ++ []))
unfolding handler_form
all_form ids pairs address fit =
    let last : List RawCatch = catch_all address ∷ [] in
    let kept = filter-append (λ catch. not (takes_all catch)) pairs last ∙ ap (λ cs. cs ++ []) (typed_keeps ids pairs fit) in
    let dropped = filter-append takes_all pairs last ∙ ap (λ cs. cs ++ last) (typed_drops ids pairs fit) in
    let any = ap (λ (cs : List RawCatch). nat_lt 0 (length cs)) dropped in
    let count : typed_count (with_all pairs address) ≡ length pairs = ap length kept ∙ simp (length-append) (omega arith) in
    let each = flat_map-append catch_form pairs last in
    ap (λ is. sleb_form is (typed_count (with_all pairs address)) ++ flat_map catch_form (with_all pairs address)) any
    ∙ ap (λ n. sleb_form true n ++ flat_map catch_form (with_all pairs address)) count
    ∙ ap (λ part. sleb_form true (length pairs) ++ part) each

-- ---- pairs

pairs_size : Lower → (pairs : List RawCatch) → length pairs ≤ length (flat_map catch_form pairs)
pairs_size low [] = omega arith
pairs_size low (pair ∷ pairs) = simp length-append (omega (arith, (low.uleb_size pair.at).0, pairs_size low pairs))

few_pairs : Lower → (file : List ℕ) (at : ℕ) (pairs : List RawCatch) → length file ≤ longest_file → Stands file at (flat_map catch_form pairs) → length pairs < 2 ^ 31
few_pairs low file at pairs short stands = omega (arith, pairs_size low pairs, is_shorter low file at (flat_map catch_form pairs) stands)

pairs_follow : Lower → (file : List ℕ) (ids : Ids) (at row : ℕ) (pairs : List RawCatch) → All (PairFits ids) pairs → Stands file at (flat_map catch_form pairs) →
    FollowBytes (PairStands file ids) (cursor at row) pairs (length (flat_map catch_form pairs))
pairs_follow low file ids at row [] fit stands = (cursor at row, refl, omega arith)
pairs_follow low file ids at row (pair ∷ pairs) fit stands =
    let fits = All-head (PairFits ids) pair pairs fit in
    let form : catch_form pair ≡ uleb_form fits.type ++ uleb_form pair.at = ap (λ caught. caught_form caught ++ uleb_form pair.at) fits.row in
    let parts = low.apart file at (catch_form pair) (flat_map catch_form pairs) stands in
    let both = low.apart file at (uleb_form fits.type) (uleb_form pair.at) (subst (Stands file at) form parts.0) in
    let place : ℕ = at + length (uleb_form fits.type) in
    let next : ℕ = at + length (catch_form pair) in
    let long : length (catch_form pair) ≡ length (uleb_form fits.type) + length (uleb_form pair.at) = ap length form ∙ length-append (uleb_form fits.type) (uleb_form pair.at) in
    let after : place + length (uleb_form pair.at) ≡ next = omega (arith, long) in
    let others = pairs_follow low file ids next row pairs (All-tail (PairFits ids) pair pairs fit) parts.1 in
    let first : PairStands file ids (cursor at row) pair (cursor next row) = record {
      type = fits.type;
      place = place;
      number = low.uleb file at fits.type fits.number both.0;
      address = subst (SpellsUleb file place pair.at) after (low.uleb file place pair.at fits.address both.1);
      caught = fits.caught;
      row = fits.row;
      behind = refl;
    } in
    let last : others.0.at ≡ at + length (catch_form pair ++ flat_map catch_form pairs) = rw (length-append (catch_form pair) (flat_map catch_form pairs)) (omega (arith, others.2)) in
    (others.0, (cursor next row, first, others.1), last)

-- ---- a handler

positive : (n : ℕ) → 0 < n → pos 0 <ℤ signed false n
positive n some = grind (arith, ints)

not_positive : (n : ℕ) → signed true n ≤ℤ pos 0
not_positive n = grind (arith, ints)

size_of : (is : Bool) (n : ℕ) → n ≡ unsigned_abs (signed is n)
size_of true zero = refl
size_of true (suc n) = refl
size_of false n = refl

some_catches : (catches : List RawCatch) → catches ≢ [] → 0 < length catches
some_catches [] some = absurd (some refl)
some_catches (catch ∷ catches) some = omega arith

abbrev pub handler : ℕ → List RawCatch → Handler
handler start catches = record { start = start; catches = catches }

-- a handler stands at a place, where it is written
abbrev pub HandlerIsAt : List ℕ → Ids → ℕ → List RawCatch → Type 0
HandlerIsAt file ids at catches = HandlerStands file ids (cursor at 0) (handler at catches) (cursor (at + length (handler_form catches)) 0)

pairs_stand : Lower → (file : List ℕ) (ids : Ids) (is : Bool) (at : ℕ) (pairs : List RawCatch) → All (PairFits ids) pairs → Stands file at (flat_map catch_form pairs) →
    ListStands (PairStands file ids) (unsigned_abs (signed is (length pairs))) at pairs (at + length (flat_map catch_form pairs))
pairs_stand low file ids is at pairs fit stands =
    subst (λ count. ListStands (PairStands file ids) count at pairs (at + length (flat_map catch_form pairs))) (size_of is (length pairs))
    (list_stands (PairStands file ids) at pairs (length (flat_map catch_form pairs)) (pairs_follow low file ids at 0 pairs fit stands))

typed_handler : Lower → (file : List ℕ) (ids : Ids) (at : ℕ) (pairs : List RawCatch) → length file ≤ longest_file → All (PairFits ids) pairs → 0 < length pairs →
    Stands file at (handler_form pairs) → HandlerIsAt file ids at pairs
typed_handler low file ids at pairs short fit some stands =
    let form = typed_form ids pairs fit in
    let parts = low.apart file at (sleb_form false (length pairs)) (flat_map catch_form pairs) (subst (Stands file at) form stands) in
    let pairs_at : ℕ = at + length (sleb_form false (length pairs)) in
    let long : length (handler_form pairs) ≡ length (sleb_form false (length pairs)) + length (flat_map catch_form pairs) =
    ap length form ∙ length-append (sleb_form false (length pairs)) (flat_map catch_form pairs) in
    record {
      size = signed false (length pairs);
      pairs_at = pairs_at;
      stated = low.sleb file at (length pairs) false (few_pairs low file pairs_at pairs short parts.1) parts.0;
      pairs = pairs;
      rest_at = pairs_at + length (flat_map catch_form pairs);
      listed = pairs_stand low file ids false pairs_at pairs fit parts.1;
      rest = inl (positive (length pairs) some, refl, omega (arith, long));
      start = refl;
      behind = refl;
    }

all_handler : Lower → (file : List ℕ) (ids : Ids) (at : ℕ) (pairs : List RawCatch) (address : ℕ) → length file ≤ longest_file → All (PairFits ids) pairs → address < 2 ^ 32 →
    Stands file at (handler_form (with_all pairs address)) → HandlerIsAt file ids at (with_all pairs address)
all_handler low file ids at pairs address short fit small stands =
    let form = all_form ids pairs address fit in
    let parts = low.apart file at (sleb_form true (length pairs)) (flat_map catch_form pairs ++ (uleb_form address ++ [])) (subst (Stands file at) form stands) in
    let pairs_at : ℕ = at + length (sleb_form true (length pairs)) in
    let both = low.apart file pairs_at (flat_map catch_form pairs) (uleb_form address ++ []) parts.1 in
    let rest_at : ℕ = pairs_at + length (flat_map catch_form pairs) in
    let last = low.apart file rest_at (uleb_form address) [] both.1 in
    let next : ℕ = at + length (handler_form (with_all pairs address)) in
    let end : rest_at + length (uleb_form address) ≡ next = omega (arith, simp length-append at (ap length form)) in
    record {
      size = signed true (length pairs);
      pairs_at = pairs_at;
      stated = low.sleb file at (length pairs) true (few_pairs low file pairs_at pairs short both.0) parts.0;
      pairs = pairs;
      rest_at = rest_at;
      listed = pairs_stand low file ids true pairs_at pairs fit both.0;
      rest = inr (not_positive (length pairs), address, subst (SpellsUleb file rest_at address) end (low.uleb file rest_at address small last.0), refl);
      start = refl;
      behind = refl;
    }

pub handler_stands : Lower → (file : List ℕ) (ids : Ids) (at : ℕ) (catches : List RawCatch) → length file ≤ longest_file → CatchesFit ids catches → All IsSmallCatch catches →
    Stands file at (handler_form catches) → HandlerIsAt file ids at catches
handler_stands low file ids at catches short fit small stands = cases (parted ids catches fit.last types small)
  where
    types : All (TypesFit ids) catches
    types = λ k d within type e. fit.types (slice_index_or catches k d) type (Contains-get_or catches k d within) e

    cases : Parted ids catches → HandlerIsAt file ids at catches
    cases (inl typed) = typed_handler low file ids at catches short typed (some_catches catches fit.some) stands
    cases (inr ends) = subst (λ cs. Stands file at (handler_form cs) → HandlerIsAt file ids at cs) (sym ends.form) (all_handler low file ids at ends.pairs ends.address short ends.fit ends.small) stands

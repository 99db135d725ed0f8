-- That tries, their handlers and whole code items are read exactly where they are spelled.
use Rattle.std.proofs.Common.{◌≡◌, inl, inr, ℕ, zero, suc, ◌+◌, ◌<◌, ◌≤◌, ℤ, pos, ◌<ℤ◌, ◌≤ℤ◌, Bool, true, false, ◌&&◌, cond, eqb, nat_le, List, [], ◌∷◌, ◌++◌, slice_get, Option, Some, None, refl, sym, ap, subst, ◌∙◌, arith, int_lt, unsigned_abs}
use Rattle.std.proofs.lemmas.Bool.Decides.{nat_tests}
use Rattle.std.proofs.lemmas.Int.{ints}
use Rattle.cc_meaning.specs.declared.file.Ids.{Ids}
use Rattle.cc_meaning.specs.declared.file.RawCatch.{RawCatch}
use Rattle.cc_meaning_dex.specs.Descriptors.{names_value}
use Rattle.cc_meaning_dex.specs.TextLaws.{UlebAgrees, SlebAgrees}
use Rattle.cc_meaning_dex.specs.declared.items.Cursor.{Cursor}
use Rattle.cc_meaning_dex.specs.declared.items.Handler.{Handler}
use Rattle.cc_meaning_dex.specs.Sequences.{◌>>=◌, number_at, signed_at, begin, Follow, list_at}
use Rattle.cc_meaning_dex.specs.Rows.{descriptor_of}
use Rattle.cc_meaning_dex.specs.Members.{only_if}
use Rattle.cc_meaning_dex.specs.Tries.{IsValueType, PairStands, catch_all, CatchAllStands, HandlerStands, SpellsHandlers, IsHandlerAt, RisesFrom, is_value, is_value_type, pair_at, catch_all_at, handler_at, handlers_of, catches_at}
use Rattle.cc_meaning_dex.specs.ClassLaws.{HandlersRise}
use Rattle.cc_meaning_dex.proofs.Sequencing.{bind_some, some_is, number_spelled, number_read, signed_spelled, signed_read, ItemAgrees, list_stands, list_read}
use Rattle.cc_meaning_dex.proofs.MemberLaws.{only_true, true_only, same_cursor}

-- ---- pairs

value_named : (name : Option (List ℕ)) → is_value name ≡ true → (units : List ℕ) × (name ≡ Some units) × (names_value units ≡ true)
value_named None e = absurd (cc)
value_named (Some units) e = (units, refl, e)

value_type : (ids : Ids) (row : ℕ) → is_value_type ids row ≡ true → IsValueType ids row
value_type ids row e = let named = value_named (descriptor_of ids row) e in record { name = named.0; named = named.1; value = named.2 }

type_value : (ids : Ids) (row : ℕ) → IsValueType ids row → is_value_type ids row ≡ true
type_value ids row is = ap is_value is.named ∙ is.value

pair_stands : UlebAgrees → (file : List ℕ) (ids : Ids) (from : Cursor) (read : RawCatch × Cursor) → pair_at file ids from ≡ Some read → PairStands file ids from read.0 read.1
unfolding pair_at
pair_stands agrees file ids from read e =
    let made : ℕ → ℕ → ℕ → RawCatch × Cursor = λ row at next. (record { row = Some row; at = at }, record { at = next; row = from.row }) in
    let type = bind_some (number_at file from.at) (λ type. number_at file type.1 >>= λ address. only_if (is_value_type ids type.0) (made type.0 address.0 address.1)) read e in
    let address = bind_some (number_at file type.0.1) (λ address. only_if (is_value_type ids type.0.0) (made type.0.0 address.0 address.1)) read type.2 in
    let value = only_true (is_value_type ids type.0.0) (made type.0.0 address.0.0 address.0.1) read address.2 in
    subst (λ (r : RawCatch × Cursor). PairStands file ids from r.0 r.1) value.1
    (record {
      type = type.0.0;
      place = type.0.1;
      number = number_spelled agrees file from.at type.0 type.1;
      address = number_spelled agrees file type.0.1 address.0 address.1;
      caught = value_type ids type.0.0 value.0;
      row = refl;
      behind = refl;
    })

catch_from : Option ℕ → ℕ → RawCatch
catch_from row at = record { row = row; at = at }

same_catch : (a b : RawCatch) → a.row ≡ b.row → a.at ≡ b.at → a ≡ b
unfolding catch_from
same_catch a b row at = ap (λ x. catch_from x a.at) row ∙ ap (catch_from b.row) at

stands_pair : UlebAgrees → (file : List ℕ) (ids : Ids) (from : Cursor) (catch : RawCatch) (next : Cursor) → PairStands file ids from catch next → pair_at file ids from ≡ Some (catch, next)
unfolding pair_at
stands_pair agrees file ids from catch next s =
    let made : RawCatch = record { row = Some s.type; at = catch.at } in
    let after : Cursor = record { at = next.at; row = from.row } in
    let same : made ≡ catch = same_catch made catch (sym s.row) refl in
    let behind : after ≡ next = same_cursor after next refl (sym s.behind) in
    rw (number_read agrees file from.at s.type s.place s.number, number_read agrees file s.place catch.at next.at s.address)
    (true_only (is_value_type ids s.type) (made, after) (type_value ids s.type s.caught) ∙ ap (λ c. Some (c, after)) same ∙ ap (λ n. Some (catch, n)) behind)

pair_agrees : UlebAgrees → (file : List ℕ) (ids : Ids) → ItemAgrees (pair_at file ids) (PairStands file ids)
pair_agrees agrees file ids from catch next = (pair_stands agrees file ids from (catch, next), stands_pair agrees file ids from catch next)

-- ---- handlers

positive : (n : ℤ) → int_lt (pos 0) n ≡ true → pos 0 <ℤ n
positive n e = grind (arith, ints)

not_positive : (n : ℤ) → int_lt (pos 0) n ≡ false → n ≤ℤ pos 0
not_positive n e = grind (arith, ints)

is_positive : (n : ℤ) → pos 0 <ℤ n → int_lt (pos 0) n ≡ true
is_positive n h = grind (arith, ints)

isnt_positive : (n : ℤ) → n ≤ℤ pos 0 → int_lt (pos 0) n ≡ false
isnt_positive n h = grind (arith, ints)

catch_all_stands : UlebAgrees → (file : List ℕ) (size : ℤ) (pairs : List RawCatch) (at : ℕ) (read : List RawCatch × ℕ) →
    catch_all_at file size pairs at ≡ Some read → CatchAllStands file size pairs at read.0 read.1
unfolding catch_all_at
catch_all_stands agrees file size pairs at read e = cases (int_lt (pos 0) size) refl e
  where
    cases : (test : Bool) → int_lt (pos 0) size ≡ test → cond test (Some (pairs, at)) (number_at file at >>= λ address. Some (pairs ++ catch_all address.0 ∷ [], address.1)) ≡ Some read →
        CatchAllStands file size pairs at read.0 read.1
    cases true t e = subst (λ (r : List RawCatch × ℕ). CatchAllStands file size pairs at r.0 r.1) (some_is (pairs, at) read e) (inl (positive size t, refl, refl))
    cases false t e =
        let address = bind_some (number_at file at) (λ address. Some (pairs ++ catch_all address.0 ∷ [], address.1)) read e in
        subst (λ (r : List RawCatch × ℕ). CatchAllStands file size pairs at r.0 r.1) (some_is (pairs ++ catch_all address.0.0 ∷ [], address.0.1) read address.2)
        (inr (not_positive size t, address.0.0, number_spelled agrees file at address.0 address.1, refl))

catch_all_read : UlebAgrees → (file : List ℕ) (size : ℤ) (pairs : List RawCatch) (at : ℕ) (catches : List RawCatch) (next : ℕ) →
    CatchAllStands file size pairs at catches next → catch_all_at file size pairs at ≡ Some (catches, next)
unfolding catch_all_at
catch_all_read agrees file size pairs at catches next (inl none) =
    rw (is_positive size none.0) (ap (λ c. Some (c, at)) (sym none.1) ∙ ap (λ n. Some (catches, n)) (sym none.2))
catch_all_read agrees file size pairs at catches next (inr all) =
    rw (isnt_positive size all.0, number_read agrees file at all.1 next all.2) (ap (λ c. Some (c, next)) (sym all.3))

handler_stands : UlebAgrees → SlebAgrees → (file : List ℕ) (ids : Ids) (from : Cursor) (read : Handler × Cursor) → handler_at file ids from ≡ Some read → HandlerStands file ids from read.0 read.1
unfolding handler_at
handler_stands uleb sleb file ids from read e =
    let made : List RawCatch → ℕ → Handler × Cursor = λ catches next. (record { start = from.at; catches = catches }, record { at = next; row = from.row }) in
    let size = bind_some (signed_at file from.at) (λ size. list_at (pair_at file ids) (unsigned_abs size.0) size.1 >>= λ pairs. catch_all_at file size.0 pairs.0 pairs.1 >>= λ catches. Some (made catches.0 catches.1)) read e in
    let pairs = bind_some (list_at (pair_at file ids) (unsigned_abs size.0.0) size.0.1) (λ pairs. catch_all_at file size.0.0 pairs.0 pairs.1 >>= λ catches. Some (made catches.0 catches.1)) read size.2 in
    let catches = bind_some (catch_all_at file size.0.0 pairs.0.0 pairs.0.1) (λ catches. Some (made catches.0 catches.1)) read pairs.2 in
    subst (λ (r : Handler × Cursor). HandlerStands file ids from r.0 r.1) (some_is (made catches.0.0 catches.0.1) read catches.2)
    (record {
      size = size.0.0;
      pairs_at = size.0.1;
      stated = signed_spelled sleb file from.at size.0 size.1;
      pairs = pairs.0.0;
      rest_at = pairs.0.1;
      listed = list_stands (pair_at file ids) (PairStands file ids) (pair_agrees uleb file ids) (unsigned_abs size.0.0) size.0.1 pairs.0 pairs.1;
      rest = catch_all_stands uleb file size.0.0 pairs.0.0 pairs.0.1 catches.0 catches.1;
      start = refl;
      behind = refl;
    })

handler_from : ℕ → List RawCatch → Handler
handler_from start catches = record { start = start; catches = catches }

same_handler : (a b : Handler) → a.start ≡ b.start → a.catches ≡ b.catches → a ≡ b
unfolding handler_from
same_handler a b start catches = ap (λ x. handler_from x a.catches) start ∙ ap (handler_from b.start) catches

stands_handler : UlebAgrees → SlebAgrees → (file : List ℕ) (ids : Ids) (from : Cursor) (handler : Handler) (next : Cursor) → HandlerStands file ids from handler next → handler_at file ids from ≡ Some (handler, next)
unfolding handler_at
stands_handler uleb sleb file ids from handler next s =
    let made : Handler = record { start = from.at; catches = handler.catches } in
    let after : Cursor = record { at = next.at; row = from.row } in
    let same : made ≡ handler = same_handler made handler (sym s.start) refl in
    let behind : after ≡ next = same_cursor after next refl (sym s.behind) in
    rw (
      signed_read sleb file from.at s.size s.pairs_at s.stated,
      list_read (pair_at file ids) (PairStands file ids) (pair_agrees uleb file ids) (unsigned_abs s.size) s.pairs_at s.pairs s.rest_at s.listed,
      catch_all_read uleb file s.size s.pairs s.rest_at handler.catches next.at s.rest,
    )
    (ap (λ h. Some (h, after)) same ∙ ap (λ n. Some (handler, n)) behind)

handler_agrees : UlebAgrees → SlebAgrees → (file : List ℕ) (ids : Ids) → ItemAgrees (handler_at file ids) (HandlerStands file ids)
handler_agrees uleb sleb file ids from handler next = (handler_stands uleb sleb file ids from (handler, next), stands_handler uleb sleb file ids from handler next)

-- ---- handler lists

pub handlers_spelled : UlebAgrees → SlebAgrees → (file : List ℕ) (ids : Ids) (at : ℕ) (handlers : List Handler) → handlers_of file ids at ≡ Some handlers → SpellsHandlers file ids at handlers
unfolding handlers_of
handlers_spelled uleb sleb file ids at handlers e =
    let count = bind_some (number_at file at) (λ count. list_at (handler_at file ids) count.0 count.1 >>= λ handlers. Some handlers.0) handlers e in
    let list = bind_some (list_at (handler_at file ids) count.0.0 count.0.1) (λ handlers. Some handlers.0) handlers count.2 in
    subst (λ (hs : List Handler). SpellsHandlers file ids at hs) (some_is list.0.0 handlers list.2)
    (record {
      count = count.0.0;
      place = count.0.1;
      end = list.0.1;
      stated = number_spelled uleb file at count.0 count.1;
      listed = list_stands (handler_at file ids) (HandlerStands file ids) (handler_agrees uleb sleb file ids) count.0.0 count.0.1 list.0 list.1;
    })

pub handlers_read : UlebAgrees → SlebAgrees → (file : List ℕ) (ids : Ids) (at : ℕ) (handlers : List Handler) → SpellsHandlers file ids at handlers → handlers_of file ids at ≡ Some handlers
unfolding handlers_of
handlers_read uleb sleb file ids at handlers s =
    rw (number_read uleb file at s.count s.place s.stated, list_read (handler_at file ids) (HandlerStands file ids) (handler_agrees uleb sleb file ids) s.count s.place handlers s.end s.listed) refl

-- ---- where handlers begin

pair_moves : (file : List ℕ) (ids : Ids) (from : Cursor) (catch : RawCatch) (next : Cursor) → PairStands file ids from catch next → from.at ≤ next.at
pair_moves file ids from catch next s = omega (arith, s.number.stands.some, s.address.stands.some)

pairs_move : (file : List ℕ) (ids : Ids) (pairs : List RawCatch) (from end : Cursor) → Follow (PairStands file ids) from pairs end → from.at ≤ end.at
pairs_move file ids [] from end same = let at : from.at ≡ end.at = ap (λ (c : Cursor). c.at) same in omega (arith, at)
pairs_move file ids (pair ∷ pairs) from end (next, first, others) = omega (arith, pair_moves file ids from pair next first, pairs_move file ids pairs next end others)

catch_all_moves : (file : List ℕ) (size : ℤ) (pairs : List RawCatch) (at : ℕ) (catches : List RawCatch) (next : ℕ) → CatchAllStands file size pairs at catches next → at ≤ next
catch_all_moves file size pairs at catches next (inl none) = omega (arith, none.2)
catch_all_moves file size pairs at catches next (inr all) = omega (arith, all.2.stands.some)

handler_moves : (file : List ℕ) (ids : Ids) (from : Cursor) (handler : Handler) (next : Cursor) → HandlerStands file ids from handler next → handler.start + 1 ≤ next.at
handler_moves file ids from handler next s =
    let pairs = pairs_move file ids s.pairs (begin s.pairs_at) s.listed.end s.listed.each in
    omega (arith, s.start, s.stated.stands.some, pairs, s.listed.last, catch_all_moves file s.size s.pairs s.rest_at handler.catches next.at s.rest)

rises_above : (handlers : List Handler) (low lower : ℕ) → lower ≤ low → RisesFrom low handlers → RisesFrom lower handlers
rises_above [] low lower below rises = tt
rises_above (handler ∷ handlers) low lower below (first, others) = (omega (arith, below, first), others)

follow_rises : (file : List ℕ) (ids : Ids) (handlers : List Handler) (from end : Cursor) → Follow (HandlerStands file ids) from handlers end → RisesFrom from.at handlers
follow_rises file ids [] from end same = tt
follow_rises file ids (handler ∷ handlers) from end (next, first, others) =
    (omega (arith, first.start), rises_above handlers next.at (handler.start + 1) (handler_moves file ids from handler next first) (follow_rises file ids handlers next end others))

pub handlers_rise : UlebAgrees → SlebAgrees → HandlersRise
handlers_rise uleb sleb file ids at handlers e =
    let s = handlers_spelled uleb sleb file ids at handlers e in
    rises_above handlers s.place 0 (omega arith) (follow_rises file ids handlers (begin s.place) s.listed.end s.listed.each)

-- ---- the handler that begins at a place

no_handler_below : (handlers : List Handler) (low start place : ℕ) (handler : Handler) → RisesFrom low handlers → slice_get handlers place ≡ Some handler → low ≤ handler.start
no_handler_below [] low start place handler rises e = absurd (cc)
no_handler_below (first ∷ others) low start zero handler rises e = let same : first ≡ handler = some_is first handler e in subst (λ (h : Handler). low ≤ h.start) same rises.0
no_handler_below (first ∷ others) low start (suc place) handler rises e = omega (arith, rises.0, no_handler_below others (first.start + 1) start place handler rises.1 e)

pub catches_found : (handlers : List Handler) (start : ℕ) (catches : List RawCatch) → catches_at handlers start ≡ Some catches → IsHandlerAt handlers start catches
unfolding catches_at
catches_found [] start catches e = absurd (cc)
catches_found (handler ∷ handlers) start catches e = cases (eqb handler.start start) refl (catches_found handlers start catches) e
  where
    behind : IsHandlerAt handlers start catches → IsHandlerAt (handler ∷ handlers) start catches
    behind is = record { place = suc is.place; handler = is.handler; there = is.there; begun = is.begun; caught = is.caught }

    cases : (test : Bool) → eqb handler.start start ≡ test → (catches_at handlers start ≡ Some catches → IsHandlerAt handlers start catches) →
        cond test (Some handler.catches) (catches_at handlers start) ≡ Some catches → IsHandlerAt (handler ∷ handlers) start catches
    cases true t later e = record { place = 0; handler = handler; there = refl; begun = grind (arith, nat_tests); caught = some_is handler.catches catches e }
    cases false t later e = behind (later e)

pub found_catches : (handlers : List Handler) (low start place : ℕ) (handler : Handler) → RisesFrom low handlers → slice_get handlers place ≡ Some handler → handler.start ≡ start → catches_at handlers start ≡ Some handler.catches
unfolding catches_at
found_catches [] low start place handler rises e begun = absurd (cc)
found_catches (first ∷ others) low start zero handler rises e begun =
    let same : first ≡ handler = some_is first handler e in
    let test : eqb first.start start ≡ true = subst (λ (h : Handler). eqb h.start start ≡ true) (sym same) (equal handler.start start begun) in
    rw test (ap (λ (h : Handler). Some h.catches) same)
  where
    equal : (a b : ℕ) → a ≡ b → eqb a b ≡ true
    equal a b e = grind (arith, nat_tests)
found_catches (first ∷ others) low start (suc place) handler rises e begun =
    let past = no_handler_below others (first.start + 1) start place handler rises.1 e in
    let test : eqb first.start start ≡ false = other first.start start (omega (arith, past, begun)) in
    rw test (found_catches others (first.start + 1) start place handler rises.1 e begun)
  where
    other : (a b : ℕ) → a < b → eqb a b ≡ false
    other a b below = grind (arith, nat_tests)

-- ---- tries

-- two tests that both hold
pub both_hold : (a b : Bool) → (a && b) ≡ true → (a ≡ true) × (b ≡ true)
both_hold true b e = (refl, e)
both_hold false b e = absurd (cc)

pub within_from : (a b : ℕ) → nat_le a b ≡ true → a ≤ b
within_from a b e = grind (arith, nat_tests)

pub from_within : (a b : ℕ) → a ≤ b → nat_le a b ≡ true
from_within a b h = grind (arith, nat_tests)

pub if_true : {A : Type 0} (test : Bool) (read : Option A) (item : A) → cond test read None ≡ Some item → (test ≡ true) × (read ≡ Some item)
if_true true read item e = (refl, e)
if_true false read item e = absurd (cc)

-- That a method is spelled with its code and its tries where they are written.
use Rattle.std.proofs.Common.{◌≡◌, ◌≢◌, inl, inr, ℕ, suc, ◌+◌, ◌-◌, ◌*◌, ◌<◌, ◌≤◌, Bool, true, false, List, [], ◌∷◌, ◌++◌, length, All, Option, Some, None, refl, sym, ap, subst, ◌∙◌, arith, length-append}
use Rattle.std.proofs.lemmas.Bool.Decides.{nat_tests}
use Rattle.std.proofs.lemmas.List.Elements.{All-head, All-tail}
use Rattle.std.specs.Prelude.{◌==◌}
use Rattle.std.specs.List.{flat_map}
use Rattle.cc_meaning.specs.declared.file.Ids.{Ids}
use Rattle.cc_meaning.specs.declared.file.RawCatch.{RawCatch}
use Rattle.cc_meaning.specs.declared.file.RawCode.{RawCode}
use Rattle.cc_meaning.specs.declared.file.RawTry.{RawTry}
use Rattle.cc_meaning_dex.specs.Numbers.{Stands, u16_at}
use Rattle.cc_meaning_dex.specs.Tables.{longest_file}
use Rattle.cc_meaning_dex.specs.declared.items.Handler.{Handler}
use Rattle.cc_meaning_dex.specs.CodeItems.{UnitStands, unit_count, units_at, tries_at, handlers_at}
use Rattle.cc_meaning_dex.specs.Sequences.{ListStands}
use Rattle.cc_meaning_dex.specs.Tries.{HandlerStands, IsHandlerAt, TryStands, SpellsTries, HasTries, SpellsCode, HasCode}
use Rattle.cc_meaning_builder.specs.Built.{AreTriesInside}
use Rattle.cc_meaning_builder.specs.Forms.{little_form, u16_form, u32_form, uleb_form, handler_form, tries_form, tries_part, code_form}
use Rattle.cc_meaning_builder.specs.Laws.{CatchesFit, WrittenTries}
use Rattle.cc_meaning_builder.specs.Written.{CodeFitsFormat, CodeWritten, IsSmallCode, IsSmallTry, TryFits}
use Rattle.cc_builder_laws.proofs.CodeItems.{HeadStands, head_stands, TriesStand, tries_stand, no_number}
use Rattle.cc_builder_laws.proofs.Following.{cursor, FollowBytes, list_stands}
use Rattle.cc_builder_laws.proofs.Handlers.{handler, handler_stands}
use Rattle.cc_builder_laws.specs.Lower.{Lower}

-- ---- units

units_follow : Lower → (file : List ℕ) (at row : ℕ) (units : List ℕ) → All (λ unit. unit < 65536) units → Stands file at (flat_map u16_form units) →
    FollowBytes (UnitStands file) (cursor at row) units (length units * 2)
unfolding little_form
units_follow low file at row [] small stands = (cursor at row, refl, omega arith)
units_follow low file at row (unit ∷ units) small stands =
    let parts = low.apart file at (u16_form unit) (flat_map u16_form units) stands in
    let read = low.u16 file at unit (All-head (λ (u : ℕ). u < 65536) unit units small) parts.0 in
    let others = units_follow low file (at + 2) row units (All-tail (λ (u : ℕ). u < 65536) unit units small) parts.1 in
    let first : UnitStands file (cursor at row) unit (cursor (at + 2) row) = record { within = read.0; value = sym read.1; end = refl; behind = refl } in
    (others.0, (cursor (at + 2) row, first, others.1), omega (arith, others.2))

-- ---- the handlers of tries

-- a try of code of so many units that can be written and read again
record TryIsFit (ids : Ids) (units : ℕ) (try : RawTry) : Type 0 where
  format : TryFits try
  small : IsSmallTry try
  catches : CatchesFit ids try.catches
  inside : try.end ≤ units

-- the handlers that stand from a place on
abbrev handlers_from : ℕ → List RawTry → List Handler
handlers_from at [] = []
handlers_from at (try ∷ tries) = handler at try.catches ∷ handlers_from (at + length (handler_form try.catches)) tries

each_handler : List RawTry → List ℕ
each_handler tries = flat_map (λ try. handler_form try.catches) tries

as_many : (at : ℕ) (tries : List RawTry) → length (handlers_from at tries) ≡ length tries
as_many at [] = refl
as_many at (try ∷ tries) = ap suc (as_many (at + length (handler_form try.catches)) tries)

handlers_follow : Lower → (file : List ℕ) (ids : Ids) (units at : ℕ) (tries : List RawTry) → length file ≤ longest_file → All (TryIsFit ids units) tries → Stands file at (each_handler tries) →
    FollowBytes (HandlerStands file ids) (cursor at 0) (handlers_from at tries) (length (each_handler tries))
unfolding each_handler
handlers_follow low file ids units at [] short fit stands = (cursor at 0, refl, omega arith)
handlers_follow low file ids units at (try ∷ tries) short fit stands =
    let fits = All-head (TryIsFit ids units) try tries fit in
    let parts = low.apart file at (handler_form try.catches) (each_handler tries) stands in
    let next : ℕ = at + length (handler_form try.catches) in
    let others = handlers_follow low file ids units next tries short (All-tail (TryIsFit ids units) try tries fit) parts.1 in
    (others.0, (cursor next 0, handler_stands low file ids at try.catches short fits.catches fits.small.each parts.0, others.1), simp length-append (omega (arith, others.2)))

-- each try has its handler among these, the first of them at this place
abbrev HaveHandlers : List Handler → ℕ → List RawTry → Type 0
HaveHandlers handlers start [] = Unit {0}
HaveHandlers handlers start (try ∷ tries) = IsHandlerAt handlers start try.catches × HaveHandlers handlers (start + length (handler_form try.catches)) tries

one_more : (first : Handler) (handlers : List Handler) (start : ℕ) (catches : List RawCatch) → IsHandlerAt handlers start catches → IsHandlerAt (first ∷ handlers) start catches
one_more first handlers start catches is = record { place = suc is.place; handler = is.handler; there = is.there; begun = is.begun; caught = is.caught }

have_more : (first : Handler) (handlers : List Handler) (start : ℕ) (tries : List RawTry) → HaveHandlers handlers start tries → HaveHandlers (first ∷ handlers) start tries
have_more first handlers start [] have = tt
have_more first handlers start (try ∷ tries) (has, have) = (one_more first handlers start try.catches has, have_more first handlers (start + length (handler_form try.catches)) tries have)

have_handlers : (start : ℕ) (tries : List RawTry) → HaveHandlers (handlers_from start tries) start tries
have_handlers start [] = tt
have_handlers start (try ∷ tries) =
    let next : ℕ = start + length (handler_form try.catches) in (
      record { place = 0; handler = handler start try.catches; there = refl; begun = refl; caught = refl },
      have_more (handler start try.catches) (handlers_from next tries) next tries (have_handlers next tries),
    )

-- ---- tries

tries_follow : Lower → (file : List ℕ) (ids : Ids) (units list : ℕ) (handlers : List Handler) (at offset start : ℕ) (tries : List RawTry) → All (TryIsFit ids units) tries →
    start ≡ list + offset → HaveHandlers handlers start tries → offset + length (each_handler tries) < 65536 → Stands file at (tries_form offset tries) →
    FollowBytes (TryStands file units list handlers) (cursor at 0) tries (length tries * 8)
unfolding tries_form little_form each_handler
tries_follow low file ids units list handlers at offset start [] fit begun have little stands = (cursor at 0, refl, omega arith)
tries_follow low file ids units list handlers at offset start (try ∷ tries) fit begun have little stands =
    let fits = All-head (TryIsFit ids units) try tries fit in
    let size : ℕ = length (handler_form try.catches) in
    let behind : List ℕ = tries_form (offset + size) tries in
    let bound = simp length-append at little in
    let one = low.apart file at (u32_form try.start) (u16_form (try.end - try.start) ++ (u16_form offset ++ behind)) stands in
    let two = low.apart file (at + 4) (u16_form (try.end - try.start)) (u16_form offset ++ behind) one.1 in
    let three = low.apart file (at + 4 + 2) (u16_form offset) behind two.1 in
    let begin = low.u32 file at try.start fits.small.begin one.0 in
    let over = low.u16 file (at + 4) (try.end - try.start) fits.format.short two.0 in
    let six : at + 4 + 2 ≡ at + 6 = omega arith in
    let eight : at + 4 + 2 + 2 ≡ at + 8 = omega arith in
    let place = low.u16 file (at + 4 + 2) offset (omega (arith, bound)) three.0 in
    let handled : start ≡ list + u16_at file (at + 6) = begun ∙ ap (λ k. list + k) (sym place.1 ∙ ap (u16_at file) six) in
    let others = tries_follow low file ids units list handlers (at + 8) (offset + size) (start + size) tries (All-tail (TryIsFit ids units) try tries fit)
    (omega (arith, begun)) have.1 (omega (arith, bound)) (subst (λ k. Stands file k behind) eight three.1) in
    let first : TryStands file units list handlers (cursor at 0) try (cursor (at + 8) 0) = record {
      within = omega (arith, place.0);
      start = sym begin.1;
      end = omega (arith, begin.1, over.1, fits.format.forward);
      inside = omega (arith, begin.1, over.1, fits.format.forward, fits.inside);
      handler = subst (λ k. IsHandlerAt handlers k try.catches) handled have.0;
      after = refl;
      behind = refl;
    } in
    (others.0, (cursor (at + 8) 0, first, others.1), omega (arith, others.2))

-- ---- code

spells_tries : Lower → (file : List ℕ) (ids : Ids) (at : ℕ) (code : RawCode) → length file ≤ longest_file → CodeFitsFormat code → All (TryIsFit ids (length code.units)) code.tries →
    HeadStands file at code → TriesStand file at code → SpellsTries file ids at code.tries
unfolding each_handler
spells_tries low file ids at code short fits fit head stand =
    let list : ℕ = handlers_at file at in
    let count : ℕ = length code.tries in
    let offset : ℕ = length (uleb_form count) in
    let parts = low.apart file list (uleb_form count) (each_handler code.tries) stand.handlers in
    let place : ℕ = list + offset in
    let handlers : List Handler = handlers_from place code.tries in
    let little = simp length-append at fits.handlers in
    let long = as_many place code.tries in
    record {
      handlers = handlers;
      spelled = record {
        count = count;
        place = place;
        end = place + length (each_handler code.tries);
        stated = low.uleb file list count (omega (arith, fits.tries)) parts.0;
        listed = subst (λ n. ListStands (HandlerStands file ids) n place handlers (place + length (each_handler code.tries))) long
            (list_stands (HandlerStands file ids) place handlers (length (each_handler code.tries)) (handlers_follow low file ids (length code.units) place code.tries short fit parts.1));
      };
      end = tries_at file at + count * 8;
      listed = subst (λ n. ListStands (TryStands file (unit_count file at) list handlers) n (tries_at file at) code.tries (tries_at file at + count * 8)) (sym head.tries)
          (subst (λ units. ListStands (TryStands file units list handlers) count (tries_at file at) code.tries (tries_at file at + count * 8)) (sym head.units)
          (list_stands (TryStands file (length code.units) list handlers) (tries_at file at) code.tries (count * 8)
          (tries_follow low file ids (length code.units) list handlers (tries_at file at) offset place code.tries fit refl (have_handlers place code.tries) little stand.each)));
    }

no_items : {A : Type 0} (items : List A) → length items ≡ 0 → items ≡ []
no_items [] none = refl
no_items (item ∷ items) none = absurd (omega (arith, none))

some_number : (n : ℕ) → (n == 0) ≡ false → n ≢ 0
some_number n e = grind (arith, nat_tests)

has_tries : Lower → (file : List ℕ) (ids : Ids) (at : ℕ) (code : RawCode) → length file ≤ longest_file → CodeFitsFormat code → All (TryIsFit ids (length code.units)) code.tries →
    HeadStands file at code → HasTries file ids at code.tries
has_tries low file ids at code short fits fit head = cases (length code.tries == 0) refl
  where
    cases : (none : Bool) → (length code.tries == 0) ≡ none → HasTries file ids at code.tries
    cases true e = let none = no_number (length code.tries) e in inl (head.tries ∙ none, no_items code.tries none)
    cases false e =
        inr (λ none. some_number (length code.tries) e (sym head.tries ∙ none), spells_tries low file ids at code short fits fit head (tries_stand low file at code head e))

spells_code : Lower → (file : List ℕ) (ids : Ids) (at outs : ℕ) (code : RawCode) → length file ≤ longest_file → IsSmallCode code → CodeFitsFormat code →
    All (TryIsFit ids (length code.units)) code.tries → Stands file at (code_form outs code) → SpellsCode file ids at code
spells_code low file ids at outs code short small fits fit stands =
    let head = head_stands low file at outs code short small fits.tries stands in
    let parts = low.apart file (units_at at) (flat_map u16_form code.units) (tries_part code) head.rest in
    let end : ℕ = units_at at + length code.units * 2 in
    record {
      registers = sym head.registers;
      ins = sym head.ins;
      end = end;
      units = subst (λ n. ListStands (UnitStands file) n (units_at at) code.units end) (sym head.units)
          (list_stands (UnitStands file) (units_at at) code.units (length code.units * 2) (units_follow low file (units_at at) 0 code.units small.each_unit parts.0));
      tries = has_tries low file ids at code short fits fit head;
    }

-- ---- the law

tries_fit : (ids : Ids) (code : RawCode) → CodeFitsFormat code → IsSmallCode code → All (λ (try : RawTry). CatchesFit ids try.catches) code.tries → AreTriesInside code →
    All (TryIsFit ids (length code.units)) code.tries
tries_fit ids code fits small catches inside =
    λ k d within. record { format = fits.each k d within; small = small.each_try k d within; catches = catches k d within; inside = inside k d within }

pub written_tries : Lower → WrittenTries
written_tries low file ids stated method short small fits written handlers suited = record {
  row = sym written.row;
  flags = sym written.flags;
  list = sym written.list;
  code = cases method.code refl written.code;
}
  where
    cases : (code : Option RawCode) → method.code ≡ code → CodeWritten file stated.code_at code → HasCode file ids stated.code_at code
    cases None e none = none
    cases (Some code) e (some, little, outs, stands) = (
      some,
      spells_code low file ids stated.code_at outs code short (small.coded code e) (fits code e)
          (tries_fit ids code (fits code e) (small.coded code e) (handlers code e) (suited code e)) stands,
    )

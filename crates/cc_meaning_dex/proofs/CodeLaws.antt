-- That tries, whole code items and methods are read exactly where they are spelled.
use Rattle.std.proofs.Common.{◌≡◌, ◌≢◌, inl, inr, ℕ, ◌+◌, Bool, true, false, ◌&&◌, not, cond, eqb, nat_le, List, [], length, Option, Some, None, refl, sym, ap, subst, ◌∙◌, arith}
use Rattle.std.proofs.lemmas.Bool.Decides.{nat_tests}
use Rattle.cc_meaning.specs.declared.file.Ids.{Ids}
use Rattle.cc_meaning.specs.declared.file.RawCode.{RawCode}
use Rattle.cc_meaning.specs.declared.file.RawMethod.{RawMethod}
use Rattle.cc_meaning.specs.declared.file.RawTry.{RawTry}
use Rattle.cc_meaning.specs.declared.file.RawCatch.{RawCatch}
use Rattle.cc_meaning_dex.specs.Numbers.{u16_at, u32_at}
use Rattle.cc_meaning_dex.specs.TextLaws.{UlebAgrees, SlebAgrees}
use Rattle.cc_meaning_dex.specs.declared.items.Cursor.{Cursor}
use Rattle.cc_meaning_dex.specs.declared.items.Handler.{Handler}
use Rattle.cc_meaning_dex.specs.declared.items.StatedMethod.{StatedMethod}
use Rattle.cc_meaning_dex.specs.Sequences.{◌>>=◌, list_at}
use Rattle.cc_meaning_dex.specs.CodeItems.{has_no_code, argument_registers, register_count, argument_count, try_count, unit_count, units_at, tries_at, handlers_at, CodeFits, HasSoundCode, is_number, code_fits, has_sound_code, UnitStands, unit_at}
use Rattle.cc_meaning_dex.specs.Tries.{RisesFrom, TryStands, SpellsTries, HasTries, SpellsCode, HasCode, SpellsMethod, handlers_of, catches_at, try_fits, try_at, some_tries_of, tries_of, code_item_at, code_of, method_of}
use Rattle.cc_meaning_dex.proofs.Sequencing.{bind_some, some_is, ItemAgrees, list_stands, list_read}
use Rattle.cc_meaning_dex.proofs.MemberLaws.{same_cursor}
use Rattle.cc_meaning_dex.proofs.TryLaws.{handlers_spelled, handlers_read, handlers_rise, catches_found, found_catches, both_hold, within_from, from_within, if_true}

-- ---- units

unit_stands : (file : List ℕ) (from : Cursor) (read : ℕ × Cursor) → unit_at file from ≡ Some read → UnitStands file from read.0 read.1
unfolding unit_at
unit_stands file from read e =
    let made : ℕ × Cursor = (u16_at file from.at, record { at = from.at + 2; row = from.row }) in
    let there = if_true (nat_le (from.at + 2) (length file)) (Some made) read e in
    subst (λ (r : ℕ × Cursor). UnitStands file from r.0 r.1) (some_is made read there.1)
    (record { within = within_from (from.at + 2) (length file) there.0; value = refl; end = refl; behind = refl })

stands_unit : (file : List ℕ) (from : Cursor) (unit : ℕ) (next : Cursor) → UnitStands file from unit next → unit_at file from ≡ Some (unit, next)
unfolding unit_at
stands_unit file from unit next s =
    let after : Cursor = record { at = from.at + 2; row = from.row } in
    let behind : after ≡ next = same_cursor after next (sym s.end) (sym s.behind) in
    rw (from_within (from.at + 2) (length file) s.within) (ap (λ u. Some (u, after)) (sym s.value) ∙ ap (λ n. Some (unit, n)) behind)

unit_agrees : (file : List ℕ) → ItemAgrees (unit_at file) (UnitStands file)
unit_agrees file from unit next = (unit_stands file from (unit, next), stands_unit file from unit next)

-- ---- tries

try_stands : (file : List ℕ) (units list : ℕ) (handlers : List Handler) (from : Cursor) (read : RawTry × Cursor) →
    try_at file units list handlers from ≡ Some read → TryStands file units list handlers from read.0 read.1
unfolding try_at
try_stands file units list handlers from read e =
    let start = u32_at file from.at in
    let end = u32_at file from.at + u16_at file (from.at + 4) in
    let made : List RawCatch → RawTry × Cursor = λ catches. (record { start = start; end = end; catches = catches }, record { at = from.at + 8; row = from.row }) in
    let there = if_true (try_fits file units from.at) (catches_at handlers (list + u16_at file (from.at + 6)) >>= λ catches. Some (made catches)) read e in
    let fits = both_hold (nat_le (from.at + 8) (length file)) (nat_le end units) there.0 in
    let catches = bind_some (catches_at handlers (list + u16_at file (from.at + 6))) (λ catches. Some (made catches)) read there.1 in
    subst (λ (r : RawTry × Cursor). TryStands file units list handlers from r.0 r.1) (some_is (made catches.0) read catches.2)
    (record {
      within = within_from (from.at + 8) (length file) fits.0;
      start = refl;
      end = refl;
      inside = within_from end units fits.1;
      handler = catches_found handlers (list + u16_at file (from.at + 6)) catches.0 catches.1;
      after = refl;
      behind = refl;
    })

try_from : ℕ → ℕ → List RawCatch → RawTry
try_from start end catches = record { start = start; end = end; catches = catches }

same_try : (a b : RawTry) → a.start ≡ b.start → a.end ≡ b.end → a.catches ≡ b.catches → a ≡ b
unfolding try_from
same_try a b start end catches = ap (λ x. try_from x a.end a.catches) start ∙ ap (λ x. try_from b.start x a.catches) end ∙ ap (try_from b.start b.end) catches

stands_try : (file : List ℕ) (units list : ℕ) (handlers : List Handler) → RisesFrom 0 handlers → (from : Cursor) (try : RawTry) (next : Cursor) →
    TryStands file units list handlers from try next → try_at file units list handlers from ≡ Some (try, next)
unfolding try_at
stands_try file units list handlers rises from try next s =
    let start = u32_at file from.at in
    let end = u32_at file from.at + u16_at file (from.at + 4) in
    let made : RawTry = record { start = start; end = end; catches = try.catches } in
    let after : Cursor = record { at = from.at + 8; row = from.row } in
    let same : made ≡ try = same_try made try (sym s.start) (sym s.end) refl in
    let behind : after ≡ next = same_cursor after next (sym s.after) (sym s.behind) in
    let h = s.handler in
    let found : catches_at handlers (list + u16_at file (from.at + 6)) ≡ Some try.catches = found_catches handlers 0 (list + u16_at file (from.at + 6)) h.place h.handler rises h.there h.begun ∙ ap Some h.caught in
    rw (from_within (from.at + 8) (length file) s.within, from_within end units s.inside, found) (ap (λ t. Some (t, after)) same ∙ ap (λ n. Some (try, n)) behind)

try_agrees : (file : List ℕ) (units list : ℕ) (handlers : List Handler) → RisesFrom 0 handlers → ItemAgrees (try_at file units list handlers) (TryStands file units list handlers)
try_agrees file units list handlers rises from try next = (try_stands file units list handlers from (try, next), stands_try file units list handlers rises from try next)

some_tries_spelled : UlebAgrees → SlebAgrees → (file : List ℕ) (ids : Ids) (at : ℕ) (tries : List RawTry) → some_tries_of file ids at ≡ Some tries → SpellsTries file ids at tries
unfolding some_tries_of
some_tries_spelled uleb sleb file ids at tries e =
    let units = unit_count file at in
    let list = handlers_at file at in
    let handlers = bind_some (handlers_of file ids list) (λ handlers. list_at (try_at file units list handlers) (try_count file at) (tries_at file at) >>= λ tries. Some tries.0) tries e in
    let read = bind_some (list_at (try_at file units list handlers.0) (try_count file at) (tries_at file at)) (λ tries. Some tries.0) tries handlers.2 in
    let rises = handlers_rise uleb sleb file ids list handlers.0 handlers.1 in
    subst (λ (ts : List RawTry). SpellsTries file ids at ts) (some_is read.0.0 tries read.2)
    (record {
      handlers = handlers.0;
      spelled = handlers_spelled uleb sleb file ids list handlers.0 handlers.1;
      end = read.0.1;
      listed = list_stands (try_at file units list handlers.0) (TryStands file units list handlers.0) (try_agrees file units list handlers.0 rises) (try_count file at) (tries_at file at) read.0 read.1;
    })

some_tries_read : UlebAgrees → SlebAgrees → (file : List ℕ) (ids : Ids) (at : ℕ) (tries : List RawTry) → SpellsTries file ids at tries → some_tries_of file ids at ≡ Some tries
unfolding some_tries_of
some_tries_read uleb sleb file ids at tries s =
    let units = unit_count file at in
    let list = handlers_at file at in
    let read = handlers_read uleb sleb file ids list s.handlers s.spelled in
    let rises = handlers_rise uleb sleb file ids list s.handlers read in
    rw (read, list_read (try_at file units list s.handlers) (TryStands file units list s.handlers) (try_agrees file units list s.handlers rises) (try_count file at) (tries_at file at) tries s.end s.listed) refl

-- ---- something that stands at offset 0, or somewhere

pub equal_from : (a b : ℕ) → eqb a b ≡ true → a ≡ b
equal_from a b e = grind (arith, nat_tests)

pub from_equal : (a b : ℕ) → a ≡ b → eqb a b ≡ true
from_equal a b e = grind (arith, nat_tests)

pub other_from : (a b : ℕ) → eqb a b ≡ false → a ≢ b
other_from a b e = λ same. absurd (let yes = from_equal a b same in cc)

pub from_other : (a b : ℕ) → a ≢ b → eqb a b ≡ false
from_other a b other = grind (arith, nat_tests)

tries_spelled : UlebAgrees → SlebAgrees → (file : List ℕ) (ids : Ids) (at : ℕ) (tries : List RawTry) → tries_of file ids at ≡ Some tries → HasTries file ids at tries
unfolding tries_of
tries_spelled uleb sleb file ids at tries e = cases (eqb (try_count file at) 0) refl e
  where
    cases : (test : Bool) → eqb (try_count file at) 0 ≡ test → cond test (Some []) (some_tries_of file ids at) ≡ Some tries → HasTries file ids at tries
    cases true t e = inl (equal_from (try_count file at) 0 t, sym (some_is [] tries e))
    cases false t e = inr (other_from (try_count file at) 0 t, some_tries_spelled uleb sleb file ids at tries e)

tries_read : UlebAgrees → SlebAgrees → (file : List ℕ) (ids : Ids) (at : ℕ) (tries : List RawTry) → HasTries file ids at tries → tries_of file ids at ≡ Some tries
unfolding tries_of
tries_read uleb sleb file ids at tries (inl none) = rw (from_equal (try_count file at) 0 none.0) (ap Some (sym none.1))
tries_read uleb sleb file ids at tries (inr some) = rw (from_other (try_count file at) 0 some.0) (some_tries_read uleb sleb file ids at tries some.1)

-- ---- code

code_spelled : UlebAgrees → SlebAgrees → (file : List ℕ) (ids : Ids) (at : ℕ) (code : RawCode) → code_item_at file ids at ≡ Some code → SpellsCode file ids at code
unfolding code_item_at
code_spelled uleb sleb file ids at code e =
    let made : List ℕ → List RawTry → RawCode = λ units tries. record { registers = register_count file at; ins = argument_count file at; units = units; tries = tries } in
    let units = bind_some (list_at (unit_at file) (unit_count file at) (units_at at)) (λ units. tries_of file ids at >>= λ tries. Some (made units.0 tries)) code e in
    let tries = bind_some (tries_of file ids at) (λ tries. Some (made units.0.0 tries)) code units.2 in
    subst (λ (c : RawCode). SpellsCode file ids at c) (some_is (made units.0.0 tries.0) code tries.2)
    (record {
      registers = refl;
      ins = refl;
      end = units.0.1;
      units = list_stands (unit_at file) (UnitStands file) (unit_agrees file) (unit_count file at) (units_at at) units.0 units.1;
      tries = tries_spelled uleb sleb file ids at tries.0 tries.1;
    })

code_from : ℕ → ℕ → List ℕ → List RawTry → RawCode
code_from registers ins units tries = record { registers = registers; ins = ins; units = units; tries = tries }

same_code : (a b : RawCode) → a.registers ≡ b.registers → a.ins ≡ b.ins → a.units ≡ b.units → a.tries ≡ b.tries → a ≡ b
unfolding code_from
same_code a b registers ins units tries =
    ap (λ x. code_from x a.ins a.units a.tries) registers ∙ ap (λ x. code_from b.registers x a.units a.tries) ins
    ∙ ap (λ x. code_from b.registers b.ins x a.tries) units ∙ ap (code_from b.registers b.ins b.units) tries

code_read : UlebAgrees → SlebAgrees → (file : List ℕ) (ids : Ids) (at : ℕ) (code : RawCode) → SpellsCode file ids at code → code_item_at file ids at ≡ Some code
unfolding code_item_at
code_read uleb sleb file ids at code s =
    let made : RawCode = record { registers = register_count file at; ins = argument_count file at; units = code.units; tries = code.tries } in
    rw (list_read (unit_at file) (UnitStands file) (unit_agrees file) (unit_count file at) (units_at at) code.units s.end s.units, tries_read uleb sleb file ids at code.tries s.tries)
    (ap Some (same_code made code (sym s.registers) (sym s.ins) refl refl))

-- ---- methods

has_code : UlebAgrees → SlebAgrees → (file : List ℕ) (ids : Ids) (at : ℕ) (code : Option RawCode) → code_of file ids at ≡ Some code → HasCode file ids at code
unfolding code_of
has_code uleb sleb file ids at code e = cases (eqb at 0) refl e
  where
    cases : (test : Bool) → eqb at 0 ≡ test → cond test (Some None) (code_item_at file ids at >>= λ code. Some (Some code)) ≡ Some code → HasCode file ids at code
    cases true t e = subst (λ (c : Option RawCode). HasCode file ids at c) (some_is None code e) (equal_from at 0 t)
    cases false t e =
        let read = bind_some (code_item_at file ids at) (λ code. Some (Some code)) code e in
        subst (λ (c : Option RawCode). HasCode file ids at c) (some_is (Some read.0) code read.2) (other_from at 0 t, code_spelled uleb sleb file ids at read.0 read.1)

code_had : UlebAgrees → SlebAgrees → (file : List ℕ) (ids : Ids) (at : ℕ) (code : Option RawCode) → HasCode file ids at code → code_of file ids at ≡ Some code
unfolding code_of
code_had uleb sleb file ids at None none = rw (from_equal at 0 none) refl
code_had uleb sleb file ids at (Some code) some = rw (from_other at 0 some.0, code_read uleb sleb file ids at code some.1) refl

pub method_spelled : UlebAgrees → SlebAgrees → (file : List ℕ) (ids : Ids) (stated : StatedMethod) (method : RawMethod) → method_of file ids stated ≡ Some method → SpellsMethod file ids stated method
unfolding method_of
method_spelled uleb sleb file ids stated method e =
    let made : Option RawCode → RawMethod = λ code. record { row = stated.row; flags = stated.flags; is_direct = stated.is_direct; code = code } in
    let code = bind_some (code_of file ids stated.code_at) (λ code. Some (made code)) method e in
    subst (λ (m : RawMethod). SpellsMethod file ids stated m) (some_is (made code.0) method code.2)
    (record { row = refl; flags = refl; list = refl; code = has_code uleb sleb file ids stated.code_at code.0 code.1 })

method_from : ℕ → ℕ → Bool → Option RawCode → RawMethod
method_from row flags is_direct code = record { row = row; flags = flags; is_direct = is_direct; code = code }

same_method : (a b : RawMethod) → a.row ≡ b.row → a.flags ≡ b.flags → a.is_direct ≡ b.is_direct → a.code ≡ b.code → a ≡ b
unfolding method_from
same_method a b row flags list code =
    ap (λ x. method_from x a.flags a.is_direct a.code) row ∙ ap (λ x. method_from b.row x a.is_direct a.code) flags
    ∙ ap (λ x. method_from b.row b.flags x a.code) list ∙ ap (method_from b.row b.flags b.is_direct) code

pub method_read : UlebAgrees → SlebAgrees → (file : List ℕ) (ids : Ids) (stated : StatedMethod) (method : RawMethod) → SpellsMethod file ids stated method → method_of file ids stated ≡ Some method
unfolding method_of
method_read uleb sleb file ids stated method s =
    let made : RawMethod = record { row = stated.row; flags = stated.flags; is_direct = stated.is_direct; code = method.code } in
    rw (code_had uleb sleb file ids stated.code_at method.code s.code) (ap Some (same_method made method (sym s.row) (sym s.flags) (sym s.list) refl))

-- ---- whether a method has the code that it is to have

number_is : (n : Option ℕ) (wanted : ℕ) → is_number n wanted ≡ true → n ≡ Some wanted
number_is None wanted e = absurd (cc)
number_is (Some n) wanted e = ap Some (equal_from n wanted e)

is_that_number : (n : Option ℕ) (wanted : ℕ) → n ≡ Some wanted → is_number n wanted ≡ true
is_that_number n wanted e = rw e (from_equal wanted wanted refl)

fitting : (file : List ℕ) (ids : Ids) (method : StatedMethod) → code_fits file ids method ≡ true → CodeFits file ids method
unfolding code_fits
fitting file ids method e =
    let at = method.code_at in
    let arguments = is_number (argument_registers ids method.row method.flags) (argument_count file at) in
    let first = both_hold (nat_le (handlers_at file at) (length file)) (arguments && nat_le (argument_count file at) (register_count file at)) e in
    let second = both_hold arguments (nat_le (argument_count file at) (register_count file at)) first.1 in
    record {
      within = within_from (handlers_at file at) (length file) first.0;
      arguments = number_is (argument_registers ids method.row method.flags) (argument_count file at) second.0;
      few = within_from (argument_count file at) (register_count file at) second.1;
    }

fits : (file : List ℕ) (ids : Ids) (method : StatedMethod) → CodeFits file ids method → code_fits file ids method ≡ true
unfolding code_fits
fits file ids method s =
    let at = method.code_at in
    rw (from_within (handlers_at file at) (length file) s.within, is_that_number (argument_registers ids method.row method.flags) (argument_count file at) s.arguments)
    (from_within (argument_count file at) (register_count file at) s.few)

not_and : (a b : Bool) → (not a && b) ≡ true → (a ≡ false) × (b ≡ true)
not_and true b e = absurd (cc)
not_and false b e = (refl, e)

pub sound_code : (file : List ℕ) (ids : Ids) (method : StatedMethod) → has_sound_code file ids method ≡ true → HasSoundCode file ids method
unfolding has_sound_code
sound_code file ids method e = cases (eqb method.code_at 0) refl e
  where
    cases : (test : Bool) → eqb method.code_at 0 ≡ test → cond test (has_no_code method.flags) (not (has_no_code method.flags) && code_fits file ids method) ≡ true → HasSoundCode file ids method
    cases true t e = inl (equal_from method.code_at 0 t, e)
    cases false t e =
        let both = not_and (has_no_code method.flags) (code_fits file ids method) e in
        inr (other_from method.code_at 0 t, both.0, fitting file ids method both.1)

pub code_sound : (file : List ℕ) (ids : Ids) (method : StatedMethod) → HasSoundCode file ids method → has_sound_code file ids method ≡ true
unfolding has_sound_code
code_sound file ids method (inl none) = rw (from_equal method.code_at 0 none.0) none.1
code_sound file ids method (inr some) = rw (from_other method.code_at 0 some.0, some.1) (fits file ids method some.2)

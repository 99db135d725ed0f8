-- Methods and classes that are read one after the other, as a loop does, up to the first fault.
use Rattle.std.proofs.Common.{◌≡◌, ◌≢◌, ℕ, zero, suc, ◌+◌, ◌<◌, ◌≤◌, Bool, true, false, not, ◌&&◌, cond, eqb, nat_le, List, [], ◌∷◌, ◌++◌, length, get_or, drop, Some, None, Result, Ok, Err, refl, sym, ap, ◌∙◌, append_assoc, arith}
use Rattle.std.proofs.lemmas.Bool.Decides.{nat_tests}
use Rattle.std.proofs.lemmas.List.{append-nil, drop_more, at_drop_all}
use Rattle.cc_meaning.specs.declared.fault.DexFault.{DexFault}
use Rattle.cc_meaning.specs.declared.fault.DexFault.TheVariants.{BadCode, BadTry}
use Rattle.cc_meaning.specs.declared.file.Ids.{Ids}
use Rattle.cc_meaning.specs.declared.file.ClassRow.{ClassRow}
use Rattle.cc_meaning.specs.declared.file.RawClass.{RawClass}
use Rattle.cc_meaning.specs.declared.file.RawMethod.{RawMethod}
use Rattle.cc_meaning_dex.specs.Numbers.{Within}
use Rattle.cc_meaning_dex.specs.declared.items.StatedMethod.{StatedMethod}
use Rattle.cc_meaning_dex.specs.CodeItems.{has_no_code, argument_registers, argument_count, register_count, handlers_at, is_number, code_fits, has_sound_code}
use Rattle.cc_meaning_dex.specs.Tries.{method_of}
use Rattle.cc_meaning_dex.specs.Classes.{◌>>=◌, or_fault, code_fault, methods_with_code, class_of, classes_from}
use Rattle.cc_dexcode.specs.Finding.{Answers}
use Rattle.cc_dexcode.proofs.Places.{head_first}

-- what was read before, and what is still read
abbrev pub with_front : {A : Type 0} → List A → Result (List A) DexFault → Result (List A) DexFault
with_front front read = read >>= λ items. Ok (front ++ items)

pub without_front : {A : Type 0} (read : Result (List A) DexFault) → with_front [] read ≡ read
without_front (Ok items) = refl
without_front (Err fault) = refl

regroup : {A : Type 0} (front : List A) (item : A) (read : Result (List A) DexFault) → with_front front (read >>= λ items. Ok (item ∷ items)) ≡ with_front (front ++ item ∷ []) read
regroup front item (Ok items) = ap Ok (simp append_assoc)
regroup front item (Err fault) = refl

-- ---- code

pub code_more : (file : List ℕ) (ids : Ids) (methods : List StatedMethod) (i : ℕ) (d : StatedMethod) → i < length methods → true ≡ has_sound_code file ids (get_or methods i d) →
    code_fault file ids (drop (i + 1) methods) ≡ code_fault file ids (drop i methods)
unfolding code_fault
code_more file ids methods i d below sound = rw (drop_more methods i d below, sym sound) refl

pub code_here : (file : List ℕ) (ids : Ids) (methods : List StatedMethod) (i : ℕ) (d : StatedMethod) → i < length methods → false ≡ has_sound_code file ids (get_or methods i d) →
    code_fault file ids (drop i methods) ≡ Some (BadCode (get_or methods i d).row)
unfolding code_fault
code_here file ids methods i d below unsound = rw (drop_more methods i d below, sym unsound) refl

pub code_all : (file : List ℕ) (ids : Ids) (methods : List StatedMethod) (i : ℕ) → length methods ≤ i → code_fault file ids (drop i methods) ≡ None
unfolding code_fault
code_all file ids methods i all = at_drop_all (code_fault file ids) methods i all

both_hold : (a b : Bool) → (a && b) ≡ true → (a ≡ true) × (b ≡ true)
both_hold true b e = (refl, e)
both_hold false b e = absurd (cc)

head_stands : (file : List ℕ) (ids : Ids) (method : StatedMethod) → has_sound_code file ids method ≡ true → method.code_at ≢ 0 → Within file method.code_at 16
unfolding has_sound_code code_fits
head_stands file ids method sound some =
    let at = method.code_at in
    let test : eqb at 0 ≡ false = other at some in
    let fits = both_hold (not (has_no_code method.flags)) (nat_le (handlers_at file at) (length file) && (is_number (argument_registers ids method.row method.flags) (argument_count file at) && nat_le (argument_count file at) (register_count file at))) (rw test at sound) in
    let within = both_hold (nat_le (handlers_at file at) (length file)) (is_number (argument_registers ids method.row method.flags) (argument_count file at) && nat_le (argument_count file at) (register_count file at)) fits.1 in
    from_test (handlers_at file at) (length file) (at + 16) (head_first file at) within.0
  where
    other : (a : ℕ) → a ≢ 0 → eqb a 0 ≡ false
    other a h = grind (arith, nat_tests)

    from_test : (a b c : ℕ) → c ≤ a → nat_le a b ≡ true → c ≤ b
    from_test a b c le e = grind (arith, nat_tests)

first_sound : (file : List ℕ) (ids : Ids) (method : StatedMethod) (rest : List StatedMethod) → code_fault file ids (method ∷ rest) ≡ None → (has_sound_code file ids method ≡ true) × (code_fault file ids rest ≡ None)
unfolding code_fault
first_sound file ids method rest none = cases (has_sound_code file ids method) refl none
  where
    cases : (test : Bool) → has_sound_code file ids method ≡ test → cond test (code_fault file ids rest) (Some (BadCode method.row)) ≡ None → (has_sound_code file ids method ≡ true) × (code_fault file ids rest ≡ None)
    cases true t e = (t, e)
    cases false t e = absurd (cc)

pub head_within : (file : List ℕ) (ids : Ids) (methods : List StatedMethod) (i : ℕ) (d : StatedMethod) → code_fault file ids methods ≡ None → i < length methods →
    (get_or methods i d).code_at ≢ 0 → Within file (get_or methods i d).code_at 16
head_within file ids [] i d none below some = absurd (omega (arith, below))
head_within file ids (method ∷ methods) zero d none below some = head_stands file ids method (first_sound file ids method methods none).0 some
head_within file ids (method ∷ methods) (suc i) d none below some =
    head_within file ids methods i d (first_sound file ids method methods none).1 (omega (arith, below)) some

-- ---- methods

pub methods_more : (file : List ℕ) (ids : Ids) (front : List RawMethod) (methods : List StatedMethod) (i : ℕ) (d : StatedMethod) (method : RawMethod) (total : Result (List RawMethod) DexFault) → i < length methods →
    or_fault (method_of file ids (get_or methods i d)) (BadTry (get_or methods i d).row) ≡ Ok method → with_front front (methods_with_code file ids (drop i methods)) ≡ total →
    with_front (front ++ method ∷ []) (methods_with_code file ids (drop (i + 1) methods)) ≡ total
unfolding methods_with_code
methods_more file ids front methods i d method total below here so_far =
    let one : with_front front (methods_with_code file ids (drop i methods)) ≡ with_front (front ++ method ∷ []) (methods_with_code file ids (drop (i + 1) methods)) =
    rw (drop_more methods i d below, here) (regroup front method (methods_with_code file ids (drop (i + 1) methods))) in
    sym one ∙ so_far

pub methods_fail : (file : List ℕ) (ids : Ids) (front : List RawMethod) (methods : List StatedMethod) (i : ℕ) (d : StatedMethod) (fault : DexFault) (total : Result (List RawMethod) DexFault) → i < length methods →
    Answers (or_fault (method_of file ids (get_or methods i d)) (BadTry (get_or methods i d).row)) (Err fault) → with_front front (methods_with_code file ids (drop i methods)) ≡ total →
    Answers total (Err fault)
unfolding methods_with_code
methods_fail file ids front methods i d fault total below here so_far = λ other.
    let failed = here other in
    let one : with_front front (methods_with_code file ids (drop i methods)) ≡ Err fault = rw (drop_more methods i d below, failed) refl in
    sym so_far ∙ one

pub methods_done : (file : List ℕ) (ids : Ids) (front : List RawMethod) (methods : List StatedMethod) (i : ℕ) (total : Result (List RawMethod) DexFault) → length methods ≤ i →
    with_front front (methods_with_code file ids (drop i methods)) ≡ total → total ≡ Ok front
unfolding methods_with_code
methods_done file ids front methods i total all so_far =
    let one : with_front front (methods_with_code file ids (drop i methods)) ≡ Ok front = ap (with_front front) (at_drop_all (methods_with_code file ids) methods i all) ∙ ap Ok (append-nil front) in
    sym so_far ∙ one

-- ---- classes

pub classes_more : (file : List ℕ) (ids : Ids) (front : List RawClass) (definitions : List ClassRow) (i : ℕ) (d : ClassRow) (class : RawClass) (total : Result (List RawClass) DexFault) → i < length definitions →
    class_of file ids i (get_or definitions i d) ≡ Ok class → with_front front (classes_from file ids i (drop i definitions)) ≡ total →
    with_front (front ++ class ∷ []) (classes_from file ids (i + 1) (drop (i + 1) definitions)) ≡ total
unfolding classes_from
classes_more file ids front definitions i d class total below here so_far =
    let one : with_front front (classes_from file ids i (drop i definitions)) ≡ with_front (front ++ class ∷ []) (classes_from file ids (i + 1) (drop (i + 1) definitions)) =
    rw (drop_more definitions i d below, here) (regroup front class (classes_from file ids (i + 1) (drop (i + 1) definitions))) in
    sym one ∙ so_far

pub classes_fail : (file : List ℕ) (ids : Ids) (front : List RawClass) (definitions : List ClassRow) (i : ℕ) (d : ClassRow) (fault : DexFault) (total : Result (List RawClass) DexFault) → i < length definitions →
    Answers (class_of file ids i (get_or definitions i d)) (Err fault) → with_front front (classes_from file ids i (drop i definitions)) ≡ total → Answers total (Err fault)
unfolding classes_from
classes_fail file ids front definitions i d fault total below here so_far = λ other.
    let failed = here other in
    let one : with_front front (classes_from file ids i (drop i definitions)) ≡ Err fault = rw (drop_more definitions i d below, failed) refl in
    sym so_far ∙ one

pub classes_done : (file : List ℕ) (ids : Ids) (front : List RawClass) (definitions : List ClassRow) (i : ℕ) (total : Result (List RawClass) DexFault) → length definitions ≤ i →
    with_front front (classes_from file ids i (drop i definitions)) ≡ total → total ≡ Ok front
unfolding classes_from
classes_done file ids front definitions i total all so_far =
    let one : with_front front (classes_from file ids i (drop i definitions)) ≡ Ok front = ap (with_front front) (at_drop_all (classes_from file ids i) definitions i all) ∙ ap Ok (append-nil front) in
    sym so_far ∙ one

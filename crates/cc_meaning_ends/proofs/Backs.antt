-- A Back that is read says that its function returned, or stopped for want of instructions or words.
use Rattle.std.proofs.Common.{ℕ, zero, suc, List, [], ◌∷◌, Option, Result, Ok, Err, refl}
use Rattle.std.specs.Prelude.{IsSome, slice_get, Bool, true, false}
use Rattle.std.specs.Int.{w32, w64}
use Rattle.cc_meaning.specs.declared.report.CallEnd.{CallEnd}
use Rattle.cc_meaning.specs.declared.report.CallEnd.TheVariants as end
use Rattle.cc_meaning.specs.declared.fault.ImageFault.{ImageFault}
use Rattle.cc_meaning.specs.declared.program.DexType.{DexType}
use Rattle.cc_meaning.specs.declared.program.Program.{Program}
use Rattle.cc_meaning.specs.declared.image.RunImage.{RunImage}
use Rattle.cc_meaning.specs.declared.image.BackImage.{BackImage}
use Rattle.cc_output.specs.Travel.{stopped_line}
use Rattle.cc_meaning_images.specs.Reading.{Got, got, wrong, reading, number, byte, none, values, result, ending_by, ending, BackHead, back_head, statuses_since, static_kinds, back_behind, back_fits, result_of, fitting, whole, read_back}

-- it holds of what was read, if anything was
abbrev pub OfGot : {A : Type 0} → (A → Type 0) → Got A → Type 0
OfGot P (got a at rest) = P a
OfGot P (wrong fault) = Unit {0}

abbrev pub OfOk : {A : Type 0} → (A → Type 0) → Result A ImageFault → Type 0
OfOk P (Ok a) = P a
OfOk P (Err fault) = Unit {0}

read_with : {A B : Type 0} (P : A → Type 0) (Q : B → Type 0) (g : Got A) (k : A → ℕ → List ℕ → Got B) → OfGot P g → ((a : A) (at : ℕ) (rest : List ℕ) → P a → OfGot Q (k a at rest)) → OfGot Q (reading g k)
unfolding reading
read_with P Q (got a at rest) k h f = f a at rest h
read_with P Q (wrong fault) k h f = tt

read_any : {A B : Type 0} (Q : B → Type 0) (g : Got A) (k : A → ℕ → List ℕ → Got B) → ((a : A) (at : ℕ) (rest : List ℕ) → OfGot Q (k a at rest)) → OfGot Q (reading g k)
unfolding reading
read_any Q (got a at rest) k f = f a at rest
read_any Q (wrong fault) k f = tt

-- a stop is one of the two
abbrev pub IsPlainEnd : CallEnd → Type 0
IsPlainEnd (end.Returned v) = Unit {0}
IsPlainEnd (end.Thrown number) = Unit {0}
IsPlainEnd (end.Stopped stop) = IsSome (stopped_line stop)

ending_by_plain : (type : Option DexType) (b from at : ℕ) (rest : List ℕ) → OfGot IsPlainEnd (ending_by type b from at rest)
unfolding ending_by
ending_by_plain type zero from at rest = read_any IsPlainEnd (result type at rest) _ (λ v next more. tt)
ending_by_plain type (suc zero) from at rest = tt
ending_by_plain type (suc (suc zero)) from at rest = refl
ending_by_plain type (suc (suc (suc zero))) from at rest = refl
ending_by_plain type (suc (suc (suc (suc n)))) from at rest = tt

ending_plain : (type : Option DexType) (at : ℕ) (rest : List ℕ) → OfGot IsPlainEnd (ending type at rest)
unfolding ending
ending_plain type at rest = read_any IsPlainEnd (byte at rest) _ (λ b next more. ending_by_plain type b at next more)

abbrev EndsHead : BackHead → Type 0
EndsHead head = IsPlainEnd head.ending

abbrev pub EndsBack : BackImage → Type 0
EndsBack back = IsPlainEnd back.ending

head_plain : (type : Option DexType) (at : ℕ) (rest : List ℕ) → OfGot EndsHead (back_head type at rest)
unfolding back_head
head_plain type at rest =
    read_with IsPlainEnd EndsHead (ending type at rest) _ (ending_plain type at rest) (λ e a1 r1 h.
    read_any EndsHead (number w64 a1 r1) _ (λ instructions a2 r2.
    read_any EndsHead (number w32 a2 r2) _ (λ words a3 r3. h)))

behind_plain : (p : Program) (before : List ℕ) (head : BackHead) (at : ℕ) (rest : List ℕ) → EndsHead head → OfGot EndsBack (back_behind p before head at rest)
unfolding back_behind
behind_plain p before head at rest h =
    read_any EndsBack (statuses_since before at rest) _ (λ ss a1 r1.
    read_any EndsBack (values (static_kinds p) a1 r1) _ (λ statics a2 r2.
    read_any EndsBack (none a2 r2) _ (λ literals a3 r3.
    read_any EndsBack (none a3 r3) _ (λ constants a4 r4.
    read_any EndsBack (none a4 r4) _ (λ events a5 r5. h)))))

fitting_plain : (b : Bool) (back : BackImage) → EndsBack back → OfOk EndsBack (fitting b back)
fitting_plain true back h = h
fitting_plain false back h = tt

whole_plain : (fits : BackImage → Bool) (g : Got BackImage) → OfGot EndsBack g → OfOk EndsBack (whole fits g)
unfolding whole
whole_plain fits (got back at []) h = fitting_plain (fits back) back h
whole_plain fits (got back at (b ∷ rest)) h = tt
whole_plain fits (wrong fault) h = tt

pub back_plain : (p : Program) (run : RunImage) (bytes : List ℕ) → OfOk EndsBack (read_back p run bytes)
unfolding read_back
back_plain p run bytes =
    let type = result_of (slice_get p.methods run.method) in
    whole_plain (back_fits run) _ (read_with EndsHead EndsBack (back_head type 0 bytes) _ (head_plain type 0 bytes) (λ head at rest h. behind_plain p run.statuses head at rest h))

-- The image of a function's end, step by step.
use Rattle.std.proofs.Common.{◌≡◌, ◌≢◌, ℕ, zero, suc, ◌+◌, ◌<◌, ◌≤◌, ◌==◌, ◌&&◌, ℤ, Bool, true, false, cond, List, [], ◌∷◌, Option, Some, None, refl, sym, ap, ◌∙◌, arith, nat_le}
use Rattle.std.specs.Int.{w32, w64}
use Rattle.std.proofs.lemmas.Bool.Decides.{nat_tests}
use Rattle.cc_meaning.specs.declared.instruction.Kind.TheVariants as access
use Rattle.cc_meaning.specs.declared.value.Value.TheVariants as value
use Rattle.cc_meaning.specs.declared.report.CallEnd.{CallEnd}
use Rattle.cc_meaning.specs.declared.report.CallEnd.TheVariants as end
use Rattle.cc_meaning.specs.declared.report.StopCause.TheVariants as cause
use Rattle.cc_meaning.specs.declared.image.Contents.TheVariants as contents
use Rattle.cc_meaning.specs.declared.fault.ImageFault.{ImageFault}
use Rattle.cc_meaning.specs.declared.fault.ImageFault.TheVariants.{BadKind}
use Rattle.cc_meaning_images.specs.Reading.{Got, got, wrong, reading, allowed, number, byte, none, values, result, ending_by, ending, statuses_since, back_head, back_behind}
use Rattle.cc_meaning_plain.specs.declared.plain.Plain.{Plain}
use Rattle.cc_meaning_plain.specs.Program.{program_of}
use Rattle.cc_meaning_clone.specs.Functions.{FormIs}
use Rattle.cc_wire.specs.declared.back.BackHead.{BackHead}
use Rattle.cc_wire.specs.Backs.{int_result, head_of, back_image_of}
use Rattle.cc_wire.proofs.Chains.{got_on, wrong_on, is_allowed, not_allowed}

-- ---- the end

no_end : (k from at : ℕ) (rest : List ℕ) → k ≢ 0 → k ≢ 2 → k ≢ 3 → ending_by (Some int_result) k from at rest ≡ wrong (BadKind from)
unfolding ending_by
no_end zero from at rest n0 n2 n3 = absurd (n0 refl)
no_end (suc zero) from at rest n0 n2 n3 = refl
no_end (suc (suc zero)) from at rest n0 n2 n3 = absurd (n2 refl)
no_end (suc (suc (suc zero))) from at rest n0 n2 n3 = absurd (n3 refl)
no_end (suc (suc (suc (suc k)))) from at rest n0 n2 n3 = refl

module _ (at : ℕ) (rest : List ℕ) where
  pub no_ending : (f : ImageFault) → byte at rest ≡ wrong f → ending (Some int_result) at rest ≡ wrong f
  unfolding ending
  no_ending f e = wrong_on _ _ f e

  module _ (b a1 : ℕ) (r1 : List ℕ) (e1 : byte at rest ≡ got b a1 r1) where
    pub bad_number : (f : ImageFault) → b ≡ 0 → values (access.Plain ∷ []) a1 r1 ≡ wrong f → ending (Some int_result) at rest ≡ wrong f
    unfolding ending ending_by result
    bad_number f z e = got_on _ _ b a1 r1 e1 ∙ rw z (wrong_on _ _ f (wrong_on _ _ f e))

    pub returned : (n : ℤ) (a2 : ℕ) (r2 : List ℕ) → b ≡ 0 → values (access.Plain ∷ []) a1 r1 ≡ got (value.Int n ∷ []) a2 r2 → ending (Some int_result) at rest ≡ got (end.Returned (Some (value.Int n))) a2 r2
    unfolding ending ending_by result
    returned n a2 r2 z e = got_on _ _ b a1 r1 e1 ∙ rw z (got_on _ _ _ _ _ (got_on _ _ _ _ _ e))

    pub out_of_instructions : b ≡ 2 → ending (Some int_result) at rest ≡ got (end.Stopped cause.Budget) a1 r1
    unfolding ending ending_by
    out_of_instructions z = got_on _ _ b a1 r1 e1 ∙ rw z refl

    pub out_of_words : b ≡ 3 → ending (Some int_result) at rest ≡ got (end.Stopped cause.Heap) a1 r1
    unfolding ending ending_by
    out_of_words z = got_on _ _ b a1 r1 e1 ∙ rw z refl

    pub no_such_end : b ≢ 0 → b ≢ 2 → b ≢ 3 → ending (Some int_result) at rest ≡ wrong (BadKind at)
    unfolding ending
    no_such_end n0 n2 n3 = got_on _ _ b a1 r1 e1 ∙ no_end b at a1 r1 n0 n2 n3

-- ---- the status

pub since_wrong : (before at : ℕ) (rest : List ℕ) (f : ImageFault) → byte at rest ≡ wrong f → statuses_since (before ∷ []) at rest ≡ wrong f
unfolding statuses_since
since_wrong before at rest f e = wrong_on _ _ f e

pub since_bad : (before at : ℕ) (rest : List ℕ) (b n : ℕ) (m : List ℕ) → byte at rest ≡ got b n m → (nat_le b 3 && cond (before == 0) true (b == before)) ≡ false → statuses_since (before ∷ []) at rest ≡ wrong (BadKind at)
unfolding statuses_since
since_bad before at rest b n m e h = got_on _ _ b n m e ∙ not_allowed _ at _ h

pub since_good : (before at : ℕ) (rest : List ℕ) (b n : ℕ) (m : List ℕ) → byte at rest ≡ got b n m → (nat_le b 3 && cond (before == 0) true (b == before)) ≡ true → statuses_since (before ∷ []) at rest ≡ got (b ∷ []) n m
unfolding statuses_since reading
since_good before at rest b n m e h = rw e (is_allowed _ at _ h)

-- ---- what stands behind

module _ (plain : Plain) (form : FormIs plain) (before : ℕ) (head : BackHead) (at : ℕ) (rest : List ℕ) where
  by_form : back_behind (program_of plain) (before ∷ []) (head_of head) at rest ≡
      reading (statuses_since (before ∷ []) at rest) (λ ss a1 r1.
      reading (values [] a1 r1) (λ statics a2 r2.
      reading (none a2 r2) (λ literals a3 r3.
      reading (none a3 r3) (λ constants a4 r4.
      reading (none a4 r4) (λ events a5 r5.
      got (record {
        ending = head.ending;
        instructions = head.instructions;
        words = head.words;
        statuses = ss;
        statics = statics;
        literals = [];
        constants = [];
        events = [];
        old = contents.Nothing ∷ [];
        fresh = [];
      }) a5 r5)))))
  unfolding back_behind
  by_form = rw form.no_statics refl

  pub no_status : (f : ImageFault) → statuses_since (before ∷ []) at rest ≡ wrong f → back_behind (program_of plain) (before ∷ []) (head_of head) at rest ≡ wrong f
  no_status f e = by_form ∙ wrong_on _ _ f e

  module _ (status a1 : ℕ) (r1 : List ℕ) (e1 : statuses_since (before ∷ []) at rest ≡ got (status ∷ []) a1 r1) where
    behind_statics : back_behind (program_of plain) (before ∷ []) (head_of head) at rest ≡
        reading (none a1 r1) (λ literals a3 r3. reading (none a3 r3) (λ constants a4 r4. reading (none a4 r4) (λ events a5 r5. got (back_image_of head status) a5 r5)))
    unfolding values reading
    behind_statics = by_form ∙ got_on _ _ _ _ _ e1

    pub bad_literals : (f : ImageFault) → none a1 r1 ≡ wrong f → back_behind (program_of plain) (before ∷ []) (head_of head) at rest ≡ wrong f
    bad_literals f e = behind_statics ∙ wrong_on _ _ f e

    module _ (a2 : ℕ) (r2 : List ℕ) (e2 : none a1 r1 ≡ got tt a2 r2) where
      pub bad_constants : (f : ImageFault) → none a2 r2 ≡ wrong f → back_behind (program_of plain) (before ∷ []) (head_of head) at rest ≡ wrong f
      bad_constants f e = behind_statics ∙ got_on _ _ tt a2 r2 e2 ∙ wrong_on _ _ f e

      module _ (a3 : ℕ) (r3 : List ℕ) (e3 : none a2 r2 ≡ got tt a3 r3) where
        pub bad_events : (f : ImageFault) → none a3 r3 ≡ wrong f → back_behind (program_of plain) (before ∷ []) (head_of head) at rest ≡ wrong f
        bad_events f e = behind_statics ∙ got_on _ _ tt a2 r2 e2 ∙ got_on _ _ tt a3 r3 e3 ∙ wrong_on _ _ f e

        pub all_read : (a4 : ℕ) (r4 : List ℕ) → none a3 r3 ≡ got tt a4 r4 → back_behind (program_of plain) (before ∷ []) (head_of head) at rest ≡ got (back_image_of head status) a4 r4
        all_read a4 r4 e = behind_statics ∙ got_on _ _ tt a2 r2 e2 ∙ got_on _ _ tt a3 r3 e3 ∙ got_on _ _ tt a4 r4 e

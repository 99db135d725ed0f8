-- What stands behind the numbers of a function's Run, step by step.
use Rattle.std.proofs.Common.{◌≡◌, ℕ, ℤ, List, [], ◌∷◌, refl, sym, ap, ◌∙◌}
use Rattle.cc_meaning.specs.declared.instruction.Kind.{Kind}
use Rattle.cc_meaning.specs.declared.instruction.Kind.TheVariants as access
use Rattle.cc_meaning.specs.declared.value.Value.{Value}
use Rattle.cc_meaning.specs.declared.value.Value.TheVariants as value
use Rattle.cc_meaning.specs.declared.fault.ImageFault.{ImageFault}
use Rattle.cc_meaning.specs.declared.image.RunImage.{RunImage}
use Rattle.cc_meaning_images.specs.Reading.{Got, got, wrong, reading, statuses, values, none, out_alone, run_by, run_behind}
use Rattle.cc_meaning_plain.specs.declared.plain.PlainFunction.{PlainFunction}
use Rattle.cc_meaning_plain.specs.declared.plain.Plain.{Plain}
use Rattle.cc_meaning_plain.specs.Program.{program_of}
use Rattle.cc_meaning_clone.specs.Functions.{FormIs}
use Rattle.cc_wire.specs.declared.run.Head.{Head}
use Rattle.cc_wire.specs.Runs.{head_of, image_of}
use Rattle.cc_wire.proofs.Chains.{got_on, wrong_on}

module _ (plain : Plain) (form : FormIs plain) (f : PlainFunction) (head : Head) (at : ℕ) (rest : List ℕ) where
  abbrev pub whole : Got RunImage
  whole = run_behind (program_of plain) (head_of plain f head) at rest

  -- by the count of classes and the kinds that a plain file has
  by_form : whole ≡
      reading (statuses 1 at rest) (λ ss a1 r1.
      reading (values (access.Plain ∷ []) a1 r1) (λ args a2 r2.
      reading (values [] a2 r2) (λ statics a3 r3.
      reading (none a3 r3) (λ literals a4 r4.
      reading (none a4 r4) (λ constants a5 r5.
      reading (out_alone a5 r5) (λ out a6 r6. got (run_by (head_of plain f head) ss args statics) a6 r6))))))
  unfolding run_behind
  by_form = rw (form.one_class, form.one_argument f, form.no_statics) refl

  pub no_status : (fault : ImageFault) → statuses 1 at rest ≡ wrong fault → whole ≡ wrong fault
  no_status fault e = by_form ∙ wrong_on _ _ fault e

  module _ (status a1 : ℕ) (r1 : List ℕ) (e1 : statuses 1 at rest ≡ got (status ∷ []) a1 r1) where
    pub no_argument : (fault : ImageFault) → values (access.Plain ∷ []) a1 r1 ≡ wrong fault → whole ≡ wrong fault
    no_argument fault e = by_form ∙ got_on _ _ _ _ _ e1 ∙ wrong_on _ _ fault e

    module _ (n : ℤ) (a2 : ℕ) (r2 : List ℕ) (e2 : values (access.Plain ∷ []) a1 r1 ≡ got (value.Int n ∷ []) a2 r2) where
      behind_statics : whole ≡ reading (none a2 r2) (λ literals a4 r4. reading (none a4 r4) (λ constants a5 r5. reading (out_alone a5 r5) (λ out a6 r6. got (image_of plain f head status n) a6 r6)))
      unfolding values reading
      behind_statics = by_form ∙ got_on _ _ _ _ _ e1 ∙ got_on _ _ _ _ _ e2

      pub bad_literals : (fault : ImageFault) → none a2 r2 ≡ wrong fault → whole ≡ wrong fault
      bad_literals fault e = behind_statics ∙ wrong_on _ _ fault e

      module _ (a3 : ℕ) (r3 : List ℕ) (e3 : none a2 r2 ≡ got tt a3 r3) where
        pub bad_constants : (fault : ImageFault) → none a3 r3 ≡ wrong fault → whole ≡ wrong fault
        bad_constants fault e = behind_statics ∙ got_on _ _ tt a3 r3 e3 ∙ wrong_on _ _ fault e

        module _ (a4 : ℕ) (r4 : List ℕ) (e4 : none a3 r3 ≡ got tt a4 r4) where
          pub bad_objects : (fault : ImageFault) → out_alone a4 r4 ≡ wrong fault → whole ≡ wrong fault
          bad_objects fault e = behind_statics ∙ got_on _ _ tt a3 r3 e3 ∙ got_on _ _ tt a4 r4 e4 ∙ wrong_on _ _ fault e

          pub all_read : (a5 : ℕ) (r5 : List ℕ) → out_alone a4 r4 ≡ got tt a5 r5 → whole ≡ got (image_of plain f head status n) a5 r5
          all_read a5 r5 e = behind_statics ∙ got_on _ _ tt a3 r3 e3 ∙ got_on _ _ tt a4 r4 e4 ∙ got_on _ _ tt a5 r5 e

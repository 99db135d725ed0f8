-- An image as a whole: nothing stands behind it, and its counters are judged.
use Rattle.std.proofs.Common.{◌≡◌, ℕ, Bool, true, false, List, [], ◌∷◌, length, Option, Result, Ok, Err, refl, sym, ap, ◌∙◌, arith, slice_get}
use Rattle.cc_meaning.specs.declared.program.DexType.{DexType}
use Rattle.cc_meaning.specs.declared.image.BackImage.{BackImage}
use Rattle.cc_meaning.specs.declared.program.Program.{Program}
use Rattle.cc_meaning.specs.declared.fault.ImageFault.{ImageFault}
use Rattle.cc_meaning.specs.declared.fault.ImageFault.TheVariants.{Trailing, BadCounter}
use Rattle.cc_meaning.specs.declared.image.RunImage.{RunImage}
use Rattle.cc_meaning_images.specs.Reading.{Got, got, wrong, reading, fitting, whole, RunHead, run_head, run_behind, run_fits, read_run, result_of, BackHead, back_head, back_behind, back_fits, read_back}
use Rattle.cc_wire.proofs.Chains.{got_on, wrong_on}

-- ---- any image

pub whole_wrong : {A : Type 0} (fits : A → Bool) (x : Got A) (f : ImageFault) → x ≡ wrong f → whole fits x ≡ Err f
unfolding whole
whole_wrong fits x f e = rw e refl

pub whole_trailing : {A : Type 0} (fits : A → Bool) (x : Got A) (a : A) (at : ℕ) (rest : List ℕ) → x ≡ got a at rest → (length rest ≡ 0 → ⊥) → whole fits x ≡ Err Trailing
unfolding whole
whole_trailing fits x a at [] e h = absurd (h refl)
whole_trailing fits x a at (b ∷ rest) e h = rw e refl

pub whole_bad : {A : Type 0} (fits : A → Bool) (x : Got A) (a : A) (at : ℕ) (rest : List ℕ) → x ≡ got a at rest → length rest ≡ 0 → fits a ≡ false → whole fits x ≡ Err BadCounter
unfolding whole
whole_bad fits x a at [] e h bad = rw (e, bad) refl
whole_bad fits x a at (b ∷ rest) e h bad = absurd (omega arith)

pub whole_good : {A : Type 0} (fits : A → Bool) (x : Got A) (a : A) (at : ℕ) (rest : List ℕ) → x ≡ got a at rest → length rest ≡ 0 → fits a ≡ true → whole fits x ≡ Ok a
unfolding whole
whole_good fits x a at [] e h good = rw (e, good) refl
whole_good fits x a at (b ∷ rest) e h good = absurd (omega arith)

-- ---- the image of an entry

module _ (p : Program) (bytes : List ℕ) where
  abbrev all : Got RunImage
  all = reading (run_head p 0 bytes) (λ head at rest. run_behind p head at rest)

  pub run_wrong_head : (f : ImageFault) → run_head p 0 bytes ≡ wrong f → read_run p bytes ≡ Err f
  unfolding read_run
  run_wrong_head f e = whole_wrong run_fits all f (wrong_on _ _ f e)

  module _ (head : RunHead) (a : ℕ) (r : List ℕ) (e : run_head p 0 bytes ≡ got head a r) where
    pub run_wrong_behind : (f : ImageFault) → run_behind p head a r ≡ wrong f → read_run p bytes ≡ Err f
    unfolding read_run
    run_wrong_behind f w = whole_wrong run_fits all f (got_on _ _ head a r e ∙ w)

    module _ (image : RunImage) (at : ℕ) (rest : List ℕ) (b : run_behind p head a r ≡ got image at rest) where
      pub run_trailing : (length rest ≡ 0 → ⊥) → read_run p bytes ≡ Err Trailing
      unfolding read_run
      run_trailing h = whole_trailing run_fits all image at rest (got_on _ _ head a r e ∙ b) h

      pub run_bad : length rest ≡ 0 → run_fits image ≡ false → read_run p bytes ≡ Err BadCounter
      unfolding read_run
      run_bad h bad = whole_bad run_fits all image at rest (got_on _ _ head a r e ∙ b) h bad

      pub run_good : length rest ≡ 0 → run_fits image ≡ true → read_run p bytes ≡ Ok image
      unfolding read_run
      run_good h good = whole_good run_fits all image at rest (got_on _ _ head a r e ∙ b) h good

-- ---- the image of an end

module _ (p : Program) (run : RunImage) (bytes : List ℕ) (type : Option DexType) (gives : result_of (slice_get p.methods run.method) ≡ type) (before : List ℕ) (same : run.statuses ≡ before) where
  abbrev all_back : Got BackImage
  all_back = reading (back_head type 0 bytes) (λ head at rest. back_behind p before head at rest)

  is_all : read_back p run bytes ≡ whole (back_fits run) all_back
  unfolding read_back
  is_all = rw (gives, same) refl

  pub back_wrong_head : (f : ImageFault) → back_head type 0 bytes ≡ wrong f → read_back p run bytes ≡ Err f
  back_wrong_head f e = is_all ∙ whole_wrong (back_fits run) all_back f (wrong_on _ _ f e)

  module _ (head : BackHead) (a : ℕ) (r : List ℕ) (e : back_head type 0 bytes ≡ got head a r) where
    pub back_wrong_behind : (f : ImageFault) → back_behind p before head a r ≡ wrong f → read_back p run bytes ≡ Err f
    back_wrong_behind f w = is_all ∙ whole_wrong (back_fits run) all_back f (got_on _ _ head a r e ∙ w)

    module _ (image : BackImage) (at : ℕ) (rest : List ℕ) (b : back_behind p before head a r ≡ got image at rest) where
      pub back_trailing : (length rest ≡ 0 → ⊥) → read_back p run bytes ≡ Err Trailing
      back_trailing h = is_all ∙ whole_trailing (back_fits run) all_back image at rest (got_on _ _ head a r e ∙ b) h

      pub back_bad : length rest ≡ 0 → back_fits run image ≡ false → read_back p run bytes ≡ Err BadCounter
      back_bad h bad = is_all ∙ whole_bad (back_fits run) all_back image at rest (got_on _ _ head a r e ∙ b) h bad

      pub back_good : length rest ≡ 0 → back_fits run image ≡ true → read_back p run bytes ≡ Ok image
      back_good h good = is_all ∙ whole_good (back_fits run) all_back image at rest (got_on _ _ head a r e ∙ b) h good

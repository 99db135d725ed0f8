-- The numbers before the statuses, step by step.
use Rattle.std.proofs.Common.{◌≡◌, ℕ, ◌==◌, Bool, true, false, not, List, Option, Some, None, refl, sym, ap, ◌∙◌, arith}
use Rattle.std.specs.Int.{w16, w32, w64}
use Rattle.std.proofs.lemmas.Bool.Decides.{nat_tests}
use Rattle.cc_meaning.specs.declared.program.Program.{Program}
use Rattle.cc_meaning.specs.declared.fault.ImageFault.{ImageFault}
use Rattle.cc_meaning.specs.declared.fault.ImageFault.TheVariants.{BadKind}
use Rattle.cc_meaning_images.specs.Reading.{Got, got, wrong, reading, allowed, number, Runnable, runnable, on_runnable, has_frame, has_registers, RunHead, run_head}
use Rattle.cc_wire.proofs.Chains.{got_on, wrong_on, is_allowed, not_allowed}

module _ (p : Program) (at : ℕ) (rest : List ℕ) where
  pub no_method : (f : ImageFault) → number w32 at rest ≡ wrong f → run_head p at rest ≡ wrong f
  unfolding run_head
  no_method f e = wrong_on _ _ f e

  module _ (m a1 : ℕ) (r1 : List ℕ) (e1 : number w32 at rest ≡ got m a1 r1) where
    pub no_target : runnable p m ≡ None → run_head p at rest ≡ wrong (BadKind at)
    unfolding run_head
    no_target t = got_on _ _ m a1 r1 e1 ∙ rw t refl

    module _ (target : Runnable) (t : runnable p m ≡ Some target) where
      abbrev behind_target : Got RunHead
      behind_target =
          reading (number w64 a1 r1) (λ instructions a2 r2.
          reading (number w32 a2 r2) (λ words a3 r3.
          reading (number w16 a3 r3) (λ depth a4 r4. allowed (has_frame depth) a3 (
          reading (number w32 a4 r4) (λ registers a5 r5. allowed (has_registers target.code registers) a4 (
          got (record { target = target; method = m; instructions = instructions; words = words; depth = depth; registers = registers }) a5 r5))))))

      with_target : run_head p at rest ≡ behind_target
      unfolding run_head
      with_target = got_on _ _ m a1 r1 e1 ∙ rw t refl

      pub no_instructions : (f : ImageFault) → number w64 a1 r1 ≡ wrong f → run_head p at rest ≡ wrong f
      no_instructions f e = with_target ∙ wrong_on _ _ f e

      module _ (instructions a2 : ℕ) (r2 : List ℕ) (e2 : number w64 a1 r1 ≡ got instructions a2 r2) where
        pub no_words : (f : ImageFault) → number w32 a2 r2 ≡ wrong f → run_head p at rest ≡ wrong f
        no_words f e = with_target ∙ got_on _ _ instructions a2 r2 e2 ∙ wrong_on _ _ f e

        module _ (words a3 : ℕ) (r3 : List ℕ) (e3 : number w32 a2 r2 ≡ got words a3 r3) where
          pub no_depth : (f : ImageFault) → number w16 a3 r3 ≡ wrong f → run_head p at rest ≡ wrong f
          no_depth f e = with_target ∙ got_on _ _ instructions a2 r2 e2 ∙ got_on _ _ words a3 r3 e3 ∙ wrong_on _ _ f e

          module _ (depth a4 : ℕ) (r4 : List ℕ) (e4 : number w16 a3 r3 ≡ got depth a4 r4) where
            before_depth : run_head p at rest ≡ allowed (has_frame depth) a3 (reading (number w32 a4 r4) (λ registers a5 r5. allowed (has_registers target.code registers) a4 (
                got (record { target = target; method = m; instructions = instructions; words = words; depth = depth; registers = registers }) a5 r5)))
            before_depth = with_target ∙ got_on _ _ instructions a2 r2 e2 ∙ got_on _ _ words a3 r3 e3 ∙ got_on _ _ depth a4 r4 e4

            pub bad_depth : depth ≡ 1024 → run_head p at rest ≡ wrong (BadKind a3)
            bad_depth h = let no : has_frame depth ≡ false = grind (arith, nat_tests) in before_depth ∙ not_allowed _ a3 _ no

            module _ (fits : has_frame depth ≡ true) where
              pub no_registers : (f : ImageFault) → number w32 a4 r4 ≡ wrong f → run_head p at rest ≡ wrong f
              no_registers f e = before_depth ∙ is_allowed _ a3 _ fits ∙ wrong_on _ _ f e

              module _ (registers a5 : ℕ) (r5 : List ℕ) (e5 : number w32 a4 r4 ≡ got registers a5 r5) where
                pub bad_registers : has_registers target.code registers ≡ false → run_head p at rest ≡ wrong (BadKind a4)
                bad_registers h = before_depth ∙ is_allowed _ a3 _ fits ∙ got_on _ _ registers a5 r5 e5 ∙ not_allowed _ a4 _ h

                pub good_head : has_registers target.code registers ≡ true → run_head p at rest ≡
                    got (record { target = target; method = m; instructions = instructions; words = words; depth = depth; registers = registers }) a5 r5
                good_head h = before_depth ∙ is_allowed _ a3 _ fits ∙ got_on _ _ registers a5 r5 e5 ∙ is_allowed _ a4 _ h

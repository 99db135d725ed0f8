-- The command is always given its file.
use Rattle.std.proofs.Common.{inl, inr, ◌≡◌, ◌⊎◌, ℕ, suc, zero, true, false, List, [], ◌∷◌, slice_index_or, refl, sym, ap, subst, ◌∙◌, codes, arith}
use Rattle.std.specs.Prelude.{is_some}
use Rattle.std.specs.List.{All}
use Rattle.std.specs.Str.{bytes_eq}
use Rattle.clap.specs.Words.{AddsArg, IsPlainArg, first_value, found_of, args_of, groups_of}
use Rattle.clap.specs.Built.{FitsChain, HasDistinctIds, TakesValue}
use Rattle.clap.specs.declared.builder.arg.Arg.{Arg}
use Rattle.clap.specs.declared.builder.command.Command.{Command}
use Rattle.clap.specs.declared.builder.command.Command.TheViews.{out-Command}
use Rattle.clap.proofs.CallerLemmas.{required_in_chain}
use Rattle.cc_command_check.specs.Given.{Gives}

both : (P : Arg → Type 0) (a b : Arg) → P a → P b → All P (a ∷ b ∷ [])
both P a b p q zero d lt = p
both P a b p q (suc zero) d lt = q
both P a b p q (suc (suc n)) d lt = absurd (omega (arith, lt))

fits : (a : Arg) (t : List ℕ) → a.id.now ≡ t → IsPlainArg a × (a.global ≡ false) → (t ≡ [] → ⊥) → ((t ≡ codes "help") ⊎ (t ≡ codes "version") → ⊥) → FitsChain a
fits a t e p n h = (p.0, p.1, (λ z. n (sym e ∙ z)), (λ w. elim w [ inl z ↦ h (inl (sym e ∙ z)) | inr z ↦ h (inr (sym e ∙ z)) ]))

differ : (s t u v : List ℕ) → s ≡ u → t ≡ v → bytes_eq u v ≡ false → bytes_eq s t ≡ true → ⊥
differ s t u v e f d b = let bad : false ≡ true = sym d ∙ subst (λ (x : List ℕ). bytes_eq u x ≡ true) f (subst (λ (x : List ℕ). bytes_eq x t ≡ true) e b) in cc

distinct : (a b : Arg) → a.id.now ≡ codes "file" → b.id.now ≡ codes "main" → HasDistinctIds (a ∷ b ∷ [])
distinct a b p q zero zero d e j k s = refl
distinct a b p q zero (suc zero) d e j k s = absurd (differ _ _ _ _ p q refl s)
distinct a b p q (suc zero) zero d e j k s = absurd (differ _ _ _ _ q p refl s)
distinct a b p q (suc zero) (suc zero) d e j k s = refl
distinct a b p q (suc (suc n)) k d e j l s = absurd (omega (arith, j))
distinct a b p q zero (suc (suc n)) d e j k s = absurd (omega (arith, k))
distinct a b p q (suc zero) (suc (suc n)) d e j k s = absurd (omega (arith, k))

starts : (t : List ℕ) (n : ℕ) → slice_index_or t 0 0 ≡ n → (u : List ℕ) → (slice_index_or u 0 0 ≡ n → ⊥) → t ≡ u → ⊥
starts t n h u isnt e = isnt (sym (ap (λ (x : List ℕ). slice_index_or x 0 0) e) ∙ h)

-- a command of these two arguments always gives the first a value
pub file_is_given : (start c1 command : Command) (file main : Arg) → AddsArg start file c1 → AddsArg c1 main command
    → args_of start ≡ [] → groups_of start ≡ [] → (out-Command start).has_globals ≡ false → (out-Command start).subcommand_negates_reqs ≡ false
    → file.id.now ≡ codes "file" → main.id.now ≡ codes "main"
    → IsPlainArg file × (file.global ≡ false) → IsPlainArg main × (main.global ≡ false)
    → TakesValue file → Gives (codes "file") command
file_is_given start c1 command file main a1 a2 none groups globals negates f m pf pm value matches parsed =
    let ff : FitsChain file = fits file _ f pf (starts _ 102 refl _ (λ e. omega (arith, e))) (λ w. elim w [ inl z ↦ starts _ 102 refl _ (λ e. omega (arith, e)) z | inr z ↦ starts _ 102 refl _ (λ e. omega (arith, e)) z ]) in
    let fm : FitsChain main = fits main _ m pm (starts _ 109 refl _ (λ e. omega (arith, e))) (λ w. elim w [ inl z ↦ starts _ 109 refl _ (λ e. omega (arith, e)) z | inr z ↦ starts _ 109 refl _ (λ e. omega (arith, e)) z ]) in
    subst (λ (t : List ℕ). is_some (first_value (found_of matches) t) ≡ true) f
    (required_in_chain start command (file ∷ main ∷ []) 0 file matches (c1, a1, (command, a2, refl)) none groups globals negates
    (both FitsChain file main ff fm) (distinct file main f m) (omega arith) value parsed)

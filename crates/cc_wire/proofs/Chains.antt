-- Reading on, and stopping, part by part.
use Rattle.std.proofs.Common.{◌≡◌, ℕ, suc, zero, ◌+◌, ◌<◌, ◌≤◌, ◌==◌, ℤ, Bool, true, false, List, [], ◌∷◌, refl, sym, ap, ◌∙◌, arith, nat_le, subst}
use Rattle.std.specs.Int.{w32, cast_signed}
use Rattle.std.proofs.lemmas.Bool.{le-leb}
use Rattle.std.proofs.lemmas.Bool.Decides.{nat_tests}
use Rattle.cc_meaning.specs.declared.instruction.Kind.TheVariants as access
use Rattle.cc_meaning.specs.declared.value.Value.TheVariants as value
use Rattle.cc_meaning.specs.declared.fault.ImageFault.{ImageFault}
use Rattle.cc_meaning.specs.declared.fault.ImageFault.TheVariants.{BadKind}
use Rattle.cc_meaning_images.specs.Reading.{Got, got, wrong, reading, allowed, number, byte, none, values, statuses, out_alone}

pub got_on : {A B : Type 0} (x : Got A) (k : A → ℕ → List ℕ → Got B) (a : A) (n : ℕ) (m : List ℕ) → x ≡ got a n m → reading x k ≡ k a n m
unfolding reading
got_on x k a n m e = rw e refl

pub wrong_on : {A B : Type 0} (x : Got A) (k : A → ℕ → List ℕ → Got B) (f : ImageFault) → x ≡ wrong f → reading x k ≡ wrong f
unfolding reading
wrong_on x k f e = rw e refl

pub is_allowed : {A : Type 0} (b : Bool) (at : ℕ) (x : Got A) → b ≡ true → allowed b at x ≡ x
unfolding allowed
is_allowed b at x e = rw e refl

pub not_allowed : {A : Type 0} (b : Bool) (at : ℕ) (x : Got A) → b ≡ false → allowed b at x ≡ wrong (BadKind at)
unfolding allowed
not_allowed b at x e = rw e refl

-- ---- one status

pub status_wrong : (at : ℕ) (rest : List ℕ) (f : ImageFault) → byte at rest ≡ wrong f → statuses 1 at rest ≡ wrong f
unfolding statuses
status_wrong at rest f e = wrong_on _ _ f e

pub status_bad : (at : ℕ) (rest : List ℕ) (b n : ℕ) (m : List ℕ) → byte at rest ≡ got b n m → 3 < b → statuses 1 at rest ≡ wrong (BadKind at)
unfolding statuses
status_bad at rest b n m e h = let big : nat_le b 3 ≡ false = grind (arith, nat_tests) in got_on _ _ b n m e ∙ not_allowed _ at _ big

pub status_good : (at : ℕ) (rest : List ℕ) (b n : ℕ) (m : List ℕ) → byte at rest ≡ got b n m → b ≤ 3 → statuses 1 at rest ≡ got (b ∷ []) n m
unfolding statuses reading
status_good at rest b n m e h = rw e (is_allowed _ at _ (le-leb b 3 h))

-- ---- one number

pub argument_wrong : (at : ℕ) (rest : List ℕ) (f : ImageFault) → number w32 at rest ≡ wrong f → values (access.Plain ∷ []) at rest ≡ wrong f
unfolding values
argument_wrong at rest f e = wrong_on _ _ f e

pub argument_good : (at : ℕ) (rest : List ℕ) (k n : ℕ) (m : List ℕ) → number w32 at rest ≡ got k n m → values (access.Plain ∷ []) at rest ≡ got (value.Int (cast_signed w32 k) ∷ []) n m
unfolding values reading
argument_good at rest k n m e = rw e refl

-- ---- nothing

pub none_wrong : (at : ℕ) (rest : List ℕ) (f : ImageFault) → number w32 at rest ≡ wrong f → none at rest ≡ wrong f
unfolding none
none_wrong at rest f e = wrong_on _ _ f e

pub none_bad : (at : ℕ) (rest : List ℕ) (k n : ℕ) (m : List ℕ) → number w32 at rest ≡ got k n m → (k == 0) ≡ false → none at rest ≡ wrong (BadKind at)
unfolding none
none_bad at rest k n m e h = got_on _ _ k n m e ∙ not_allowed _ at _ h

pub none_good : (at : ℕ) (rest : List ℕ) (k n : ℕ) (m : List ℕ) → number w32 at rest ≡ got k n m → (k == 0) ≡ true → none at rest ≡ got tt n m
unfolding none
none_good at rest k n m e h = got_on _ _ k n m e ∙ is_allowed _ at _ h

-- ---- the one object

pub out_wrong : (at : ℕ) (rest : List ℕ) (f : ImageFault) → byte at rest ≡ wrong f → out_alone at rest ≡ wrong f
unfolding out_alone
out_wrong at rest f e = wrong_on _ _ f e

pub out_bad : (at : ℕ) (rest : List ℕ) (k n : ℕ) (m : List ℕ) → byte at rest ≡ got k n m → (k == 0) ≡ false → out_alone at rest ≡ wrong (BadKind at)
unfolding out_alone
out_bad at rest k n m e h = got_on _ _ k n m e ∙ not_allowed _ at _ h

pub out_good : (at : ℕ) (rest : List ℕ) (k n : ℕ) (m : List ℕ) → byte at rest ≡ got k n m → (k == 0) ≡ true → out_alone at rest ≡ got tt n m
unfolding out_alone
out_good at rest k n m e h = got_on _ _ k n m e ∙ is_allowed _ at _ h

-- A heap never has fewer objects than before.
use Rattle.std.proofs.Common.{◌≡◌, ℕ, ◌≤◌, List, [], ◌∷◌, ◌++◌, length, Ok, Err, OnOk, OnErr, ap, arith}
use Rattle.std.specs.declared.result.Result.{Result}
use Rattle.std.proofs.lemmas.List.{length_push}
use Rattle.cc_meaning.specs.declared.value.Object.{Object}
use Rattle.cc_world.specs.Flat.{Stored, SameHeap}

pub grown : {E : Type 0} (r : Result ℕ E) (old new : Stored) (o : Object) → OnOk r (new.objects ≡ old.objects ++ o ∷ []) → OnErr r (SameHeap old new) →
    length old.objects ≤ length new.objects
grown (Ok id) old new o ok err = let more : length new.objects ≡ length (old.objects ++ o ∷ []) = ap (λ (os : List Object). length os) ok in omega (arith, more, length_push old.objects o)
grown (Err e) old new o ok err = let same : length new.objects ≡ length old.objects = ap (λ (os : List Object). length os) err.objects in omega (arith, same)

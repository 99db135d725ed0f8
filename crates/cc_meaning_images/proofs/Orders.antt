-- The order of a state that mentions nothing.
use Rattle.std.proofs.Common.{◌≡◌, ◌⊎◌, inl, inr, ℕ, zero, suc, ◌+◌, ◌<◌, ◌≤◌, List, [], ◌∷◌, ◌++◌, Option, Some, None, refl, sym, ap, ◌∙◌, subst, arith, slice_get}
use Rattle.std.specs.List.{flat_map}
use Rattle.cc_meaning.specs.declared.value.Value.{Value}
use Rattle.cc_meaning.specs.declared.value.Object.{Object}
use Rattle.cc_meaning.specs.declared.value.Object.TheVariants as object
use Rattle.cc_meaning_run.specs.Local.{out_object}
use Rattle.cc_meaning_images.specs.Order.{members_of, mentions, mentioned_by, distinct_after, distinct, mentioned, IsReached, IsOrder, OutIsAlone}

module _ (objects : List Object) (roots : List Value) (out : slice_get objects out_object ≡ Some object.Out) (no_roots : mentions roots ≡ []) where
  by_out : mentioned_by objects out_object ≡ []
  by_out = ap (λ (o : Option Object). mentions (members_of o)) out

  -- ---- System.out alone is the order

  alone_mentions : out_object ∷ [] ≡ distinct (mentioned objects roots (out_object ∷ []))
  unfolding distinct_after
  alone_mentions = rw (no_roots, by_out) refl

  alone_reached : (i a : ℕ) → slice_get (out_object ∷ []) i ≡ Some a → IsReached objects roots (out_object ∷ []) i
  alone_reached zero a e = inl refl
  alone_reached (suc i) a e = absurd cc

  alone : IsOrder objects roots (out_object ∷ [])
  alone = record { first_mentions = alone_mentions; reached = alone_reached }

  -- ---- and no other list is

  module _ (order : List ℕ) (is : IsOrder objects roots order) where
    none_there : {A : Type 0} (k : ℕ) (xs : List A) (a : A) → xs ≡ [] → slice_get xs k ≡ Some a → ⊥
    none_there k xs a e f = let g : None ≡ Some a = sym (ap (λ ys. slice_get ys k) e) ∙ f in cc

    out_by : (i a : ℕ) → slice_get order i ≡ Some a → ((j owner : ℕ) → j < i → slice_get order j ≡ Some owner → owner ≡ out_object) → IsReached objects roots order i → a ≡ out_object
    out_by i a e earlier (inl first) = let f : Some a ≡ Some out_object = sym e ∙ first in cc
    out_by i a e earlier (inr (inl (k, f))) = absurd (none_there k (mentions roots) a no_roots (f ∙ e))
    out_by i a e earlier (inr (inr (j, owner, k, before, at, f))) =
        let same : owner ≡ out_object = earlier j owner before at in
        absurd (none_there k (mentioned_by objects owner) a (ap (mentioned_by objects) same ∙ by_out) (f ∙ e))

    -- each element up to a bound is System.out
    all_out : (n i a : ℕ) → i < n → slice_get order i ≡ Some a → a ≡ out_object
    all_out zero i a h e = absurd (omega arith)
    all_out (suc n) i a h e = out_by i a e (λ j owner before at. all_out n j owner (omega (arith, h, before)) at) (is.reached i a e)

    no_mentions : (xs : List ℕ) → ((i a : ℕ) → slice_get xs i ≡ Some a → a ≡ out_object) → flat_map (mentioned_by objects) xs ≡ []
    no_mentions [] h = refl
    no_mentions (x ∷ xs) h =
        let first : mentioned_by objects x ≡ [] = ap (mentioned_by objects) (h 0 x refl) ∙ by_out in
        rw first (no_mentions xs (λ i a e. h (suc i) a e))

    only : order ≡ out_object ∷ []
    unfolding distinct_after
    only = is.first_mentions ∙ rw (no_roots, no_mentions order (λ i a e. all_out (suc i) i a (omega arith) e)) refl

pub out_is_alone : OutIsAlone
out_is_alone objects roots order out no_roots = (λ is. only objects roots out no_roots order is, λ e. subst (IsOrder objects roots) (sym e) (alone objects roots out no_roots))

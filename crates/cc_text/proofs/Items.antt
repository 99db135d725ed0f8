-- How text items are read.
use Rattle.std.proofs.Common.{◌≡◌, ◌≢◌, ℕ, List, Some, None, Result, Ok, Err, Vec, Global, refl, sym, ap}
use Rattle.std.specs.Prelude.{IfErr, IsOk, IsSome}
use Rattle.cc_meaning.specs.declared.fault.LebFault.TheVariants as leb
use Rattle.cc_meaning.specs.declared.fault.TextFault.{TextFault}
use Rattle.cc_meaning.specs.declared.fault.TextFault.TheVariants as fault
use Rattle.cc_meaning_dex.specs.Leb128.{uleb_at}
use Rattle.cc_meaning_dex.specs.Mutf8.{mutf8_at}
use Rattle.cc_meaning_dex.specs.Texts.{SpellsText, text_counted, text_item_at, units_of, text_at}
use Rattle.cc_meaning_dex.specs.TextLaws.{TextAgrees}

module _ (file : List ℕ) (at : ℕ) where
  pub item_counted : (count place : ℕ) → Ok (count, place) ≡ uleb_at file at → text_item_at file at ≡ mutf8_at file place count
  unfolding text_item_at
  item_counted count place h = ap (text_counted file) (sym h)

  pub item_cut : Err leb.CutOff ≡ uleb_at file at → text_item_at file at ≡ Err fault.CutOff
  unfolding text_item_at
  item_cut h = ap (text_counted file) (sym h)

  pub item_big : Err leb.TooBig ≡ uleb_at file at → text_item_at file at ≡ Err fault.BadCount
  unfolding text_item_at
  item_big h = ap (text_counted file) (sym h)

  pub text_from_item : (units : List ℕ) (next : ℕ) → text_item_at file at ≡ Ok (units, next) → text_at file at ≡ Some units
  unfolding text_at
  text_from_item units next h = ap units_of h

  some_from_ok : (r : Result (List ℕ × ℕ) TextFault) → IsOk r → IsSome (units_of r)
  some_from_ok (Ok text) h = refl
  some_from_ok (Err reason) h = absurd cc

  pub text_found : (r : Result (List ℕ × ℕ) TextFault) → text_item_at file at ≡ r → IsOk r → IsSome (text_at file at)
  unfolding text_at
  text_found r e h = rw e (some_from_ok r h)

  no_text : (reason : TextFault) → text_item_at file at ≡ Err reason → text_at file at ≡ None
  unfolding text_at
  no_text reason h = ap units_of h

  refused_by : TextAgrees → (reason : TextFault) → text_item_at file at ≡ Err reason → (units : List ℕ) → ¬ SpellsText file at units
  refused_by agrees reason h units s =
      let read = (agrees file at units).1 s in
      let none = no_text reason h in
      absurd cc

  pub text_refused : TextAgrees → (r : Result (Vec ℕ Global) TextFault) → IfErr r (λ reason. reason ≢ fault.Memory → text_item_at file at ≡ Err reason) →
      IfErr r (λ reason. reason ≢ fault.Memory → (units : List ℕ) → ¬ SpellsText file at units)
  text_refused agrees (Ok units) h = tt
  text_refused agrees (Err reason) h = λ n. refused_by agrees reason (h n)

use Rattle.std.proofs.Common.{◌≡◌, ◌∙◌, ℕ, ◌++◌, drop, encode_utf8, slice_index_or, sym, ap, arith, inl, inr, unwrap_or}
use Rattle.std.specs.Char.Utf16.{lone_unit_char}
use Rattle.std.proofs.str.Utf16.{IsPair}
use Rattle.cc_meaning_run.specs.Local.{utf8_of}
use Rattle.cc_clone.proofs.Names.{made, lone, pair, below, above, half, no_second}
use Rattle.cc_clone.proofs.named.first_char.Goals as goal
use Rattle.cc_clone.proofs.named.first_char.Goals.{then-high-lt55296-via-then-high-lt55296, then-high-lt55296-via-else-high-lt55296+then-high-ge57344, then-high-ge56320-via-then-high-ge56320, then-high-ge56320-via-else-high-ge56320+then-units-lt2}

pub returns-then-high-lt55296-clause-first : goal.returns-then-high-lt55296-clause-first
returns-then-high-lt55296-clause-first c =
    let units = c.args.units.now in
    let high = slice_index_or units 0 0 in
    let fits = c.type_inv.units 0 in
    let value = made c.from_u32.result _ high 63 c.from_u32.ensures.value in
    let is : unwrap_or (lone_unit_char high) 63 ≡ c.unwrap_or.result = elim c.then-high-lt55296.branch [
      | then-high-lt55296-via-then-high-lt55296 w ↦
          let low = w.if-high-lt55296.true in below units low ∙ sym (c.unwrap_or.ensures ∙ value (c.from_u32.ensures.succeeds (inl low)))
      | then-high-lt55296-via-else-high-lt55296+then-high-ge57344 w ↦
          let from = w.if-high-ge57344.true in above units from ∙ sym (c.unwrap_or.ensures ∙ value (c.from_u32.ensures.succeeds (inr (from, omega arith))))
    ] in
    lone units c.unwrap_or.result c.requires (λ pair. omega arith) is

pub returns-then-high-ge56320-clause-first : goal.returns-then-high-ge56320-clause-first
returns-then-high-ge56320-clause-first c =
    let units = c.args.units.now in
    let apart = λ (pair : IsPair (slice_index_or units 0 0) (slice_index_or units 1 0)). elim c.then-high-ge56320.branch as (λ _. ⊥) [
      | then-high-ge56320-via-then-high-ge56320 w ↦ omega arith
      | then-high-ge56320-via-else-high-ge56320+then-units-lt2 w ↦ omega (arith, no_second units w.if-units-lt2.true)
    ] in
    lone units 63 c.requires apart (half units c.if-high-lt55296.false c.if-high-ge57344.false)

pub returns-then-low-lt56320-clause-first : goal.returns-then-low-lt56320-clause-first
returns-then-low-lt56320-clause-first c =
    let units = c.args.units.now in
    lone units 63 c.requires (λ pair. omega arith) (half units c.if-high-lt55296.false c.if-high-ge57344.false)

pub returns-clause-first : goal.returns-clause-first
returns-clause-first c =
    let units = c.args.units.now in
    let value = made c.from_u32-2.result _ _ 63 c.from_u32-2.ensures.value (c.from_u32-2.ensures.succeeds (inr (omega arith, omega arith))) in
    pair units (omega arith) (omega arith, omega arith, omega arith, omega arith)
    ∙ ap (λ (x : ℕ). encode_utf8 x ++ utf8_of (drop 2 units)) (sym (c.unwrap_or-2.ensures ∙ value))

-- Definitions whose numbers have the widths of their type, one after another.
use Rattle.std.proofs.Common.{◌≡◌, ◌⊎◌, inl, inr, ℕ, ◌+◌, ◌<◌, ◌≤◌, List, length, get_or, slice_get, Some, subst, ◌∙◌, arith}
use Rattle.std.proofs.lemmas.Bool.{cases_lt}
use Rattle.std.proofs.lemmas.Option.{slice_get_within, get_or_from_slice_get}
use Rattle.cc_meaning.specs.declared.file.ClassRow.{ClassRow}
use Rattle.cc_dex_writer.specs.Whole.{IsWideClass, AreWideClasses}

-- so are those before a place
abbrev pub AreWideBefore : List ClassRow → ℕ → Type 0
AreWideBefore classes place = (row : ℕ) (class : ClassRow) → row < place → slice_get classes row ≡ Some class → IsWideClass class

pub wide_more : (classes : List ClassRow) (place : ℕ) (class : ClassRow) → place < length classes → class ≡ get_or classes place class → IsWideClass class → AreWideBefore classes place → AreWideBefore classes (place + 1)
wide_more classes place class within is wide before row other below there = from (cases_lt row place)
  where
    from : (row < place) ⊎ (place ≤ row) → IsWideClass other
    from (inl less) = before row other less there
    from (inr more) =
        let same : row ≡ place = omega (arith, below, more) in
        let own : get_or classes place class ≡ other = get_or_from_slice_get classes place other class (subst (λ k. slice_get classes k ≡ Some other) same there) in
        subst IsWideClass (is ∙ own) wide

pub wide_all : (classes : List ClassRow) (place : ℕ) → length classes ≤ place → AreWideBefore classes place → AreWideClasses classes
wide_all classes place past before row class there = before row class (omega (arith, past, slice_get_within classes row class there)) there

-- The whole file is written for its tables and classes.
use Rattle.std.proofs.Common.{◌≡◌, ℕ, ◌+◌, ◌*◌, ◌^◌, ◌<◌, ◌≤◌, List, length, refl, sym, ap, subst, ◌∙◌, arith}
use Rattle.std.proofs.lemmas.List.{take_all}
use Rattle.cc_meaning.specs.declared.file.ClassRow.{ClassRow}
use Rattle.cc_meaning.specs.declared.file.Ids.{Ids}
use Rattle.cc_meaning.specs.declared.file.RawClass.{RawClass}
use Rattle.cc_meaning_dex.specs.Numbers.{Stands}
use Rattle.cc_meaning_dex.specs.Tables.{longest_file}
use Rattle.cc_meaning_dex.specs.Classes.{EachPair}
use Rattle.cc_meaning_builder.specs.Written.{ClassesPass, IsClassWritten, IsSameClass}
use Rattle.cc_dex_writer.specs.declared.offsets.Offsets.{Offsets}
use Rattle.cc_dex_writer.specs.Laws.{FittingRowsAreSmall}
use Rattle.cc_dex_writer.specs.Layout.{classes_at, data_start_of}
use Rattle.cc_dex_writer.specs.Whole.{IsWhole}
use Rattle.cc_dex_writer.specs.declared.section.Section.{Section}
use Rattle.cc_dex_writer.specs.Items.{AreFirstWritten}
use Rattle.cc_dex_writer.specs.Section.{Adds, Grows, HasSection}
use Rattle.cc_dex_writer.specs.Writing.{AreItems, IsFileOf}
use Rattle.cc_dex_writer.proofs.Adding.{as_long}
use Rattle.cc_dex_writer.proofs.ItemsStanding.{items_stand}
use Rattle.cc_dex_writer.proofs.Placed.{placed, fit_placed, all_written}

-- what is known of a file that is put together
pub record IsMade (ids : Ids) (classes : List RawClass) (outs : List (List ℕ)) (rows : List ClassRow) (offsets : Offsets) (begun now last : Section) (file : List ℕ) : Type 0 where
  pub few : length ids.texts < 2 ^ 32
  pub small : FittingRowsAreSmall
  pub base : data_start_of ids < 2 ^ 64 → begun.base ≡ data_start_of ids
  pub items : Adds begun now (λ file. AreItems file ids offsets)
  pub same : EachPair IsSameClass rows ids.classes
  pub classes_written : Adds now last (λ file. AreFirstWritten file ids rows classes)
  pub classes_pass : Adds now last (λ file. ClassesPass file rows classes outs)
  pub whole : IsWhole (placed ids rows) offsets last.bytes file

same_start : (ids : Ids) (rows : List ClassRow) → length rows ≡ length ids.classes → data_start_of (placed ids rows) ≡ data_start_of ids
same_start ids rows long = ap (λ n. classes_at ids + n * 32) long

has_section : (ids : Ids) (rows : List ClassRow) (begun now last : Section) (file : List ℕ) → length rows ≡ length ids.classes → data_start_of ids < 2 ^ 64 →
    (data_start_of ids < 2 ^ 64 → begun.base ≡ data_start_of ids) → Grows begun now → Grows now last → Stands file (data_start_of (placed ids rows)) last.bytes → HasSection last file
has_section ids rows begun now last file long short base first second stands =
    let at : last.base ≡ data_start_of ids = second.base ∙ first.base ∙ base short in
    let here : last.base ≡ data_start_of (placed ids rows) = at ∙ sym (same_start ids rows long) in
    record {
      behind = λ none. let e : last.base ≡ 0 = none in omega arith;
      stands = subst (λ n. Stands file n last.bytes) (sym here) stands;
    }

pub file_of : (ids : Ids) (classes : List RawClass) (outs : List (List ℕ)) (rows : List ClassRow) (offsets : Offsets) (begun now last : Section) (file : List ℕ) →
    IsMade ids classes outs rows offsets begun now last file → IsFileOf ids classes outs file
file_of ids classes outs rows offsets begun now last file made fit whole fits =
    let long : length rows ≡ length ids.classes = as_long IsSameClass rows ids.classes made.same in
    let start : data_start_of (placed ids rows) ≡ data_start_of ids = same_start ids rows long in
    let size : length file ≡ data_start_of (placed ids rows) + length last.bytes = made.whole.long in
    let few : length file ≤ longest_file = fits.short in
    let short : data_start_of ids < 2 ^ 64 = omega arith in
    let has = has_section ids rows begun now last file long short made.base made.items.grown made.classes_written.grown made.whole.stands in
    let items = made.items.tells file (made.classes_written.grown.keeps file has) in
    let stand = items_stand file ids rows offsets fit fits.types made.same items in
    let room = made.small (placed ids rows) (fit_placed ids rows made.same fit) made.few fits.types fits.protos made.whole.wide in
    let first = made.classes_written.tells file has (omega arith) in
    let written = subst (λ all. EachPair (IsClassWritten file ids) rows all) (take_all (length rows) classes (omega arith)) first in
    record {
      written = placed ids rows;
      same = record { texts = refl; types = refl; protos = refl; fields = refl; methods = refl; classes = made.same };
      header = made.whole.header few;
      sections = made.whole.sections few;
      tables = made.whole.tables few;
      spelled = made.whole.spelled few room stand;
      members = all_written file ids rows rows classes written;
      passed = made.classes_pass.tells file has;
    }

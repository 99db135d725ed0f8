-- The file that is made of tables and classes is the one that is built.
use Rattle.std.proofs.Common.{◌≡◌, ℕ, suc, List, [], ◌∷◌, length, refl, ap, ◌∙◌, Result, Ok, Err}
use Rattle.std.specs.Prelude.{IfOk}
use Rattle.cc_meaning.specs.declared.fault.Memory.{Memory}
use Rattle.cc_meaning.specs.declared.file.Ids.{Ids}
use Rattle.cc_meaning.specs.declared.file.RawClass.{RawClass}
use Rattle.cc_meaning_dex.specs.Classes.{EachPair}
use Rattle.cc_meaning_builder.specs.declared.content.ListedClass.{ListedClass}
use Rattle.cc_meaning_builder.specs.Built.{Built}
use Rattle.cc_meaning_builder.specs.Laws.{WrittenIsReadAgain}
use Rattle.cc_meaning_builder.specs.Members.{AreOuts, AreRawClasses}
use Rattle.cc_meaning_builder.specs.Tables.{AreTables, IsClassRow}
use Rattle.cc_meaning_builder.specs.WellNamed.{WellNamed}
use Rattle.cc_builder.specs.Known.{HasRows}
use Rattle.cc_dex_writer.specs.Writing.{IsFileOf}

-- there are as many of the ones as of the others
as_many : {A B : Type 0} (holds : A → B → Type 0) (xs : List A) (ys : List B) → EachPair holds xs ys → length xs ≡ length ys
as_many holds [] [] each = refl
as_many holds (x ∷ xs) (y ∷ ys) each = ap suc (as_many holds xs ys each.1)
as_many holds [] (y ∷ ys) each = absurd each
as_many holds (x ∷ xs) [] each = absurd each

pub has_rows : (content : List ListedClass) (ids : Ids) → AreTables content ids → HasRows content ids
has_rows content ids tables = record { tables = tables.fit; named = tables.named }

pub is_built : WrittenIsReadAgain → (content : List ListedClass) (ids : Ids) (classes : List RawClass) (outs : List (List ℕ)) (file : List ℕ) → WellNamed content →
    (WellNamed content → AreTables content ids) → (WellNamed content → HasRows content ids → AreRawClasses content ids classes) →
    (WellNamed content → HasRows content ids → AreOuts ids content classes outs) → length classes ≡ length content → IsFileOf ids classes outs file → Built content file
is_built again content ids classes outs file named tables members passed count written =
    let of_tables = tables named in
    let of_members = members named (has_rows content ids of_tables) in
    record {
      ids = ids;
      classes = classes;
      outs = outs;
      tables = of_tables;
      members = of_members;
      passed = passed named (has_rows content ids of_tables);
      again = λ fits. again content ids classes outs file named of_tables of_members fits (written of_tables.fit (count ∙ as_many (IsClassRow ids) content ids.classes of_tables.classes) fits);
    }

pub finished : WrittenIsReadAgain → (content : List ListedClass) (ids : Ids) (classes : List RawClass) (outs : List (List ℕ)) (result : Result (List ℕ) Memory) →
    (WellNamed content → AreTables content ids) → (WellNamed content → HasRows content ids → AreRawClasses content ids classes) →
    (WellNamed content → HasRows content ids → AreOuts ids content classes outs) → length classes ≡ length content → IfOk result (IsFileOf ids classes outs) → IfOk result (λ file. WellNamed content → Built content file)
finished again content ids classes outs (Ok file) tables members passed count written = λ named. is_built again content ids classes outs file named tables members passed count written
finished again content ids classes outs (Err fault) tables members passed count written = written

-- The classes that stand above arrays and outside classes are classes of each program.
use Rattle.std.proofs.Common.{refl}
use Rattle.cc_meaning.specs.BuiltIn.{built_in_classes, built_in_plain_classes, built_in_throwables, object_name, string_name, string_builder_name, system_name, print_stream_name, throwable_name, exception_name, error_name}
use Rattle.cc_meaning.specs.declared.file.Ids.{Ids}
use Rattle.cc_meaning_program.specs.ClassNames.{IsClassName, built_in}

pub object_is_class : (ids : Ids) → IsClassName ids object_name
unfolding built_in_classes built_in_plain_classes object_name
object_is_class ids = built_in refl

pub exception_is_class : (ids : Ids) → IsClassName ids exception_name
unfolding built_in_classes built_in_plain_classes built_in_throwables object_name string_name string_builder_name system_name print_stream_name throwable_name exception_name
exception_is_class ids = built_in refl

pub error_is_class : (ids : Ids) → IsClassName ids error_name
unfolding built_in_classes built_in_plain_classes built_in_throwables object_name string_name string_builder_name system_name print_stream_name throwable_name exception_name error_name
error_is_class ids = built_in refl

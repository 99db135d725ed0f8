-- The worked examples of texts hold.
use Rattle.std.proofs.Common.{refl, codes}
use Rattle.cc_meaning_calls.specs.Texts.{named_in, repeats, is_in, movable_or, moved_at, then_rest, moved_from, moving, partition_or, partition_of_names, partition_of}
use Rattle.std.specs.Str.{chars}
use Rattle.json.specs.Print.{escape_byte}
use Rattle.cc_meaning_calls.specs.Texts.{none, next}
use Rattle.serde_json.specs.Data.{no_items, item, string}
use Rattle.cc_meaning_calls.specs.WorkedTexts.{TextsHold}

pub texts_hold : TextsHold
unfolding named_in repeats is_in movable_or moved_at then_rest moved_from moving partition_or partition_of_names partition_of chars escape_byte
texts_hold = record { read = refl; unknown = refl; main = refl; twice = refl; no_list = refl; no_json = refl; written = (item (string (codes "LA;->f()V")) no_items, next refl refl none, refl) }

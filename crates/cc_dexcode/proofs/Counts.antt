-- A file spells fewer than 2 ^ 32 class definitions.
use Rattle.std.proofs.Common.{ℕ, ◌+◌, ◌<◌, ◌^◌, List, length, get_or, arith}
use Rattle.cc_meaning.specs.declared.file.Ids.{Ids}
use Rattle.cc_meaning_dex.specs.Numbers.{u16_at, u32_at}
use Rattle.cc_meaning_dex.specs.Ids.{SpellsIds}

word_below : (file : List ℕ) (at : ℕ) → ((i : ℕ) → get_or file i 0 < 256) → u32_at file at < 2 ^ 32
unfolding u16_at u32_at
word_below file at bytes = omega (arith, bytes at, bytes (at + 1), bytes (at + 2), bytes (at + 2 + 1))

pub few_classes : (file : List ℕ) (ids : Ids) → SpellsIds file ids → ((i : ℕ) → get_or file i 0 < 256) → length ids.classes < 2 ^ 32
few_classes file ids spells bytes = omega (arith, spells.tables.classes.all, word_below file 96 bytes)

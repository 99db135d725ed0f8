use Rattle.std.proofs.Common.{◌≡◌, ◌-◌, ◌^◌, ◌++◌, length}
use Rattle.cc_meaning_builder.specs.Forms.{sleb_form, sleb_within}
use Rattle.cc_items.proofs.numbers.sleb.Given as goal

-- the groups so far, and what is left in at most so many groups and one more, are the whole
abbrev pub invariant-loop : goal.invariant-loop
invariant-loop l = record {
  shows : l.bytes.items ++ sleb_within (4 - l.counter) l.rest l.negative ≡ sleb_form l.negative l.size;
  bounded : l.bound ≡ 128 ^ (5 - l.counter);
  room : length l.bytes.items ≡ l.counter;
}

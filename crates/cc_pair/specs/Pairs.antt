-- A link to a clone in memory: what it holds.
use Rattle.std.specs.Prelude.{ℕ, Bool, true, false, List, [], ◌++◌, take, drop, Some}
use Rattle.cc_meaning.specs.declared.travel.CloneEnd.{CloneEnd}
use Rattle.cc_meaning.specs.declared.travel.Happening.{Happening}
use Rattle.cc_meaning_nodes.specs.Talk.{Talk, Open}
use Rattle.cc_meaning_nodes.specs.Clone.{ClonePlace, Waiting}
use Rattle.cc_meaning_plain.specs.declared.plain.Plain.{Plain}
use Rattle.cc_link.specs.Links.{Known, Counts}
use Rattle.cc_pair.specs.Counting.{no_counts, one_fault, one_stall, one_wait, one_end, more_carried}

-- ---- bytes on one way

-- those that went through, and behind them those that are on the way
pub record Piped : Type 0 where
  pub passed : List ℕ
  pub waiting : List ℕ

abbrev pub empty_pipe : Piped
empty_pipe = record { passed = []; waiting = [] }

abbrev pub put_behind : List ℕ → Piped → Piped
put_behind bytes pipe = record { passed = pipe.passed; waiting = pipe.waiting ++ bytes }

-- the first went through, as many as there are and no more than so many
abbrev pub passed_on : ℕ → Piped → Piped
passed_on n pipe = record { passed = pipe.passed ++ take n pipe.waiting; waiting = drop n pipe.waiting }

-- ---- the link

-- what a clone said that stands at it yet, and where the clone stands
abbrev pub PlainTalk : Type 0
PlainTalk = Talk (ClonePlace Plain) CloneEnd

-- the happenings to come; the bytes sent, of which those that passed are the clone's; the clone, and whether it is deaf; the bytes that came down from it,
-- of which those that passed were given; and the counts
pub record Pair : Type 0 where
  pub list : List Happening
  pub up : Piped
  pub clone : PlainTalk
  pub deaf : Bool
  pub down : Piped
  pub counts : Counts

-- nothing was sent
abbrev pub at_first : List Happening → Pair
at_first list = record { list = list; up = empty_pipe; clone = record { said = []; standing = Open Waiting [] }; deaf = false; down = empty_pipe; counts = no_counts }

-- it tells the bytes sent and got
abbrev pub known_of : Pair → Known
known_of p = record { sent = Some (p.up.passed ++ p.up.waiting); got = Some p.down.passed }

abbrev pub counts_of : Pair → Counts
counts_of p = p.counts

-- ---- what becomes of it

-- these happenings are to come
abbrev pub with_list : List Happening → Pair → Pair
with_list list p = record p { list = list }

abbrev pub deafened : Pair → Pair
deafened p = record p { deaf = true }

-- one failure more is counted, one call that took nothing yet, one that gave nothing yet, one at the end, and so many bytes that were carried
abbrev pub with_fault : Pair → Pair
with_fault p = record p { counts = one_fault p.counts }

abbrev pub with_stall : Pair → Pair
with_stall p = record p { counts = one_stall p.counts }

abbrev pub with_wait : Pair → Pair
with_wait p = record p { counts = one_wait p.counts }

abbrev pub with_end : Pair → Pair
with_end p = record p { counts = one_end p.counts }

abbrev pub with_carried : ℕ → Pair → Pair
with_carried n p = record p { counts = more_carried n p.counts }

-- bytes are on the way up, so many went up to a clone that is so then, and so many of its replies are on the way down
abbrev pub with_sent : List ℕ → Pair → Pair
with_sent bytes p = record p { up = put_behind bytes p.up }

abbrev pub went_up : ℕ → PlainTalk → Pair → Pair
went_up n clone p = record p { up = passed_on n p.up; clone = clone }

abbrev pub brought_down : ℕ → Pair → Pair
brought_down n p = record p { clone = record { said = drop n p.clone.said; standing = p.clone.standing }; down = put_behind (take n p.clone.said) p.down }

-- so many that came down are given
abbrev pub with_given : ℕ → Pair → Pair
with_given n p = record p { down = passed_on n p.down }

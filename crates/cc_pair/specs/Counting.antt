-- The counts of a link.
use Rattle.std.specs.Prelude.{ℕ, ◌+◌, ◌-◌, ◌^◌, ◌<◌, min}
use Rattle.cc_outside.specs.Failing.{one_more}
use Rattle.cc_link.specs.Links.{Counts}

abbrev pub no_counts : Counts
no_counts = record { faults = 0; stalls = 0; waits = 0; ends = 0; carried = 0 }

-- one failure more, one call more that took nothing yet, one that gave nothing yet, one at the end, and so many bytes that were carried
abbrev pub one_fault : Counts → Counts
one_fault k = record k { faults = one_more k.faults }

abbrev pub one_stall : Counts → Counts
one_stall k = record k { stalls = one_more k.stalls }

abbrev pub one_wait : Counts → Counts
one_wait k = record k { waits = one_more k.waits }

abbrev pub one_end : Counts → Counts
one_end k = record k { ends = one_more k.ends }

abbrev pub more_carried : ℕ → Counts → Counts
more_carried n k = record k { carried = min (k.carried + n) (2 ^ 64 - 1) }

-- each count fits its type
pub record Fit (k : Counts) : Type 0 where
  pub faults : k.faults < 2 ^ 64
  pub stalls : k.stalls < 2 ^ 64
  pub waits : k.waits < 2 ^ 64
  pub ends : k.ends < 2 ^ 64
  pub carried : k.carried < 2 ^ 64

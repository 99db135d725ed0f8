use Rattle.cc_builder_laws.proofs.member_laws.lower.Goals as goal

pub returns : goal.returns
returns c = record {
  apart = c.stands_apart.ensures;
  within = c.stands_within.ensures;
  u16 = c.written_u16.ensures;
  u32 = c.written_u32.ensures;
  uleb = c.written_uleb.ensures;
  sleb = c.written_sleb.ensures;
  uleb_size = c.uleb_length.ensures;
  units_size = c.units_length.ensures;
}

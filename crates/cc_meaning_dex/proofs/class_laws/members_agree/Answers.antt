use Rattle.cc_meaning_dex.proofs.MemberLaws as members
use Rattle.cc_meaning_dex.proofs.class_laws.members_agree.Goals as goal

pub returns : goal.returns
returns c = members.members_agree c.uleb_agrees.ensures

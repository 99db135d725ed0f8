-- What holds of every link to a clone in memory, and what of a prompt one.
use Rattle.std.specs.Prelude.{◌≡◌, ℕ, Bool, false, List, [], ◌++◌, Result}
use Rattle.std.proofs.Common.{subst, ap}
use Rattle.std.proofs.lemmas.Option.{same_Some}
use Rattle.cc_meaning_nodes.specs.Talk.{talk, IsPrefixOf}
use Rattle.cc_meaning_plain.specs.declared.plain.Plain.{Plain}
use Rattle.cc_meaning_clone.specs.Plain.{plain_clone, IsVerdict}
use Rattle.cc_link.specs.Links.{Known}
use Rattle.cc_link.specs.Honest.{at_start, said_to, IsHonest, IsHonestLink}
use Rattle.cc_pair.specs.Pairs.{Piped, PlainTalk, Pair, known_of}

-- all that the clone said: what was given, what is on the way down, and what stands at it
abbrev pub all_said : PlainTalk → Piped → List ℕ
all_said clone down = down.passed ++ (down.waiting ++ clone.said)

-- By each right verdict on the Hello that went up, the clone said a front of what a clone says to all that went up; until it is deaf it said all of that, and
-- stands where that leads. What was given is a front of what a clone says to all that was sent.
pub record Stands (up : Piped) (clone : PlainTalk) (deaf : Bool) (down : Piped) : Type 0 where
  pub front : (verdict : Result Plain ℕ) → IsVerdict at_start up.passed verdict → IsPrefixOf (all_said clone down) (said_to verdict up.passed)
  pub hears : deaf ≡ false → (verdict : Result Plain ℕ) → IsVerdict at_start up.passed verdict →
      talk (plain_clone verdict) at_start up.passed ≡ record { said = all_said clone down; standing = clone.standing }
  pub honest : IsHonest (up.passed ++ up.waiting) down.passed

abbrev pub IsFair : Pair → Type 0
IsFair p = Stands p.up p.clone p.deaf p.down

pub fair_tells : (p : Pair) → IsFair p → IsHonestLink (known_of p)
fair_tells p h sent got e =
    let s : p.up.passed ++ p.up.waiting ≡ sent = same_Some _ _ (ap (λ (k : Known). k.sent) e) in
    let g : p.down.passed ≡ got = same_Some _ _ (ap (λ (k : Known). k.got) e) in
    subst (λ (xs : List ℕ). IsHonest xs got) s (subst (λ (xs : List ℕ). IsHonest (p.up.passed ++ p.up.waiting) xs) g h.honest)

-- nothing more befalls it, so it isn't cut, and its clone isn't deaf
pub record IsPrompt (p : Pair) : Type 0 where
  pub fair : IsFair p
  pub nothing_comes : p.list ≡ []
  pub hears : p.deaf ≡ false

pub prompt_trusts : (p : Pair) → IsPrompt p → IsFair p
prompt_trusts p h = h.fair

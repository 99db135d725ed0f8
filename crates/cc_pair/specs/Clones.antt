-- What a clone makes of a piece that comes up to it.
use Rattle.std.specs.Prelude.{◌≡◌, ℕ, Bool, true, false, List, take, Result}
use Rattle.cc_meaning.specs.declared.travel.CloneEnd.TheVariants.{OutOfMemory}
use Rattle.cc_meaning_nodes.specs.Talk.{Closed, talk, says, with_said, AddsFront}
use Rattle.cc_meaning_plain.specs.declared.plain.Plain.{Plain}
use Rattle.cc_meaning_clone.specs.Plain.{plain_clone, IsVerdict, HasVerdict}
use Rattle.cc_pair.specs.Pairs.{PlainTalk, Pair, went_up, deafened}

-- by each right verdict on the Hello, of which there is one, it says what a clone says to the piece, and stands where that leads
pub record Hears (old : PlainTalk) (piece : List ℕ) (new : PlainTalk) : Type 0 where
  pub judged : HasVerdict old.standing piece
  pub answers : (verdict : Result Plain ℕ) → IsVerdict old.standing piece verdict → new ≡ with_said old.said (talk (plain_clone verdict) old.standing piece)

-- it has no memory: it says a front of what is due, and is closed
pub record Refuses (old : PlainTalk) (piece : List ℕ) (new : PlainTalk) : Type 0 where
  pub closed : new.standing ≡ Closed OutOfMemory
  pub front : (verdict : Result Plain ℕ) → IsVerdict old.standing piece verdict → AddsFront old.said new.said (says (plain_clone verdict) old.standing piece)

-- so many bytes go up and are heard; a deaf clone takes none
abbrev pub GoesUp : Bool → ℕ → Pair → Pair → Type 0
GoesUp true n p q = q ≡ p
GoesUp false n p q = (clone : PlainTalk) × Hears p.clone (take n p.up.waiting) clone × (q ≡ went_up n clone p)

-- so many bytes go up and are refused, so the clone is deaf from then on
abbrev pub IsRefused : Bool → ℕ → Pair → Pair → Type 0
IsRefused true n p q = ⊥
IsRefused false n p q = (clone : PlainTalk) × Refuses p.clone (take n p.up.waiting) clone × (q ≡ deafened (went_up n clone p))

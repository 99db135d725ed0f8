-- A link to a clone in memory stays fair, whatever befalls it.
use Rattle.std.proofs.Common.{◌≡◌, ℕ, Bool, true, false, List, [], ◌++◌, take, Result, refl, sym, ap, ◌∙◌, subst, append_assoc}
use Rattle.std.proofs.lemmas.List.{append-nil}
use Rattle.cc_meaning_nodes.specs.Frames.{Rest}
use Rattle.cc_meaning_nodes.specs.FrameLaws.{NothingMore}
use Rattle.cc_meaning_nodes.specs.Talk.{talk, says, stands_after, IsPrefixOf, SaidGoesOn, StandingGoesOn, SaidIsFront, NothingIsSaid}
use Rattle.cc_meaning_nodes.specs.Clone.{Waiting}
use Rattle.cc_meaning_plain.specs.declared.plain.Plain.{Plain}
use Rattle.cc_meaning_clone.specs.Plain.{PlainStanding, plain_clone, IsVerdict, VerdictGoesOn}
use Rattle.cc_link.specs.Honest.{at_start, said_to, IsHonest}
use Rattle.cc_pair.specs.Pairs.{Piped, empty_pipe, put_behind, passed_on, PlainTalk}
use Rattle.cc_pair.specs.Clones.{Hears, Refuses}
use Rattle.cc_pair.specs.Fair.{all_said, Stands}
use Rattle.cc_pair.proofs.Pieces.{all_stay, front_of_front, front_behind}

-- what a clone says to a stream that goes on
pub record Laws : Type 0 where
  pub verdicts : VerdictGoesOn
  pub said : (verdict : Result Plain ℕ) → SaidGoesOn (plain_clone verdict)
  pub standing : (verdict : Result Plain ℕ) → StandingGoesOn (plain_clone verdict)
  pub front : (verdict : Result Plain ℕ) → SaidIsFront (plain_clone verdict)

-- ---- honesty

-- what is a front of all that the clone said is a front of what is due for all that was sent
pub honest_by : Laws → (up down : Piped) (clone : PlainTalk) (got : List ℕ) →
    ((verdict : Result Plain ℕ) → IsVerdict at_start up.passed verdict → IsPrefixOf (all_said clone down) (said_to verdict up.passed)) →
    IsPrefixOf got (all_said clone down) → IsHonest (up.passed ++ up.waiting) got
honest_by laws up down clone got front p = record {
  front = λ verdict right.
      let early = (laws.verdicts at_start up.passed up.waiting verdict right).0 in
      let due = front_of_front got (all_said clone down) (said_to verdict up.passed) p (front verdict early) in
      front_of_front got (said_to verdict up.passed) (said_to verdict (up.passed ++ up.waiting)) due (laws.front verdict at_start up.passed up.waiting);
}

got_is_front : (down : Piped) (clone : PlainTalk) → IsPrefixOf down.passed (all_said clone down)
got_is_front down clone = (down.waiting ++ clone.said, refl)

-- ---- at the start

pub stands_first : Laws → ((verdict : Result Plain ℕ) → NothingIsSaid (plain_clone verdict)) → NothingMore → Stands empty_pipe (record { said = []; standing = at_start }) false empty_pipe
stands_first laws nothing more =
    let front : (verdict : Result Plain ℕ) → IsVerdict at_start [] verdict → IsPrefixOf [] (said_to verdict []) = λ verdict right. (said_to verdict [], refl) in
    record {
      front = front;
      hears = λ e verdict right. nothing verdict Waiting (Rest []) more.0;
      honest = honest_by laws empty_pipe empty_pipe (record { said = []; standing = at_start }) [] front ([], refl);
    }

-- ---- bytes are sent

pub stands_sent : Laws → (up : Piped) (clone : PlainTalk) (deaf : Bool) (down : Piped) (bytes : List ℕ) → Stands up clone deaf down → Stands (put_behind bytes up) clone deaf down
stands_sent laws up clone deaf down bytes h = record {
  front = h.front;
  hears = h.hears;
  honest = honest_by laws (put_behind bytes up) down clone down.passed h.front (got_is_front down clone);
}

-- ---- bytes are given

pub stands_given : Laws → (up : Piped) (clone : PlainTalk) (deaf : Bool) (down : Piped) (n : ℕ) → Stands up clone deaf down → Stands up clone deaf (passed_on n down)
stands_given laws up clone deaf down n h =
    let P : List ℕ → Type 0 = λ all. (verdict : Result Plain ℕ) → IsVerdict at_start up.passed verdict → IsPrefixOf all (said_to verdict up.passed) in
    let Q : List ℕ → Type 0 = λ all. (verdict : Result Plain ℕ) → IsVerdict at_start up.passed verdict → talk (plain_clone verdict) at_start up.passed ≡ record { said = all; standing = clone.standing } in
    let same : all_said clone (passed_on n down) ≡ all_said clone down =
    sym (append_assoc (passed_on n down).passed (passed_on n down).waiting clone.said)
    ∙ ap (λ (xs : List ℕ). xs ++ clone.said) (all_stay n down)
    ∙ append_assoc down.passed down.waiting clone.said in
    let front = subst P (sym same) h.front in
    record {
      front = front;
      hears = λ e. subst Q (sym same) (h.hears e);
      honest = honest_by laws up (passed_on n down) clone (passed_on n down).passed front (got_is_front (passed_on n down) clone);
    }

-- ---- the clone is deaf

pub stands_deaf : (up : Piped) (clone : PlainTalk) (deaf : Bool) (down : Piped) → Stands up clone deaf down → Stands up clone true down
stands_deaf up clone deaf down h = record { front = h.front; hears = λ e. absurd cc; honest = h.honest }

-- ---- bytes go up

module _ (laws : Laws) (up : Piped) (clone : PlainTalk) (down : Piped) (n : ℕ) (h : Stands up clone false down) where
  abbrev piece : List ℕ
  piece = take n up.waiting

  abbrev fed : List ℕ
  fed = up.passed ++ piece

  abbrev before : List ℕ
  before = down.passed ++ down.waiting

  -- where the clone stands is where the bytes before lead
  stood : (verdict : Result Plain ℕ) → IsVerdict at_start fed verdict → stands_after (plain_clone verdict) at_start up.passed ≡ clone.standing
  stood verdict right = ap (λ (t : PlainTalk). t.standing) (h.hears refl verdict (laws.verdicts at_start up.passed piece verdict right).0)

  spoke : (verdict : Result Plain ℕ) → IsVerdict at_start fed verdict → says (plain_clone verdict) at_start up.passed ≡ all_said clone down
  spoke verdict right = ap (λ (t : PlainTalk). t.said) (h.hears refl verdict (laws.verdicts at_start up.passed piece verdict right).0)

  -- the verdict is right for the piece
  is_right : (verdict : Result Plain ℕ) → IsVerdict at_start fed verdict → IsVerdict clone.standing piece verdict
  is_right verdict right =
      let P : PlainStanding → Type 0 = λ s. IsVerdict s piece verdict in
      subst P (stood verdict right) (laws.verdicts at_start up.passed piece verdict right).1

  -- what is due for all that went up
  due : (verdict : Result Plain ℕ) → IsVerdict at_start fed verdict →
      says (plain_clone verdict) at_start fed ≡ all_said clone down ++ says (plain_clone verdict) clone.standing piece
  due verdict right =
      laws.said verdict at_start up.passed piece
      ∙ ap (λ (xs : List ℕ). xs ++ says (plain_clone verdict) (stands_after (plain_clone verdict) at_start up.passed) piece) (spoke verdict right)
      ∙ ap (λ (s : PlainStanding). all_said clone down ++ says (plain_clone verdict) s piece) (stood verdict right)

  -- all that it said, and more
  more_said : (more : List ℕ) → all_said clone down ++ more ≡ down.passed ++ (down.waiting ++ (clone.said ++ more))
  more_said more =
      append_assoc down.passed (down.waiting ++ clone.said) more
      ∙ ap (λ (xs : List ℕ). down.passed ++ xs) (append_assoc down.waiting clone.said more)

  pub stands_heard : (new : PlainTalk) → Hears clone piece new → Stands (passed_on n up) new false down
  stands_heard new heard =
      let now : (verdict : Result Plain ℕ) → IsVerdict at_start fed verdict → talk (plain_clone verdict) at_start fed ≡ record { said = all_said new down; standing = new.standing } =
      λ verdict right.
      let answers = heard.answers verdict (is_right verdict right) in
      ap (λ (xs : List ℕ). record { said = xs; standing = stands_after (plain_clone verdict) at_start fed }) (due verdict right ∙ more_said (says (plain_clone verdict) clone.standing piece))
      ∙ ap (λ (s : PlainStanding). record { said = down.passed ++ (down.waiting ++ (clone.said ++ says (plain_clone verdict) clone.standing piece)); standing = s })
      (laws.standing verdict at_start up.passed piece ∙ ap (λ (s : PlainStanding). stands_after (plain_clone verdict) s piece) (stood verdict right))
      ∙ ap (λ (t : PlainTalk). record { said = all_said t down; standing = t.standing }) (sym answers) in
      let front : (verdict : Result Plain ℕ) → IsVerdict at_start fed verdict → IsPrefixOf (all_said new down) (said_to verdict fed) =
      λ verdict right. ([], append-nil (all_said new down) ∙ sym (ap (λ (t : PlainTalk). t.said) (now verdict right))) in
      record {
        front = front;
        hears = λ e. now;
        honest = honest_by laws (passed_on n up) down new down.passed front (got_is_front down new);
      }

  pub stands_refused : (new : PlainTalk) → Refuses clone piece new → Stands (passed_on n up) new true down
  stands_refused new refused =
      let front : (verdict : Result Plain ℕ) → IsVerdict at_start fed verdict → IsPrefixOf (all_said new down) (said_to verdict fed) =
      λ verdict right.
      let more = says (plain_clone verdict) clone.standing piece in
      let within = (refused.front verdict (is_right verdict right)).1 in
      let all = front_behind down.passed (down.waiting ++ new.said) (down.waiting ++ (clone.said ++ more)) (front_behind down.waiting new.said (clone.said ++ more) within) in
      subst (λ (xs : List ℕ). IsPrefixOf (all_said new down) xs) (sym (due verdict right ∙ more_said more)) all in
      record {
        front = front;
        hears = λ e. absurd cc;
        honest = honest_by laws (passed_on n up) down new down.passed front (got_is_front down new);
      }

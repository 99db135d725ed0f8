-- Bytes go up to a clone that isn't deaf.
use Rattle.std.proofs.Common.{◌≡◌, ℕ, Bool, true, false, length, take, min, refl, sym, ap, ◌∙◌, subst}
use Rattle.cc_pair.specs.Pairs.{Piped, passed_on, PlainTalk, Pair}
use Rattle.cc_pair.specs.Clones.{Hears, Refuses, GoesUp, IsRefused}
use Rattle.cc_pair.specs.Fair.{Stands}
use Rattle.cc_pair.proofs.Pieces.{pass_min}
use Rattle.cc_pair.proofs.Fairness.{Laws, stands_heard, stands_refused}

-- so many passed
pub passed_is : (k count : ℕ) (up up' : Piped) → k ≡ min (length up.waiting) count → up' ≡ passed_on k up → up' ≡ passed_on count up
passed_is k count up up' e f = f ∙ ap (λ (n : ℕ). passed_on n up) e ∙ pass_min count up

pub heard_stands : Laws → (up : Piped) (clone : PlainTalk) (deaf : Bool) (down : Piped) (n : ℕ) (new : PlainTalk) (up' : Piped) → deaf ≡ false → up' ≡ passed_on n up →
    Stands up clone deaf down → Hears clone (take n up.waiting) new → Stands up' new deaf down
heard_stands laws up clone deaf down n new up' e f h heard =
    let hears : Stands up clone false down = subst (λ (b : Bool). Stands up clone b down) e h in
    subst (λ (b : Bool). Stands up' new b down) (sym e) (subst (λ (pipe : Piped). Stands pipe new false down) (sym f) (stands_heard laws up clone down n hears new heard))

pub refused_stands : Laws → (up : Piped) (clone : PlainTalk) (deaf : Bool) (down : Piped) (n : ℕ) (new : PlainTalk) (up' : Piped) → deaf ≡ false → up' ≡ passed_on n up →
    Stands up clone deaf down → Refuses clone (take n up.waiting) new → Stands up' new true down
refused_stands laws up clone deaf down n new up' e f h refused =
    let hears : Stands up clone false down = subst (λ (b : Bool). Stands up clone b down) e h in
    subst (λ (pipe : Piped). Stands pipe new true down) (sym f) (stands_refused laws up clone down n hears new refused)

pub goes_up : (p : Pair) (n : ℕ) (new : PlainTalk) (up' : Piped) → p.deaf ≡ false → up' ≡ passed_on n p.up → Hears p.clone (take n p.up.waiting) new →
    GoesUp p.deaf n p (record p { up = up'; clone = new })
goes_up p n new up' e f heard =
    subst (λ (b : Bool). GoesUp b n p (record p { up = up'; clone = new })) (sym e) (new, heard, ap (λ (pipe : Piped). record p { up = pipe; clone = new }) f)

pub is_refused : (p : Pair) (n : ℕ) (new : PlainTalk) (up' : Piped) → p.deaf ≡ false → up' ≡ passed_on n p.up → Refuses p.clone (take n p.up.waiting) new →
    IsRefused p.deaf n p (record p { up = up'; clone = new; deaf = true })
is_refused p n new up' e f refused =
    subst (λ (b : Bool). IsRefused b n p (record p { up = up'; clone = new; deaf = true })) (sym e) (new, refused, ap (λ (pipe : Piped). record p { up = pipe; clone = new; deaf = true }) f)

pub goes_nowhere : (p : Pair) (n : ℕ) → p.deaf ≡ true → GoesUp p.deaf n p p
goes_nowhere p n e = subst (λ (b : Bool). GoesUp b n p p) (sym e) refl

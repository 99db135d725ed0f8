-- The last call on a link is the one that ended the travel.
use Rattle.std.proofs.Common.{◌≡◌, ℕ, ◌==◌, cond, Bool, true, false, List, [], ◌∷◌, Result, Ok, Err, refl, sym, ◌∙◌, subst}
use Rattle.cc_meaning.specs.declared.frame.Frame.{Frame}
use Rattle.cc_meaning.specs.declared.fault.ImageFault.{ImageFault}
use Rattle.cc_meaning.specs.declared.image.RunImage.{RunImage}
use Rattle.cc_meaning.specs.declared.image.BackImage.{BackImage}
use Rattle.cc_meaning.specs.declared.program.Program.{Program}
use Rattle.cc_meaning.specs.declared.travel.LinkEnd.{LinkEnd}
use Rattle.cc_meaning.specs.declared.travel.LinkEnd.TheVariants as ends
use Rattle.cc_meaning_images.specs.Reading.{read_back}
use Rattle.cc_meaning_nodes.specs.Clone.{back_kind, refuse_kind}
use Rattle.cc_meaning_device.specs.Received.{is_ready}
use Rattle.cc_link.specs.Links.{Answer, to_receive}
use Rattle.cc_link.specs.declared.link.Got.TheVariants as gets
use Rattle.cc_device.specs.declared.exchange.Halt.{Halt}
use Rattle.cc_device.specs.declared.exchange.Halt.TheVariants as halts
use Rattle.cc_device.specs.Exchanging.{EndedBy, LastOf}
use Rattle.cc_device.specs.Judging.{refused_with, wrong_frame, judge_ready, judge_image, judge_back, JudgedBy}

-- bytes were given
abbrev pub GaveBytes : (Answer → Type 0) → Type 0
GaveBytes last = (bytes : List ℕ) × last (to_receive (gets.Bytes bytes))

err_same : {A : Type 0} {r : Result A LinkEnd} {a b : LinkEnd} → r ≡ Err a → r ≡ Err b → a ≡ b
err_same e f = let both = sym e ∙ f in cc

wrong_last : (last : Answer → Type 0) (frame : Frame) → GaveBytes last → EndedBy last (wrong_frame frame)
unfolding wrong_frame
wrong_last last frame gave = by (frame.kind == refuse_kind) frame.payload
  where
    by : (b : Bool) (payload : List ℕ) → EndedBy last (cond b (refused_with frame.kind payload) (ends.Unexpected frame.kind))
    by true [] = gave
    by true (status ∷ []) = gave
    by true (status ∷ more ∷ rest) = gave
    by false payload = gave

pub ready_last : (going : Type 0) (last : Answer → Type 0) (frame : Frame) (r : Result (Unit {0}) Halt) → going × GaveBytes last → JudgedBy (judge_ready frame) r → LastOf going last r
unfolding judge_ready
ready_last going last frame (Ok u) gave j = gave
ready_last going last frame (Err halts.Memory) gave j = tt
ready_last going last frame (Err (halts.End e)) gave j = by (is_ready frame) j
  where
    by : (b : Bool) → cond b (Ok (tt {0})) (Err (wrong_frame frame)) ≡ Err e → EndedBy last e
    by true q = absurd cc
    by false q = subst (EndedBy last) (err_same refl q) (wrong_last last frame gave.1)

pub back_last : (going : Type 0) (last : Answer → Type 0) (p : Program) (image : RunImage) (frame : Frame) (r : Result BackImage Halt) → going × GaveBytes last → JudgedBy (judge_back p image frame) r → LastOf going last r
unfolding judge_back
back_last going last p image frame (Ok back) gave j = gave
back_last going last p image frame (Err halts.Memory) gave j = tt
back_last going last p image frame (Err (halts.End e)) gave j = by (frame.kind == back_kind) (read_back p image frame.payload) j
  where
    by : (b : Bool) (r : Result BackImage ImageFault) → cond b (judge_image r) (Err (wrong_frame frame)) ≡ Err e → EndedBy last e
    by true (Ok back) q = absurd cc
    by true (Err fault) q = subst (EndedBy last) (err_same refl q) gave.1
    by false r q = subst (EndedBy last) (err_same refl q) (wrong_last last frame gave.1)

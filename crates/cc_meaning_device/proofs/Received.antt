-- The hook that takes frames: it gives no instructions back, and where nothing is moved it only looks on.
use Rattle.std.proofs.Common.{◌≡◌, ℕ, ◌≤◌, ◌&&◌, not, Bool, true, false, cond, List, [], ◌∷◌, Option, Some, None, Result, Ok, Err, refl, sym, ◌∙◌, ap, subst, slice_get, ◌==◌}
use Rattle.std.proofs.lemmas.Bool.{and_parts, leb-true}
use Rattle.cc_meaning.specs.declared.value.Value.{Value}
use Rattle.cc_meaning.specs.declared.report.Limits.{Limits}
use Rattle.cc_meaning.specs.declared.frame.Frame.{Frame}
use Rattle.cc_meaning.specs.declared.fault.ImageFault.{ImageFault}
use Rattle.cc_meaning.specs.declared.image.RunImage.{RunImage}
use Rattle.cc_meaning.specs.declared.image.BackImage.{BackImage}
use Rattle.cc_meaning.specs.declared.program.Program.{Program}
use Rattle.cc_meaning_run.specs.World.{Setting, World, Stack}
use Rattle.cc_meaning_run.specs.Eval.{Ran, ran, Reply, Here}
use Rattle.cc_meaning_run.specs.Laws.{KeepsLeft}
use Rattle.cc_meaning_run.specs.Local.{run_with, report_of}
use Rattle.cc_meaning_images.specs.Capture.{run_image}
use Rattle.cc_meaning_images.specs.Reading.{reading, result_of, back_head, back_behind, back_fits, read_back}
use Rattle.cc_meaning_images.proofs.Runs.{was_whole}
use Rattle.cc_meaning_nodes.specs.Clone.{back_kind}
use Rattle.cc_meaning_device.specs.Merging.{world_put}
use Rattle.cc_meaning_device.specs.Received.{Device, Received, not_opened, behind_ready, Taken, read_as, back_of_frames, reply_of, sent_in, entry_of, receiver, offloaded_of, offloaded}
use Rattle.cc_meaning_device.specs.Laws.{IsRight, Faithful, ReceiverSpends, NothingMoved}
use Rattle.cc_meaning_device.proofs.Faithful.{faithful_reports}

pub back_spends : (p : Program) (run : RunImage) (bytes : List ℕ) (image : BackImage) → read_back p run bytes ≡ Ok image → image.instructions ≤ run.instructions
unfolding read_back
back_spends p run bytes image e =
    let w = was_whole (back_fits run) (reading (back_head (result_of (slice_get p.methods run.method)) 0 bytes) (λ head at rest. back_behind p run.statuses head at rest)) image e in
    leb-true _ _ (and_parts _ _ w.in_range).0

-- a Back is taken where it was read
pub taken_by : (kind : Bool) (rest : List Frame) (r : Result BackImage ImageFault) (taken : Taken) → cond kind (read_as rest r) None ≡ Some taken → r ≡ Ok taken.back
taken_by true rest (Ok back) taken e = ap Ok (ap Taken.back (some_is (record { back = back; rest = rest }) taken e))
  where
    some_is : (a b : Taken) → Some a ≡ Some b → a ≡ b
    some_is a b e = cc
taken_by true rest (Err fault) taken e = absurd cc
taken_by false rest r taken e = absurd cc

pub taken_spends : (p : Program) (run : RunImage) (frames : Option (List Frame)) (taken : Taken) → back_of_frames p run frames ≡ Some taken → taken.back.instructions ≤ run.instructions
unfolding back_of_frames
taken_spends p run None taken e = absurd cc
taken_spends p run (Some []) taken e = absurd cc
taken_spends p run (Some (frame ∷ rest)) taken e = back_spends p run frame.payload taken.back (taken_by (frame.kind == back_kind) rest (read_back p run frame.payload) taken e)

reply_spends : (p : Program) (w : World) (order : List ℕ) (image : RunImage) (t : Received) (x : Option Taken) →
    ((taken : Taken) → x ≡ Some taken → taken.back.instructions ≤ w.counters.instructions) → KeepsLeft w.counters.instructions (reply_of p w order image t x)
unfolding reply_of world_put
reply_spends p w order image t None h = tt
reply_spends p w order image t (Some taken) h = h taken refl

entry_spends : (d : Device) (moves : Bool) (m : ℕ) (args : List Value) (stack : Stack) (w : World) (t : Received) →
    KeepsLeft w.counters.instructions (cond moves (sent_in d (d.order w args) m args stack w t) (Here t))
unfolding sent_in run_image
entry_spends d false m args stack w t = tt
entry_spends d true m args stack w t =
    let image = run_image d.program w (d.order w args) m args stack in
    reply_spends d.program w (d.order w args) image t (back_of_frames d.program image (behind_ready t)) (λ taken e. taken_spends d.program image (behind_ready t) taken e)

pub receiver_spends : ReceiverSpends
unfolding receiver entry_of
receiver_spends d m args stack w t = entry_spends d (not t.fallen && d.moves m) m args stack w t

-- ---- nothing is moved

only_looks : (b moves : Bool) (sent here : Reply Received) → moves ≡ false → cond (b && moves) sent here ≡ here
only_looks true false sent here e = refl
only_looks false false sent here e = refl
only_looks b true sent here e = absurd cc

looks_on : (d : Device) (s : Setting) → ((m : ℕ) → d.moves m ≡ false) → Faithful (receiver d) s (λ t. Unit {0})
unfolding receiver entry_of
looks_on d s none = record {
  entry = λ m args stack w t. subst (λ x. IsRight s (λ t'. Unit {0}) m args stack w t x)
      (sym (only_looks (not t.fallen) (d.moves m) (sent_in d (d.order w args) m args stack w t) (Here t) (none m))) (λ l. tt);
  turned = λ depth called t l. tt;
}

report_in_offloaded : (limits : Limits) (r : Ran Received) → (offloaded_of limits r).report ≡ report_of limits r
report_in_offloaded limits (ran e w t) = refl

pub nothing_moved : NothingMoved
unfolding offloaded
nothing_moved d s args limits frames none =
    report_in_offloaded limits (run_with (receiver d) s args limits (not_opened frames))
    ∙ faithful_reports (receiver d) s (λ t. Unit {0}) (receiver_spends d) (looks_on d s none) args limits (not_opened frames) tt

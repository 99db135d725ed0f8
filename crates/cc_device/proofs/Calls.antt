-- What a call comes to, and how the device stands behind it.
use Rattle.std.proofs.Common.{◌≡◌, ℕ, zero, suc, ◌+◌, ◌-◌, ◌≤◌, ◌<◌, ◌==◌, cond, Bool, true, false, ℤ, w32, List, [], ◌∷◌, length, Option, Some, None, Result, Ok, Err, is_some, refl, sym, ap, ◌∙◌, subst, arith, slice_get, FitsSigned}
use Rattle.std.proofs.lemmas.Bool.{and_parts, leb-true}
use Rattle.cc_meaning.specs.declared.file.Job.{Job}
use Rattle.cc_meaning.specs.declared.fault.ImageFault.{ImageFault}
use Rattle.cc_meaning.specs.declared.frame.Frame.{Frame}
use Rattle.cc_meaning.specs.declared.image.RunImage.{RunImage}
use Rattle.cc_meaning.specs.declared.image.BackImage.{BackImage}
use Rattle.cc_meaning.specs.declared.program.Program.{Program}
use Rattle.cc_meaning.specs.declared.travel.LinkEnd.{LinkEnd}
use Rattle.cc_meaning_images.specs.Forms.{IsRunOf}
use Rattle.cc_meaning_images.specs.Reading.{reading, result_of, back_head, back_behind, back_fits, read_back}
use Rattle.cc_meaning_images.proofs.Runs.{was_whole}
use Rattle.cc_meaning_nodes.specs.Clone.{back_kind}
use Rattle.cc_meaning_nodes.specs.FrameLaws.{GoesOn, NothingMore, BeginsWithWhole}
use Rattle.cc_meaning_plain.specs.declared.plain.Plain.{Plain}
use Rattle.cc_meaning_plain.specs.Program.{program_of}
use Rattle.cc_meaning_device.specs.Received.{Received}
use Rattle.cc_meaning_device.specs.Straight.{entry_image, value_back, Course}
use Rattle.cc_meaning_device.specs.Entries.{EntryIsRun, FunctionsAreFew}
use Rattle.cc_machine.specs.declared.progress.Progress.{Progress}
use Rattle.cc_machine.specs.declared.progress.Entry.{Entry}
use Rattle.cc_machine.specs.declared.progress.Came.{Came}
use Rattle.cc_machine.specs.declared.progress.Pause.{Pause}
use Rattle.cc_machine.specs.declared.progress.Pause.TheVariants as pauses
use Rattle.cc_machine.specs.Going.{is_stop, came_here}
use Rattle.cc_link.specs.Links.{Known, Counts, NeverFall}
use Rattle.cc_device.specs.declared.contact.Contact.{Contact}
use Rattle.cc_device.specs.declared.exchange.Halt.TheVariants as halts
use Rattle.cc_device.specs.Judging.{wrong_frame, judge_image, judge_back}
use Rattle.cc_device.specs.Travelling.{IsOfFile, moves_of, stops_in, hello_bytes, Took, called_alone, opened_first, Reaches, paused_course, behind_call, received_of, GoesSo, Stood, CallsThere, gives_back, falls_back, CallDone, IsLater}
use Rattle.cc_device.proofs.Keeping.{here_keeps}
use Rattle.cc_device.proofs.Pauses.{done_by}
use Rattle.cc_device.proofs.Stands.{reaching, own_course, stood_by_back, stood_by_fall}

-- ---- what a caller of the clone has

pub get_below : {A : Type 0} (xs : List A) (i : ℕ) → i < length xs → (x : A) × (slice_get xs i ≡ Some x)
get_below [] i h = absurd (omega (arith, h))
get_below (x ∷ xs) zero h = (x, refl)
get_below (x ∷ xs) (suc i) h = get_below xs i (omega (arith, h))

pub entry_runs : (law : EntryIsRun) (plain : Plain) (i : ℕ) (n : ℤ) (instructions words : ℕ) (run : RunImage) → IsOfFile plain → i < length plain.functions → FitsSigned w32 n → instructions ≤ 4294967296 → words ≤ 4194304 →
    run ≡ entry_image plain i n instructions words → IsRunOf (program_of plain) run
entry_runs law plain i n instructions words run f h fits few small is =
    let found = get_below plain.functions i h in
    subst (IsRunOf (program_of plain)) (sym is) (law f.0 plain i found.0 n instructions words f.1 f.2 found.1 fits few small)

pub small_place : (law : FunctionsAreFew) (plain : Plain) (i : ℕ) → IsOfFile plain → i < length plain.functions → i < 2147483648
small_place law plain i f h = let few = law f.0 plain f.2 in omega (arith, few, h)

-- ---- a Back gives nothing back

read_fewer : (p : Program) (run : RunImage) (bytes : List ℕ) (back : BackImage) → read_back p run bytes ≡ Ok back → (back.instructions ≤ run.instructions) × (back.words ≤ run.words)
unfolding read_back
read_fewer p run bytes back e =
    let w = was_whole (back_fits run) (reading (back_head (result_of (slice_get p.methods run.method)) 0 bytes) (λ head at rest. back_behind p run.statuses head at rest)) back e in
    let parts = and_parts _ _ w.in_range in
    (leb-true _ _ parts.0, leb-true _ _ parts.1)

as_read : (found back : BackImage) → judge_image (Ok found) ≡ judge_image (Ok back) → found ≡ back
as_read found back q = cc

judged_fewer : (p : Program) (run : RunImage) (frame : Frame) (back : BackImage) → judge_back p run frame ≡ Ok back → (back.instructions ≤ run.instructions) × (back.words ≤ run.words)
unfolding judge_back
judged_fewer p run frame back e = by (frame.kind == back_kind) (read_back p run frame.payload) refl e
  where
    by : (b : Bool) (r : Result BackImage ImageFault) → read_back p run frame.payload ≡ r → cond b (judge_image r) (Err (wrong_frame frame)) ≡ Ok back → (back.instructions ≤ run.instructions) × (back.words ≤ run.words)
    by true (Ok found) is q = read_fewer p run frame.payload back (is ∙ ap (λ (b : BackImage). Ok b) (as_read found back q))
    by true (Err fault) is q = absurd cc
    by false r is q = absurd cc

took_fewer : (p : Program) (hello : List ℕ) (run : RunImage) (sent got : List ℕ) (back : BackImage) (b : Bool) → Took p hello run sent got back b → (back.instructions ≤ run.instructions) × (back.words ≤ run.words)
took_fewer p hello run sent got back true (called_alone a) = judged_fewer p run a.frame back a.judged
took_fewer p hello run sent got back false (opened_first ready first sent2 got2 s g stands judged a) = judged_fewer p run a.frame back a.judged

-- ---- a call of the clone

as_reaching : (contact : Contact) → contact.end ≡ None → contact ≡ reaching contact.is_open contact.merged
as_reaching contact e = ap (λ (end : Option LinkEnd). record { is_open = contact.is_open; merged = contact.merged; end = end }) e

module _ (plain : Plain) (job : Job) (entry : Entry) (q : Progress) (contact : Contact) (k1 k2 : Known) (c1 c2 : Counts) (still : Type 0) where
  pub back_kept : (run : RunImage) (came : Came) (contact' : Contact) → run ≡ entry_image plain entry.function entry.argument q.instructions q.words → CallsThere plain job run contact k1 c1 still k2 c2 (Some came) contact' →
      CallDone q contact ⊥ came contact'
  back_kept run came contact' is (gives_back back r) =
      let fewer = took_fewer (program_of plain) (hello_bytes job) run r.sent r.got back contact.is_open r.came in
      let same : run.instructions ≡ q.instructions = ap RunImage.instructions is in
      let sized : run.words ≡ q.words = ap RunImage.words is in
      record { instructions = omega (arith, fewer.0, same); words = omega (arith, fewer.1, sized); merged = omega arith; home = λ closed. absurd cc }

  pub fall_kept : (run : RunImage) (came : Came) (contact' : Contact) → CallsThere plain job run contact k1 c1 still k2 c2 None contact' → came ≡ came_here plain.functions entry.function entry.argument q.instructions q.words →
      CallDone q contact ⊥ came contact'
  fall_kept run came contact' (falls_back end r) here =
      let fewer = here_keeps plain.functions entry.function entry.argument q.instructions q.words in
      subst (λ (x : Came). CallDone q contact ⊥ x (record { is_open = contact.is_open; merged = contact.merged; end = Some end })) (sym here)
      (record { instructions = fewer.0; words = fewer.1; merged = omega arith; home = λ closed none. absurd cc })

module _ (goes_on : GoesOn) (nothing : NothingMore) (whole : BeginsWithWhole) (plain : Plain) (moved : Option ℕ) (job : Job) (entry : Entry) (q : Progress) (contact : Contact)
    (is : moved ≡ Some entry.function) (reach : contact.end ≡ None) (k0 k1 k2 : Known) (first c1 c2 : Counts) (prompt still now : Type 0) (n : NeverFall c1 c2)
    (s : Stood plain moved job contact (paused_course plain (moves_of plain moved) (pauses.AtEntry entry) q) k0 first prompt k1 c1 still) where
  stood_reaching : Stood plain moved job (reaching contact.is_open contact.merged) (paused_course plain (moves_of plain moved) (pauses.AtEntry entry) q) k0 first prompt k1 c1 still
  stood_reaching =
      subst (λ (x : Contact). Stood plain moved job x (paused_course plain (moves_of plain moved) (pauses.AtEntry entry) q) k0 first prompt k1 c1 still) (as_reaching contact reach) s

  back_stands : (back : BackImage) → (still → now) → Reaches (program_of plain) (hello_bytes job) job.patience (entry_image plain entry.function entry.argument q.instructions q.words) contact.is_open k1 c1 still (Ok back) k2 c2 →
      Stood plain moved job (record { is_open = true; merged = contact.merged + 1; end = contact.end }) (behind_call plain (moves_of plain moved) entry.to (record { value = value_back back.ending; instructions = back.instructions; words = back.words }) q) k0 first prompt k2 c2 now
  back_stands back stays r =
      subst (λ (end : Option LinkEnd). Stood plain moved job (record { is_open = true; merged = contact.merged + 1; end = end })
      (behind_call plain (moves_of plain moved) entry.to (record { value = value_back back.ending; instructions = back.instructions; words = back.words }) q) k0 first prompt k2 c2 now) (sym reach)
      (stood_by_back goes_on nothing whole plain moved job entry q contact.is_open contact.merged k0 k1 k2 first c1 c2 prompt still now back is n stays stood_reaching r)

  pub back_stood : (run : RunImage) (came : Came) (contact' : Contact) → run ≡ entry_image plain entry.function entry.argument q.instructions q.words → CallsThere plain job run contact k1 c1 still k2 c2 (Some came) contact' → (contact'.end ≡ None → still → now) →
      Stood plain moved job contact' (behind_call plain (moves_of plain moved) entry.to came q) k0 first prompt k2 c2 now
  back_stood run came contact' e (gives_back back r) stays =
      back_stands back (stays reach) (subst (λ (x : RunImage). Reaches (program_of plain) (hello_bytes job) job.patience x contact.is_open k1 c1 still (Ok back) k2 c2) e r)

  pub fall_stood : (run : RunImage) (came : Came) (contact' : Contact) → run ≡ entry_image plain entry.function entry.argument q.instructions q.words → CallsThere plain job run contact k1 c1 still k2 c2 None contact' →
      came ≡ came_here plain.functions entry.function entry.argument q.instructions q.words → Stood plain moved job contact' (behind_call plain (moves_of plain moved) entry.to came q) k0 first prompt k2 c2 now
  fall_stood run came contact' e (falls_back end r) here =
      subst (λ (x : Came). Stood plain moved job (record { is_open = contact.is_open; merged = contact.merged; end = Some end }) (behind_call plain (moves_of plain moved) entry.to x q) k0 first prompt k2 c2 now) (sym here)
      (stood_by_fall goes_on nothing whole plain moved job entry q contact.is_open contact.merged k0 k1 k2 first c1 c2 prompt still now end is n stood_reaching
      (subst (λ (x : RunImage). Reaches (program_of plain) (hello_bytes job) job.patience x contact.is_open k1 c1 still (Err (halts.End end)) k2 c2) e r))

-- ---- a call that is done here

goes_map : (end : Option LinkEnd) (start now then : List Frame → Course) (got : List ℕ) → ((frames : List Frame) → now frames ≡ then frames) → GoesSo end start got now → GoesSo end start got then
goes_map None start now then got same g = λ more. g more ∙ same _
goes_map (Some e) start now then got same g = (g.0, g.1 ∙ same g.0)

pub stop_is : (stops : Option ℕ) (f : ℕ) → is_stop stops f ≡ true → stops ≡ Some f
stop_is None f h = absurd cc
stop_is (Some stop) f h = ap (λ (n : ℕ). Some n) (same stop f h)
  where
    same : (a b : ℕ) → (a == b) ≡ true → a ≡ b
    same a b e = grind (arith, e)

pub own_kept : (plain : Plain) (entry : Entry) (q : Progress) (contact : Contact) (untouched : Type 0) (came : Came) → untouched → came ≡ came_here plain.functions entry.function entry.argument q.instructions q.words →
    CallDone q contact untouched came contact
own_kept plain entry q contact untouched came u here =
    subst (λ (x : Came). CallDone q contact untouched x contact) (sym here)
    (let fewer = here_keeps plain.functions entry.function entry.argument q.instructions q.words in
    record { instructions = fewer.0; words = fewer.1; merged = omega arith; home = λ closed none. u })

pub own_stood : (goes_on : GoesOn) (nothing : NothingMore) (whole : BeginsWithWhole) (plain : Plain) (moved : Option ℕ) (job : Job) (entry : Entry) (q : Progress) (contact : Contact) (k0 k : Known) (first c : Counts) (prompt still : Type 0) (came : Came) →
    is_stop (stops_in (is_some contact.end) moved) entry.function ≡ false → came ≡ came_here plain.functions entry.function entry.argument q.instructions q.words →
    Stood plain moved job contact (paused_course plain (moves_of plain moved) (pauses.AtEntry entry) q) k0 first prompt k c still → Stood plain moved job contact (behind_call plain (moves_of plain moved) entry.to came q) k0 first prompt k c still
own_stood goes_on nothing whole plain moved job entry q contact k0 k first c prompt still came other here s =
    subst (λ (x : Came). Stood plain moved job contact (behind_call plain (moves_of plain moved) entry.to x q) k0 first prompt k c still) (sym here)
    (record {
      sent = s.sent;
      got = s.got;
      images = s.images;
      known = s.known;
      counts = s.counts;
      stays = s.stays;
      travels = s.travels;
      course = goes_map contact.end _ _ _ s.got (λ frames. own_course goes_on nothing whole plain moved job entry q (received_of contact s.images frames)
          (done_by plain moved (received_of contact s.images frames) (is_some contact.end) refl entry.function other)) s.course;
    })

-- what is promised of each untouched link is promised of this one
pub any_home : (q : Progress) (contact : Contact) (untouched : Type 0) (came : Came) (contact' : Contact) → CallDone q contact ⊥ came contact' → CallDone q contact untouched came contact'
any_home q contact untouched came contact' d = record {
  instructions = d.instructions;
  words = d.words;
  merged = d.merged;
  home = λ closed none. absurd (d.home closed none);
}

pub moved_by : (fallen : Bool) (moved : Option ℕ) (f : ℕ) → stops_in fallen moved ≡ Some f → (moved ≡ Some f) × (fallen ≡ false)
moved_by true moved f e = absurd cc
moved_by false moved f e = (e, refl)

pub none_moved : {A : Type 0} (moved : Option ℕ) (f : ℕ) → moved ≡ None → moved ≡ Some f → A
none_moved moved f none some = let both = sym none ∙ some in absurd cc

pub still_reaching : (end : Option LinkEnd) → is_some end ≡ false → end ≡ None
still_reaching None e = refl
still_reaching (Some end) e = absurd cc

-- ---- from call to call

-- how long a run may still go from entry to entry
abbrev pub waiting : Pause → ℕ → ℕ
waiting (pauses.AtEntry entry) left = suc left
waiting (pauses.Done ends) left = 0

pub stood_map : (plain : Plain) (moved : Option ℕ) (job : Job) (contact : Contact) (left left' : Received → Course) (k : Known) (c : Counts) (prompt : Type 0) (k' : Known) (c' : Counts) (still : Type 0) →
    ((t : Received) → t.fallen ≡ is_some contact.end → left t ≡ left' t) → Stood plain moved job contact left k c prompt k' c' still → Stood plain moved job contact left' k c prompt k' c' still
stood_map plain moved job contact left left' k c prompt k' c' still same s = record {
  sent = s.sent;
  got = s.got;
  images = s.images;
  known = s.known;
  counts = s.counts;
  stays = s.stays;
  travels = s.travels;
  course = goes_map contact.end _ _ _ s.got (λ frames. same (received_of contact s.images frames) refl) s.course;
}

pub waits_less : (pause : Pause) (all before now : ℕ) → now ≤ all → IsLater pause before now → waiting pause (all - now) < suc (all - before)
waits_less (pauses.AtEntry entry) all before now le l = omega (arith, le, l)
waits_less (pauses.Done ends) all before now le l = omega arith

pub later_than : (pause : Pause) (merged merged' before now : ℕ) → merged < before → merged' ≤ merged + 1 → IsLater pause before now → IsLater pause merged' now
later_than (pauses.AtEntry entry) merged merged' before now a b l = omega (arith, a, b, l)
later_than (pauses.Done ends) merged merged' before now a b l = tt

-- The image of an entry is the one that the bytes spell.
use Rattle.std.proofs.Common.{◌≡◌, ℕ, ◌+◌, ◌^◌, ◌<◌, ◌≤◌, ◌&&◌, Bool, true, false, List, [], ◌∷◌, ◌++◌, length, Option, Some, None, Result, Ok, Err, refl, sym, ap, ◌∙◌, subst, arith, nat_le, nat_lt, not, append_assoc}
use Rattle.std.specs.Int.{w16, w32, w64}
use Rattle.std.proofs.lemmas.List.{append-nil}
use Rattle.std.proofs.lemmas.Bool.{and_from, and_parts, le-leb, leb-true, lt-ltb}
use Rattle.std.proofs.lemmas.Bool.Decides.{nat_tests}
use Rattle.cc_meaning.specs.declared.value.Value.{Value}
use Rattle.cc_meaning.specs.declared.value.Made.{Made}
use Rattle.cc_meaning.specs.declared.value.Object.{Object}
use Rattle.cc_meaning.specs.declared.value.Object.TheVariants as object
use Rattle.cc_meaning.specs.declared.program.Code.{Code}
use Rattle.cc_meaning.specs.declared.program.Program.{Program}
use Rattle.cc_meaning.specs.declared.fault.ImageFault.{ImageFault}
use Rattle.cc_meaning.specs.declared.image.RunImage.{RunImage}
use Rattle.cc_meaning_run.specs.Eval.{most_frames, most_registers}
use Rattle.cc_meaning_images.specs.Spelling.{u2, u4, u8, spelled_values, spelled_run}
use Rattle.cc_meaning_images.specs.Reading.{Got, got, wrong, reading, allowed, number, values, statuses, none, out_alone, Runnable, runnable, argument_kinds, static_kinds, classes_of_file, on_runnable, has_frame, has_registers, RunHead, run_head, run_by, run_behind, run_fits, fitting, whole, read_run}
use Rattle.cc_meaning_images.specs.Forms.{AreValues, AreStatuses, AreBytes, IsRunOf, RunIsSpelled, RunIsRead}
use Rattle.cc_meaning_images.proofs.Numbers.{through, same_got, read_on, was_allowed, is_allowed, Spelled, spelled_2, spelled_4, spelled_8, read_2, read_4, read_8}
use Rattle.cc_meaning_images.proofs.Parts.{both, spelled_as, Reads, values_spelled, values_read, statuses_spelled, statuses_read, none_spelled, none_read, out_spelled, out_read}

-- ---- an image as a whole

-- nothing stands behind it, and its counters fit
pub record WholeOf {A : Type 0} (fits : A → Bool) (x : Got A) (a : A) : Type 0 where
  pub at : ℕ
  pub is : x ≡ got a at []
  pub in_range : fits a ≡ true

fitted : {A : Type 0} (b : Bool) (x a : A) → fitting b x ≡ Ok a → (b ≡ true) × (x ≡ a)
fitted true x a e = (refl, cc)
fitted false x a e = absurd cc

pub was_whole : {A : Type 0} (fits : A → Bool) (x : Got A) (a : A) → whole fits x ≡ Ok a → WholeOf fits x a
unfolding whole
was_whole fits (got b at []) a e =
    let f = fitted (fits b) b a e in
    record { at = at; is = ap (λ y. got y at []) f.1; in_range = subst (λ y. fits y ≡ true) f.1 f.0 }
was_whole fits (got b at (c ∷ rest)) a e = absurd cc
was_whole fits (wrong fault) a e = absurd cc

pub is_whole : {A : Type 0} (fits : A → Bool) (x : Got A) (a : A) (at : ℕ) → x ≡ got a at [] → fits a ≡ true → whole fits x ≡ Ok a
unfolding whole
is_whole fits x a at e f = rw (e, f) refl

-- ---- the numbers before the statuses

abbrev head_spelling : RunHead → List ℕ
head_spelling head = u4 head.method ++ (u8 head.instructions ++ (u4 head.words ++ (u2 head.depth ++ u4 head.registers)))

record IsHead (p : Program) (head : RunHead) : Type 0 where
  target : runnable p head.method ≡ Some head.target
  method : head.method < 2 ^ 32
  instructions : head.instructions < 2 ^ 64
  words : head.words < 2 ^ 32
  depth : head.depth < 2 ^ 16
  registers : head.registers < 2 ^ 32
  frame : has_frame head.depth ≡ true
  room : has_registers head.target.code head.registers ≡ true

record FoundRunnable {A : Type 0} (o : Option Runnable) (k : Runnable → Got A) (a : A) (at : ℕ) (rest : List ℕ) : Type 0 where
  target : Runnable
  is : o ≡ Some target
  then : k target ≡ got a at rest

was_runnable : {A : Type 0} (o : Option Runnable) (from : ℕ) (k : Runnable → Got A) (a : A) (at : ℕ) (rest : List ℕ) → on_runnable o from k ≡ got a at rest → FoundRunnable o k a at rest
was_runnable None from k a at rest e = absurd cc
was_runnable (Some target) from k a at rest e = record { target = target; is = refl; then = e }

head_spelled : (p : Program) (at : ℕ) (rest : List ℕ) (head : RunHead) (next : ℕ) (more : List ℕ) → AreBytes rest → run_head p at rest ≡ got head next more →
    IsHead p head × Spelled (head_spelling head) more rest
unfolding run_head
head_spelled p at rest head next more h e =
    let t1 = through (number w32 at rest) _ head next more e in
    let f = was_runnable (runnable p t1.value) at _ head next more t1.then in
    let t2 = through (number w64 t1.next t1.more) _ head next more f.then in
    let t3 = through (number w32 t2.next t2.more) _ head next more t2.then in
    let t4 = through (number w16 t3.next t3.more) _ head next more t3.then in
    let k4 = was_allowed (has_frame t4.value) t3.next _ head next more t4.then in
    let t5 = through (number w32 t4.next t4.more) _ head next more k4.1 in
    let k5 = was_allowed (has_registers f.target.code t5.value) t4.next _ head next more t5.then in
    let a1 = spelled_4 at rest t1.value t1.next t1.more h t1.first in
    let a2 = spelled_8 t1.next t1.more t2.value t2.next t2.more a1.1.bytes t2.first in
    let a3 = spelled_4 t2.next t2.more t3.value t3.next t3.more a2.1.bytes t3.first in
    let a4 = spelled_2 t3.next t3.more t4.value t4.next t4.more a3.1.bytes t4.first in
    let a5 = spelled_4 t4.next t4.more t5.value t5.next t5.more a4.1.bytes t5.first in
    let here : RunHead = record { target = f.target; method = t1.value; instructions = t2.value; words = t3.value; depth = t4.value; registers = t5.value } in
    let ends = same_got here head t5.next next t5.more more k5.1 in
    let same = ends.0 in
    let end = ends.1 in
    let joined = both _ _ _ _ _ a1.1 (both _ _ _ _ _ a2.1 (both _ _ _ _ _ a3.1 (both _ _ _ _ _ a4.1 a5.1))) in
    let is : IsHead p here = record { target = f.is; method = a1.0; instructions = a2.0; words = a3.0; depth = a4.0; registers = a5.0; frame = k4.0; room = k5.0 } in
    subst (λ x. IsHead p x × Spelled (head_spelling x) more rest) same (is, subst (λ m. Spelled (head_spelling here) m rest) end joined)

head_read : (p : Program) (head : RunHead) (at : ℕ) (more : List ℕ) → IsHead p head → Reads (run_head p at (head_spelling head ++ more)) head more
unfolding run_head
head_read p head at more h =
    record {
      next = at + 4 + 8 + 4 + 2 + 4;
      is = read_on _ _ _ _ _ (read_4 at head.method _ h.method)
          ∙ rw (h.target) (read_on _ _ _ _ _ (read_8 (at + 4) head.instructions _ h.instructions)
          ∙ read_on _ _ _ _ _ (read_4 (at + 4 + 8) head.words _ h.words)
          ∙ read_on _ _ _ _ _ (read_2 (at + 4 + 8 + 4) head.depth _ h.depth)
          ∙ is_allowed _ _ _ h.frame
          ∙ read_on _ _ _ _ _ (read_4 (at + 4 + 8 + 4 + 2) head.registers more h.registers)
          ∙ is_allowed _ _ _ h.room);
    }

-- ---- what stands behind them

abbrev behind_spelling : List ℕ → List Value → List Value → List ℕ
behind_spelling ss args statics = ss ++ (spelled_values args ++ (spelled_values statics ++ (u4 0 ++ (u4 0 ++ 0 ∷ []))))

record IsBehind (p : Program) (head : RunHead) (image : RunImage) (more rest : List ℕ) : Type 0 where
  ss : List ℕ
  args : List Value
  statics : List Value
  image_is : image ≡ run_by head ss args statics
  all_statuses : length ss ≡ classes_of_file p
  are_statuses : AreStatuses ss
  are_args : AreValues (argument_kinds head.target.method) args
  are_statics : AreValues (static_kinds p) statics
  spelled : Spelled (behind_spelling ss args statics) more rest

behind_spelled : (p : Program) (head : RunHead) (at : ℕ) (rest : List ℕ) (image : RunImage) (next : ℕ) (more : List ℕ) → AreBytes rest → run_behind p head at rest ≡ got image next more →
    IsBehind p head image more rest
unfolding run_behind
behind_spelled p head at rest image next more h e =
    let t1 = through (statuses (classes_of_file p) at rest) _ image next more e in
    let t2 = through (values (argument_kinds head.target.method) t1.next t1.more) _ image next more t1.then in
    let t3 = through (values (static_kinds p) t2.next t2.more) _ image next more t2.then in
    let t4 = through (none t3.next t3.more) _ image next more t3.then in
    let t5 = through (none t4.next t4.more) _ image next more t4.then in
    let t6 = through (out_alone t5.next t5.more) _ image next more t5.then in
    let a1 = statuses_spelled (classes_of_file p) at rest t1.value t1.next t1.more h t1.first in
    let a2 = values_spelled (argument_kinds head.target.method) t1.next t1.more t2.value t2.next t2.more a1.2.bytes t2.first in
    let a3 = values_spelled (static_kinds p) t2.next t2.more t3.value t3.next t3.more a2.1.bytes t3.first in
    let a4 = none_spelled t3.next t3.more t4.value t4.next t4.more a3.1.bytes t4.first in
    let a5 = none_spelled t4.next t4.more t5.value t5.next t5.more a4.bytes t5.first in
    let a6 = out_spelled t5.next t5.more t6.value t6.next t6.more a5.bytes t6.first in
    let ends = same_got (run_by head t1.value t2.value t3.value) image t6.next next t6.more more t6.then in
    let same = ends.0 in
    let end = ends.1 in
    let joined = both _ _ _ _ _ a1.2 (both _ _ _ _ _ a2.1 (both _ _ _ _ _ a3.1 (both _ _ _ _ _ a4 (both _ _ _ _ _ a5 a6)))) in
    record {
      ss = t1.value;
      args = t2.value;
      statics = t3.value;
      image_is = sym same;
      all_statuses = a1.0;
      are_statuses = a1.1;
      are_args = a2.0;
      are_statics = a3.0;
      spelled = subst (λ m. Spelled (behind_spelling t1.value t2.value t3.value) m rest) end joined;
    }

behind_read : (p : Program) (head : RunHead) (ss : List ℕ) (args statics : List Value) (at : ℕ) (more : List ℕ) → length ss ≡ classes_of_file p → AreStatuses ss →
    AreValues (argument_kinds head.target.method) args → AreValues (static_kinds p) statics → Reads (run_behind p head at (ss ++ (spelled_values args ++ (spelled_values statics ++ (u4 0 ++ (u4 0 ++ 0 ∷ more)))))) (run_by head ss args statics) more
unfolding run_behind
behind_read p head ss args statics at more len are_ss are_args are_statics =
    let r1 = statuses_read ss at (spelled_values args ++ (spelled_values statics ++ (u4 0 ++ (u4 0 ++ 0 ∷ more)))) are_ss in
    let r2 = values_read (argument_kinds head.target.method) args r1.next (spelled_values statics ++ (u4 0 ++ (u4 0 ++ 0 ∷ more))) are_args in
    let r3 = values_read (static_kinds p) statics r2.next (u4 0 ++ (u4 0 ++ 0 ∷ more)) are_statics in
    record {
      next = r3.next + 4 + 4 + 1;
      is = rw (sym len) (read_on _ _ _ _ _ r1.is
          ∙ read_on _ _ _ _ _ r2.is
          ∙ read_on _ _ _ _ _ r3.is
          ∙ read_on _ _ _ _ _ (none_read r3.next (u4 0 ++ 0 ∷ more))
          ∙ read_on _ _ _ _ _ (none_read (r3.next + 4) (0 ∷ more))
          ∙ read_on _ _ _ _ _ (out_read (r3.next + 4 + 4) more));
    }

-- ---- the image

in_range : (image : RunImage) → run_fits image ≡ true → (image.instructions ≤ 4294967296) × (image.words ≤ 4194304) × (1 ≤ image.depth) × (image.depth ≤ most_frames) × (image.registers ≤ most_registers)
in_range image e =
    let a = and_parts _ _ e in
    let b = and_parts _ _ a.1 in
    let c = and_parts _ _ b.1 in
    let d = and_parts _ _ c.1 in
    (leb-true _ _ a.0, leb-true _ _ b.0, leb-true _ _ c.0, leb-true _ _ d.0, leb-true _ _ d.1)

frame_fits : (depth : ℕ) → depth ≤ most_frames → has_frame depth ≡ true → depth < most_frames
frame_fits depth h e = grind (arith, nat_tests)

registers_fit : (code : Code) (registers : ℕ) → registers ≤ most_registers → has_registers code registers ≡ true → registers + code.registers ≤ most_registers
registers_fit code registers h e = grind (arith, nat_tests)

is_run : (p : Program) (head : RunHead) (image : RunImage) (more rest : List ℕ) → IsHead p head → IsBehind p head image more rest → run_fits image ≡ true → IsRunOf p image
is_run p head image more rest h b e =
    let is = b.image_is in
    let r = in_range (run_by head b.ss b.args b.statics) (subst (λ x. run_fits x ≡ true) is e) in
    subst (λ x. IsRunOf p x) (sym is) (record {
      target = head.target;
      runs = h.target;
      method_number = h.method;
      instructions = r.0;
      words = r.1;
      some_frame = r.2;
      room_for_frame = frame_fits head.depth r.3 h.frame;
      room_for_registers = registers_fit head.target.code head.registers r.4 h.room;
      all_statuses = b.all_statuses;
      statuses = b.are_statuses;
      args = b.are_args;
      statics = b.are_statics;
      no_literals = refl;
      no_constants = refl;
      out_alone = refl;
    })

spelling_of : (p : Program) (head : RunHead) (image : RunImage) (mid bytes : List ℕ) → Spelled (head_spelling head) mid bytes → IsBehind p head image [] mid → spelled_run image ≡ bytes
unfolding spelled_run
spelling_of p head image mid bytes a b =
    let joined = both _ _ mid [] bytes a b.spelled in
    ap spelled_run b.image_is ∙ sym (append-nil (head_spelling head ++ behind_spelling b.ss b.args b.statics)) ∙ joined.is

pub run_is_spelled : RunIsSpelled
unfolding read_run
run_is_spelled p bytes image h e =
    let w = was_whole run_fits (reading (run_head p 0 bytes) (λ head at rest. run_behind p head at rest)) image e in
    let t = through (run_head p 0 bytes) _ image w.at [] w.is in
    let a = head_spelled p 0 bytes t.value t.next t.more h t.first in
    let b = behind_spelled p t.value t.next t.more image w.at [] a.1.bytes t.then in
    (spelling_of p t.value image t.more bytes a.1 b, is_run p t.value image [] t.more a.0 b w.in_range)

-- ---- an image that is spelled

frame_is : (depth : ℕ) → depth < most_frames → has_frame depth ≡ true
frame_is depth h = grind (arith, nat_tests)

registers_are : (code : Code) (registers : ℕ) → registers + code.registers ≤ most_registers → has_registers code registers ≡ true
registers_are code registers h = grind (arith, nat_tests)

fits_is : (p : Program) (image : RunImage) → IsRunOf p image → run_fits image ≡ true
fits_is p image h =
    and_from _ _ (le-leb _ _ h.instructions) (and_from _ _ (le-leb _ _ h.words) (and_from _ _ (le-leb _ _ h.some_frame)
    (and_from _ _ (le-leb image.depth most_frames (omega (arith, h.room_for_frame))) (le-leb image.registers most_registers (omega (arith, h.room_for_registers))))))

abbrev head_in : (p : Program) (image : RunImage) → IsRunOf p image → RunHead
head_in p image h = record { target = h.target; method = image.method; instructions = image.instructions; words = image.words; depth = image.depth; registers = image.registers }

head_is : (p : Program) (image : RunImage) (h : IsRunOf p image) → IsHead p (head_in p image h)
head_is p image h = record {
  target = h.runs;
  method = h.method_number;
  instructions = omega (arith, h.instructions);
  words = omega (arith, h.words);
  depth = omega (arith, h.room_for_frame);
  registers = omega (arith, h.room_for_registers);
  frame = frame_is image.depth h.room_for_frame;
  room = registers_are h.target.code image.registers h.room_for_registers;
}

image_again : (p : Program) (image : RunImage) (h : IsRunOf p image) → run_by (head_in p image h) image.statuses image.args image.statics ≡ image
image_again p image h =
    ap (λ (ls : List Made). record image { literals = ls; constants = []; objects = object.Out ∷ [] }) (sym h.no_literals)
    ∙ ap (λ (cs : List Made). record image { constants = cs; objects = object.Out ∷ [] }) (sym h.no_constants)
    ∙ ap (λ (os : List Object). record image { objects = os }) (sym h.out_alone)

spelling_again : (p : Program) (image : RunImage) (h : IsRunOf p image) → spelled_run image ≡ head_spelling (head_in p image h) ++ behind_spelling image.statuses image.args image.statics
unfolding spelled_run
spelling_again p image h = ap spelled_run (sym (image_again p image h))

pub run_is_read : RunIsRead
unfolding read_run
run_is_read p image h =
    let head = head_in p image h in
    let bytes = behind_spelling image.statuses image.args image.statics in
    let a = head_read p head 0 bytes (head_is p image h) in
    let b = behind_read p head image.statuses image.args image.statics a.next [] h.all_statuses h.statuses h.args h.statics in
    is_whole run_fits (reading (run_head p 0 (spelled_run image)) (λ x at rest. run_behind p x at rest)) image b.next
    (ap (λ (xs : List ℕ). reading (run_head p 0 xs) (λ x at rest. run_behind p x at rest)) (spelling_again p image h) ∙ read_on _ _ _ _ _ a.is ∙ b.is ∙ ap (λ (x : RunImage). got x b.next []) (image_again p image h))
    (fits_is p image h)

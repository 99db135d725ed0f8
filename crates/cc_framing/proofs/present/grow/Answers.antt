use Rattle.std.proofs.Common.{◌≡◌, ◌≤◌, ◌-◌, ◌++◌, ◌∙◌, sym, ap, subst, refl, length, take, ℕ, List, arith}
use Rattle.std.proofs.lemmas.List.{length-append, length-take}
use Rattle.cc_meaning_nodes.specs.declared.head.Head.TheVariants.{Short, Wrong, Long}
use Rattle.cc_meaning_nodes.specs.Frames.{head_of, front_of, frame_of, Whole, Faulty}
use Rattle.cc_framing.specs.Reader.{IsWithin}
use Rattle.cc_meaning_nodes.proofs.Fronts.{head-long, front-not_memory}
use Rattle.cc_framing.proofs.Wanted.{within_short}
use Rattle.cc_framing.proofs.Growing.{takes, fed-short, within-short, fed-wrong, end-past, fed-part, within-part, head-grown, fed-right, fed-bad, fed-stands}
use Rattle.cc_framing.proofs.present.grow.Goals as goal

pub head-requires : goal.head-requires
head-requires c = omega (arith, within_short c.args.held.now c.requires)

pub returns-in-Short-clause-grows : goal.returns-in-Short-clause-grows
returns-in-Short-clause-grows c =
    let held = c.args.held.now in
    let piece = c.args.piece.now in
    let e : head_of (held ++ piece) ≡ Short = cc in
    fed-short held piece e ∙ ap (takes (length piece)) (sym c.in_ok-append-in-Short.ensures.ok)

pub returns-in-Short-clause-within : goal.returns-in-Short-clause-within
returns-in-Short-clause-within c =
    let held = c.args.held.now in
    let piece = c.args.piece.now in
    let e : head_of (held ++ piece) ≡ Short = cc in
    subst IsWithin (sym c.in_ok-append-in-Short.ensures.ok) (within-short held piece e)

pub returns-in-Wrong-clause-grows : goal.returns-in-Wrong-clause-grows
returns-in-Wrong-clause-grows c =
    let held = c.args.held.now in
    let piece = c.args.piece.now in
    let e : head_of (held ++ piece) ≡ Wrong c.in-Wrong.fault = cc in
    (λ memory. refl, λ known. fed-wrong held piece c.in-Wrong.fault e)

pub overflow_sub-room : goal.overflow_sub-room
overflow_sub-room c =
    let held = c.args.held.now in
    let piece = c.args.piece.now in
    let e : head_of (held ++ piece) ≡ Long c.in-Long.end = cc in
    omega (arith, end-past held piece c.in-Long.end c.requires e, c.len.ensures.value)

pub returns-then-room-eq0-clause-grows : goal.returns-then-room-eq0-clause-grows
returns-then-room-eq0-clause-grows c =
    let held = c.args.held.now in
    let piece = c.args.piece.now in
    let e : head_of (held ++ piece) ≡ Long c.in-Long.end = cc in
    fed-stands held piece c.in-Long.end c.requires e (omega (arith, c.len.ensures.value))

pub returns-then-piece-room-clause-grows : goal.returns-then-piece-room-clause-grows
returns-then-piece-room-clause-grows c =
    let held = c.args.held.now in
    let piece = c.args.piece.now in
    let e : head_of (held ++ piece) ≡ Long c.in-Long.end = cc in
    fed-part held piece c.in-Long.end e (omega (arith, c.len.ensures.value)) ∙ ap (takes (length piece)) (sym c.in_ok-append.ensures.ok)

pub returns-then-piece-room-clause-within : goal.returns-then-piece-room-clause-within
returns-then-piece-room-clause-within c =
    let held = c.args.held.now in
    let piece = c.args.piece.now in
    let e : head_of (held ++ piece) ≡ Long c.in-Long.end = cc in
    subst IsWithin (sym c.in_ok-append.ensures.ok) (within-part held piece c.in-Long.end e (omega (arith, c.len.ensures.value)))

pub check-requires-clause-all : goal.check-requires-clause-all
check-requires-clause-all c =
    let held = c.args.held.now in
    let piece = c.args.piece.now in
    let k = c.in-Long.end - c.len.result in
    let e : head_of (held ++ piece) ≡ Long c.in-Long.end = cc in
    let new : c.append-2.new.self ≡ held ++ take k piece = c.in_ok-append-2.ensures.ok in
    subst (λ (x : List ℕ). head_of x ≡ Long (length x)) (sym new) (head-grown held piece c.in-Long.end k e (omega arith) (omega (arith, end-past held piece c.in-Long.end c.requires e, c.len.ensures.value)))

pub check-requires-clause-long : goal.check-requires-clause-long
check-requires-clause-long c =
    let held = c.args.held.now in
    let piece = c.args.piece.now in
    let k = c.in-Long.end - c.len.result in
    let e : head_of (held ++ piece) ≡ Long c.in-Long.end = cc in
    let new : c.append-2.new.self ≡ held ++ take k piece = c.in_ok-append-2.ensures.ok in
    let l = head-long (held ++ piece) c.in-Long.end e in
    subst (λ (x : List ℕ). 25 ≤ length x) (sym new) (omega (arith, l.is, length-append held (take k piece), length-take k piece, c.len.ensures.value))

pub returns-in-Some-clause-grows : goal.returns-in-Some-clause-grows
returns-in-Some-clause-grows c =
    let held = c.args.held.now in
    let piece = c.args.piece.now in
    let k = c.in-Long.end - c.len.result in
    let new : c.append-2.new.self ≡ held ++ take k piece = c.in_ok-append-2.ensures.ok in (
      λ memory. absurd (front-not_memory c.append-2.new.self c.in-Some.fault c.in-Some.ensures memory),
      λ known. fed-bad held piece k c.in-Some.fault (subst (λ (x : List ℕ). front_of x ≡ Faulty c.in-Some.fault) new c.in-Some.ensures),
    )

pub returns-in-None-clause-grows : goal.returns-in-None-clause-grows
returns-in-None-clause-grows c =
    let held = c.args.held.now in
    let piece = c.args.piece.now in
    let k = c.in-Long.end - c.len.result in
    let new : c.append-2.new.self ≡ held ++ take k piece = c.in_ok-append-2.ensures.ok in
    let right = subst (λ (x : List ℕ). front_of x ≡ Whole (frame_of c.append-2.new.self) (length x)) new c.in-None.ensures in
    fed-right held piece k (frame_of c.append-2.new.self) (omega arith) right ∙ ap (takes k) (sym c.in_ok-append-2.ensures.ok)

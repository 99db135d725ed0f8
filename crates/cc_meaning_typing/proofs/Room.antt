-- Each try leaves less room.
use Rattle.std.proofs.Common.{◌≡◌, ◌≢◌, inl, inr, ℕ, zero, suc, ◌+◌, ◌*◌, ◌<◌, ◌≤◌, ◌==◌, ◌&&◌, not, Bool, true, false, length, Option, Some, None, refl, ap, subst, arith}
use Rattle.cc_meaning.specs.declared.program.Program.{Program}
use Rattle.cc_meaning_typing.specs.declared.state.State.{State}
use Rattle.cc_meaning_typing.specs.Code.{Body}
use Rattle.cc_meaning_typing.specs.States.{StateCovers}
use Rattle.cc_meaning_typing.specs.Growth.{most_room, state_room, IsNarrow, GrowthEnds}
use Rattle.cc_meaning_typing.specs.Laws.{StatesOrder, StateJoinIsLeast, StatesAreOrdered, StateJoins, BoundedGrowth}
use Rattle.cc_meaning_typing.specs.Tries.{units_of, States, state_at, tried, Due, Marks, unchanged, changed}
use Rattle.cc_meaning_typing.specs.Ending.{width_of, known_room, due_room, room_below, tries_room}
use Rattle.cc_meaning_typing.specs.VerifyLaws.{TriesShrink, ShrinkTries}
use Rattle.cc_meaning_typing.proofs.Reading.{test_eq, index_inside}
use Rattle.cc_meaning_typing.proofs.Typings.{shape_after, tried_step}

room_one : (b : Bool) → due_room b ≤ 1
unfolding due_room
room_one true = omega arith
room_one false = omega arith

-- what isn't tried is due as before, or less
cleared_room : (b c : Bool) → due_room (b && not c) ≤ due_room b
unfolding due_room
cleared_room true true = omega arith
cleared_room true false = omega arith
cleared_room false c = omega arith

-- a try takes its own address off what is due
here : (b c : Bool) (m n : ℕ) → b ≡ true → c ≡ true → m ≤ n + due_room (b && not c) → m < n + due_room b
unfolding due_room
here true true m n e f h = omega arith
here true false m n e f h = absurd (cc)
here false c m n e f h = absurd (cc)

module _ (program : Program) (growth : GrowthEnds program) (width : ℕ) where
  known_falls : (o n : Option State) → n ≢ o → ((u : State) → o ≡ Some u → (w : State) × (n ≡ Some w) × StateCovers program w u) → ((w : State) → n ≡ Some w → IsNarrow w × (length w.registers ≡ width)) → known_room program width n < known_room program width o
  unfolding known_room
  known_falls None None ne g h = absurd (ne refl)
  known_falls None (Some w) ne g h =
      let f = h w refl in
      let b = growth.bound w f.0 in
      let c = subst (λ z. state_room program w ≤ suc z * most_room program) f.1 b in
      omega arith
  known_falls (Some u) None ne g h = let f = g u refl in let e = f.1 in absurd (cc)
  known_falls (Some u) (Some w) ne g h =
      let f = g u refl in
      let e = f.1 in
      let same : f.0 ≡ w = cc in
      let c = subst (λ z. StateCovers program z u) same f.2 in
      elim (growth.falls w u (h w refl).0 c) [ inl x ↦ absurd (ne (ap Some x)) | inr l ↦ l ]

  marks_room : {o n : Option State} {was now : Bool} → Marks o n was now → ((u : State) → o ≡ Some u → (w : State) × (n ≡ Some w) × StateCovers program w u) → ((w : State) → n ≡ Some w → IsNarrow w × (length w.registers ≡ width)) → 2 * known_room program width n + due_room now ≤ 2 * known_room program width o + due_room was
  marks_room unchanged g h = omega arith
  marks_room (changed {known = o} {new = n} ne) g h = let l = known_falls o n ne g h in let r = room_one true in omega arith

  abbrev Cell : States → Due → ℕ → ℕ
  Cell states due at = 2 * known_room program width (state_at states at) + due_room (due at)

  module _ (old new : States) (before now : Due) (falls : (at : ℕ) → Cell new now at ≤ Cell old before at) where
    below_no_more : (n : ℕ) → room_below program width new now n ≤ room_below program width old before n
    unfolding room_below
    below_no_more zero = omega arith
    below_no_more (suc n) = let h = below_no_more n in let f = falls n in omega arith

    pub below_less : (n at : ℕ) → at < n → Cell new now at < Cell old before at → room_below program width new now n < room_below program width old before n
    unfolding room_below
    below_less zero at l c = absurd (omega arith)
    below_less (suc n) at l c = elim (test_eq at n) [
      | inl t ↦ let h = below_no_more n in let d : Cell new now n < Cell old before n = subst (λ k. Cell new now k < Cell old before k) t.1 c in omega arith
      | inr t ↦ let ne = t.1 in let h = below_less n at (omega arith) c in let f = falls n in omega arith
    ]

module _ (body : Body) (order : StatesOrder body.program) (joins : StateJoinIsLeast body.program) (growth : GrowthEnds body.program) where
  pub tries_shrink : TriesShrink body
  unfolding tries_room
  tries_shrink k at states due later s a t kept d narrow =
      let new = tried body states at kept.placed s in
      let width = width_of body in
      let shape = shape_after body order joins a in
      let step = tried_step body order joins states at kept.placed s shape.wide (shape.wide.each at s t.known) in
      let cell : (other : ℕ) → 2 * known_room body.program width (state_at new other) + due_room (later other) ≤ 2 * known_room body.program width (state_at states other) + due_room (due other && not (other == at)) = λ other. marks_room body.program growth width (d other) (λ u e. step.grows.each other u e) (λ w e. (narrow other w e, step.wide.each other w e)) in
      let falls : (other : ℕ) → 2 * known_room body.program width (state_at new other) + due_room (later other) ≤ 2 * known_room body.program width (state_at states other) + due_room (due other) =
      λ other. let c = cell other in let r = cleared_room (due other) (other == at) in omega arith in
      let inside = index_inside states at s t.known in
      let long = shape.long in
      below_less body.program growth width states new due later falls (units_of body.code) at (omega arith)
      (let c = cell at in here (due at) (at == at) (2 * known_room body.program width (state_at new at) + due_room (later at)) (2 * known_room body.program width (state_at states at)) t.first.is (elim (test_eq at at) [ inl x ↦ x.0 | inr x ↦ absurd (x.1 refl) ]) c)

pub shrink_tries : StatesAreOrdered → StateJoins → BoundedGrowth → ShrinkTries
shrink_tries orders least bounded body hierarchy = tries_shrink body (orders body.program hierarchy) (least body.program hierarchy) (bounded body.program hierarchy)

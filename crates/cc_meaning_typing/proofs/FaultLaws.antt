-- A program has one first fault at most, and none if it is well typed and fits the width.
use Rattle.std.proofs.Common.{◌≡◌, inl, inr, ℕ, Some, refl, sym, ap, ◌∙◌, subst, arith}
use Rattle.std.specs.Prelude.{All}
use Rattle.std.proofs.lemmas.List.Elements.{All-contains}
use Rattle.cc_meaning.specs.declared.fault.VerifyFault.{VerifyFault}
use Rattle.cc_meaning.specs.declared.fault.VerifyFault.TheVariants as faults
use Rattle.cc_meaning.specs.declared.program.Catch.{Catch}
use Rattle.cc_meaning.specs.declared.program.Code.{Code}
use Rattle.cc_meaning.specs.declared.program.Method.{Method}
use Rattle.cc_meaning.specs.declared.program.MethodKind.TheVariants as kinds
use Rattle.cc_meaning.specs.declared.program.Placed.{Placed}
use Rattle.cc_meaning.specs.declared.program.Program.{Program}
use Rattle.cc_meaning.specs.declared.program.Try.{Try}
use Rattle.cc_meaning_typing.specs.Hierarchy.{IsHierarchy}
use Rattle.cc_meaning_typing.specs.Code.{Body}
use Rattle.cc_meaning_typing.specs.WellTyped.{IsTarget, HasTargets, TargetsStand, KnowsMember, IsSound, WellTyped}
use Rattle.cc_meaning_typing.specs.Faults.{IsTooWide, IsBadTarget, branch, handler, IsUnknownMember, unknown, MembersAreKnown, FallsOff, StaysWithin, IsLeast, IsFaultOf, too_wide, bad_target, unknown_member, falls_off, ill_typed, IsBodyOf}
use Rattle.cc_meaning_typing.specs.VerifyLaws.{CoverTries, OneFault, SoundHasNoFault, OneFirstFault, WellTypedHasNoFault}
use Rattle.cc_meaning_typing.proofs.Reading.{test_lt}
use Rattle.cc_meaning_typing.proofs.Order.{breaks_once}

pub no_bad_target : {code : Code} {at : ℕ} → TargetsStand code → IsBadTarget code at → ⊥
no_bad_target {code} t (branch {placed = placed} c n) = n (All-contains (λ (p : Placed). HasTargets code p.at p.insn) code.insns placed t.branches c)
no_bad_target {code} t (handler {try = try} {catch = catch} c d n) =
    n (All-contains (λ (k : Catch). IsTarget code (Some k.at)) try.catches catch (All-contains (λ (y : Try). All (λ (k : Catch). IsTarget code (Some k.at)) y.catches) code.tries try t.catches c) d)

pub no_unknown : {body : Body} {at : ℕ} → MembersAreKnown body → IsUnknownMember body at → ⊥
no_unknown {body} k (unknown {placed = placed} c n) = n (All-contains (λ (p : Placed). KnowsMember body p.insn) body.code.insns placed k c)

no_fall : {code : Code} → StaysWithin code → FallsOff code → ⊥
no_fall s f = f.nothing (s f.at f.reached)

least_once : (P : ℕ → Type 0) (a b : ℕ) → IsLeast P a → IsLeast P b → a ≡ b
least_once P a b f g = let x = f.least b g.holds in let y = g.least a f.holds in omega arith

pub one_fault : OneFault
one_fault body m first second (too_wide w) (too_wide v) = refl
one_fault body m first second (too_wide w) (bad_target n l) = absurd (n w)
one_fault body m first second (too_wide w) (unknown_member n t l) = absurd (n w)
one_fault body m first second (too_wide w) (falls_off n t k f) = absurd (n w)
one_fault body m first second (too_wide w) (ill_typed n t k s b) = absurd (n w)
one_fault body m first second (bad_target n l) (too_wide w) = absurd (n w)
one_fault body m first second (bad_target {at = a} n l) (bad_target {at = b} o h) = ap (faults.BadTarget m) (least_once (IsBadTarget body.code) a b l h)
one_fault body m first second (bad_target n l) (unknown_member o t h) = absurd (no_bad_target t l.holds)
one_fault body m first second (bad_target n l) (falls_off o t k f) = absurd (no_bad_target t l.holds)
one_fault body m first second (bad_target n l) (ill_typed o t k s b) = absurd (no_bad_target t l.holds)
one_fault body m first second (unknown_member n t l) (too_wide w) = absurd (n w)
one_fault body m first second (unknown_member n t l) (bad_target o h) = absurd (no_bad_target t h.holds)
one_fault body m first second (unknown_member {at = a} n t l) (unknown_member {at = b} o u h) = ap (faults.UnknownMember m) (least_once (IsUnknownMember body) a b l h)
one_fault body m first second (unknown_member n t l) (falls_off o u k f) = absurd (no_unknown k l.holds)
one_fault body m first second (unknown_member n t l) (ill_typed o u k s b) = absurd (no_unknown k l.holds)
one_fault body m first second (falls_off n t k f) (too_wide w) = absurd (n w)
one_fault body m first second (falls_off n t k f) (bad_target o h) = absurd (no_bad_target t h.holds)
one_fault body m first second (falls_off n t k f) (unknown_member o u h) = absurd (no_unknown k h.holds)
one_fault body m first second (falls_off n t k f) (falls_off o u l g) = refl
one_fault body m first second (falls_off n t k f) (ill_typed o u l s b) = absurd (no_fall s f)
one_fault body m first second (ill_typed n t k s b) (too_wide w) = absurd (n w)
one_fault body m first second (ill_typed n t k s b) (bad_target o h) = absurd (no_bad_target t h.holds)
one_fault body m first second (ill_typed n t k s b) (unknown_member o u h) = absurd (no_unknown k h.holds)
one_fault body m first second (ill_typed n t k s b) (falls_off o u l g) = absurd (no_fall s g)
one_fault body m first second (ill_typed {at = a} n t k s b) (ill_typed {at = c} o u l r d) = ap (faults.IllTyped m) (breaks_once body a c b d)

sound_no_fault : CoverTries → (body : Body) (m : ℕ) {fault : VerifyFault} → IsHierarchy body.program → IsSound body → (IsTooWide body.code → ⊥) → IsFaultOf body m fault → ⊥
sound_no_fault cover body m hierarchy sound n (too_wide w) = n w
sound_no_fault cover body m hierarchy sound n (bad_target o l) = no_bad_target sound.targets l.holds
sound_no_fault cover body m hierarchy sound n (unknown_member o t l) = no_unknown sound.members l.holds
sound_no_fault cover body m hierarchy sound n (falls_off o t k f) = no_fall sound.reached f
sound_no_fault cover body m hierarchy sound n (ill_typed {at = at} o t k s b) = (cover body hierarchy).keeps at b sound.typed

pub sound_has_no_fault : CoverTries → SoundHasNoFault
sound_has_no_fault cover body m fault hierarchy sound n f = sound_no_fault cover body m hierarchy sound n f

body_with : Program → Method → Code → Body
body_with program method code = record { program = program; method = method; code = code }

coded_same : (m n : Method) (c d : Code) → m ≡ n → m.kind ≡ kinds.Code c → n.kind ≡ kinds.Code d → c ≡ d
coded_same m n c d e f g = let f2 = rw e at f in cc

pub body_same : (program : Program) (m : ℕ) (a b : Body) → IsBodyOf program m a → IsBodyOf program m b → a ≡ b
unfolding body_with
body_same program m a b x y =
    let f = x.stands in
    let g = y.stands in
    let method : a.method ≡ b.method = cc in
    let code = coded_same a.method b.method a.code b.code method x.coded y.coded in
    ap (λ z. body_with z a.method a.code) (x.here ∙ sym y.here) ∙ ap (λ z. body_with b.program z a.code) method ∙ ap (λ z. body_with b.program b.method z) code

pub one_first_fault : OneFirstFault
one_first_fault program first second f g = elim (test_lt f.number g.number) [
  | inl t ↦ absurd (g.first f.number f.body first t.1 f.of f.is)
  | inr t ↦ elim (test_lt g.number f.number) [
    | inl u ↦ absurd (f.first g.number g.body second u.1 g.of g.is)
    | inr u ↦
        let x = t.1 in
        let y = u.1 in
        let e : f.number ≡ g.number = omega arith in
        let h = subst (λ n. IsBodyOf program n f.body) e f.of in
        let same = body_same program g.number f.body g.body h g.of in
        let is = subst (λ z. IsFaultOf z g.number first) same (subst (λ n. IsFaultOf f.body n first) e f.is) in
        one_fault g.body g.number first second is g.is
  ]
]

sound_body : (program : Program) (m : ℕ) (body : Body) → WellTyped program → IsBodyOf program m body → IsSound body
unfolding body_with
sound_body program m body w x = subst (λ z. IsSound (body_with z body.method body.code)) (sym x.here) (w.sound m body.method body.code x.stands x.coded)

pub well_typed_has_no_fault : CoverTries → WellTypedHasNoFault
well_typed_has_no_fault cover program fault hierarchy typed fits f =
    sound_no_fault cover f.body f.number (subst IsHierarchy (sym f.of.here) hierarchy) (sound_body program f.number f.body typed f.of) (fits f.number f.body f.of) f.is

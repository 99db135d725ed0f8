-- The parts of an image that are lists: what is read is spelled so, and what is spelled so is read.
use Rattle.std.proofs.Common.{◌≡◌, ◌⊎◌, inl, inr, ℕ, zero, suc, ◌+◌, ◌^◌, ◌<◌, ◌≤◌, ◌==◌, ℤ, pos, Bool, true, false, cond, ◌&&◌, List, [], ◌∷◌, ◌++◌, length, map, take, drop, refl, sym, ap, ◌∙◌, subst, arith, nat_le, append_assoc}
use Rattle.std.specs.Int.{w32, to_be_bytes, cast_signed, cast_unsigned}
use Rattle.std.specs.Int.RustNames.{FitsSigned}
use Rattle.std.specs.List.{flat_map}
use Rattle.std.proofs.lemmas.Int.{of_z-to_z, to_z-of_z, ints}
use Rattle.std.proofs.lemmas.Bool.{le-leb, leb-true}
use Rattle.std.proofs.lemmas.Bool.Decides.{nat_tests}
use Rattle.cc_meaning.specs.declared.instruction.Kind.{Kind}
use Rattle.cc_meaning.specs.declared.instruction.Kind.TheVariants as access
use Rattle.cc_meaning.specs.declared.value.Value.{Value}
use Rattle.cc_meaning.specs.declared.value.Value.TheVariants as value
use Rattle.cc_meaning_images.specs.Spelling.{u4, spelled_value, spelled_values}
use Rattle.cc_meaning_images.specs.Reading.{Got, got, wrong, reading, allowed, number, byte, none, values, statuses, statuses_since, out_alone}
use Rattle.cc_meaning_images.specs.Forms.{IsPlainValue, AreValues, AreStatuses, AreStatusesSince, AreBytes}
use Rattle.cc_meaning_images.proofs.Numbers.{Through, through, read_on, was_allowed, is_allowed, Spelled, spelled_1, spelled_4, read_4}

-- ---- numbers of 32 bits

signed_fits : (n : ℕ) → n < 2 ^ 32 → FitsSigned w32 (cast_signed w32 n)
signed_fits n h = omega (arith, ints)

unsigned_below : (z : ℤ) → FitsSigned w32 z → cast_unsigned w32 z < 2 ^ 32
unsigned_below z h = omega (arith, ints)

-- ---- joining what is spelled

-- two parts, one behind the other
pub both : (first second mid more rest : List ℕ) → Spelled first mid rest → Spelled second more mid → Spelled (first ++ second) more rest
both first second mid more rest a b =
    record { is = append_assoc first second more ∙ ap (λ (xs : List ℕ). first ++ xs) b.is ∙ a.is; bytes = b.bytes }

pub spelled_as : (s t more rest : List ℕ) → s ≡ t → Spelled s more rest → Spelled t more rest
spelled_as s t more rest e a = subst (λ u. Spelled u more rest) e a

pub nothing_spelled : (more rest : List ℕ) → AreBytes rest → rest ≡ more → Spelled [] more rest
nothing_spelled more rest h e = record { is = sym e; bytes = subst AreBytes e h }

-- a part is read with what follows it
pub record Reads {A : Type 0} (x : Got A) (a : A) (more : List ℕ) : Type 0 where
  pub next : ℕ
  pub is : x ≡ got a next more

-- ---- values

cons_spelled : (n : ℕ) (vs : List Value) (mid more rest : List ℕ) → n < 2 ^ 32 → Spelled (to_be_bytes w32 n) mid rest → Spelled (spelled_values vs) more mid →
    Spelled (spelled_values (value.Int (cast_signed w32 n) ∷ vs)) more rest
cons_spelled n vs mid more rest fits a b =
    let same : u4 n ≡ u4 (cast_unsigned w32 (cast_signed w32 n)) = ap u4 (sym (of_z-to_z w32 n fits)) in
    both _ _ mid more rest (spelled_as _ _ mid rest same a) b

pub values_spelled : (kinds : List Kind) (at : ℕ) (rest : List ℕ) (vs : List Value) (next : ℕ) (more : List ℕ) → AreBytes rest → values kinds at rest ≡ got vs next more →
    AreValues kinds vs × Spelled (spelled_values vs) more rest
unfolding values
values_spelled [] at rest vs next more h e =
    let none : [] ≡ vs = cc in
    let same : rest ≡ more = cc in
    subst (λ xs. AreValues [] xs × Spelled (spelled_values xs) more rest) none (tt, nothing_spelled more rest h same)
values_spelled (access.Plain ∷ kinds) at rest vs next more h e =
    let t = through (number w32 at rest) _ vs next more e in
    let t2 = through (values kinds t.next t.more) _ vs next more t.then in
    let a = spelled_4 at rest t.value t.next t.more h t.first in
    let b = values_spelled kinds t.next t.more t2.value t2.next t2.more a.1.bytes t2.first in
    let same : value.Int (cast_signed w32 t.value) ∷ t2.value ≡ vs = cc (t2.then) in
    let end : t2.more ≡ more = cc (t2.then) in
    let joined = cons_spelled t.value t2.value t.more t2.more rest a.0 a.1 b.1 in
    subst (λ xs. AreValues (access.Plain ∷ kinds) xs × Spelled (spelled_values xs) more rest) same
    ((signed_fits t.value a.0, b.0), subst (λ m. Spelled (spelled_values (value.Int (cast_signed w32 t.value) ∷ t2.value)) m rest) end joined)
values_spelled (access.Wide ∷ kinds) at rest vs next more h e = absurd cc
values_spelled (access.Object ∷ kinds) at rest vs next more h e = absurd cc
values_spelled (access.Boolean ∷ kinds) at rest vs next more h e = absurd cc
values_spelled (access.Byte ∷ kinds) at rest vs next more h e = absurd cc
values_spelled (access.Char ∷ kinds) at rest vs next more h e = absurd cc
values_spelled (access.Short ∷ kinds) at rest vs next more h e = absurd cc

pub values_read : (kinds : List Kind) (vs : List Value) (at : ℕ) (more : List ℕ) → AreValues kinds vs → Reads (values kinds at (spelled_values vs ++ more)) vs more
unfolding values
values_read [] [] at more h = record { next = at; is = refl }
values_read [] (v ∷ vs) at more h = absurd h
values_read (k ∷ ks) [] at more h = absurd h
values_read (access.Plain ∷ ks) (value.Int n ∷ vs) at more h =
    let z = cast_unsigned w32 n in
    let r = values_read ks vs (at + 4) more h.1 in
    let shape : spelled_values (value.Int n ∷ vs) ++ more ≡ to_be_bytes w32 z ++ (spelled_values vs ++ more) = append_assoc (to_be_bytes w32 z) (spelled_values vs) more in
    let first = read_4 at z (spelled_values vs ++ more) (unsigned_below n h.0) in
    let same : cast_signed w32 z ≡ n = to_z-of_z w32 n h.0 in
    record { next = r.next; is = ap (values (access.Plain ∷ ks) at) shape ∙ read_on _ _ _ _ _ first ∙ read_on _ _ _ _ _ r.is ∙ ap (λ (m : ℤ). got (value.Int m ∷ vs) r.next more) same }
values_read (access.Plain ∷ ks) (value.Long n ∷ vs) at more h = absurd h.0
values_read (access.Plain ∷ ks) (value.Obj o ∷ vs) at more h = absurd h.0
values_read (access.Wide ∷ ks) (v ∷ vs) at more h = absurd h.0
values_read (access.Object ∷ ks) (v ∷ vs) at more h = absurd h.0
values_read (access.Boolean ∷ ks) (v ∷ vs) at more h = absurd h.0
values_read (access.Byte ∷ ks) (v ∷ vs) at more h = absurd h.0
values_read (access.Char ∷ ks) (v ∷ vs) at more h = absurd h.0
values_read (access.Short ∷ ks) (v ∷ vs) at more h = absurd h.0

-- ---- statuses

pub statuses_spelled : (n : ℕ) (at : ℕ) (rest ss : List ℕ) (next : ℕ) (more : List ℕ) → AreBytes rest → statuses n at rest ≡ got ss next more →
    (length ss ≡ n) × AreStatuses ss × Spelled ss more rest
unfolding statuses
statuses_spelled zero at rest ss next more h e =
    let none : [] ≡ ss = cc in
    let same : rest ≡ more = cc in
    subst (λ xs. (length xs ≡ 0) × AreStatuses xs × Spelled xs more rest) none (refl, tt, nothing_spelled more rest h same)
statuses_spelled (suc n) at rest ss next more h e =
    let t = through (byte at rest) _ ss next more e in
    let k = was_allowed (nat_le t.value 3) at _ ss next more t.then in
    let t2 = through (statuses n t.next t.more) _ ss next more k.1 in
    let a = spelled_1 at rest t.value t.next t.more h t.first in
    let b = statuses_spelled n t.next t.more t2.value t2.next t2.more a.bytes t2.first in
    let same : t.value ∷ t2.value ≡ ss = cc (t2.then) in
    let end : t2.more ≡ more = cc (t2.then) in
    let joined = both (t.value ∷ []) t2.value t.more t2.more rest a b.2 in
    subst (λ xs. (length xs ≡ suc n) × AreStatuses xs × Spelled xs more rest) same
    (ap suc b.0, (leb-true t.value 3 k.0, b.1), subst (λ m. Spelled (t.value ∷ t2.value) m rest) end joined)

pub statuses_read : (ss : List ℕ) (at : ℕ) (more : List ℕ) → AreStatuses ss → Reads (statuses (length ss) at (ss ++ more)) ss more
unfolding statuses byte
statuses_read [] at more h = record { next = at; is = refl }
statuses_read (s ∷ ss) at more h =
    let r = statuses_read ss (at + 1) more h.1 in
    record { next = r.next; is = read_on _ _ _ _ _ refl ∙ is_allowed (nat_le s 3) at _ (le-leb s 3 h.0) ∙ read_on _ _ _ _ _ r.is }

-- ---- nothing, and the one object

pub none_spelled : (at : ℕ) (rest : List ℕ) (u : Unit {0}) (next : ℕ) (more : List ℕ) → AreBytes rest → none at rest ≡ got u next more → Spelled (u4 0) more rest
unfolding none
none_spelled at rest u next more h e =
    let t = through (number w32 at rest) _ u next more e in
    let k = was_allowed (t.value == 0) at _ u next more t.then in
    let a = spelled_4 at rest t.value t.next t.more h t.first in
    let zero : t.value ≡ 0 = grind (arith, nat_tests, k.0) in
    let end : t.more ≡ more = cc (k.1) in
    subst (λ m. Spelled (u4 0) m rest) end (spelled_as _ _ t.more rest (ap u4 zero) a.1)

pub none_read : (at : ℕ) (more : List ℕ) → none at (u4 0 ++ more) ≡ got tt (at + 4) more
unfolding none allowed
none_read at more = read_on _ _ _ _ _ (read_4 at 0 more (omega arith))

pub out_spelled : (at : ℕ) (rest : List ℕ) (u : Unit {0}) (next : ℕ) (more : List ℕ) → AreBytes rest → out_alone at rest ≡ got u next more → Spelled (0 ∷ []) more rest
unfolding out_alone
out_spelled at rest u next more h e =
    let t = through (byte at rest) _ u next more e in
    let k = was_allowed (t.value == 0) at _ u next more t.then in
    let a = spelled_1 at rest t.value t.next t.more h t.first in
    let zero : t.value ≡ 0 = grind (arith, nat_tests, k.0) in
    let end : t.more ≡ more = cc (k.1) in
    subst (λ m. Spelled (0 ∷ []) m rest) end (spelled_as _ _ t.more rest (ap (λ (b : ℕ). b ∷ []) zero) a)

pub out_read : (at : ℕ) (more : List ℕ) → out_alone at (0 ∷ more) ≡ got tt (at + 1) more
unfolding out_alone reading byte allowed
out_read at more = refl

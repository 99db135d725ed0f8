-- How the readers of LEB128 go on.
use Rattle.std.proofs.Common.{◌≡◌, ℕ, zero, suc, ◌+◌, ◌-◌, ◌*◌, ◌%◌, ◌<◌, ◌≤◌, ◌^◌, List, [], ◌∷◌, length, take, drop, get_or, Result, Ok, Err, refl, sym, ap, ◌∙◌, arith}
use Rattle.std.specs.Prelude.{IfOk, OnErr}
use Rattle.std.proofs.lemmas.Bool.Decides.{nat_tests}
use Rattle.std.proofs.lemmas.List.{drop_more, drop_all}
use Rattle.std.proofs.Math.Nat.{pow-suc}
use Rattle.cc_meaning.specs.declared.fault.LebFault.{LebFault}
use Rattle.cc_meaning.specs.declared.fault.LebFault.TheVariants.{CutOff, TooBig}
use Rattle.cc_meaning_dex.specs.Leb128.{one_more, leb_size, leb_value, uleb_judged, uleb_sized, uleb_at, SpellsUleb}
use Rattle.cc_meaning_dex.specs.TextLaws.{UlebAgrees}

pub leb_value-below : (k : ℕ) (bytes : List ℕ) → length bytes ≤ k → leb_value bytes < 128 ^ k
unfolding leb_value
leb_value-below zero [] h = omega arith
leb_value-below zero (b ∷ bs) h = absurd (omega arith)
leb_value-below (suc k) [] h = let e = leb_value-below k [] (omega arith) in let p : 128 ^ suc k ≡ 128 ^ k * 128 = pow-suc 128 k in omega (arith, e, p)
leb_value-below (suc k) (b ∷ bs) h = let e = leb_value-below k bs (omega arith) in let p : 128 ^ suc k ≡ 128 ^ k * 128 = pow-suc 128 k in omega (arith, e, p)

pub leb_value-first : (bytes : List ℕ) → 0 < length bytes → leb_value bytes ≡ get_or bytes 0 0 % 128 + 128 * leb_value (drop 1 bytes)
unfolding leb_value
leb_value-first [] h = absurd (omega arith)
leb_value-first (b ∷ bs) h = refl

pub leb_value-none : (bytes : List ℕ) → length bytes ≡ 0 → leb_value bytes ≡ 0
unfolding leb_value
leb_value-none [] h = refl
leb_value-none (b ∷ bs) h = absurd (omega arith)

-- a size behind that many bytes
abbrev pub ahead : ℕ → Result ℕ LebFault → Result ℕ LebFault
ahead i (Ok size) = Ok (i + size)
ahead i (Err fault) = Err fault

ahead-more : (i : ℕ) (r : Result ℕ LebFault) → ahead i (one_more r) ≡ ahead (i + 1) r
ahead-more i (Ok size) = let e : i + (size + 1) ≡ i + 1 + size = omega arith in ap Ok e
ahead-more i (Err fault) = refl

pub ahead-none : (r : Result ℕ LebFault) → ahead 0 r ≡ r
ahead-none (Ok size) = let e : 0 + size ≡ size = omega arith in ap Ok e
ahead-none (Err fault) = refl

size_cons : (room b : ℕ) (bs : List ℕ) → 128 ≤ b → leb_size (suc room) (b ∷ bs) ≡ one_more (leb_size room bs)
unfolding leb_size
size_cons room b bs h = grind (arith, nat_tests)

size_last : (room b : ℕ) (bs : List ℕ) → b < 128 → leb_size (suc room) (b ∷ bs) ≡ Ok 1
unfolding leb_size
size_last room b bs h = grind (arith, nat_tests)

pub size_zero : (bytes : List ℕ) → leb_size 0 bytes ≡ Err TooBig
unfolding leb_size
size_zero bytes = refl

pub size_nil : (room : ℕ) → leb_size (suc room) [] ≡ Err CutOff
unfolding leb_size
size_nil room = refl

room_left : (i : ℕ) → i < 5 → 5 - i ≡ suc (5 - (i + 1))
room_left i h = omega arith

pub size_more : (i : ℕ) (bytes : List ℕ) → i < 5 → i < length bytes → 128 ≤ get_or bytes i 0 →
    ahead i (leb_size (5 - i) (drop i bytes)) ≡ ahead (i + 1) (leb_size (5 - (i + 1)) (drop (i + 1) bytes))
size_more i bytes h k t =
    ap (ahead i) (ap (λ room. leb_size room (drop i bytes)) (room_left i h) ∙ ap (leb_size (suc (5 - (i + 1)))) (drop_more bytes i 0 k)
    ∙ size_cons (5 - (i + 1)) (get_or bytes i 0) (drop (i + 1) bytes) t)
    ∙ ahead-more i (leb_size (5 - (i + 1)) (drop (i + 1) bytes))

pub size_here : (i : ℕ) (bytes : List ℕ) → i < 5 → i < length bytes → get_or bytes i 0 < 128 → ahead i (leb_size (5 - i) (drop i bytes)) ≡ Ok (i + 1)
size_here i bytes h k t =
    ap (ahead i) (ap (λ room. leb_size room (drop i bytes)) (room_left i h) ∙ ap (leb_size (suc (5 - (i + 1)))) (drop_more bytes i 0 k)
    ∙ size_last (5 - (i + 1)) (get_or bytes i 0) (drop (i + 1) bytes) t)

pub size_cut : (i : ℕ) (bytes : List ℕ) → i < 5 → length bytes ≤ i → ahead i (leb_size (5 - i) (drop i bytes)) ≡ Err CutOff
size_cut i bytes h k =
    ap (ahead i) (ap (λ room. leb_size room (drop i bytes)) (room_left i h) ∙ ap (leb_size (suc (5 - (i + 1)))) (drop_all i bytes k)
    ∙ size_nil (5 - (i + 1)))

pub size_full : (i : ℕ) (bytes : List ℕ) → 5 ≤ i → ahead i (leb_size (5 - i) (drop i bytes)) ≡ Err TooBig
size_full i bytes h =
    let none : 5 - i ≡ 0 = omega arith in
    ap (ahead i) (ap (λ room. leb_size room (drop i bytes)) none ∙ size_zero (drop i bytes))

-- the number, by its size
pub uleb_at-Err : (bytes : List ℕ) (at : ℕ) (fault : LebFault) → leb_size 5 (drop at bytes) ≡ Err fault → uleb_at bytes at ≡ Err fault
unfolding uleb_at uleb_sized
uleb_at-Err bytes at fault h = ap (uleb_sized at (drop at bytes)) h

uleb_at-sized : (bytes : List ℕ) (at size : ℕ) → leb_size 5 (drop at bytes) ≡ Ok size → uleb_at bytes at ≡ uleb_judged (leb_value (take size (drop at bytes))) (at + size)
unfolding uleb_at uleb_sized
uleb_at-sized bytes at size h = ap (uleb_sized at (drop at bytes)) h

judged_small : (n next : ℕ) → n < 2 ^ 32 → uleb_judged n next ≡ Ok (n, next)
unfolding uleb_judged
judged_small n next h = grind (arith, nat_tests)

judged_large : (n next : ℕ) → 2 ^ 32 ≤ n → uleb_judged n next ≡ Err TooBig
unfolding uleb_judged
judged_large n next h = grind (arith, nat_tests)

pub uleb_at-Ok : (bytes : List ℕ) (at size : ℕ) → leb_size 5 (drop at bytes) ≡ Ok size → leb_value (take size (drop at bytes)) < 2 ^ 32 →
    uleb_at bytes at ≡ Ok (leb_value (take size (drop at bytes)), at + size)
uleb_at-Ok bytes at size h k = uleb_at-sized bytes at size h ∙ judged_small (leb_value (take size (drop at bytes))) (at + size) k

pub uleb_at-large : (bytes : List ℕ) (at size : ℕ) → leb_size 5 (drop at bytes) ≡ Ok size → 2 ^ 32 ≤ leb_value (take size (drop at bytes)) → uleb_at bytes at ≡ Err TooBig
uleb_at-large bytes at size h k = uleb_at-sized bytes at size h ∙ judged_large (leb_value (take size (drop at bytes))) (at + size) k

pub uleb_at-past : (bytes : List ℕ) (at : ℕ) → length bytes < at → uleb_at bytes at ≡ Err CutOff
uleb_at-past bytes at h = uleb_at-Err bytes at CutOff (ap (leb_size 5) (drop_all at bytes (omega arith)) ∙ size_nil 4)

-- what the law says of an exact answer
pub uleb_spelled : UlebAgrees → (bytes : List ℕ) (at : ℕ) (r : Result (ℕ × ℕ) LebFault) → r ≡ uleb_at bytes at → IfOk r (λ read. SpellsUleb bytes at read.0 read.1)
uleb_spelled law bytes at (Ok read) h = (law bytes at read.0 read.1).0 (sym h)
uleb_spelled law bytes at (Err fault) h = tt

pub uleb_refused : UlebAgrees → (bytes : List ℕ) (at : ℕ) (r : Result (ℕ × ℕ) LebFault) → r ≡ uleb_at bytes at → OnErr r ((n next : ℕ) → ¬ SpellsUleb bytes at n next)
uleb_refused law bytes at (Ok read) h = tt
uleb_refused law bytes at (Err fault) h = λ n next s. let e = (law bytes at n next).1 s in absurd cc

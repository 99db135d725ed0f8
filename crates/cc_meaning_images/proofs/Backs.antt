-- The image of an end is the one that the bytes spell.
use Rattle.std.proofs.Common.{◌≡◌, ◌⊎◌, inl, inr, ℕ, zero, suc, ◌+◌, ◌^◌, ◌<◌, ◌≤◌, ◌==◌, ◌&&◌, Bool, true, false, cond, List, [], ◌∷◌, ◌++◌, length, Option, Some, None, Result, Ok, Err, refl, sym, ap, ◌∙◌, subst, arith, nat_le, append_assoc, slice_get}
use Rattle.std.specs.Int.{w32, w64}
use Rattle.std.proofs.lemmas.List.{append-nil}
use Rattle.std.proofs.lemmas.Bool.{and_from, and_parts, le-leb, leb-true, cases_Bool}
use Rattle.std.proofs.lemmas.Bool.Decides.{nat_tests}
use Rattle.cc_meaning.specs.declared.value.Value.{Value}
use Rattle.cc_meaning.specs.declared.value.Made.{Made}
use Rattle.cc_meaning.specs.declared.value.Object.{Object}
use Rattle.cc_meaning.specs.declared.report.SentCall.{SentCall}
use Rattle.cc_meaning.specs.declared.report.CallEnd.{CallEnd}
use Rattle.cc_meaning.specs.declared.report.CallEnd.TheVariants as end
use Rattle.cc_meaning.specs.declared.report.StopCause.{StopCause}
use Rattle.cc_meaning.specs.declared.report.StopCause.TheVariants as cause
use Rattle.cc_meaning.specs.declared.program.DexType.{DexType}
use Rattle.cc_meaning.specs.declared.program.Program.{Program}
use Rattle.cc_meaning.specs.declared.image.Contents.{Contents}
use Rattle.cc_meaning.specs.declared.image.Contents.TheVariants as contents
use Rattle.cc_meaning.specs.declared.image.RunImage.{RunImage}
use Rattle.cc_meaning.specs.declared.image.BackImage.{BackImage}
use Rattle.cc_meaning.specs.Kinds.{kind_of}
use Rattle.cc_meaning_images.specs.Spelling.{u4, u8, spelled_result, spelled_end, spelled_values, spelled_back}
use Rattle.cc_meaning_images.specs.Reading.{Got, got, wrong, reading, allowed, number, byte, values, none, result, ending_by, ending, statuses_since, static_kinds, result_of, BackHead, back_head, back_by_head, back_behind, back_fits, whole, read_back}
use Rattle.cc_meaning_images.specs.Forms.{IsPlainValue, AreValues, AreStatusesSince, AreBytes, IsResult, IsEnding, IsBackOf, BackIsSpelled, BackIsRead}
use Rattle.cc_meaning_images.proofs.Numbers.{through, same_got, read_on, was_allowed, is_allowed, Spelled, spelled_1, spelled_4, spelled_8, read_4, read_8}
use Rattle.cc_meaning_images.proofs.Parts.{both, spelled_as, nothing_spelled, Reads, values_spelled, values_read, none_spelled, none_read}
use Rattle.cc_meaning_images.proofs.Runs.{was_whole, is_whole}

-- ---- the end of the call

one_value : (type : DexType) (vs : List Value) → AreValues (kind_of type ∷ []) vs → IsResult (Some type) (slice_get vs 0) × (spelled_result (slice_get vs 0) ≡ spelled_values vs)
one_value type [] h = absurd h
one_value type (v ∷ []) h = (h.0, sym (append-nil _))
one_value type (v ∷ w ∷ vs) h = absurd h.1

result_spelled : (type : Option DexType) (at : ℕ) (rest : List ℕ) (v : Option Value) (next : ℕ) (more : List ℕ) → AreBytes rest → result type at rest ≡ got v next more →
    IsResult type v × Spelled (spelled_result v) more rest
unfolding result
result_spelled None at rest v next more h e =
    let ends = same_got None v at next rest more e in
    subst (λ x. IsResult None x × Spelled (spelled_result x) more rest) ends.0 (tt, nothing_spelled more rest h ends.1)
result_spelled (Some type) at rest v next more h e =
    let t = through (values (kind_of type ∷ []) at rest) _ v next more e in
    let a = values_spelled (kind_of type ∷ []) at rest t.value t.next t.more h t.first in
    let ends = same_got (slice_get t.value 0) v t.next next t.more more t.then in
    let one = one_value type t.value a.0 in
    subst (λ x. IsResult (Some type) x × Spelled (spelled_result x) more rest) ends.0
    (one.0, subst (λ m. Spelled (spelled_result (slice_get t.value 0)) m rest) ends.1 (spelled_as _ _ t.more rest (sym one.1) a.1))

ending_by_spelled : (type : Option DexType) (b from at : ℕ) (rest : List ℕ) (e : CallEnd) (next : ℕ) (more whole : List ℕ) → Spelled (b ∷ []) rest whole →
    ending_by type b from at rest ≡ got e next more → IsEnding type e × Spelled (spelled_end e) more whole
unfolding ending_by
ending_by_spelled type zero from at rest e next more whole s h =
    let t = through (result type at rest) _ e next more h in
    let a = result_spelled type at rest t.value t.next t.more s.bytes t.first in
    let ends = same_got (end.Returned t.value) e t.next next t.more more t.then in
    subst (λ x. IsEnding type x × Spelled (spelled_end x) more whole) ends.0
    (a.0, subst (λ m. Spelled (0 ∷ spelled_result t.value) m whole) ends.1 (both (0 ∷ []) (spelled_result t.value) rest t.more whole s a.1))
ending_by_spelled type (suc zero) from at rest e next more whole s h = absurd cc
ending_by_spelled type (suc (suc zero)) from at rest e next more whole s h =
    let ends = same_got (end.Stopped cause.Budget) e at next rest more h in
    subst (λ x. IsEnding type x × Spelled (spelled_end x) more whole) ends.0 (tt, subst (λ m. Spelled (2 ∷ []) m whole) ends.1 s)
ending_by_spelled type (suc (suc (suc zero))) from at rest e next more whole s h =
    let ends = same_got (end.Stopped cause.Heap) e at next rest more h in
    subst (λ x. IsEnding type x × Spelled (spelled_end x) more whole) ends.0 (tt, subst (λ m. Spelled (3 ∷ []) m whole) ends.1 s)
ending_by_spelled type (suc (suc (suc (suc n)))) from at rest e next more whole s h = absurd cc

ending_spelled : (type : Option DexType) (at : ℕ) (rest : List ℕ) (e : CallEnd) (next : ℕ) (more : List ℕ) → AreBytes rest → ending type at rest ≡ got e next more →
    IsEnding type e × Spelled (spelled_end e) more rest
unfolding ending
ending_spelled type at rest e next more h f =
    let t = through (byte at rest) _ e next more f in
    ending_by_spelled type t.value at t.next t.more e next more rest (spelled_1 at rest t.value t.next t.more h t.first) t.then

result_read : (type : Option DexType) (v : Option Value) (at : ℕ) (more : List ℕ) → IsResult type v → Reads (result type at (spelled_result v ++ more)) v more
unfolding result
result_read None None at more h = record { next = at; is = refl }
result_read None (Some v) at more h = absurd h
result_read (Some type) None at more h = absurd h
result_read (Some type) (Some v) at more h =
    let r = values_read (kind_of type ∷ []) (v ∷ []) at more (h, tt) in
    let shape : spelled_values (v ∷ []) ++ more ≡ spelled_result (Some v) ++ more = ap (λ (xs : List ℕ). xs ++ more) (append-nil _) in
    record { next = r.next; is = ap (λ (xs : List ℕ). reading (values (kind_of type ∷ []) at xs) (λ vs n m. got (slice_get vs 0) n m)) (sym shape) ∙ read_on _ _ _ _ _ r.is }

ending_read : (type : Option DexType) (e : CallEnd) (at : ℕ) (more : List ℕ) → IsEnding type e → Reads (ending type at (spelled_end e ++ more)) e more
unfolding ending ending_by byte reading
ending_read type (end.Returned v) at more h = let r = result_read type v (at + 1) more h in record { next = r.next; is = read_on _ _ _ _ _ r.is }
ending_read type (end.Thrown number) at more h = absurd h
ending_read type (end.Stopped cause.Budget) at more h = record { next = at + 1; is = refl }
ending_read type (end.Stopped cause.Heap) at more h = record { next = at + 1; is = refl }
ending_read type (end.Stopped (cause.ScriptEnd class)) at more h = absurd h
ending_read type (end.Stopped (cause.ScriptOther class wanted found)) at more h = absurd h

-- ---- the statuses

may_follow : (s b : ℕ) → (nat_le b 3 && cond (s == 0) true (b == s)) ≡ true → (b ≤ 3) × ((s ≡ 0) ⊎ (b ≡ s))
may_follow s b e = let p = and_parts (nat_le b 3) (cond (s == 0) true (b == s)) e in (leb-true b 3 p.0, by (cases_Bool (s == 0)) p.1)
  where
    by : ((s == 0) ≡ true) ⊎ ((s == 0) ≡ false) → cond (s == 0) true (b == s) ≡ true → (s ≡ 0) ⊎ (b ≡ s)
    by (inl z) f = inl (grind (arith, nat_tests, z))
    by (inr n) f = let g : (b == s) ≡ true = sym (ap (λ (t : Bool). cond t true (b == s)) n) ∙ f in inr (grind (arith, nat_tests, g))

follows : (s b : ℕ) → b ≤ 3 → (s ≡ 0) ⊎ (b ≡ s) → (nat_le b 3 && cond (s == 0) true (b == s)) ≡ true
follows s b h (inl z) = and_from (nat_le b 3) (cond (s == 0) true (b == s)) (le-leb b 3 h) (rw z refl)
follows s b h (inr same) = and_from (nat_le b 3) (cond (s == 0) true (b == s)) (le-leb b 3 h) (grind (arith, nat_tests, same))

since_spelled : (ss : List ℕ) (at : ℕ) (rest bs : List ℕ) (next : ℕ) (more : List ℕ) → AreBytes rest → statuses_since ss at rest ≡ got bs next more →
    AreStatusesSince ss bs × Spelled bs more rest
unfolding statuses_since
since_spelled [] at rest bs next more h e =
    let ends = same_got [] bs at next rest more e in
    subst (λ xs. AreStatusesSince [] xs × Spelled xs more rest) ends.0 (tt, nothing_spelled more rest h ends.1)
since_spelled (s ∷ ss) at rest bs next more h e =
    let t = through (byte at rest) _ bs next more e in
    let k = was_allowed (nat_le t.value 3 && cond (s == 0) true (t.value == s)) at _ bs next more t.then in
    let t2 = through (statuses_since ss t.next t.more) _ bs next more k.1 in
    let a = spelled_1 at rest t.value t.next t.more h t.first in
    let b = since_spelled ss t.next t.more t2.value t2.next t2.more a.bytes t2.first in
    let ends = same_got (t.value ∷ t2.value) bs t2.next next t2.more more t2.then in
    let f = may_follow s t.value k.0 in
    subst (λ xs. AreStatusesSince (s ∷ ss) xs × Spelled xs more rest) ends.0
    ((f.0, f.1, b.0), subst (λ m. Spelled (t.value ∷ t2.value) m rest) ends.1 (both (t.value ∷ []) t2.value t.more t2.more rest a b.1))

since_read : (ss bs : List ℕ) (at : ℕ) (more : List ℕ) → AreStatusesSince ss bs → Reads (statuses_since ss at (bs ++ more)) bs more
unfolding statuses_since byte
since_read [] [] at more h = record { next = at; is = refl }
since_read [] (b ∷ bs) at more h = absurd h
since_read (s ∷ ss) [] at more h = absurd h
since_read (s ∷ ss) (b ∷ bs) at more h =
    let r = since_read ss bs (at + 1) more h.2 in
    record { next = r.next; is = read_on _ _ _ _ _ refl ∙ is_allowed _ at _ (follows s b h.0 h.1) ∙ read_on _ _ _ _ _ r.is }

-- ---- what stands before the statuses

abbrev head_spelling : BackHead → List ℕ
head_spelling head = spelled_end head.ending ++ (u8 head.instructions ++ u4 head.words)

record IsHead (type : Option DexType) (head : BackHead) : Type 0 where
  ending : IsEnding type head.ending
  instructions : head.instructions < 2 ^ 64
  words : head.words < 2 ^ 32

head_spelled : (type : Option DexType) (at : ℕ) (rest : List ℕ) (head : BackHead) (next : ℕ) (more : List ℕ) → AreBytes rest → back_head type at rest ≡ got head next more →
    IsHead type head × Spelled (head_spelling head) more rest
unfolding back_head
head_spelled type at rest head next more h e =
    let t1 = through (ending type at rest) _ head next more e in
    let t2 = through (number w64 t1.next t1.more) _ head next more t1.then in
    let t3 = through (number w32 t2.next t2.more) _ head next more t2.then in
    let a1 = ending_spelled type at rest t1.value t1.next t1.more h t1.first in
    let a2 = spelled_8 t1.next t1.more t2.value t2.next t2.more a1.1.bytes t2.first in
    let a3 = spelled_4 t2.next t2.more t3.value t3.next t3.more a2.1.bytes t3.first in
    let here : BackHead = record { ending = t1.value; instructions = t2.value; words = t3.value } in
    let ends = same_got here head t3.next next t3.more more t3.then in
    let joined = both _ _ _ _ _ a1.1 (both _ _ _ _ _ a2.1 a3.1) in
    let is : IsHead type here = record { ending = a1.0; instructions = a2.0; words = a3.0 } in
    subst (λ x. IsHead type x × Spelled (head_spelling x) more rest) ends.0 (is, subst (λ m. Spelled (head_spelling here) m rest) ends.1 joined)

head_read : (type : Option DexType) (head : BackHead) (at : ℕ) (more : List ℕ) → IsHead type head → Reads (back_head type at (spelled_end head.ending ++ (u8 head.instructions ++ (u4 head.words ++ more)))) head more
unfolding back_head
head_read type head at more h =
    let r = ending_read type head.ending at (u8 head.instructions ++ (u4 head.words ++ more)) h.ending in
    record {
      next = r.next + 8 + 4;
      is = read_on _ _ _ _ _ r.is ∙ read_on _ _ _ _ _ (read_8 r.next head.instructions _ h.instructions) ∙ read_on _ _ _ _ _ (read_4 (r.next + 8) head.words more h.words);
    }

-- ---- what stands behind them

abbrev behind_spelling : List ℕ → List Value → List ℕ
behind_spelling ss statics = ss ++ (spelled_values statics ++ (u4 0 ++ (u4 0 ++ u4 0)))

record IsBehind (p : Program) (before : List ℕ) (head : BackHead) (image : BackImage) (more rest : List ℕ) : Type 0 where
  ss : List ℕ
  statics : List Value
  image_is : image ≡ back_by_head head ss statics
  are_statuses : AreStatusesSince before ss
  are_statics : AreValues (static_kinds p) statics
  spelled : Spelled (behind_spelling ss statics) more rest

behind_spelled : (p : Program) (before : List ℕ) (head : BackHead) (at : ℕ) (rest : List ℕ) (image : BackImage) (next : ℕ) (more : List ℕ) → AreBytes rest →
    back_behind p before head at rest ≡ got image next more → IsBehind p before head image more rest
unfolding back_behind
behind_spelled p before head at rest image next more h e =
    let t1 = through (statuses_since before at rest) _ image next more e in
    let t2 = through (values (static_kinds p) t1.next t1.more) _ image next more t1.then in
    let t3 = through (none t2.next t2.more) _ image next more t2.then in
    let t4 = through (none t3.next t3.more) _ image next more t3.then in
    let t5 = through (none t4.next t4.more) _ image next more t4.then in
    let a1 = since_spelled before at rest t1.value t1.next t1.more h t1.first in
    let a2 = values_spelled (static_kinds p) t1.next t1.more t2.value t2.next t2.more a1.1.bytes t2.first in
    let a3 = none_spelled t2.next t2.more t3.value t3.next t3.more a2.1.bytes t3.first in
    let a4 = none_spelled t3.next t3.more t4.value t4.next t4.more a3.bytes t4.first in
    let a5 = none_spelled t4.next t4.more t5.value t5.next t5.more a4.bytes t5.first in
    let ends = same_got (back_by_head head t1.value t2.value) image t5.next next t5.more more t5.then in
    let joined = both _ _ _ _ _ a1.1 (both _ _ _ _ _ a2.1 (both _ _ _ _ _ a3 (both _ _ _ _ _ a4 a5))) in
    record {
      ss = t1.value;
      statics = t2.value;
      image_is = sym ends.0;
      are_statuses = a1.0;
      are_statics = a2.0;
      spelled = subst (λ m. Spelled (behind_spelling t1.value t2.value) m rest) ends.1 joined;
    }

behind_read : (p : Program) (before : List ℕ) (head : BackHead) (ss : List ℕ) (statics : List Value) (at : ℕ) → AreStatusesSince before ss → AreValues (static_kinds p) statics →
    Reads (back_behind p before head at (behind_spelling ss statics)) (back_by_head head ss statics) []
unfolding back_behind
behind_read p before head ss statics at are_ss are_statics =
    let r1 = since_read before ss at (spelled_values statics ++ (u4 0 ++ (u4 0 ++ u4 0))) are_ss in
    let r2 = values_read (static_kinds p) statics r1.next (u4 0 ++ (u4 0 ++ u4 0)) are_statics in
    record {
      next = r2.next + 4 + 4 + 4;
      is = read_on _ _ _ _ _ r1.is
          ∙ read_on _ _ _ _ _ r2.is
          ∙ read_on _ _ _ _ _ (none_read r2.next (u4 0 ++ u4 0))
          ∙ read_on _ _ _ _ _ (none_read (r2.next + 4) (u4 0))
          ∙ read_on _ _ _ _ _ (none_read (r2.next + 4 + 4) []);
    }

-- ---- the image

spelling_of : (p : Program) (before : List ℕ) (head : BackHead) (image : BackImage) (mid bytes : List ℕ) → Spelled (head_spelling head) mid bytes → IsBehind p before head image [] mid → spelled_back image ≡ bytes
unfolding spelled_back
spelling_of p before head image mid bytes a b =
    let joined = both _ _ mid [] bytes a b.spelled in
    ap spelled_back b.image_is
    ∙ sym (append_assoc (spelled_end head.ending) (u8 head.instructions ++ u4 head.words) (behind_spelling b.ss b.statics))
    ∙ sym (append-nil (head_spelling head ++ behind_spelling b.ss b.statics)) ∙ joined.is

is_back : (p : Program) (run : RunImage) (head : BackHead) (image : BackImage) (mid : List ℕ) → IsHead (result_of (slice_get p.methods run.method)) head →
    IsBehind p run.statuses head image [] mid → back_fits run image ≡ true → IsBackOf p run image
is_back p run head image mid h b e =
    let is = b.image_is in
    let f = subst (λ x. back_fits run x ≡ true) is e in
    let parts = and_parts (nat_le head.instructions run.instructions) (nat_le head.words run.words) f in
    subst (λ x. IsBackOf p run x) (sym is) (record {
      ending = h.ending;
      instructions_fit = h.instructions;
      words_fit = h.words;
      instructions = leb-true head.instructions run.instructions parts.0;
      words = leb-true head.words run.words parts.1;
      statuses = b.are_statuses;
      statics = b.are_statics;
      no_literals = refl;
      no_constants = refl;
      no_events = refl;
      nothing_old = refl;
      nothing_new = refl;
    })

pub back_is_spelled : BackIsSpelled
unfolding read_back
back_is_spelled p run bytes image h e =
    let type = result_of (slice_get p.methods run.method) in
    let w = was_whole (back_fits run) (reading (back_head type 0 bytes) (λ head at rest. back_behind p run.statuses head at rest)) image e in
    let t = through (back_head type 0 bytes) _ image w.at [] w.is in
    let a = head_spelled type 0 bytes t.value t.next t.more h t.first in
    let b = behind_spelled p run.statuses t.value t.next t.more image w.at [] a.1.bytes t.then in
    (spelling_of p run.statuses t.value image t.more bytes a.1 b, is_back p run t.value image t.more a.0 b w.in_range)

abbrev head_in : BackImage → BackHead
head_in image = record { ending = image.ending; instructions = image.instructions; words = image.words }

image_again : (p : Program) (run : RunImage) (image : BackImage) → IsBackOf p run image → back_by_head (head_in image) image.statuses image.statics ≡ image
image_again p run image h =
    ap (λ (ls : List Made). record image { literals = ls; constants = []; events = []; old = contents.Nothing ∷ []; fresh = [] }) (sym h.no_literals)
    ∙ ap (λ (cs : List Made). record image { constants = cs; events = []; old = contents.Nothing ∷ []; fresh = [] }) (sym h.no_constants)
    ∙ ap (λ (es : List SentCall). record image { events = es; old = contents.Nothing ∷ []; fresh = [] }) (sym h.no_events)
    ∙ ap (λ (os : List Contents). record image { old = os; fresh = [] }) (sym h.nothing_old)
    ∙ ap (λ (os : List Object). record image { fresh = os }) (sym h.nothing_new)

spelling_again : (p : Program) (run : RunImage) (image : BackImage) → IsBackOf p run image →
    spelled_back image ≡ spelled_end image.ending ++ (u8 image.instructions ++ (u4 image.words ++ behind_spelling image.statuses image.statics))
unfolding spelled_back
spelling_again p run image h = ap spelled_back (sym (image_again p run image h))

pub back_is_read : BackIsRead
unfolding read_back
back_is_read p run image h =
    let type = result_of (slice_get p.methods run.method) in
    let head = head_in image in
    let a = head_read type head 0 (behind_spelling image.statuses image.statics) (record { ending = h.ending; instructions = h.instructions_fit; words = h.words_fit }) in
    let b = behind_read p run.statuses head image.statuses image.statics a.next h.statuses h.statics in
    is_whole (back_fits run) (reading (back_head type 0 (spelled_back image)) (λ x at rest. back_behind p run.statuses x at rest)) image b.next
    (ap (λ (xs : List ℕ). reading (back_head type 0 xs) (λ x at rest. back_behind p run.statuses x at rest)) (spelling_again p run image h) ∙ read_on _ _ _ _ _ a.is ∙ b.is ∙ ap (λ (x : BackImage). got x b.next []) (image_again p run image h))
    (and_from (nat_le image.instructions run.instructions) (nat_le image.words run.words) (le-leb _ _ h.instructions) (le-leb _ _ h.words))

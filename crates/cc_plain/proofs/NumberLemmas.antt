-- Numbers of the class data that stand one after the other.
use Rattle.std.proofs.Common.{◌≡◌, ◌↔◌, ℕ, ◌+◌, ◌<◌, List, [], ◌∷◌, ◌++◌, length, refl, ap, sym, subst, ◌∙◌, ◌≤◌, arith, append_assoc, append-nil}
use Rattle.std.proofs.lemmas.List.{length-append}
use Rattle.cc_meaning_dex.specs.Leb128.{SpellsUleb}
use Rattle.cc_meaning_dex.specs.TextLaws.{OneUleb}
use Rattle.cc_meaning_plain.specs.declared.table.Table.TheVariants.{Methods}
use Rattle.cc_meaning_plain.specs.declared.plain.Member.{Member}
use Rattle.cc_meaning_plain.specs.Tables.{IsRow, row_count}
use Rattle.cc_meaning_plain.specs.Plain.{SpellsMembers, SpellsClassData}
use Rattle.cc_plain.specs.Class.{HaveRows}

-- ---- the counts

-- behind two zeros stands the number of direct methods
pub count_at : OneUleb → (file : List ℕ) (at fields instance : ℕ) (members : List Member) → SpellsUleb file at 0 fields → SpellsUleb file fields 0 instance →
    (h : SpellsClassData file at members) → SpellsUleb file instance (length members) h.after_direct
count_at one file at fields instance members zero1 zero2 h =
    let first : h.after_static ≡ fields = (one file at 0 0 h.after_static fields h.no_static_fields zero1).1 in
    let second : h.after_instance ≡ instance = (one file fields 0 0 h.after_instance instance (subst (λ place. SpellsUleb file place 0 h.after_instance) first h.no_instance_fields) zero2).1 in
    subst (λ place. SpellsUleb file place (length members) h.after_direct) second h.direct

-- and behind it the last zero
pub zero_at : OneUleb → (file : List ℕ) (at fields instance count direct : ℕ) (members : List Member) → SpellsUleb file at 0 fields → SpellsUleb file fields 0 instance →
    SpellsUleb file instance count direct → (h : SpellsClassData file at members) → (length members ≡ count) × SpellsUleb file direct 0 h.after_counts
zero_at one file at fields instance count direct members zero1 zero2 counted h =
    let same = one file instance (length members) count h.after_direct direct (count_at one file at fields instance members zero1 zero2 h) counted in
    (same.0, subst (λ place. SpellsUleb file place 0 h.after_counts) same.1 h.no_virtual)

pub data_at : OneUleb → (file : List ℕ) (at fields instance count direct all : ℕ) → SpellsUleb file at 0 fields → SpellsUleb file fields 0 instance →
    SpellsUleb file instance count direct → SpellsUleb file direct 0 all → (members : List Member) →
    SpellsClassData file at members ↔ ((length members ≡ count) × SpellsMembers file all 0 members)
data_at one file at fields instance count direct all zero1 zero2 counted zero3 members = (
  λ h.
      let last = zero_at one file at fields instance count direct members zero1 zero2 counted h in
      let place : h.after_counts ≡ all = (one file direct 0 0 h.after_counts all last.1 zero3).1 in
      (last.0, subst (λ p. SpellsMembers file p 0 members) place h.listed),
  λ h.
      record {
        after_static = fields;
        after_instance = instance;
        after_direct = direct;
        after_counts = all;
        no_static_fields = zero1;
        no_instance_fields = zero2;
        direct = subst (λ n. SpellsUleb file instance n direct) (sym h.0) counted;
        no_virtual = zero3;
        listed = h.1;
      },
)

-- ---- a method

member_from : ℕ → ℕ → ℕ → Member
member_from method flags code_at = record { method = method; flags = flags; code_at = code_at }

same_member : (first second : Member) → first.method ≡ second.method → first.flags ≡ second.flags → first.code_at ≡ second.code_at → first ≡ second
unfolding member_from
same_member first second method flags code_at =
    ap (λ m. member_from m first.flags first.code_at) method
    ∙ ap (λ f. member_from second.method f first.code_at) flags
    ∙ ap (λ c. member_from second.method second.flags c) code_at

-- behind the step of a method stand its flags
pub flags_at : OneUleb → (file : List ℕ) (at row step after_step : ℕ) (m : Member) (rest : List Member) → SpellsUleb file at step after_step →
    (h : SpellsMembers file at row (m ∷ rest)) → (h.0 ≡ step) × SpellsUleb file after_step m.flags h.2
flags_at one file at row step after_step m rest stepped h =
    let same = one file at h.0 step h.1 after_step h.5 stepped in
    (same.0, subst (λ place. SpellsUleb file place m.flags h.2) same.1 h.6)

-- and behind them the place of its code
pub code_at : OneUleb → (file : List ℕ) (at row step after_step flags after_flags : ℕ) (m : Member) (rest : List Member) → SpellsUleb file at step after_step →
    SpellsUleb file after_step flags after_flags → (h : SpellsMembers file at row (m ∷ rest)) → (h.0 ≡ step) × (m.flags ≡ flags) × SpellsUleb file after_flags m.code_at h.3
code_at one file at row step after_step flags after_flags m rest stepped flagged h =
    let first = flags_at one file at row step after_step m rest stepped h in
    let same = one file after_step m.flags flags h.2 after_flags first.1 flagged in
    (first.0, same.0, subst (λ place. SpellsUleb file place m.code_at h.3) same.1 h.7)

pub member_at : OneUleb → (file : List ℕ) (at row step after_step flags after_flags code next : ℕ) → SpellsUleb file at step after_step → SpellsUleb file after_step flags after_flags →
    SpellsUleb file after_flags code next → (m : Member) (rest : List Member) →
    SpellsMembers file at row (m ∷ rest) ↔ ((m ≡ record { method = row + step; flags = flags; code_at = code }) × SpellsMembers file next (row + step) rest)
unfolding member_from
member_at one file at row step after_step flags after_flags code next stepped flagged coded m rest = (
  λ h.
      let told = code_at one file at row step after_step flags after_flags m rest stepped flagged h in
      let same = one file after_flags m.code_at code h.3 next told.2 coded in
      let method : m.method ≡ row + step = h.4 ∙ ap (λ n. row + n) told.0 in (
        same_member m (member_from (row + step) flags code) method told.1 same.0,
        subst (λ n. SpellsMembers file next n rest) method (subst (λ p. SpellsMembers file p m.method rest) same.1 h.8),
      ),
  λ h.
      let back : record { method = row + step; flags = flags; code_at = code } ≡ m = sym h.0 in
      subst (λ (x : Member). SpellsMembers file at row (x ∷ rest)) back (step, after_step, after_flags, next, refl, stepped, flagged, coded, h.1),
)

-- ---- the methods so far

-- what is read so far, and what is left, are together what is listed
pub record ListsTo (file : List ℕ) (start count at row done : ℕ) (members : List Member) : Type 0 where
  pub below : row ≤ row_count file Methods
  pub length_is : length members ≡ done
  pub sound : (rest : List Member) → SpellsMembers file at row rest → SpellsMembers file start 0 (members ++ rest)
  pub complete : (all : List Member) → length all ≡ count → HaveRows file all → SpellsMembers file start 0 all →
      (rest : List Member) × (all ≡ members ++ rest) × HaveRows file rest × SpellsMembers file at row rest

pub lists_none : (file : List ℕ) (start count : ℕ) → ListsTo file start count start 0 0 []
lists_none file start count =
    record {
      below = omega arith;
      length_is = refl;
      sound = λ rest h. h;
      complete = λ all counted rows h. (all, refl, rows, h);
    }

pub lists_more : (file : List ℕ) (start count at row done next : ℕ) (members members' : List Member) (m : Member) → ListsTo file start count at row done members →
    done < count → IsRow file Methods m.method →
    ((x : Member) (rest : List Member) → SpellsMembers file at row (x ∷ rest) ↔ ((x ≡ m) × SpellsMembers file next m.method rest)) →
    members' ≡ members ++ m ∷ [] → ListsTo file start count next m.method (done + 1) members'
lists_more file start count at row done next members members' m told some stands here pushed =
    let more : ListsTo file start count next m.method (done + 1) (members ++ m ∷ []) = record {
      below = omega (arith, stands);
      length_is = omega (arith, length-append members (m ∷ []), told.length_is);
      sound = λ rest h. subst (SpellsMembers file start 0) (sym (append_assoc members (m ∷ []) rest)) (told.sound (m ∷ rest) ((here m rest).1 (refl, h)));
      complete = λ all counted rows h. let c = told.complete all counted rows h in cut all c.0 counted c.1 c.2 c.3;
    } in
    subst (ListsTo file start count next m.method (done + 1)) (sym pushed) more
  where
    cut : (all rest : List Member) → length all ≡ count → all ≡ members ++ rest → HaveRows file rest → SpellsMembers file at row rest →
        (rest' : List Member) × (all ≡ (members ++ m ∷ []) ++ rest') × HaveRows file rest' × SpellsMembers file next m.method rest'
    cut all [] counted f rows s =
        let e : length all ≡ length members = ap length (f ∙ append-nil members) in
        absurd (omega (arith, e, counted, told.length_is, some))
    cut all (x ∷ rest) counted f rows s =
        let told_here = (here x rest).0 s in
        (rest, f ∙ ap (λ i. members ++ i ∷ rest) told_here.0 ∙ sym (append_assoc members (m ∷ []) rest), rows.1, told_here.1)

-- where no method is, none are listed
pub lists_no_more : (file : List ℕ) (start count at row done : ℕ) (members : List Member) → ListsTo file start count at row done members → done < count →
    ((x : Member) (rest : List Member) → IsRow file Methods x.method → SpellsMembers file at row (x ∷ rest) → ⊥) →
    (all : List Member) → length all ≡ count → HaveRows file all → SpellsMembers file start 0 all → ⊥
lists_no_more file start count at row done members told some none all counted rows h = let c = told.complete all counted rows h in cut c.0 c.1 c.2 c.3
  where
    cut : (rest : List Member) → all ≡ members ++ rest → HaveRows file rest → SpellsMembers file at row rest → ⊥
    cut [] f rows s =
        let e : length all ≡ length members = ap length (f ∙ append-nil members) in
        omega (arith, e, counted, told.length_is, some)
    cut (x ∷ rest) f rows s = none x rest rows.0 s

pub lists_all : (file : List ℕ) (start count at row done : ℕ) (members : List Member) → ListsTo file start count at row done members → SpellsMembers file start 0 members
lists_all file start count at row done members told = subst (SpellsMembers file start 0) (append-nil members) (told.sound [] tt)

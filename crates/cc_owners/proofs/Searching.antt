-- A search of interfaces, each followed by those above it: what it has handled and what waits on its stack.
use Rattle.std.proofs.Common.{◌≡◌, ◌⊎◌, inl, inr, ℕ, zero, suc, ◌+◌, ◌<◌, Bool, true, false, cond, eqb, List, [], ◌∷◌, ◌++◌, length, get_or, map, Some, None, slice_get, refl, sym, ap, subst, ◌∙◌, arith}
use Rattle.std.specs.Prelude.{Contains, reverse, slice_set}
use Rattle.std.proofs.lemmas.Bool.Decides.{Decides-eqb}
use Rattle.std.proofs.lemmas.List.{reverse-append, reverse-reverse, length-reverse}
use Rattle.std.proofs.lemmas.Option.{slice_get-get_or, slice_get_within}
use Rattle.cc_meaning_program.specs.Ancestry.{interfaces_named, Superinterfaces}
use Rattle.cc_meaning_program.specs.Searches.{First, NoneOf}
use Rattle.cc_meaning_program.specs.declared.outline.Outline.{Outline}
use Rattle.cc_meaning_program.specs.SoundClimbing.{InterfacesHaveLists}
use Rattle.cc_meaning_program.specs.Outlines.{AreNumbersOf}
use Rattle.cc_owners.specs.declared.linked.Linked.{Linked}
use Rattle.cc_owners.specs.Entered.{OnlyMarked, AreEntered, IsFoundAbove}
use Rattle.cc_owners.specs.Known.{IsKnown, Has, IsFound}
use Rattle.cc_owners.specs.Members.{member_of}
use Rattle.cc_owners.specs.Places.{place_of}
use Rattle.cc_owners.proofs.Lists.{Among, first, later, some_is, in_front, at_end, together, ends_empty, length_both, numbers_both, none_of_both, first_behind}
use Rattle.cc_owners.proofs.Above.{Begins, begins, both, met_again}
use Rattle.cc_owners.proofs.Placing.{has}

-- ---- lists

contains_among : {A : Type 0} (xs : List A) (x : A) → Contains xs x → Among xs x
contains_among [] x (k, within, is) = absurd (omega arith)
contains_among (y ∷ ys) x (zero, within, is) = let e : y ≡ x = is in subst (λ z. Among (y ∷ ys) z) e first
contains_among (y ∷ ys) x (suc k, within, is) = later (contains_among ys x (k, omega (arith, within), is))

among_contains : {A : Type 0} (xs : List A) (x : A) → Among xs x → Contains xs x
among_contains _ x (first {xs = xs}) = (0, omega arith, refl)
among_contains _ x (later {y = y} {xs = xs} is) = let (k, within, there) = among_contains xs x is in (suc k, omega (arith, within), there)

-- numbers that are there have names
pub names_of : (names : List (List ℕ)) (numbers : List ℕ) → ((n : ℕ) → Contains numbers n → n < length names) → (named : List (List ℕ)) × AreNumbersOf names named numbers
names_of names [] each = ([], refl)
names_of names (n ∷ ns) each =
    let there = slice_get-get_or names n [] (each n (0, omega arith, refl)) in
    let (others, are) = names_of names ns (λ m (k, within, is). each m (suc k, omega (arith, within), is)) in
    (get_or names n [] ∷ others, ap (λ h. h ∷ map (slice_get names) ns) there ∙ ap (λ t. Some (get_or names n []) ∷ t) are)

-- ---- what is left to enter

-- how many interfaces the classes name that haven't this mark
pub unentered : ℕ → List ℕ → List Outline → ℕ
unentered search [] outlines = 0
unentered search (m ∷ marks) [] = 0
unentered search (m ∷ marks) (o ∷ outlines) = cond (eqb m search) 0 (length o.interfaces) + unentered search marks outlines

pub fewer : (search : ℕ) (marks : List ℕ) (outlines : List Outline) (class mark : ℕ) (outline : Outline) → slice_get marks class ≡ Some mark → eqb mark search ≡ false → slice_get outlines class ≡ Some outline →
    unentered search marks outlines ≡ length outline.interfaces + unentered search (slice_set marks class search) outlines
unfolding unentered
fewer search [] outlines class mark outline there other stated = absurd cc
fewer search (m ∷ marks) [] class mark outline there other stated = absurd cc
fewer search (m ∷ marks) (o ∷ outlines) zero mark outline there other stated =
    let one : m ≡ mark = cc in
    let mine : o ≡ outline = cc in
    let before : eqb m search ≡ false = ap (λ k. eqb k search) one ∙ other in
    let now : eqb search search ≡ true = (Decides-eqb search search).1 refl in
    let old : cond (eqb m search) 0 (length o.interfaces) ≡ length o.interfaces = ap (λ b. cond b 0 (length o.interfaces)) before in
    let new : cond (eqb search search) 0 (length o.interfaces) ≡ 0 = ap (λ b. cond b 0 (length o.interfaces)) now in
    let size : length o.interfaces ≡ length outline.interfaces = ap (λ (x : Outline). length x.interfaces) mine in
    let left : unentered search (m ∷ marks) (o ∷ outlines) ≡ cond (eqb m search) 0 (length o.interfaces) + unentered search marks outlines = refl in
    let right : unentered search (slice_set (m ∷ marks) zero search) (o ∷ outlines) ≡ cond (eqb search search) 0 (length o.interfaces) + unentered search marks outlines = refl in
    omega arith
fewer search (m ∷ marks) (o ∷ outlines) (suc class) mark outline there other stated =
    let rest = fewer search marks outlines class mark outline there other stated in
    let left : unentered search (m ∷ marks) (o ∷ outlines) ≡ cond (eqb m search) 0 (length o.interfaces) + unentered search marks outlines = refl in
    let right : unentered search (slice_set (m ∷ marks) (suc class) search) (o ∷ outlines) ≡ cond (eqb m search) 0 (length o.interfaces) + unentered search (slice_set marks class search) outlines = refl in
    omega arith

unlike : (mark search : ℕ) (tested : Bool) → eqb mark search ≡ tested → (mark ≡ search → ⊥) → tested ≡ false
unlike mark search true e apart = absurd (apart ((Decides-eqb mark search).0 e))
unlike mark search false e apart = refl

-- so a class that is entered leaves less to do
pub shrinks : (search : ℕ) (marks marked : List ℕ) (outlines : List Outline) (class mark : ℕ) (outline : Outline) (stack left next : List ℕ) → slice_get marks class ≡ Some mark → (mark ≡ search → ⊥) → slice_get outlines class ≡ Some outline →
    marked ≡ slice_set marks class search → stack ≡ left ++ class ∷ [] → next ≡ left ++ reverse outline.interfaces → unentered search marked outlines + length next < unentered search marks outlines + length stack
shrinks search marks marked outlines class mark outline stack left next there apart stated is split pushed =
    let less = fewer search marks outlines class mark outline there (unlike mark search (eqb mark search) refl apart) stated in
    let now = ap (λ m. unentered search m outlines) is in
    let before = ap length split ∙ length_both left (class ∷ []) in
    let after = ap length pushed ∙ length_both left (reverse outline.interfaces) in
    let turned = length-reverse outline.interfaces in
    omega arith

-- a mark that is set
set_there : (marks : List ℕ) (class mark search other : ℕ) → slice_get marks class ≡ Some mark → slice_get (slice_set marks class search) other ≡ Some search → (slice_get marks other ≡ Some search) ⊎ (other ≡ class)
set_there [] class mark search other there is = absurd cc
set_there (m ∷ marks) zero mark search zero there is = inr refl
set_there (m ∷ marks) zero mark search (suc other) there is = inl is
set_there (m ∷ marks) (suc class) mark search zero there is = inl is
set_there (m ∷ marks) (suc class) mark search (suc other) there is = elim (set_there marks class mark search other there is) [ inl old ↦ inl old | inr new ↦ inr (ap suc new) ]

-- no other mark is set
pub only_more : (before : List ℕ) (search : ℕ) (marks after : List ℕ) (class mark : ℕ) → slice_get marks class ≡ Some mark → after ≡ slice_set marks class search → OnlyMarked before search marks → OnlyMarked before search after
only_more before search marks after class mark there is so_far other found read = elim (kept marks class other (subst (λ ms. slice_get ms other ≡ Some found) is read)) [ inl old ↦ so_far other found old | inr new ↦ inr new ]
  where
    kept : (marks : List ℕ) (class other : ℕ) → slice_get (slice_set marks class search) other ≡ Some found → (slice_get marks other ≡ Some found) ⊎ (found ≡ search)
    kept [] class other read = absurd cc
    kept (m ∷ marks) zero zero read = let e : search ≡ found = cc in inr (sym e)
    kept (m ∷ marks) zero (suc other) read = inl read
    kept (m ∷ marks) (suc class) zero read = inl read
    kept (m ∷ marks) (suc class) (suc other) read = kept marks class other read

-- ---- the search

pub record Searches (linked : Linked) (row : ℕ) (named : List (List ℕ)) (marks : List ℕ) (search : ℕ) (stack : List ℕ) : Type 0 where
  pub roots : List (List ℕ)
  pub earlier : List (List ℕ)
  pub before : Superinterfaces linked.ids.now roots earlier
  pub handled : List (List ℕ)
  pub rest : List (List ℕ)
  pub all : Superinterfaces linked.ids.now named (handled ++ rest)
  pub pending : List (List ℕ)
  pub numbers : AreNumbersOf linked.names.now pending (reverse stack)
  pub upper : Superinterfaces linked.ids.now pending rest
  pub clear_earlier : NoneOf (Has linked row) earlier
  pub clear : NoneOf (Has linked row) handled
  pub among : (class : ℕ) → slice_get marks class ≡ Some search → (name : List ℕ) × (slice_get linked.names.now class ≡ Some name) × Among (earlier ++ handled) name

pub searches_first : (law : InterfacesHaveLists) (linked : Linked) (row : ℕ) (named : List (List ℕ)) (marks : List ℕ) (search : ℕ) (classes stack : List ℕ) → IsKnown linked → AreEntered linked row marks search →
    AreNumbersOf linked.names.now named classes → stack ≡ reverse classes → Searches linked row named marks search stack
searches_first law linked row named marks search classes stack known entered are is =
    let (listed, all) = law linked.ids.now linked.classes.now known.sound named in
    let order : reverse stack ≡ classes = ap reverse is ∙ reverse-reverse classes in
    record {
      roots = entered.named;
      earlier = entered.searched;
      before = entered.above;
      handled = [];
      rest = listed;
      all = all;
      pending = named;
      numbers = subst (AreNumbersOf linked.names.now named) (sym order) are;
      upper = all;
      clear_earlier = entered.clear;
      clear = tt;
      among = λ class marked.
          let (name, there, held) = entered.among class marked in
          (name, there, in_front entered.searched [] name (contains_among entered.searched name held));
    }

pub searches_done : (linked : Linked) (row : ℕ) (named : List (List ℕ)) (marks : List ℕ) (search : ℕ) (stack : List ℕ) → stack ≡ [] → Searches linked row named marks search stack → IsFoundAbove linked row marks search named None
searches_done linked row named marks search stack empty s = from s.rest s.pending (subst (λ l. AreNumbersOf linked.names.now s.pending (reverse l)) empty s.numbers) s.upper s.all
  where
    from : (rest pending : List (List ℕ)) → AreNumbersOf linked.names.now pending [] → Superinterfaces linked.ids.now pending rest → Superinterfaces linked.ids.now named (s.handled ++ rest) → IsFoundAbove linked row marks search named None
    from rest (x ∷ pending) numbers upper all = absurd cc
    from _ [] numbers Superinterfaces.none all =
        let whole : Superinterfaces linked.ids.now named s.handled = subst (Superinterfaces linked.ids.now named) (ends_empty s.handled) all in (
          s.handled,
          whole,
          s.clear,
          record {
            named = s.roots ++ named;
            searched = s.earlier ++ s.handled;
            above = both linked.ids.now s.roots named s.earlier s.handled s.before whole;
            clear = none_of_both (Has linked row) s.earlier s.handled s.clear_earlier s.clear;
            among = λ class marked.
                let (name, there, held) = s.among class marked in
                (name, there, among_contains (s.earlier ++ s.handled) name held);
          },
        )

-- what comes off the stack
pub record Taken (linked : Linked) (left : List ℕ) (class : ℕ) (rest : List (List ℕ)) : Type 0 where
  pub name : List ℕ
  pub there : slice_get linked.names.now class ≡ Some name
  pub others : List (List ℕ)
  pub numbers : AreNumbersOf linked.names.now others (reverse left)
  pub begins : Begins linked.ids.now name others rest

pub taken : (linked : Linked) (left : List ℕ) (class : ℕ) (pending rest : List (List ℕ)) → AreNumbersOf linked.names.now pending (class ∷ reverse left) → Superinterfaces linked.ids.now pending rest → Taken linked left class rest
taken linked left class [] rest numbers upper = absurd cc
taken linked left class (name ∷ others) rest numbers upper =
    let head : slice_get linked.names.now class ≡ Some name = cc in
    let tail : map (slice_get linked.names.now) (reverse left) ≡ map Some others = cc in
    record { name = name; there = head; others = others; numbers = tail; begins = begins linked.ids.now name others rest upper }

module _ (linked : Linked) (row : ℕ) (named : List (List ℕ)) (marks : List ℕ) (search : ℕ) (stack left : List ℕ) (class : ℕ) (split : stack ≡ left ++ class ∷ []) (s : Searches linked row named marks search stack) where
  abbrev pub t : Taken linked left class s.rest
  t = taken linked left class s.pending s.rest (subst (AreNumbersOf linked.names.now s.pending) (ap reverse split ∙ reverse-append left (class ∷ [])) s.numbers) s.upper

  pub searches_within : class < length linked.names.now
  searches_within = slice_get_within linked.names.now class t.name t.there

  -- all that is handled before, and the rest
  abbrev behind : List (List ℕ)
  behind = t.begins.behind

  on_and_on : s.handled ++ s.rest ≡ (s.handled ++ (t.name ∷ t.begins.above)) ++ behind
  on_and_on = ap (λ r. s.handled ++ r) t.begins.is ∙ sym (together s.handled (t.name ∷ t.begins.above) behind)

  whole : Superinterfaces linked.ids.now (s.roots ++ named) ((s.earlier ++ s.handled) ++ (t.name ∷ (t.begins.above ++ behind)))
  whole = subst (Superinterfaces linked.ids.now (s.roots ++ named)) (ap (λ r. s.earlier ++ (s.handled ++ r)) t.begins.is ∙ sym (together s.earlier s.handled (t.name ∷ (t.begins.above ++ behind))))
      (both linked.ids.now s.roots named s.earlier (s.handled ++ s.rest) s.before s.all)

  wider : (more : List (List ℕ)) (name : List ℕ) → Among (s.earlier ++ s.handled) name → Among (s.earlier ++ (s.handled ++ more)) name
  wider more name held = subst (λ l. Among l name) (together s.earlier s.handled more) (in_front (s.earlier ++ s.handled) more name held)

  -- it was entered before
  pub searches_skip : slice_get marks class ≡ Some search → Searches linked row named marks search left
  searches_skip marked =
      let (name, there, held) = s.among class marked in
      let same : name ≡ t.name = some_is name t.name (sym there ∙ t.there) in
      let clear = met_again linked.ids.now (Has linked row) (s.roots ++ named) (s.earlier ++ s.handled) t.name t.begins.above behind whole t.begins.up
      (subst (λ n. Among (s.earlier ++ s.handled) n) same held) (none_of_both (Has linked row) s.earlier s.handled s.clear_earlier s.clear) in
      record {
        roots = s.roots;
        earlier = s.earlier;
        before = s.before;
        handled = s.handled ++ (t.name ∷ t.begins.above);
        rest = behind;
        all = subst (Superinterfaces linked.ids.now named) on_and_on s.all;
        pending = t.others;
        numbers = t.numbers;
        upper = t.begins.on;
        clear_earlier = s.clear_earlier;
        clear = none_of_both (Has linked row) s.handled (t.name ∷ t.begins.above) s.clear clear;
        among = λ other is. let (n, where_is, among) = s.among other is in (n, where_is, wider (t.name ∷ t.begins.above) n among);
      }

  -- it has the member
  pub searches_found : (place : ℕ) → Some place ≡ place_of linked.ids.now linked.classes.now linked.table t.name (member_of linked.ids.now linked.table row) → IsFound linked row (s.handled ++ s.rest) (record { class = class; place = place })
  searches_found place placed = record {
    owner = t.name;
    there = t.there;
    first = first_behind (Has linked row) s.handled s.rest t.name s.clear (subst (λ r. First (Has linked row) r t.name) (sym t.begins.is) (First.here (has linked row place t.name placed)));
    placed = sym placed;
  }

  pub searches_found_above : (place : ℕ) → Some place ≡ place_of linked.ids.now linked.classes.now linked.table t.name (member_of linked.ids.now linked.table row) → (marks : List ℕ) → IsFoundAbove linked row marks search named (Some (record { class = class; place = place }))
  searches_found_above place placed marks = (s.handled ++ s.rest, s.all, searches_found place placed)

  -- it is entered
  pub searches_more : (mark : ℕ) (outline : Outline) (next : List ℕ) → IsKnown linked → slice_get marks class ≡ Some mark → slice_get linked.outlines.now class ≡ Some outline →
      ¬ Has linked row t.name → next ≡ left ++ reverse outline.interfaces → Searches linked row named (slice_set marks class search) search next
  searches_more mark outline next known there outlined lacks is = record {
    roots = s.roots;
    earlier = s.earlier;
    before = s.before;
    handled = s.handled ++ t.name ∷ [];
    rest = t.begins.above ++ behind;
    all = subst (Superinterfaces linked.ids.now named) (ap (λ r. s.handled ++ r) t.begins.is ∙ sym (together s.handled (t.name ∷ []) (t.begins.above ++ behind))) s.all;
    pending = interfaces_named linked.ids.now t.name ++ t.others;
    numbers = subst (AreNumbersOf linked.names.now (interfaces_named linked.ids.now t.name ++ t.others)) (sym order)
        (numbers_both linked.names.now (interfaces_named linked.ids.now t.name) t.others outline.interfaces (reverse left) (known.outlines.each class t.name outline t.there outlined).interfaces t.numbers);
    upper = both linked.ids.now (interfaces_named linked.ids.now t.name) t.others t.begins.above behind t.begins.up t.begins.on;
    clear_earlier = s.clear_earlier;
    clear = none_of_both (Has linked row) s.handled (t.name ∷ []) s.clear (lacks, tt);
    among = λ other marked. elim (set_there marks class mark search other there marked) [
      | inl old ↦ let (n, where_is, among) = s.among other old in (n, where_is, wider (t.name ∷ []) n among)
      | inr new ↦ (t.name, ap (slice_get linked.names.now) new ∙ t.there, subst (λ l. Among l t.name) (together s.earlier s.handled (t.name ∷ [])) (at_end (s.earlier ++ s.handled) t.name))
    ];
  }
    where
      order : reverse next ≡ outline.interfaces ++ reverse left
      order = ap reverse is ∙ (reverse-append left (reverse outline.interfaces) ∙ ap (λ r. r ++ reverse left) (reverse-reverse outline.interfaces))

-- Ways up, and classes that are put behind those above them.
use Rattle.std.proofs.Common.{◌≡◌, ◌⊎◌, inl, inr, ℕ, zero, suc, ◌+◌, ◌<◌, ◌≤◌, Bool, true, List, [], ◌∷◌, ◌++◌, length, get_or, reverse, Option, Some, None, slice_get, refl, sym, ap, subst, ◌∙◌, arith}
use Rattle.std.specs.Prelude.{◌↔◌, Contains, option_and_then}
use Rattle.std.proofs.lemmas.Bool.{cases_lt}
use Rattle.std.proofs.lemmas.List.{append_assoc, append-nil, reverse-append, reverse-reverse}
use Rattle.std.proofs.lemmas.List.Elements.{Contains-append_left, Contains-append_right, Contains-append_cases, Contains-push, Contains-push_cases}
use Rattle.std.proofs.lemmas.Option.{slice_get_cases, slice_get_within, slice_get-get_or, get_or_from_slice_get}
use Rattle.cc_meaning_program.specs.declared.outline.Outline.{Outline}
use Rattle.cc_hierarchy.specs.Graphs.{IsMarked}
use Rattle.cc_hierarchy.specs.FromTheTop.{superclass_at, Leads, top, up, AllLead, AreFromTheTop, Way, here, above, Climbed, until, whole, IsClimb, Begins, nothing, one_more, AreTaken}

same_some : {A : Type 0} (x y : A) → Some x ≡ Some y → x ≡ y
same_some x y e = cc

none_is_some : {A : Type 0} (x : A) (o : Option A) → o ≡ None → o ≡ Some x → ⊥
none_is_some x o e f = cc

-- ---- lists

first_held : (x : ℕ) (xs : List ℕ) → Contains (x ∷ xs) x
first_held x xs = (0, omega arith, refl)

behind_held : (x y : ℕ) (xs : List ℕ) → Contains xs y → Contains (x ∷ xs) y
behind_held x y xs (k, within, same) = (suc k, omega (arith, within), same)

held_cases : (x y : ℕ) (xs : List ℕ) → Contains (x ∷ xs) y → (x ≡ y) ⊎ Contains xs y
held_cases x y xs (zero, within, same) = inl same
held_cases x y xs (suc k, within, same) = inr (k, omega (arith, within), same)

turned : (xs : List ℕ) (x : ℕ) → Contains xs x → Contains (reverse xs) x
turned [] x held = held
turned (y ∷ ys) x held = subst (λ zs. Contains zs x) (sym (reverse-append (y ∷ []) ys)) (from (held_cases y x ys held) (turned ys x))
  where
    from : (y ≡ x) ⊎ Contains ys x → (Contains ys x → Contains (reverse ys) x) → Contains (reverse ys ++ y ∷ []) x
    from (inl same) on = subst (Contains (reverse ys ++ y ∷ [])) same (Contains-push (reverse ys) y)
    from (inr later) on = Contains-append_left (reverse ys) (y ∷ []) x (on later)

turned_back : (xs : List ℕ) (x : ℕ) → Contains (reverse xs) x → Contains xs x
turned_back xs x held = subst (λ ys. Contains ys x) (reverse-reverse xs) (turned (reverse xs) x held)

-- ---- ways

at_within : (outlines : List Outline) (class next : ℕ) → superclass_at outlines class ≡ Some next → class < length outlines
unfolding superclass_at
at_within outlines class next is = from ((slice_get_cases outlines class).1)
  where
    from : ((x : Outline) × (class < length outlines) × (slice_get outlines class ≡ Some x) × (get_or outlines class x ≡ x)) ⊎ ((length outlines ≤ class) × (slice_get outlines class ≡ None)) → class < length outlines
    from (inl (x, inside, there, same)) = inside
    from (inr (past, missing)) = absurd (none_is_some next _ (ap (option_and_then (λ (outline : Outline). outline.superclass)) missing) is)

leads_within : (outlines : List Outline) (class steps : ℕ) → Leads outlines class steps → class < length outlines
leads_within outlines class steps (top within is) = within
leads_within outlines class steps (up {above = next} is on) = at_within outlines class next is

leads_on : (outlines : List Outline) (class next steps : ℕ) → Leads outlines class steps → superclass_at outlines class ≡ Some next → (less : ℕ) × Leads outlines next less × (steps ≡ suc less)
leads_on outlines class next steps (top within is) e = absurd (none_is_some next _ is e)
leads_on outlines class next steps (up {above = other} {steps = less} is on) e = (less, subst (λ n. Leads outlines n less) (same_some other next (sym is ∙ e)) on, refl)

leads_once : (outlines : List Outline) (class these those : ℕ) → Leads outlines class these → Leads outlines class those → these ≡ those
leads_once outlines class these those (top within is) (top inside e) = refl
leads_once outlines class these those (top within is) (up {above = next} e on) = absurd (none_is_some next _ is e)
leads_once outlines class these those (up {above = next} {steps = less} is on) other =
    let (fewer, further, count) = leads_on outlines class next those other is in
    ap suc (leads_once outlines next less fewer on further) ∙ sym count

way_leads : (outlines : List Outline) (class end steps : ℕ) (passed : List ℕ) → Way outlines class passed end → Leads outlines class steps → (less : ℕ) × Leads outlines end less × (steps ≡ less + length passed)
way_leads outlines class end steps passed here on = (steps, on, omega arith)
way_leads outlines class end steps passed (above {next = next} {passed = rest} is way) on =
    let (less, further, count) = leads_on outlines class next steps on is in
    let (fewer, ends, sum) = way_leads outlines next end less rest way further in
    (fewer, ends, omega (arith, count, sum))

pub way_within : (outlines : List Outline) (class end : ℕ) (passed : List ℕ) → AllLead outlines → class < length outlines → Way outlines class passed end → end < length outlines
way_within outlines class end passed all within way =
    let (steps, on) = all class within in
    let (less, further, count) = way_leads outlines class end steps passed way on in
    leads_within outlines end less further

no_cycle : (outlines : List Outline) (class : ℕ) (rest : List ℕ) → AllLead outlines → class < length outlines → Way outlines class (class ∷ rest) class → ⊥
no_cycle outlines class rest all within way =
    let (steps, on) = all class within in
    let (less, further, count) = way_leads outlines class class steps (class ∷ rest) way on in
    let same = leads_once outlines class steps less on further in
    omega (arith, count, same)

-- a way goes up to each class that it passes, and on from there
split : (outlines : List Outline) (class end between : ℕ) (passed : List ℕ) → Way outlines class passed end → Contains passed between →
    (before : List ℕ) × (behind : List ℕ) × Way outlines class before between × Way outlines between (between ∷ behind) end
split outlines class end between passed here (k, within, same) = absurd (omega (arith, within))
split outlines class end between passed (above {passed = rest} is way) (zero, within, same) =
    ([], rest, subst (λ n. Way outlines class [] n) same here, subst (λ n. Way outlines n (n ∷ rest) end) same (above is way))
split outlines class end between passed (above {next = next} {passed = rest} is way) (suc k, within, same) =
    let (before, behind, there, on) = split outlines next end between rest way (k, omega (arith, within), same) in
    (class ∷ before, behind, above is there, on)

way_on : (outlines : List Outline) (class end next : ℕ) (passed : List ℕ) → Way outlines class passed end → superclass_at outlines end ≡ Some next → Way outlines class (passed ++ end ∷ []) next
way_on outlines class end next passed here e = above e here
way_on outlines class end next passed (above {next = on} {passed = rest} is way) e = above is (way_on outlines on end next rest way e)

-- ---- one more class, or more, behind those above them

over_placed : (outlines : List Outline) (class end : ℕ) (passed order : List ℕ) → Way outlines class passed end → Contains order end → Contains (order ++ reverse passed) class
over_placed outlines class end passed order here there = Contains-append_left order [] class there
over_placed outlines class end passed order (above {passed = rest} is way) there = Contains-append_right order (reverse (class ∷ rest)) class (turned (class ∷ rest) class (first_held class rest))

way_begins : (outlines : List Outline) (class end : ℕ) (passed order : List ℕ) → AllLead outlines → Way outlines class passed end → Begins outlines order → Contains order end →
    ((other : ℕ) → Contains passed other → ¬ Contains order other) → Begins outlines (order ++ reverse passed)
way_begins outlines class end passed order all here begins there fresh = subst (Begins outlines) (sym (append-nil order)) begins
way_begins outlines class end passed order all (above {next = over} {passed = rest} is way) begins there fresh =
    let on = way_begins outlines over end rest order all way begins there (λ other held. fresh other (behind_held class other rest held)) in
    subst (Begins outlines) (append_assoc order (reverse rest) (class ∷ []) ∙ ap (λ xs. order ++ xs) (sym (reverse-append (class ∷ []) rest)))
    (one_more on (λ held. twice (Contains-append_cases order (reverse rest) class held)) (λ other e. subst (Contains (order ++ reverse rest)) (same_some over other (sym is ∙ e)) (over_placed outlines over end rest order way there)))
  where
    twice : Contains order class ⊎ Contains (reverse rest) class → ⊥
    twice (inl placed) = fresh class (first_held class rest) placed
    twice (inr passed_before) =
        let (before, behind, round, further) = split outlines over end class rest way (turned_back rest class passed_before) in
        no_cycle outlines class before all (at_within outlines class over is) (above is round)

climbed_begins : (outlines : List Outline) (from : ℕ) (passed order : List ℕ) → AllLead outlines → from < length outlines → Climbed outlines (Contains order) from passed → Begins outlines order →
    ((other : ℕ) → Contains passed other → ¬ Contains order other) → Begins outlines (order ++ reverse passed)
climbed_begins outlines from passed order all within (until {end = end} way is) begins fresh = way_begins outlines from end passed order all way begins is fresh
climbed_begins outlines from passed order all within (whole {end = end} {passed = before} way none_above) begins fresh =
    let last = one_more begins (fresh end (Contains-push before end)) (λ other e. absurd (none_is_some other _ none_above e)) in
    let rest = way_begins outlines from end before (order ++ end ∷ []) all way last (Contains-push order end) (λ other held there. twice other held (Contains-push_cases order end other there)) in
    subst (Begins outlines) (append_assoc order (end ∷ []) (reverse before) ∙ ap (λ xs. order ++ xs) (sym (reverse-append before (end ∷ [])))) rest
  where
    twice : (other : ℕ) → Contains before other → Contains order other ⊎ (end ≡ other) → ⊥
    twice other held (inl placed) = fresh other (Contains-append_left before (end ∷ []) other held) placed
    twice other held (inr same) =
        let (start, behind, round, on) = split outlines from end end before way (subst (Contains before) (sym same) held) in
        no_cycle outlines end behind all (way_within outlines from end before all within way) on

pub superclass_read : (outlines : List Outline) (class : ℕ) (outline : Outline) → class < length outlines → superclass_at outlines class ≡ (get_or outlines class outline).superclass
unfolding superclass_at
superclass_read outlines class outline within = ap (option_and_then (λ (outline : Outline). outline.superclass)) (slice_get-get_or outlines class outline within)

-- ---- a climb

abbrev On : List Outline → ℕ → List ℕ → Option ℕ → Type 0
On outlines from passed None = Climbed outlines (λ class. ⊥) from passed
On outlines from passed (Some class) = Way outlines from passed class

-- so far, with the class that is next, if there is one
pub record Climbing (outlines : List Outline) (first now : List Bool) (from : ℕ) (next : Option ℕ) (passed : List ℕ) : Type 0 where
  pub wide : length now ≡ length outlines
  pub on : On outlines from passed next
  pub fresh : (class : ℕ) → Contains passed class → ¬ IsMarked first class
  pub noted : (class : ℕ) → IsMarked now class ↔ (IsMarked first class ⊎ Contains passed class)

nothing_held : (x : ℕ) → Contains [] x → ⊥
nothing_held x (k, within, same) = absurd (omega (arith, within))

pub climb_start : (outlines : List Outline) (first : List Bool) (from : ℕ) (passed : List ℕ) → length first ≡ length outlines → passed ≡ [] → Climbing outlines first first from (Some from) passed
climb_start outlines first from passed wide empty = record {
  wide = wide;
  on = subst (λ p. Way outlines from p from) (sym empty) here;
  fresh = λ class held. absurd (nothing_held class (subst (λ p. Contains p class) empty held));
  noted = λ class. (λ marked. inl marked, λ either. elim either [ inl marked ↦ marked | inr held ↦ absurd (nothing_held class (subst (λ p. Contains p class) empty held)) ]);
}

climb_next : (outlines : List Outline) (from class : ℕ) (next : Option ℕ) (passed : List ℕ) → Way outlines from passed class → superclass_at outlines class ≡ next → On outlines from (passed ++ class ∷ []) next
climb_next outlines from class None passed way is = whole way is
climb_next outlines from class (Some next) passed way is = way_on outlines from class next passed way is

pub climb_on : (outlines : List Outline) (first before now : List Bool) (from class : ℕ) (next : Option ℕ) (passed longer : List ℕ) → Climbing outlines first before from (Some class) passed → ¬ IsMarked before class → length now ≡ length before →
    ((other : ℕ) → IsMarked now other ↔ (IsMarked before other ⊎ (other ≡ class))) → longer ≡ passed ++ class ∷ [] → superclass_at outlines class ≡ next → Climbing outlines first now from next longer
climb_on outlines first before now from class next passed longer so_far unmarked same marked grown is = record {
  wide = same ∙ so_far.wide;
  on = subst (λ p. On outlines from p next) (sym grown) (climb_next outlines from class next passed so_far.on is);
  fresh = λ other held. fresh other (Contains-push_cases passed class other (subst (λ p. Contains p other) grown held));
  noted = λ other. (λ m. noted other ((marked other).0 m), λ either. (marked other).1 (back other either));
}
  where
    fresh : (other : ℕ) → Contains passed other ⊎ (class ≡ other) → ¬ IsMarked first other
    fresh other (inl held) = so_far.fresh other held
    fresh other (inr is_class) = λ m. unmarked ((so_far.noted class).1 (inl (subst (IsMarked first) (sym is_class) m)))

    noted : (other : ℕ) → IsMarked before other ⊎ (other ≡ class) → IsMarked first other ⊎ Contains longer other
    noted other (inl m) = elim ((so_far.noted other).0 m) [ inl f ↦ inl f | inr held ↦ inr (subst (λ p. Contains p other) (sym grown) (Contains-append_left passed (class ∷ []) other held)) ]
    noted other (inr is_class) = inr (subst (λ p. Contains p other) (sym grown) (subst (Contains (passed ++ class ∷ [])) (sym is_class) (Contains-push passed class)))

    held_or : (other : ℕ) → Contains passed other ⊎ (class ≡ other) → IsMarked before other ⊎ (other ≡ class)
    held_or other (inl held) = inl ((so_far.noted other).1 (inr held))
    held_or other (inr is_class) = inr (sym is_class)

    back : (other : ℕ) → IsMarked first other ⊎ Contains longer other → IsMarked before other ⊎ (other ≡ class)
    back other (inl f) = inl ((so_far.noted other).1 (inl f))
    back other (inr held) = held_or other (Contains-push_cases passed class other (subst (λ p. Contains p other) grown held))

begun_at : (outlines : List Outline) (is_so : ℕ → Type 0) (from end : ℕ) (passed : List ℕ) → Way outlines from passed end → ((class : ℕ) → Contains passed class → is_so class) → is_so end → is_so from
begun_at outlines is_so from end passed here each last = last
begun_at outlines is_so from end passed (above {passed = rest} is way) each last = each from (first_held from rest)

pub climb_until : (outlines : List Outline) (first before now : List Bool) (from class : ℕ) (passed : List ℕ) → AllLead outlines → from < length outlines → Climbing outlines first before from (Some class) passed → IsMarked before class →
    ((other : ℕ) → IsMarked now other ↔ (IsMarked before other ⊎ (other ≡ class))) → IsClimb outlines first now from passed
climb_until outlines first before now from class passed all within so_far is marked = record {
  climbed = until so_far.on (stopped ((so_far.noted class).0 is));
  fresh = so_far.fresh;
  noted = λ other. (λ m. (so_far.noted other).0 (was other ((marked other).0 m)), λ either. (marked other).1 (inl ((so_far.noted other).1 either)));
  begun = (marked from).1 (inl (begun_at outlines (IsMarked before) from class passed so_far.on (λ other held. (so_far.noted other).1 (inr held)) is));
}
  where
    was : (other : ℕ) → IsMarked before other ⊎ (other ≡ class) → IsMarked before other
    was other (inl m) = m
    was other (inr same) = subst (IsMarked before) (sym same) is

    stopped : IsMarked first class ⊎ Contains passed class → IsMarked first class
    stopped (inl m) = m
    stopped (inr held) =
        let (start, behind, round, on) = split outlines from class class passed so_far.on held in
        absurd (no_cycle outlines class behind all (way_within outlines from class passed all within so_far.on) on)

whole_climb : (outlines : List Outline) (is_so : ℕ → Type 0) (from : ℕ) (passed : List ℕ) → Climbed outlines (λ class. ⊥) from passed → Climbed outlines is_so from passed × Contains passed from
whole_climb outlines is_so from passed (until way never) = absurd never
whole_climb outlines is_so from passed (whole {end = end} {passed = before} way is) =
    (whole way is, begun_at outlines (Contains (before ++ end ∷ [])) from end before way (λ class held. Contains-append_left before (end ∷ []) class held) (Contains-push before end))

pub climb_whole : (outlines : List Outline) (first now : List Bool) (from : ℕ) (passed : List ℕ) → Climbing outlines first now from None passed → IsClimb outlines first now from passed
climb_whole outlines first now from passed so_far =
    let (climbed, begun) = whole_climb outlines (IsMarked first) from passed so_far.on in
    record { climbed = climbed; fresh = so_far.fresh; noted = so_far.noted; begun = (so_far.noted from).1 (inr begun) }

-- ---- climb after climb

climbed_as : (outlines : List Outline) (this that : ℕ → Type 0) (from : ℕ) (passed : List ℕ) → ((class : ℕ) → this class → that class) → Climbed outlines this from passed → Climbed outlines that from passed
climbed_as outlines this that from passed same (until {end = end} way is) = until way (same end is)
climbed_as outlines this that from passed same (whole way is) = whole way is

pub taken_start : (outlines : List Outline) (marks : List Bool) (order : List ℕ) → length marks ≡ length outlines → ((class : ℕ) → ¬ IsMarked marks class) → order ≡ [] → AreTaken outlines marks order
taken_start outlines marks order wide unmarked empty = record {
  wide = wide;
  same = λ class. (λ m. absurd (unmarked class m), λ held. absurd (nothing_held class (subst (λ o. Contains o class) empty held)));
  ordered = subst (Begins outlines) (sym empty) nothing;
}

pub taken_more : (outlines : List Outline) (marks now : List Bool) (from : ℕ) (order passed longer : List ℕ) → AllLead outlines → from < length outlines → AreTaken outlines marks order → length now ≡ length outlines →
    IsClimb outlines marks now from passed → longer ≡ order ++ reverse passed → AreTaken outlines now longer
taken_more outlines marks now from order passed longer all within taken wide climb grown = record {
  wide = wide;
  same = λ class. (λ m. subst (λ o. Contains o class) (sym grown) (placed class ((climb.noted class).0 m)), λ held. (climb.noted class).1 (back class (Contains-append_cases order (reverse passed) class (subst (λ o. Contains o class) grown held))));
  ordered = subst (Begins outlines) (sym grown)
      (climbed_begins outlines from passed order all within (climbed_as outlines (IsMarked marks) (Contains order) from passed (λ class m. (taken.same class).0 m) climb.climbed) taken.ordered
      (λ class held there. climb.fresh class held ((taken.same class).1 there)));
}
  where
    placed : (class : ℕ) → IsMarked marks class ⊎ Contains passed class → Contains (order ++ reverse passed) class
    placed class (inl m) = Contains-append_left order (reverse passed) class ((taken.same class).0 m)
    placed class (inr held) = Contains-append_right order (reverse passed) class (turned passed class held)

    back : (class : ℕ) → Contains order class ⊎ Contains (reverse passed) class → IsMarked marks class ⊎ Contains passed class
    back class (inl held) = inl ((taken.same class).1 held)
    back class (inr held) = inr (turned_back passed class held)

pub each_more : (outlines : List Outline) (marks now : List Bool) (from : ℕ) (order passed longer : List ℕ) → AreTaken outlines marks order → AreTaken outlines now longer → IsClimb outlines marks now from passed →
    ((class : ℕ) → class < from → Contains order class) → (class : ℕ) → class < from + 1 → Contains longer class
each_more outlines marks now from order passed longer taken more climb each class below = earlier (cases_lt class from)
  where
    earlier : (class < from) ⊎ (from ≤ class) → Contains longer class
    earlier (inl less) = (more.same class).0 ((climb.noted class).1 (inl ((taken.same class).1 (each class less))))
    earlier (inr least) =
        let same : from ≡ class = omega (arith, least, below) in
        subst (Contains longer) same ((more.same from).0 climb.begun)

-- ---- the whole order

last_or_before : (xs : List ℕ) (x y : ℕ) (k : ℕ) → slice_get (xs ++ x ∷ []) k ≡ Some y → (slice_get xs k ≡ Some y) ⊎ ((k ≡ length xs) × (x ≡ y))
last_or_before [] x y zero e = inr (refl, cc)
last_or_before [] x y (suc k) e = absurd (cc)
last_or_before (z ∷ zs) x y zero e = inl e
last_or_before (z ∷ zs) x y (suc k) e = elim (last_or_before zs x y k e) [ inl before ↦ inl before | inr last ↦ inr (omega (arith, last.0), last.1) ]

still_there : (xs ys : List ℕ) (k x : ℕ) → slice_get xs k ≡ Some x → slice_get (xs ++ ys) k ≡ Some x
still_there [] ys k x e = absurd (cc)
still_there (z ∷ zs) ys zero x e = e
still_there (z ∷ zs) ys (suc k) x e = still_there zs ys k x e

held_at : (xs : List ℕ) (k x : ℕ) → slice_get xs k ≡ Some x → Contains xs x
held_at xs k x there = (k, slice_get_within xs k x there, get_or_from_slice_get xs k x x there)

place_of : (xs : List ℕ) (x : ℕ) → Contains xs x → (k : ℕ) × (k < length xs) × (slice_get xs k ≡ Some x)
place_of xs x (k, within, same) = (k, within, slice_get-get_or xs k x within ∙ ap Some same)

once : (outlines : List Outline) (order : List ℕ) → Begins outlines order → (earlier later class : ℕ) → slice_get order earlier ≡ Some class → slice_get order later ≡ Some class → earlier ≡ later
once outlines order nothing earlier later class one two = absurd (nothing_held class (held_at [] earlier class one))
once outlines order (one_more {order = before} {class = last} begins new over) earlier later class one two =
    from (last_or_before before last class earlier one) (last_or_before before last class later two) (λ a b. once outlines before begins earlier later class a b)
  where
    from : (slice_get before earlier ≡ Some class) ⊎ ((earlier ≡ length before) × (last ≡ class)) → (slice_get before later ≡ Some class) ⊎ ((later ≡ length before) × (last ≡ class)) →
        (slice_get before earlier ≡ Some class → slice_get before later ≡ Some class → earlier ≡ later) → earlier ≡ later
    from (inl a) (inl b) rest = rest a b
    from (inl a) (inr b) rest = absurd (new (subst (Contains before) (sym b.1) (held_at before earlier class a)))
    from (inr a) (inl b) rest = absurd (new (subst (Contains before) (sym a.1) (held_at before later class b)))
    from (inr a) (inr b) rest = a.0 ∙ sym b.0

behind : (outlines : List Outline) (order : List ℕ) → Begins outlines order → (place class over : ℕ) → slice_get order place ≡ Some class → superclass_at outlines class ≡ Some over → (earlier : ℕ) × (earlier < place) × (slice_get order earlier ≡ Some over)
behind outlines order nothing place class over there is = absurd (nothing_held class (held_at [] place class there))
behind outlines order (one_more {order = before} {class = last} begins new held) place class over there is = from (last_or_before before last class place there) (λ a. behind outlines before begins place class over a is)
  where
    from : (slice_get before place ≡ Some class) ⊎ ((place ≡ length before) × (last ≡ class)) → (slice_get before place ≡ Some class → (earlier : ℕ) × (earlier < place) × (slice_get before earlier ≡ Some over)) →
        (earlier : ℕ) × (earlier < place) × (slice_get (before ++ last ∷ []) earlier ≡ Some over)
    from (inl a) rest = let (earlier, less, found) = rest a in (earlier, less, still_there before (last ∷ []) earlier over found)
    from (inr a) rest =
        let (earlier, less, found) = place_of before over (held over (subst (λ n. superclass_at outlines n ≡ Some over) (sym a.1) is)) in
        (earlier, omega (arith, less, a.0), still_there before (last ∷ []) earlier over found)

pub taken_all : (outlines : List Outline) (marks : List Bool) (order : List ℕ) → AreTaken outlines marks order → ((class : ℕ) → class < length outlines → Contains order class) → AreFromTheTop outlines order
taken_all outlines marks order taken each = record {
  all = λ class. (λ held. omega (arith, taken.wide, slice_get_within marks class true ((taken.same class).1 held)), each class);
  once = once outlines order taken.ordered;
  behind = behind outlines order taken.ordered;
}

-- Heads and a row: what a write to the row, and a longer row or table, does to the objects.
use Rattle.std.proofs.Common.{◌≡◌, ℕ, zero, suc, ◌+◌, ◌<◌, ◌≤◌, ◌^◌, List, [], ◌∷◌, ◌++◌, length, take, drop, Option, Some, None, slice_get, slice_set, option_map, refl, ap, sym, subst, ◌∙◌, arith}
use Rattle.std.proofs.lemmas.List.{take-set-le, drop-set-lt, drop-set-add, drop-append-le, take-append-le, take_all, drop_at, length-drop, length-take-le, length-append, map-set, map_push}
use Rattle.std.proofs.lemmas.Option.{slice_get-map}
use Rattle.cc_meaning.specs.declared.value.Object.{Object}
use Rattle.cc_meaning.specs.declared.value.Value.{Value}
use Rattle.cc_world.specs.declared.heap.Form.{Form}
use Rattle.cc_world.specs.declared.heap.Head.{Head}
use Rattle.cc_world.specs.declared.heap.Head.TheVariants as head
use Rattle.cc_world.specs.Flat.{span, formed, object_in, objects_in, slots_in, FitsAt, Laid, IsWhole}

-- ---- parts of the row

-- a value behind a part isn't in it
pub behind_span : (row : List Value) (from len at : ℕ) (v : Value) → from + len ≤ at → span from len (slice_set row at v) ≡ span from len row
behind_span row zero len at v h = take-set-le len row at v (omega (arith, h))
behind_span [] (suc from) len at v h = refl
behind_span (x ∷ row) (suc from) len zero v h = absurd (omega (arith, h))
behind_span (x ∷ row) (suc from) len (suc at) v h = behind_span row from len at v (omega (arith, h))

pub before_span : (row : List Value) (from len at : ℕ) (v : Value) → at < from → span from len (slice_set row at v) ≡ span from len row
before_span row from len at v h = ap (take len) (drop-set-lt from row at v h)

take_set : (row : List Value) (len i : ℕ) (v : Value) → i < len → take len (slice_set row i v) ≡ slice_set (take len row) i v
take_set row zero i v h = absurd (omega (arith, h))
take_set [] (suc len) i v h = refl
take_set (x ∷ row) (suc len) zero v h = refl
take_set (x ∷ row) (suc len) (suc i) v h = ap (λ (r : List Value). x ∷ r) (take_set row len i v (omega (arith, h)))

pub in_span : (row : List Value) (from len i : ℕ) (v : Value) → i < len → span from len (slice_set row (from + i) v) ≡ slice_set (span from len row) i v
in_span row from len i v h = ap (take len) (drop-set-add from row i v) ∙ take_set (drop from row) len i v h

-- a longer row
pub longer_span : (row more : List Value) (from len : ℕ) → from + len ≤ length row → span from len (row ++ more) ≡ span from len row
longer_span row more from len h =
    ap (take len) (drop-append-le from row more (omega (arith, h))) ∙ take-append-le len (drop from row) more (omega (arith, h, length-drop from row))

pub new_span : (row more : List Value) → span (length row) (length more) (row ++ more) ≡ more
new_span row more = ap (take (length more)) (drop_at row more (length row) refl) ∙ take_all (length more) more (omega arith)

pub span_length : (row : List Value) (from len : ℕ) → from + len ≤ length row → length (span from len row) ≡ len
span_length row from len h = length-take-le len (drop from row) (omega (arith, h, length-drop from row))

get_take : (row : List Value) (len i : ℕ) → i < len → slice_get (take len row) i ≡ slice_get row i
get_take row zero i h = absurd (omega (arith, h))
get_take [] (suc len) i h = refl
get_take (x ∷ row) (suc len) zero h = refl
get_take (x ∷ row) (suc len) (suc i) h = get_take row len i (omega (arith, h))

pub get_span : (row : List Value) (from len i at : ℕ) → i < len → at ≡ from + i → slice_get (span from len row) i ≡ slice_get row at
get_span row zero len i at h e = get_take row len i h ∙ ap (slice_get row) (let same : i ≡ at = omega (arith, e) in same)
get_span [] (suc from) zero i at h e = absurd (omega (arith, h))
get_span [] (suc from) (suc len) i at h e = refl
get_span (x ∷ row) (suc from) len i zero h e = absurd (omega (arith, e))
get_span (x ∷ row) (suc from) len i (suc at) h e = get_span row from len i at h (omega (arith, e))

-- ---- heads that are laid side by side

pub laid_end : (hs : List Head) (row : List Value) (at : ℕ) → Laid at hs row → at ≤ length row
laid_end [] row at l = omega (arith, l)
laid_end (h ∷ hs) row at l = let rest : at + slots_in h ≤ length row = laid_end hs row (at + slots_in h) l.1 in omega (arith, rest)

-- where the values of a head are
pub data Found (at : ℕ) (row : List Value) (h : Head) : Type 0 where
  found : (place : ℕ) → at ≤ place → FitsAt place h → place + slots_in h ≤ length row → Found at row h

pub head_fits : (hs : List Head) (row : List Value) (at id : ℕ) (h : Head) → Laid at hs row → slice_get hs id ≡ Some h → Found at row h
head_fits [] row at id h l e = absurd (cc)
head_fits (x ∷ hs) row at zero h l e =
    let same : x ≡ h = cc in
    found at (omega arith) (subst (FitsAt at) same l.0)
    (subst (λ (y : Head). at + slots_in y ≤ length row) same (laid_end hs row (at + slots_in x) l.1))
head_fits (x ∷ hs) row at (suc id) h l e = further (head_fits hs row (at + slots_in x) id h l.1 e)
  where
    further : Found (at + slots_in x) row h → Found at row h
    further (found place above fits within) = found place (omega (arith, above)) fits within

pub slots_fit : (hs : List Head) (row : List Value) (at id : ℕ) (form : Form) (class from len : ℕ) → Laid at hs row →
    slice_get hs id ≡ Some (head.Slots form class from len) → (at ≤ from) × ((len < 2 ^ 32) × (from + len ≤ length row))
slots_fit hs row at id form class from len l e = split (head_fits hs row at id (head.Slots form class from len) l e)
  where
    split : Found at row (head.Slots form class from len) → (at ≤ from) × ((len < 2 ^ 32) × (from + len ≤ length row))
    split (found place above fits within) = (omega (arith, above, fits.0), (fits.1, omega (arith, within, fits.0)))

pub laid_other : (hs : List Head) (row row' : List Value) (at : ℕ) → length row' ≡ length row → Laid at hs row → Laid at hs row'
laid_other [] row row' at e l = l ∙ sym e
laid_other (h ∷ hs) row row' at e l = (l.0, laid_other hs row row' (at + slots_in h) e l.1)

-- ---- a write to the row

before_object : (h : Head) (row : List Value) (at k : ℕ) (v : Value) → FitsAt at h → k < at → object_in (slice_set row k v) h ≡ object_in row h
before_object head.Out row at k v f below = refl
before_object (head.Slots form class from len) row at k v f below = ap (formed form class) (before_span row from len k v (omega (arith, f.0, below)))
before_object (head.Text units) row at k v f below = refl
before_object (head.Builder units) row at k v f below = refl
before_object (head.Constant class) row at k v f below = refl

behind_object : (h : Head) (row : List Value) (at k : ℕ) (v : Value) → FitsAt at h → at + slots_in h ≤ k → object_in (slice_set row k v) h ≡ object_in row h
behind_object head.Out row at k v f above = refl
behind_object (head.Slots form class from len) row at k v f above = ap (formed form class) (behind_span row from len k v (omega (arith, f.0, above)))
behind_object (head.Text units) row at k v f above = refl
behind_object (head.Builder units) row at k v f above = refl
behind_object (head.Constant class) row at k v f above = refl

before_objects : (hs : List Head) (row : List Value) (at k : ℕ) (v : Value) → Laid at hs row → k < at → objects_in (slice_set row k v) hs ≡ objects_in row hs
before_objects [] row at k v l below = refl
before_objects (h ∷ hs) row at k v l below =
    let first : object_in (slice_set row k v) h ≡ object_in row h = before_object h row at k v l.0 below in
    let rest : objects_in (slice_set row k v) hs ≡ objects_in row hs = before_objects hs row (at + slots_in h) k v l.1 (omega (arith, below)) in
    cc

pub slot_written : (hs : List Head) (row : List Value) (at id : ℕ) (form : Form) (class from len i k : ℕ) (v : Value) → Laid at hs row →
    slice_get hs id ≡ Some (head.Slots form class from len) → i < len → k ≡ from + i →
    objects_in (slice_set row k v) hs ≡ slice_set (objects_in row hs) id (formed form class (slice_set (span from len row) i v))
slot_written [] row at id form class from len i k v l e within is = absurd (cc)
slot_written (h ∷ hs) row at zero form class from len i k v l e within is =
    let same : h ≡ head.Slots form class from len = cc in
    let fits : (from ≡ at) × (len < 2 ^ 32) = subst (FitsAt at) same l.0 in
    let slots : slots_in h ≡ len = ap slots_in same in
    let first : object_in (slice_set row k v) h ≡ formed form class (slice_set (span from len row) i v) =
    ap (object_in (slice_set row k v)) same ∙ ap (formed form class) (ap (λ (n : ℕ). span from len (slice_set row n v)) is ∙ in_span row from len i v within) in
    let rest : objects_in (slice_set row k v) hs ≡ objects_in row hs = before_objects hs row (at + slots_in h) k v l.1 (omega (arith, is, within, slots, fits.0)) in
    cc
slot_written (h ∷ hs) row at (suc id) form class from len i k v l e within is =
    let place : (at + slots_in h ≤ from) × ((len < 2 ^ 32) × (from + len ≤ length row)) = slots_fit hs row (at + slots_in h) id form class from len l.1 e in
    let first : object_in (slice_set row k v) h ≡ object_in row h = behind_object h row at k v l.0 (omega (arith, is, place.0)) in
    let rest : objects_in (slice_set row k v) hs ≡ slice_set (objects_in row hs) id (formed form class (slice_set (span from len row) i v)) =
    slot_written hs row (at + slots_in h) id form class from len i k v l.1 e within is in
    cc

-- ---- a longer table

whole_fits : (h : Head) (at : ℕ) → IsWhole h → FitsAt at h
whole_fits head.Out at w = w
whole_fits (head.Slots form class from len) at w = absurd w
whole_fits (head.Text units) at w = w
whole_fits (head.Builder units) at w = w
whole_fits (head.Constant class) at w = w

whole_has_none : (h : Head) → IsWhole h → slots_in h ≡ 0
whole_has_none head.Out w = refl
whole_has_none (head.Slots form class from len) w = absurd w
whole_has_none (head.Text units) w = refl
whole_has_none (head.Builder units) w = refl
whole_has_none (head.Constant class) w = refl

whole_object : (h : Head) (row : List Value) → IsWhole h → object_in row h ≡ object_in [] h
whole_object head.Out row w = refl
whole_object (head.Slots form class from len) row w = absurd w
whole_object (head.Text units) row w = refl
whole_object (head.Builder units) row w = refl
whole_object (head.Constant class) row w = refl

pub laid_whole : (hs : List Head) (row : List Value) (at : ℕ) (h : Head) → Laid at hs row → IsWhole h → Laid at (hs ++ h ∷ []) row
laid_whole [] row at h l w = (whole_fits h at w, omega (arith, l, whole_has_none h w))
laid_whole (x ∷ hs) row at h l w = (l.0, laid_whole hs row (at + slots_in x) h l.1 w)

pub objects_whole : (hs : List Head) (row : List Value) (h : Head) → IsWhole h → objects_in row (hs ++ h ∷ []) ≡ objects_in row hs ++ object_in [] h ∷ []
objects_whole hs row h w = map_push (object_in row) hs h ∙ ap (λ (o : Object). objects_in row hs ++ o ∷ []) (whole_object h row w)

pub laid_slots : (hs : List Head) (row more : List Value) (at : ℕ) (form : Form) (class from len : ℕ) → Laid at hs row → from ≡ length row → len ≡ length more →
    len < 2 ^ 32 → Laid at (hs ++ head.Slots form class from len ∷ []) (row ++ more)
laid_slots [] row more at form class from len l starts ends short = ((starts ∙ sym l, short), omega (arith, l, ends, length-append row more))
laid_slots (x ∷ hs) row more at form class from len l starts ends short =
    (l.0, laid_slots hs row more (at + slots_in x) form class from len l.1 starts ends short)

longer_object : (h : Head) (row more : List Value) (at : ℕ) → FitsAt at h → at + slots_in h ≤ length row → object_in (row ++ more) h ≡ object_in row h
longer_object head.Out row more at f within = refl
longer_object (head.Slots form class from len) row more at f within = ap (formed form class) (longer_span row more from len (omega (arith, f.0, within)))
longer_object (head.Text units) row more at f within = refl
longer_object (head.Builder units) row more at f within = refl
longer_object (head.Constant class) row more at f within = refl

longer_objects : (hs : List Head) (row more : List Value) (at : ℕ) → Laid at hs row → objects_in (row ++ more) hs ≡ objects_in row hs
longer_objects [] row more at l = refl
longer_objects (h ∷ hs) row more at l =
    let first : object_in (row ++ more) h ≡ object_in row h = longer_object h row more at l.0 (laid_end hs row (at + slots_in h) l.1) in
    let rest : objects_in (row ++ more) hs ≡ objects_in row hs = longer_objects hs row more (at + slots_in h) l.1 in
    cc

pub objects_slots : (hs : List Head) (row more : List Value) (at : ℕ) (form : Form) (class from len : ℕ) → Laid at hs row → from ≡ length row → len ≡ length more →
    objects_in (row ++ more) (hs ++ head.Slots form class from len ∷ []) ≡ objects_in row hs ++ formed form class more ∷ []
objects_slots hs row more at form class from len l starts ends =
    let old : objects_in (row ++ more) hs ≡ objects_in row hs = longer_objects hs row more at l in
    let values : span from len (row ++ more) ≡ more =
    ap (λ (n : ℕ). span n len (row ++ more)) starts ∙ (ap (λ (n : ℕ). span (length row) n (row ++ more)) ends ∙ new_span row more) in
    map_push (object_in (row ++ more)) hs (head.Slots form class from len) ∙
    (ap (λ (os : List Object). os ++ formed form class (span from len (row ++ more)) ∷ []) old ∙
    ap (λ (vs : List Value). objects_in row hs ++ formed form class vs ∷ []) values)

-- ---- another head

pub laid_replaced : (hs : List Head) (row : List Value) (at id : ℕ) (old h : Head) → Laid at hs row → slice_get hs id ≡ Some old → slots_in old ≡ 0 → IsWhole h →
    Laid at (slice_set hs id h) row
laid_replaced [] row at id old h l e none w = absurd (cc)
laid_replaced (x ∷ hs) row at zero old h l e none w =
    let same : slots_in x ≡ slots_in old = ap (λ (o : Option Head). slots_of_some o) e in
    let still : at + slots_in x ≡ at + slots_in h = omega (arith, same, none, whole_has_none h w) in
    (whole_fits h at w, subst (λ (n : ℕ). Laid n hs row) still l.1)
  where
    slots_of_some : Option Head → ℕ
    slots_of_some None = 0
    slots_of_some (Some y) = slots_in y
laid_replaced (x ∷ hs) row at (suc id) old h l e none w = (l.0, laid_replaced hs row (at + slots_in x) id old h l.1 e none w)

pub objects_replaced : (hs : List Head) (row : List Value) (id : ℕ) (h : Head) → objects_in row (slice_set hs id h) ≡ slice_set (objects_in row hs) id (object_in row h)
objects_replaced hs row id h = map-set (object_in row) hs id h

-- the object of a head
pub object_at : (hs : List Head) (row : List Value) (id : ℕ) (h : Head) → slice_get hs id ≡ Some h → slice_get (objects_in row hs) id ≡ Some (object_in row h)
object_at hs row id h e = slice_get-map (object_in row) hs id ∙ ap (option_map (object_in row)) e

-- texts and builders are short
pub text_fits : (hs : List Head) (row : List Value) (at id : ℕ) (units : List ℕ) → Laid at hs row → slice_get hs id ≡ Some (head.Text units) → length units < 2 ^ 32
text_fits hs row at id units l e = short (head_fits hs row at id (head.Text units) l e)
  where
    short : Found at row (head.Text units) → length units < 2 ^ 32
    short (found place above fits within) = fits

pub builder_fits : (hs : List Head) (row : List Value) (at id : ℕ) (units : List ℕ) → Laid at hs row → slice_get hs id ≡ Some (head.Builder units) → length units < 2 ^ 32
builder_fits hs row at id units l e = short (head_fits hs row at id (head.Builder units) l e)
  where
    short : Found at row (head.Builder units) → length units < 2 ^ 32
    short (found place above fits within) = fits

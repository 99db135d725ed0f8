-- What reads and writes of a heap's fields come to for its objects. `hs` and `row` are the fields, `objects` what contracts see.
use Rattle.std.proofs.Common.{◌≡◌, ℕ, zero, suc, ◌+◌, ◌-◌, ◌<◌, ◌≤◌, ◌^◌, IsTrue, List, [], ◌∷◌, ◌++◌, length, take, replicate, Option, Some, slice_get, slice_set, slice_index_or, option_map, refl, ap, sym, subst, ◌∙◌, arith}
use Rattle.std.proofs.lemmas.Bool.{lt-ltb}
use Rattle.std.proofs.lemmas.List.{length-map, length_push, take_all}
use Rattle.std.proofs.lemmas.Option.{slice_get_read}
use Rattle.cc_meaning.specs.declared.value.Object.{Object}
use Rattle.cc_meaning.specs.declared.value.Object.TheVariants as object
use Rattle.cc_meaning.specs.declared.value.Value.{Value}
use Rattle.cc_meaning_world.specs.Changes.{put_in, with_value, rebuilt, values_set, more_units}
use Rattle.cc_world.specs.declared.heap.Form.{Form}
use Rattle.cc_world.specs.declared.heap.Form.TheVariants as form
use Rattle.cc_world.specs.declared.heap.Head.{Head}
use Rattle.cc_world.specs.declared.heap.Head.TheVariants as head
use Rattle.cc_world.specs.Shapes.{shape_of, values_of, values_in, is_builder}
use Rattle.cc_world.specs.Flat.{span, formed, shape_formed, object_in, objects_in, slots_in, Laid, IsWhole, Stored, Rewrites}
use Rattle.cc_world.proofs.Flat.{object_at, slots_fit, span_length, laid_slots, objects_slots, laid_whole}

-- ---- reading

pub count : (hs : List Head) (row : List Value) (objects : List Object) → objects_in row hs ≡ objects → length objects ≡ length hs
count hs row objects same = ap (λ (os : List Object). length os) (sym same) ∙ length-map hs (object_in row)

-- the head that is read at a number
pub head_read : (hs : List Head) (row : List Value) (objects : List Object) (id : ℕ) (x : Head) → objects_in row hs ≡ objects → id < length objects →
    x ≡ slice_index_or hs id x → slice_get hs id ≡ Some x
head_read hs row objects id x same within read =
    let all : length objects ≡ length hs = count hs row objects same in
    slice_get_read hs (length hs) id x refl (omega (arith, within, all)) read

pub object_read : (hs : List Head) (row : List Value) (objects : List Object) (id : ℕ) (x : Head) → objects_in row hs ≡ objects → id < length objects →
    x ≡ slice_index_or hs id x → slice_get objects id ≡ Some (object_in row x)
object_read hs row objects id x same within read =
    ap (λ (os : List Object). slice_get os id) (sym same) ∙ object_at hs row id x (head_read hs row objects id x same within read)

pub shape_read : (hs : List Head) (row : List Value) (objects : List Object) (id : ℕ) (x : Head) → objects_in row hs ≡ objects → id < length objects →
    x ≡ slice_index_or hs id x → option_map shape_of (slice_get objects id) ≡ Some (shape_of (object_in row x))
shape_read hs row objects id x same within read = ap (option_map shape_of) (object_read hs row objects id x same within read)

shape_of_formed : (f : Form) (class : ℕ) (values : List Value) → shape_of (formed f class values) ≡ shape_formed f class (length values)
shape_of_formed form.Instance class values = refl
shape_of_formed form.Array class values = refl

pub slots_shape : (hs : List Head) (row : List Value) (objects : List Object) (id : ℕ) (x : Head) (f : Form) (class from len : ℕ) → objects_in row hs ≡ objects →
    id < length objects → x ≡ slice_index_or hs id x → Laid 0 hs row → x ≡ head.Slots f class from len →
    option_map shape_of (slice_get objects id) ≡ Some (shape_formed f class len)
slots_shape hs row objects id x f class from len same within read laid is =
    let here : slice_get hs id ≡ Some (head.Slots f class from len) = head_read hs row objects id x same within read ∙ ap Some is in
    let fits : (0 ≤ from) × ((len < 2 ^ 32) × (from + len ≤ length row)) = slots_fit hs row 0 id f class from len laid here in
    shape_read hs row objects id x same within read ∙
    (ap (λ (h : Head). Some (shape_of (object_in row h))) is ∙
    (ap Some (shape_of_formed f class (span from len row)) ∙ ap (λ (n : ℕ). Some (shape_formed f class n)) (span_length row from len fits.1.1)))

-- what has values, and what is a builder, is there
pub has_values : (objects : List Object) (id i : ℕ) → i < length (values_in (slice_get objects id)) → id < length objects
has_values [] id i h = absurd (omega (arith, h))
has_values (o ∷ os) zero i h = omega arith
has_values (o ∷ os) (suc id) i h = let there : id < length os = has_values os id i h in omega (arith, there)

pub has_builder : (objects : List Object) (id : ℕ) → IsTrue (is_builder (slice_get objects id)) → id < length objects
has_builder [] id h = absurd (cc)
has_builder (o ∷ os) zero h = omega arith
has_builder (o ∷ os) (suc id) h = let there : id < length os = has_builder os id h in omega (arith, there)

pub none_elsewhere : (h : Head) (row : List Value) (i : ℕ) → i < length (values_of (object_in row h)) →
    ((f : Form) (class from len : ℕ) → h ≡ head.Slots f class from len → ⊥) → ⊥
none_elsewhere head.Out row i within not = omega (arith, within)
none_elsewhere (head.Slots f class from len) row i within not = not f class from len refl
none_elsewhere (head.Text units) row i within not = omega (arith, within)
none_elsewhere (head.Builder units) row i within not = omega (arith, within)
none_elsewhere (head.Constant class) row i within not = omega (arith, within)

values_formed : (f : Form) (class : ℕ) (values : List Value) → values_of (formed f class values) ≡ values
values_formed form.Instance class values = refl
values_formed form.Array class values = refl

-- a builder has no values
builder_formed : (f : Form) (class : ℕ) (values : List Value) → IsTrue (is_builder (Some (formed f class values))) → ⊥
builder_formed form.Instance class values h = cc
builder_formed form.Array class values h = cc

builder_head : (x : Head) (row : List Value) → IsTrue (is_builder (Some (object_in row x))) → slots_in x ≡ 0
builder_head head.Out row h = refl
builder_head (head.Slots f class from len) row h = absurd (builder_formed f class (span from len row) h)
builder_head (head.Text units) row h = refl
builder_head (head.Builder units) row h = refl
builder_head (head.Constant class) row h = refl

pub builder_has_none : (hs : List Head) (row : List Value) (objects : List Object) (id : ℕ) (x : Head) → objects_in row hs ≡ objects → id < length objects →
    x ≡ slice_index_or hs id x → IsTrue (is_builder (slice_get objects id)) → slots_in x ≡ 0
builder_has_none hs row objects id x same within read is =
    builder_head x row (subst (λ (o : Option Object). IsTrue (is_builder o)) (object_read hs row objects id x same within read) is)

-- ---- writing

pub same_stored : (a b : Stored) → a.objects ≡ b.objects → a.spare_objects ≡ b.spare_objects → a.spare_slots ≡ b.spare_slots → a ≡ b
same_stored a b os ns ss =
    let with_objects : List Object → Stored = λ o. record { objects = o; spare_objects = a.spare_objects; spare_slots = a.spare_slots } in
    let with_room : ℕ → Stored = λ n. record { objects = b.objects; spare_objects = n; spare_slots = a.spare_slots } in
    let with_slots : ℕ → Stored = λ n. record { objects = b.objects; spare_objects = b.spare_objects; spare_slots = n } in
    ap with_objects os ∙ (ap with_room ns ∙ ap with_slots ss)

pub written : (wanted : Option Object) (o : Object) (id : ℕ) (old new : Stored) → wanted ≡ Some o → new.objects ≡ slice_set old.objects id o →
    new.spare_objects ≡ old.spare_objects → new.spare_slots ≡ old.spare_slots → Rewrites wanted id old new
written wanted o id old new is objects spare slots =
    subst (λ (p : Option Object). Rewrites p id old new) (sym is) (same_stored new (record old { objects = slice_set old.objects id o }) objects spare slots)

put_formed : (f : Form) (class i : ℕ) (values : List Value) (v : Value) → i < length values →
    put_in i v (Some (formed f class values)) ≡ Some (formed f class (slice_set values i v))
unfolding put_in with_value rebuilt values_set
put_formed form.Instance class i values v within = rw (lt-ltb i (length values) within) refl
put_formed form.Array class i values v within = rw (lt-ltb i (length values) within) refl

pub slot_put : (hs : List Head) (row : List Value) (objects : List Object) (id i : ℕ) (v : Value) (x : Head) (f : Form) (class from len : ℕ) → objects_in row hs ≡ objects →
    i < length (values_in (slice_get objects id)) → x ≡ slice_index_or hs id x → Laid 0 hs row → x ≡ head.Slots f class from len →
    (i < len) × (put_in i v (slice_get objects id) ≡ Some (formed f class (slice_set (span from len row) i v)))
slot_put hs row objects id i v x f class from len same has read laid is =
    let within : id < length objects = has_values objects id i has in
    let here : slice_get hs id ≡ Some (head.Slots f class from len) = head_read hs row objects id x same within read ∙ ap Some is in
    let there : slice_get objects id ≡ Some (formed f class (span from len row)) = object_read hs row objects id x same within read ∙ ap (λ (h : Head). Some (object_in row h)) is in
    let fits : (0 ≤ from) × ((len < 2 ^ 32) × (from + len ≤ length row)) = slots_fit hs row 0 id f class from len laid here in
    let values : values_in (slice_get objects id) ≡ span from len row = ap values_in there ∙ values_formed f class (span from len row) in
    let below : i < length (span from len row) = subst (λ (vs : List Value). i < length vs) values has in
    (omega (arith, below, span_length row from len fits.1.1), ap (put_in i v) there ∙ put_formed f class i (span from len row) v below)

pub builder_more : (held more : List ℕ) → more_units more (Some (object.Builder held)) ≡ Some (object.Builder (held ++ more))
unfolding more_units
builder_more held more = refl

-- ---- new objects

pub pushed_few : (hs hs' : List Head) (row : List Value) (objects : List Object) (h : Head) → objects_in row hs ≡ objects → hs' ≡ hs ++ h ∷ [] →
    length objects + 1 < 2 ^ 32 → length hs' < 2 ^ 32
pushed_few hs hs' row objects h same is few =
    let all : length objects ≡ length hs = count hs row objects same in
    let more : length hs' ≡ length hs + 1 = ap (λ (xs : List Head). length xs) is ∙ length_push hs h in
    omega (arith, all, more, few)

pub pushed_whole : (hs hs' : List Head) (row : List Value) (objects : List Object) (h : Head) → objects_in row hs ≡ objects → hs' ≡ hs ++ h ∷ [] →
    length objects + 1 < 2 ^ 32 → Laid 0 hs row → IsWhole h → (length hs' < 2 ^ 32) × Laid 0 hs' row
pushed_whole hs hs' row objects h same is few laid whole =
    (pushed_few hs hs' row objects h same is few, subst (λ (xs : List Head). Laid 0 xs row) (sym is) (laid_whole hs row 0 h laid whole))

pub pushed_slots : (hs hs' : List Head) (row row' more : List Value) (objects : List Object) (f : Form) (class from len : ℕ) → objects_in row hs ≡ objects →
    hs' ≡ hs ++ head.Slots f class from len ∷ [] → row' ≡ row ++ more → length objects + 1 < 2 ^ 32 → Laid 0 hs row → from ≡ length row → len ≡ length more →
    len < 2 ^ 32 → (length hs' < 2 ^ 32) × Laid 0 hs' row'
pushed_slots hs hs' row row' more objects f class from len same is longer few laid starts ends short = (
  pushed_few hs hs' row objects (head.Slots f class from len) same is few,
  subst (λ (xs : List Head). Laid 0 xs row') (sym is)
      (subst (λ (r : List Value). Laid 0 (hs ++ head.Slots f class from len ∷ []) r) (sym longer) (laid_slots hs row more 0 f class from len laid starts ends short)),
)

pub slots_pushed : (hs hs' : List Head) (row row' more : List Value) (objects : List Object) (f : Form) (class from len : ℕ) → objects_in row hs ≡ objects →
    hs' ≡ hs ++ head.Slots f class from len ∷ [] → row' ≡ row ++ more → Laid 0 hs row → from ≡ length row → len ≡ length more →
    objects_in row' hs' ≡ objects ++ formed f class more ∷ []
slots_pushed hs hs' row row' more objects f class from len same is longer laid starts ends =
    ap (λ (r : List Value). objects_in r hs') longer ∙ (ap (objects_in (row ++ more)) is ∙
    (objects_slots hs row more 0 f class from len laid starts ends ∙ ap (λ (os : List Object). os ++ formed f class more ∷ []) same))

pub resized : (row row' : List Value) (end n len : ℕ) (v : Value) → end ≡ length row + len → n ≡ length row → row' ≡ take end row ++ replicate (end - n) v →
    row' ≡ row ++ replicate len v
resized row row' end n len v to same is =
    let all : take end row ≡ row = take_all end row (omega (arith, to)) in
    let left : end - n ≡ len = omega (arith, to, same) in
    is ∙ (ap (λ (r : List Value). r ++ replicate (end - n) v) all ∙ ap (λ (k : ℕ). row ++ replicate k v) left)

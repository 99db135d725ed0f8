-- Values of JSON.
use Rattle.std.proofs.Common.{◌≡◌, ◌≢◌, ℕ, suc, Bool, true, false, List, [], ◌∷◌, ◌++◌, length, drop, add-one, drop-cons, append_assoc, get_or, Option, Some, None, refl, ap, sym, ◌∙◌, arith}
use Rattle.std.specs.Prelude.{ℤ, ◌<◌, ◌≤◌, ◌+◌, option_map, option_and_then, is_some, String}
use Rattle.std.specs.declared.alloc.Global.{Global}
use Rattle.std.proofs.lemmas.Grind.{common_steps}
use Rattle.std.proofs.lemmas.List.{drop_all, append-nil}
use Rattle.serde_json.specs.Data.{Data, null, boolean, number, string, array, object, Members}
use Rattle.serde_json.specs.Find.{as_null, as_bool, as_number, as_str, as_array, as_object, as_i64}
use Rattle.serde_json.specs.View.{view, items_view, members_view}
use Rattle.serde_json.specs.declared.value.Value.{Value}
use Rattle.cc_meaning_script.specs.declared.listed.Listed.{Listed}
use Rattle.cc_meaning_script.specs.declared.listed.Listed.TheVariants as listed
use Rattle.cc_meaning_script.specs.Listed.{size, size_of, whole_or_other, marked, listed_of, all_of, pair_of, pair_of_items}

-- ---- the size of an object

size_is : (entries : List (String Global × Value)) → size (members_view entries) ≡ length entries
size_is [] = refl
size_is (e ∷ entries) = grind (arith, common_steps, size_is entries)

size_in : (d : Data) (members : Members) → Some members ≡ as_object d → size_of d ≡ size members
size_in null members e = absurd cc
size_in (boolean b) members e = absurd cc
size_in (number n) members e = absurd cc
size_in (string s) members e = absurd cc
size_in (array ds) members e = absurd cc
size_in (object ms) members e = let same : ms ≡ members = cc in ap size same

pub object_size : (d : Data) (entries : List (String Global × Value)) → Some (members_view entries) ≡ as_object d → length entries ≡ size_of d
object_size d entries e = sym (size_in d (members_view entries) e ∙ size_is entries)

pub no_object_size : (d : Data) → None ≡ as_object d → 0 ≡ size_of d
no_object_size null e = refl
no_object_size (boolean b) e = refl
no_object_size (number n) e = refl
no_object_size (string s) e = refl
no_object_size (array ds) e = refl
no_object_size (object ms) e = absurd cc

-- ---- an answer

pub truth_listed : (d : Data) (b : Bool) → Some b ≡ as_bool d → listed.Truth b ≡ listed_of d
truth_listed (boolean c) b e = let same : b ≡ c = cc in ap listed.Truth same
truth_listed null b e = absurd cc
truth_listed (number n) b e = absurd cc
truth_listed (string s) b e = absurd cc
truth_listed (array ds) b e = absurd cc
truth_listed (object ms) b e = absurd cc

pub text_listed : (d : Data) (t : List ℕ) → Some t ≡ as_str d → listed.Text t ≡ listed_of d
text_listed (string s) t e = let same : t ≡ s = cc in ap listed.Text same
text_listed null t e = absurd cc
text_listed (boolean b) t e = absurd cc
text_listed (number n) t e = absurd cc
text_listed (array ds) t e = absurd cc
text_listed (object ms) t e = absurd cc

pub null_listed : (d : Data) → true ≡ is_some (as_null d) → listed.Null ≡ listed_of d
null_listed null e = refl
null_listed (boolean b) e = absurd cc
null_listed (number n) e = absurd cc
null_listed (string s) e = absurd cc
null_listed (array ds) e = absurd cc
null_listed (object ms) e = absurd cc

pub number_listed : (d : Data) (z : Option ℤ) → true ≡ is_some (as_number d) → z ≡ option_and_then as_i64 (as_number d) → whole_or_other z ≡ listed_of d
number_listed (number n) z e same = ap whole_or_other same
number_listed null z e same = absurd cc
number_listed (boolean b) z e same = absurd cc
number_listed (string s) z e same = absurd cc
number_listed (array ds) z e same = absurd cc
number_listed (object ms) z e same = absurd cc

pub other_listed : (d : Data) → None ≡ as_bool d → None ≡ as_str d → false ≡ is_some (as_number d) → false ≡ is_some (as_null d) → marked d ≡ listed_of d
other_listed null b s n h = absurd cc
other_listed (boolean c) b s n h = absurd cc
other_listed (number x) b s n h = absurd cc
other_listed (string t) b s n h = absurd cc
other_listed (array ds) b s n h = refl
other_listed (object ms) b s n h = refl

-- ---- a list of values

pub next_of : {A : Type 0} (f : Data → Option A) (values : List Value) (i : ℕ) (value : Value) (x : A) → i < length values → value ≡ get_or values i value → Some x ≡ f (view value) →
    all_of f (items_view (drop i values)) ≡ option_map (λ xs. x ∷ xs) (all_of f (items_view (drop (i + 1) values)))
next_of f values i value x h is some =
    let split : drop i values ≡ value ∷ drop (i + 1) values = rw (add-one, drop-cons values i value) (ap (λ v. v ∷ drop (suc i) values) (sym is)) in
    ap (λ vs. all_of f (items_view vs)) split ∙ ap (option_and_then (λ x. option_map (λ xs. x ∷ xs) (all_of f (items_view (drop (i + 1) values))))) (sym some)

pub none_of : {A : Type 0} (f : Data → Option A) (values : List Value) (i : ℕ) (value : Value) → i < length values → value ≡ get_or values i value → None ≡ f (view value) →
    all_of f (items_view (drop i values)) ≡ None
none_of f values i value h is none =
    let split : drop i values ≡ value ∷ drop (i + 1) values = rw (add-one, drop-cons values i value) (ap (λ v. v ∷ drop (suc i) values) (sym is)) in
    ap (λ vs. all_of f (items_view vs)) split ∙ ap (option_and_then (λ x. option_map (λ xs. x ∷ xs) (all_of f (items_view (drop (i + 1) values))))) (sym none)

-- what was collected so far, and what is still to come
abbrev pub Collected : {A : Type 0} (f : Data → Option A) (values : List Value) (i : ℕ) (so_far : List A) → Type 0
Collected f values i so_far = all_of f (items_view values) ≡ option_map (λ xs. so_far ++ xs) (all_of f (items_view (drop i values)))

pub none_collected : {A : Type 0} (f : Data → Option A) (values : List Value) (so_far : List A) → so_far ≡ [] → Collected f values 0 so_far
none_collected {A = A} f values so_far e = kept (all_of f (items_view values)) so_far e
  where
    kept : (o : Option (List A)) (so_far : List A) → so_far ≡ [] → o ≡ option_map (λ xs. so_far ++ xs) o
    kept None so_far e = refl
    kept (Some xs) so_far e = ap (λ (ys : List A). Some (ys ++ xs)) (sym e)

pub one_collected : {A : Type 0} (f : Data → Option A) (values : List Value) (i : ℕ) (so_far more : List A) (value : Value) (x : A) →
    i < length values → value ≡ get_or values i value → Some x ≡ f (view value) → more ≡ so_far ++ x ∷ [] → Collected f values i so_far → Collected f values (i + 1) more
one_collected {A = A} f values i so_far more value x h is some grown before =
    before ∙ ap (option_map (λ xs. so_far ++ xs)) (next_of f values i value x h is some) ∙ moved (all_of f (items_view (drop (i + 1) values)))
  where
    moved : (o : Option (List A)) → option_map (λ xs. so_far ++ xs) (option_map (λ xs. x ∷ xs) o) ≡ option_map (λ xs. more ++ xs) o
    moved None = refl
    moved (Some xs) = ap Some (sym (append_assoc so_far (x ∷ []) xs) ∙ ap (λ (ys : List A). ys ++ xs) (sym grown))

pub all_collected : {A : Type 0} (f : Data → Option A) (values : List Value) (i : ℕ) (so_far : List A) → length values ≤ i → Collected f values i so_far → all_of f (items_view values) ≡ Some so_far
all_collected f values i so_far h before = before ∙ ap (λ vs. option_map (λ xs. so_far ++ xs) (all_of f (items_view vs))) (drop_all i values h) ∙ ap Some (append-nil so_far)

pub not_collected : {A : Type 0} (f : Data → Option A) (values : List Value) (i : ℕ) (so_far : List A) (value : Value) → i < length values → value ≡ get_or values i value → None ≡ f (view value) →
    Collected f values i so_far → all_of f (items_view values) ≡ None
not_collected f values i so_far value h is none before = before ∙ ap (option_map (λ xs. so_far ++ xs)) (none_of f values i value h is none)

-- ---- a pair

pub pair_is : (d : Data) (first second : Value) (m : List ℕ) (a : Listed) → Some (items_view (first ∷ second ∷ [])) ≡ as_array d → Some m ≡ as_str (view first) → a ≡ listed_of (view second) →
    Some (record { member = m; answer = a }) ≡ pair_of d
pair_is d first second m a items text said =
    ap (λ x. Some (record { member = m; answer = x })) said
    ∙ (ap (option_map (λ text. record { member = text; answer = listed_of (view second) })) text ∙ ap (option_and_then pair_of_items) items)

pub pair_of_no_text : (d : Data) (first second : Value) → Some (items_view (first ∷ second ∷ [])) ≡ as_array d → None ≡ as_str (view first) → None ≡ pair_of d
pair_of_no_text d first second items none =
    ap (option_map (λ text. record { member = text; answer = listed_of (view second) })) none ∙ ap (option_and_then pair_of_items) items

pub no_pair : (d : Data) (values : List Value) → Some (items_view values) ≡ as_array d → length values ≢ 2 → None ≡ pair_of d
no_pair d values items other = short values other ∙ ap (option_and_then pair_of_items) items
  where
    short : (values : List Value) → length values ≢ 2 → None ≡ pair_of_items (items_view values)
    short [] h = refl
    short (a ∷ []) h = refl
    short (a ∷ b ∷ []) h = absurd (h refl)
    short (a ∷ b ∷ c ∷ rest) h = refl

pub no_array_pair : (d : Data) → None ≡ as_array d → None ≡ pair_of d
no_array_pair d none = ap (option_and_then pair_of_items) none

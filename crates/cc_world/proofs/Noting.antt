-- Noting one object in a list of what was made.
use Rattle.std.proofs.Common.{◌≡◌, ℕ, suc, ◌<◌, ◌≤◌, ◌==◌, Bool, true, false, cond, nat_lt, List, [], ◌∷◌, Some, None, refl, ap, subst, arith}
use Rattle.std.proofs.lemmas.Grind.{common_steps}
use Rattle.cc_meaning.specs.declared.value.Made.{Made}
use Rattle.cc_meaning_world.specs.Changes.{number_for, noted_made}
use Rattle.cc_world.specs.Noted.{noted, RisesFrom, Rises}

pub found : (what number asked : ℕ) (made : List Made) → number_for asked (noted what number made) ≡ cond (what == asked) (Some number) (number_for asked made)
unfolding number_for
found what number asked [] = refl
found what number asked (m ∷ rest) = grind (arith, common_steps, found what number asked rest)

behind : (what number low : ℕ) (m : Made) (rest : List Made) → low ≤ what → what ≤ m.what → RisesFrom (suc m.what) rest → (same : Bool) → (m.what == what) ≡ same →
    RisesFrom low (record { what = what; number = number } ∷ cond same rest (m ∷ rest))
behind what number low m rest low_what above rises true e = (omega (arith, low_what), let same : m.what ≡ what = grind (arith, common_steps, e) in subst (λ n. RisesFrom (suc n) rest) same rises)
behind what number low m rest low_what above rises false e = (omega (arith, low_what), let other : what < m.what = grind (arith, common_steps, e, above) in (omega (arith, other), rises))

risen_at : (what number low : ℕ) (m : Made) (rest : List Made) → low ≤ what → RisesFrom low (m ∷ rest) → (less : Bool) → nat_lt m.what what ≡ less →
    (suc m.what ≤ what → RisesFrom (suc m.what) (noted what number rest)) →
    RisesFrom low (cond less (m ∷ noted what number rest) (record { what = what; number = number } ∷ cond (m.what == what) rest (m ∷ rest)))
risen_at what number low m rest low_what rises true e later = (rises.0, later (grind (arith, common_steps, e)))
risen_at what number low m rest low_what rises false e later =
    behind what number low m rest low_what (grind (arith, common_steps, e)) rises.1 (m.what == what) refl

risen : (what number low : ℕ) (made : List Made) → low ≤ what → RisesFrom low made → RisesFrom low (noted what number made)
risen what number low [] low_what rises = (omega (arith, low_what), tt)
risen what number low (m ∷ rest) low_what rises =
    risen_at what number low m rest low_what rises (nat_lt m.what what) refl (λ h. risen what number (suc m.what) rest h rises.1)

pub order : (what number : ℕ) (made : List Made) → Rises made → Rises (noted what number made)
order what number made rises = risen what number 0 made (omega arith) rises

-- where nothing was noted, an object is put in as a run does
first_at : (what number : ℕ) (m : Made) (rest : List Made) (same less more : Bool) → (m.what == what) ≡ same → nat_lt m.what what ≡ less → nat_lt what m.what ≡ more →
    number_for what (m ∷ rest) ≡ None → (number_for what rest ≡ None → noted what number rest ≡ noted_made (record { what = what; number = number }) rest) →
    noted what number (m ∷ rest) ≡ noted_made (record { what = what; number = number }) (m ∷ rest)
unfolding number_for noted_made
first_at what number m rest true less more e l g none later = absurd (let wrong : Some m.number ≡ None = rw e at none in cc)
first_at what number m rest false true more e l g none later =
    let above : more ≡ false = grind (arith, common_steps, l, g) in
    let rest_none : number_for what rest ≡ None = rw e at none in
    rw (l, g, above) (ap (λ (ms : List Made). m ∷ ms) (later rest_none))
first_at what number m rest false false more e l g none later =
    let above : more ≡ true = grind (arith, common_steps, e, l, g) in
    rw (l, g, above, e) refl

pub first : (what number : ℕ) (made : List Made) → number_for what made ≡ None → noted what number made ≡ noted_made (record { what = what; number = number }) made
unfolding number_for noted_made
first what number [] h = refl
first what number (m ∷ rest) h = first_at what number m rest (m.what == what) (nat_lt m.what what) (nat_lt what m.what) refl refl refl h (first what number rest)

-- What a table stands for.
use Rattle.std.specs.Prelude.{◌≡◌, ℕ, Bool, true, false, Some}
use Rattle.std.specs.Ordering.{nat_cmp}
use Rattle.std.specs.BTreeSet.{BTreeSet, contains}
use Rattle.cc_meaning_typing.specs.declared.state.State.{State}
use Rattle.cc_meaning_typing.specs.Code.{Body}
use Rattle.cc_meaning_typing.specs.VerifyLaws.{Spreads}
use Rattle.cc_meaning_typing.specs.Tries.{Due, Passes, state_at, tried}
use Rattle.cc_verify.specs.declared.table.Table.{Table}

-- the addresses of a set are due
abbrev pub due_of : BTreeSet ℕ → Due
due_of due at = contains nat_cmp due at

-- What a try did to a table from which its address was taken off what is due: the rule is kept and the states are those after the try, or it is broken.
abbrev pub Tried : Body → Table → Table → ℕ → Bool → Type 0
Tried body old new at true = (s : State) × (state_at old.states at ≡ Some s) × ((kept : Passes body at s) × (new.states ≡ tried body old.states at kept.placed s) × Spreads body old.states new.states (due_of old.due) (due_of new.due))
Tried body old new at false = (s : State) × (state_at old.states at ≡ Some s) × (Passes body at s → ⊥)

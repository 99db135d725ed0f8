-- The world behind a Back: the state at a method's end, merged into the world at its entry.
use Rattle.std.specs.Prelude.{ℕ, suc, ◌+◌, ◌-◌, nat_le, cond, List, [], ◌∷◌, ◌++◌, length, map, Option, Some, None, option_map, slice_get, slice_set, unwrap_or}
use Rattle.cc_meaning.specs.declared.value.Value.{Value}
use Rattle.cc_meaning.specs.declared.value.Value.TheVariants as value
use Rattle.cc_meaning.specs.declared.value.Object.{Object}
use Rattle.cc_meaning.specs.declared.value.Object.TheVariants as object
use Rattle.cc_meaning.specs.declared.report.CallEnd.{CallEnd}
use Rattle.cc_meaning.specs.declared.report.CallEnd.TheVariants as end
use Rattle.cc_meaning.specs.declared.program.Class.{Class}
use Rattle.cc_meaning.specs.declared.program.Field.{Field}
use Rattle.cc_meaning.specs.declared.program.Program.{Program}
use Rattle.cc_meaning.specs.declared.image.Contents.{Contents}
use Rattle.cc_meaning.specs.declared.image.Contents.TheVariants as contents
use Rattle.cc_meaning.specs.declared.image.BackImage.{BackImage}
use Rattle.cc_meaning_run.specs.World.{World}
use Rattle.cc_meaning_run.specs.Eval.{End, Returned, Thrown, Stopped}
use Rattle.cc_meaning_images.specs.Capture.{is_of_file, is_sent}

-- ---- objects

-- where the objects of a Back stand: those of the entry's order where they stood, new ones behind the `count` that there are
pub record Places : Type 0 where
  pub order : List ℕ
  pub count : ℕ

-- the object of a number
abbrev pub object_at : Places → ℕ → ℕ
object_at at n = cond (nat_le n (length at.order)) (unwrap_or (slice_get at.order (n - 1)) 0) (at.count + (n - suc (length at.order)))

abbrev pub value_at : Places → Value → Value
value_at at (value.Int n) = value.Int n
value_at at (value.Long n) = value.Long n
value_at at (value.Obj number) = value.Obj (option_map (object_at at) number)

-- a new object
abbrev pub fresh_at : Places → Object → Object
fresh_at at object.Out = object.Out
fresh_at at (object.Instance class values) = object.Instance class (map (value_at at) values)
fresh_at at (object.Array class values) = object.Array class (map (value_at at) values)
fresh_at at (object.Text units) = object.Text units
fresh_at at (object.Builder units) = object.Builder units
fresh_at at (object.Constant class) = object.Constant class

-- an object that stood before, with what it holds now
abbrev pub holding : Places → Object → Contents → Object
holding at (object.Instance class old) (contents.Values values) = object.Instance class (map (value_at at) values)
holding at (object.Array class old) (contents.Values values) = object.Array class (map (value_at at) values)
holding at (object.Builder old) (contents.Units units) = object.Builder units
holding at o c = o

abbrev pub held_at : Places → List Object → ℕ → Contents → List Object
held_at at objects a c = put_if (slice_get objects a)
  where
    put_if : Option Object → List Object
    put_if None = objects
    put_if (Some o) = slice_set objects a (holding at o c)

unfoldable pub old_put : Places → List ℕ → List Contents → List Object → List Object
old_put at [] cs objects = objects
old_put at (a ∷ rest) [] objects = objects
old_put at (a ∷ rest) (c ∷ cs) objects = old_put at rest cs (held_at at objects a c)

-- ---- statuses and statics

-- classes that aren't of the file keep theirs
unfoldable pub statuses_put : List Class → List ℕ → List ℕ → List ℕ
statuses_put [] old new = old
statuses_put (c ∷ cs) [] new = []
statuses_put (c ∷ cs) (s ∷ ss) [] = s ∷ ss
statuses_put (c ∷ cs) (s ∷ ss) (n ∷ ns) = cond (is_of_file c.kind) (n ∷ statuses_put cs ss ns) (s ∷ statuses_put cs ss (n ∷ ns))

-- fields that aren't sent keep their values
unfoldable pub statics_put : Program → Places → List Field → List Value → List Value → List Value
statics_put p at [] old new = old
statics_put p at (f ∷ fs) [] new = []
statics_put p at (f ∷ fs) (v ∷ vs) [] = v ∷ vs
statics_put p at (f ∷ fs) (v ∷ vs) (n ∷ ns) = cond (is_sent p f) (value_at at n ∷ statics_put p at fs vs ns) (v ∷ statics_put p at fs vs (n ∷ ns))

-- ---- the end of a method

-- where the objects of a Back stand in a world, by the order of the entry
abbrev pub places_in : World → List ℕ → Places
places_in w order = record { order = order; count = length w.objects }

abbrev pub end_put : Places → CallEnd → End
end_put at (end.Returned v) = Returned (option_map (value_at at) v)
end_put at (end.Thrown number) = Thrown (object_at at number)
end_put at (end.Stopped cause) = Stopped cause

-- The world behind a Back. So far a Back has no literals, class constants and recorded calls, which its form doesn't allow.
unfoldable pub world_put : Program → World → (order : List ℕ) → BackImage → World
world_put p w order image = record w {
  objects = old_put (places_in w order) order image.old w.objects ++ map (fresh_at (places_in w order)) image.fresh;
  statics = statics_put p (places_in w order) p.fields w.statics image.statics;
  counters = record { instructions = image.instructions; words = image.words; statuses = statuses_put p.classes w.counters.statuses image.statuses };
}

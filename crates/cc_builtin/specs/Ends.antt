-- How a call ends, by where its steps lead.
use Rattle.std.specs.Prelude.{◌≡◌, ◌+◌, ◌^◌, ◌<◌, Option, Some, None, IfSome, length}
use Rattle.cc_meaning.specs.declared.report.CallEnd.{CallEnd}
use Rattle.cc_meaning.specs.declared.report.CallEnd.TheVariants.{Returned, Thrown, Stopped}
use Rattle.cc_meaning_run.specs.Acts.{Outcome, Returns, Throws, Stops, Reached}
use Rattle.cc_heap.specs.Effects.{Held}

-- The end that an outcome is. An outcome that is none comes only of arguments that don't fit the method.
abbrev pub end_of : Outcome → Option CallEnd
end_of (Returns v) = Some (Returned v)
end_of (Throws a) = Some (Thrown a)
end_of (Stops c) = Some (Stopped c)
end_of _ = None

-- the call ended so, with that world after it
abbrev pub Ends : Reached → (old : Held) → CallEnd → (new : Held) → Type 0
Ends r old end new = IfSome (end_of r.outcome) (λ expected. (end ≡ expected) × (new ≡ record old { world = r.world }))

-- one more object and one more event have a number
abbrev pub HasRoom : Held → Type 0
HasRoom held = (length held.world.objects + 1 < 2 ^ 32) × (length held.world.events + 1 < 2 ^ 32)

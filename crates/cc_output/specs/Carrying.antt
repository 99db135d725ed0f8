-- A plan is carried out over two sinks.
use Rattle.std.specs.Prelude.{◌≡◌, ℕ, ◌<◌, List, [], ◌∷◌, ◌++◌, length, Result, Ok, Err, ◌⊎◌, codes}
use Rattle.cc_outside.specs.Counting.{Rose}
use Rattle.cc_outside.specs.Telling.{more}
use Rattle.cc_outside.specs.Sinks.{Pipe}
use Rattle.cc_outside.specs.declared.sink.WriteFailed.{WriteFailed}
use Rattle.cc_output.specs.declared.plan.Plan.{Plan}

-- the line on notes that says that out wasn't written whole
abbrev pub write_fault_line : List ℕ
write_fault_line = codes "fault 72 WriteFault" ++ 10 ∷ []

-- all of the text was written
abbrev pub Wrote : List ℕ → Pipe → Pipe → Type 0
Wrote text p p' = p'.text ≡ more text p.text

-- a prefix of the text was written, and not all
abbrev pub WroteLess : List ℕ → Pipe → Pipe → Type 0
WroteLess text p p' = (front : List ℕ) × (rest : List ℕ) × (front ++ rest ≡ text) × (0 < length rest) × Wrote front p p'

-- a prefix of the text was written and not all, since the sink failed
abbrev pub Loses : List ℕ → Pipe → Pipe → Type 0
Loses text p p' = WroteLess text p p' × Rose p.faults p'.faults

abbrev pub WritesAll : List ℕ → Pipe → Result Unit WriteFailed → Pipe → Type 0
WritesAll text p (Ok u) p' = Wrote text p p'
WritesAll text p (Err e) p' = Loses text p p'

-- ---- the ends of a plan, by the sinks for out and for notes before and after, and the status

-- all was written, and the status is the plan's. An empty text leaves what stands on its sink as it is
pub record AsPlanned (plan : Plan) (o n : Pipe) (s : ℕ) (o' n' : Pipe) : Type 0 where
  pub status : s ≡ plan.status
  pub out : Wrote plan.out o o'
  pub no_out : plan.out ≡ [] → o'.text ≡ o.text
  pub notes : Wrote plan.notes n n'
  pub no_notes : plan.notes ≡ [] → n'.text ≡ n.text

-- there was no room, and nothing was written
pub record Unwritten (o n : Pipe) (s : ℕ) (o' n' : Pipe) : Type 0 where
  pub status : s ≡ 70
  pub out : o'.text ≡ o.text
  pub notes : n'.text ≡ n.text

-- out failed before all was written on it. On notes stands the line that says so, or a prefix of it where notes failed too
pub record OutLost (plan : Plan) (o n : Pipe) (s : ℕ) (o' n' : Pipe) : Type 0 where
  pub status : s ≡ 72
  pub out : WroteLess plan.out o o'
  pub faults : Rose o.faults o'.faults
  pub notes : Wrote write_fault_line n n' ⊎ Loses write_fault_line n n'

-- all was written on out, and then notes failed before all was written on it
pub record NotesLost (plan : Plan) (o n : Pipe) (s : ℕ) (o' n' : Pipe) : Type 0 where
  pub status : s ≡ 72
  pub out : Wrote plan.out o o'
  pub notes : WroteLess plan.notes n n'
  pub faults : Rose n.faults n'.faults

abbrev pub Ends : Plan → Pipe → Pipe → ℕ → Pipe → Pipe → Type 0
Ends plan o n s o' n' =
    AsPlanned plan o n s o' n' ⊎ (Unwritten o n s o' n' ⊎ (OutLost plan o n s o' n' ⊎ NotesLost plan o n s o' n'))

-- Worked examples: images of ends in both versions, what is read of them, and what they make of the world of the entry.
use Rattle.std.specs.Prelude.{◌≡◌, ℕ, ◌++◌, pos, List, [], ◌∷◌, Option, Some, option_map, Result, Ok, Err}
use Rattle.cc_meaning.specs.declared.fault.ImageFault.{ImageFault}
use Rattle.cc_meaning.specs.declared.fault.ImageFault.TheVariants.{CutOff, Trailing, BadKind, BadRef, Unfit, BadCounter, Unanswered}
use Rattle.cc_meaning.specs.declared.image.RunImage.{RunImage}
use Rattle.cc_meaning.specs.declared.report.Answer.TheVariants as answer
use Rattle.cc_meaning.specs.declared.report.CallEnd.{CallEnd}
use Rattle.cc_meaning.specs.declared.report.CallEnd.TheVariants as end
use Rattle.cc_meaning.specs.declared.value.Object.TheVariants as kinds
use Rattle.cc_meaning_world.specs.World.{World}
use Rattle.cc_meaning_world.specs.Changes.{with_instructions, with_words, with_answer}
use Rattle.cc_meaning_migration.specs.declared.image.BackImage.{BackImage}
use Rattle.cc_meaning_migration.specs.declared.image.Version.{Version}
use Rattle.cc_meaning_migration.specs.declared.image.Version.TheVariants.{First, Second}
use Rattle.cc_meaning_migration.specs.Renaming.{if_some}
use Rattle.cc_meaning_migration.specs.Ends.{end_order, captured_end}
use Rattle.cc_meaning_migration.specs.Spelling.{spelled_back}
use Rattle.cc_meaning_migration.specs.Decoding.{decoded_back}
use Rattle.cc_meaning_migration.specs.Putting.{Put, put}
use Rattle.cc_meaning_migration.specs.WorkedPrograms.{program, script, to, node, world_with, entered, four, eight}

-- two objects of A that name each other, before a call of f with the first
abbrev pub before : World
before = world_with (node (to 2) 1 ∷ node (to 1) 0 ∷ []) [] []

abbrev pub front : List ℕ
front = 0 ∷ 1 ∷ 2 ∷ []

-- Behind it the first names a new array in which the second stands, and its int is 2. The script was asked once.
abbrev pub after : World
after =
    with_answer
    (with_words (with_instructions (world_with (node (to 3) 2 ∷ node (to 1) 0 ∷ kinds.Array 1 (to 2 ∷ []) ∷ []) [] []) 90) 93)
    0 3 [] (answer.Int (pos 7))

-- f gave the array
abbrev pub ending : CallEnd
ending = end.Returned (Some (to 3))

unfoldable pub end_image : Version → Option BackImage
end_image v = if_some (entered before 1) (λ run. captured_end v program run front after 0 ending)

-- ---- bytes

-- what stands before the events: an end, instructions and words, and nothing new of the class, the static, literals and constants
abbrev pub back_head : List ℕ → (instructions words : ℕ) → List ℕ
back_head ending instructions words = ending ++ (eight instructions ++ (four words ++ (0 ∷ four 0 ++ (four 0 ++ four 0))))

-- it returned the object of a number
abbrev pub gave : ℕ → List ℕ
gave number = 0 ∷ four number

abbrev pub array_bytes : List ℕ
array_bytes = 2 ∷ four 1 ++ (four 1 ++ four 3)

-- each object of the entry that holds something is given, but for its class
abbrev pub first_bytes : List ℕ
first_bytes = back_head (gave 4) 90 93 ++ (four 1 ++ (four 3 ++ (four 4 ++ (four 2 ++ (four 2 ++ (four 0 ++ array_bytes))))))

-- of the objects of the entry that of number 2 alone has changed
abbrev pub second_bytes : List ℕ
second_bytes = back_head (gave 4) 90 93 ++ (four 1 ++ (four 3 ++ (four 1 ++ (four 2 ++ (four 4 ++ (four 2 ++ array_bytes))))))

-- what bytes are as the image of that end
unfoldable pub read_as : Version → List ℕ → Option RunImage → Option (Result BackImage ImageFault)
read_as v bytes run = option_map (λ r. decoded_back v script program before.cursors r bytes) run

abbrev pub reads : Version → List ℕ → Option (Result BackImage ImageFault)
reads v bytes = read_as v bytes (entered before 1)

abbrev pub put_back : Version → Option Put
put_back v = if_some (end_image v) (put script program before front)

pub record EndsHold : Type 0 where
  pub order : end_order program front after ending ≡ 0 ∷ 1 ∷ 2 ∷ 3 ∷ []
  pub first_sent : option_map (spelled_back First) (end_image First) ≡ Some first_bytes
  pub second_sent : option_map (spelled_back Second) (end_image Second) ≡ Some second_bytes
  pub first_read : reads First first_bytes ≡ option_map (λ image. Ok image) (end_image First)
  pub second_read : reads Second second_bytes ≡ option_map (λ image. Ok image) (end_image Second)
  -- put into the world of the entry, both give the end and the world behind the call
  pub first_put : put_back First ≡ Some (record { ending = ending; world = after })
  pub second_put : put_back Second ≡ Some (record { ending = ending; world = after })

-- ---- faults

abbrev pub Faults : List ℕ → ImageFault → Type 0
Faults bytes fault = reads Second bytes ≡ Some (Err fault)

pub record EndsAreRefused : Type 0 where
  pub cut_off : Faults (back_head (gave 4) 90 93) CutOff
  pub trailing : Faults (second_bytes ++ 0 ∷ []) Trailing
  -- the object of number 3 holds what it did, and f is no method that a script answers
  pub unchanged : Faults (back_head (gave 0) 90 93 ++ (four 0 ++ (four 1 ++ (four 3 ++ (four 2 ++ four 0))))) (BadKind 38)
  pub not_scripted : Faults (back_head (gave 0) 90 93 ++ (four 1 ++ four 1)) (BadKind 34)
  pub nothing_thrown : Faults (1 ∷ four 0) (BadRef 1)
  pub too_great : Faults (gave 5) (BadRef 1)
  -- an A is no Throwable
  pub not_throwable : Faults (back_head (1 ∷ four 2) 90 93 ++ (four 0 ++ four 0)) (Unfit 2)
  -- more instructions are left than were sent, and words were spent on nothing but the array
  pub too_many : Faults (back_head (gave 0) 99 93 ++ (four 0 ++ four 0)) BadCounter
  pub too_few_words : Faults (back_head (gave 4) 90 96 ++ (four 0 ++ (four 0 ++ array_bytes))) BadCounter
  -- the script has two answers
  pub no_answer : Faults (back_head (gave 0) 90 92 ++ (four 3 ++ (four 3 ++ (four 3 ++ (four 3 ++ four 0))))) (Unanswered 2)

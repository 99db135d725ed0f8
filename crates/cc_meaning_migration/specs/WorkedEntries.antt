-- Worked examples: images of entries, their bytes, and what is read of them.
use Rattle.std.specs.Prelude.{◌≡◌, ℕ, ◌++◌, pos, negsuc, List, [], ◌∷◌, Option, Some, None, Ok, Err, codes}
use Rattle.cc_meaning.specs.declared.fault.ImageFault.{ImageFault}
use Rattle.cc_meaning.specs.declared.fault.ImageFault.TheVariants.{CutOff, Trailing, BadKind, BadRef, Unfit, BadCounter}
use Rattle.cc_meaning.specs.declared.image.RunImage.{RunImage}
use Rattle.cc_meaning.specs.declared.value.Object.{Object}
use Rattle.cc_meaning.specs.declared.value.Object.TheVariants as object
use Rattle.cc_meaning.specs.declared.value.Value.TheVariants as value
use Rattle.cc_meaning_migration.specs.Entry.{entry_order, captured_entry}
use Rattle.cc_meaning_migration.specs.Decoding.{decoded_run}
use Rattle.cc_meaning_migration.specs.Placing.{Placed, placed, stack_of}
use Rattle.cc_meaning_migration.specs.WorkedPrograms.{program, null, to, node, made, world_with, entered, sent, four, head_of, head, entry_bytes}

-- two objects of A that name each other, and one that nothing names
abbrev pub cycle : List Object
cycle = node null 3 ∷ node (to 3) 1 ∷ node (to 2) 0 ∷ []

abbrev pub cycle_bytes : List ℕ
cycle_bytes = entry_bytes 2 (1 ∷ four 0 ++ (four 3 ++ (four 1 ++ (1 ∷ four 0 ++ (four 2 ++ four 0)))))

-- an array of arrays of ints, of which one is null
abbrev pub arrays : List Object
arrays = object.Array 2 (value.Int (pos 1) ∷ value.Int (negsuc 0) ∷ []) ∷ object.Array 3 (to 1 ∷ null ∷ []) ∷ []

-- what is entered there has an order, an image and bytes
pub record EntriesHold : Type 0 where
  pub order : entry_order program (world_with cycle [] []) (to 2 ∷ []) ≡ 0 ∷ 2 ∷ 3 ∷ []
  pub cycle_sent : sent cycle [] [] 2 ≡ Some cycle_bytes
  pub arrays_sent :
      sent arrays [] [] 2 ≡ Some (entry_bytes 2 (2 ∷ four 3 ++ (four 2 ++ (four 3 ++ (four 0 ++ (2 ∷ four 2 ++ (four 2 ++ (four 1 ++ (255 ∷ 255 ∷ 255 ∷ 255 ∷ [])))))))))
  pub text_sent : sent (object.Text (codes "hi") ∷ []) [] [] 1 ≡ Some (entry_bytes 2 (3 ∷ four 2 ++ (0 ∷ 104 ∷ 0 ∷ 105 ∷ [])))
  pub builder_sent : sent (object.Builder (codes "h") ∷ []) [] [] 1 ≡ Some (entry_bytes 2 (4 ∷ four 1 ++ (0 ∷ 104 ∷ [])))
  -- a literal stands by the number of its text, and a class constant by that of its class; both are roots
  pub literal_sent :
      sent (object.Text (codes "b") ∷ node null 0 ∷ []) (made 1 1 ∷ []) [] 2
      ≡ Some (head ++ (four 2 ++ (four 0 ++ (four 1 ++ (four 1 ++ (four 3 ++ (four 0 ++ (0 ∷ 1 ∷ four 0 ++ (four 0 ++ (four 0 ++ (3 ∷ four 1 ++ (0 ∷ 98 ∷ []))))))))))))
  pub constant_sent :
      sent (object.Constant 3 ∷ []) [] (made 3 1 ∷ []) 1
      ≡ Some (head ++ (four 2 ++ (four 0 ++ (four 0 ++ (four 1 ++ (four 3 ++ (four 2 ++ (0 ∷ 5 ∷ four 3))))))))

-- ---- reading

-- the image of the entry of f with the first of these objects, and what is read of its bytes
unfoldable pub is_read_from : List ℕ → Option RunImage → Type 0
is_read_from bytes None = ⊥
is_read_from bytes (Some image) = decoded_run program bytes ≡ Ok image

-- the image that is taken in the world of an image
unfoldable pub again_in : RunImage → Option Placed → Option RunImage
again_in image None = None
again_in image (Some at) = captured_entry program at.world image.method at.args (stack_of image)

unfoldable pub again : Option RunImage → Option RunImage
again None = None
again (Some image) = again_in image (placed program [] image)

pub record EntriesAreRead : Type 0 where
  pub cycle_read : is_read_from cycle_bytes (entered (world_with cycle [] []) 2)
  -- the world of the image has that image
  pub cycle_again : again (entered (world_with cycle [] []) 2) ≡ entered (world_with cycle [] []) 2

-- ---- faults

abbrev pub Faults : List ℕ → ImageFault → Type 0
Faults bytes fault = decoded_run program bytes ≡ Err fault

pub record EntriesAreRefused : Type 0 where
  pub cut_off : Faults head CutOff
  pub trailing : Faults (cycle_bytes ++ 0 ∷ []) Trailing
  -- main doesn't move, a status is at most 3, a static byte is in its range, and an array's class is that of no instance
  pub of_main : Faults (four 0) (BadKind 0)
  pub no_status : Faults (head_of 1 1 4) (BadKind 22)
  pub out_of_range : Faults (head ++ (four 0 ++ four 128)) (BadKind 27)
  pub no_instance : Faults (entry_bytes 2 (1 ∷ four 1)) (BadKind 41)
  -- the first reference is at most 2, and a literal is an object
  pub too_great : Faults (head ++ four 3) (BadRef 23)
  pub no_literal : Faults (head ++ (four 0 ++ (four 0 ++ (four 1 ++ (four 0 ++ four 0))))) (BadRef 39)
  -- an array is no A, and a literal has the units of its text
  pub no_node : Faults (head_of 2 1 0 ++ (four 2 ++ (four 0 ++ (four 0 ++ (four 0 ++ (0 ∷ 2 ∷ four 2 ++ four 0)))))) (Unfit 2)
  pub other_text : Faults (head ++ (four 0 ++ (four 0 ++ (four 1 ++ (four 1 ++ (four 2 ++ (four 0 ++ (0 ∷ 3 ∷ four 1 ++ (0 ∷ 97 ∷ []))))))))) (Unfit 2)
  -- a frame stands where a method is entered
  pub no_frame : Faults (head_of 1 0 0 ++ (four 0 ++ (four 0 ++ (four 0 ++ (four 0 ++ (0 ∷ [])))))) BadCounter

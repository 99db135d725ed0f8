-- Which frames answer the image of a worked example.
use Rattle.std.specs.Prelude.{[], ◌∷◌}
use Rattle.cc_meaning_plain.specs.Worked.{one_more}
use Rattle.cc_meaning_clone.specs.Worked.{entry}
use Rattle.cc_meaning_device.specs.Worked.{ready, back, false_back, refuse}
use Rattle.cc_meaning_device.specs.Honest.{AnswersInOrder}

-- The right Back does, and so does any front of the frames, and a refusal; a Back of 7 doesn't, nor one where no image was noted, or a second one.
pub record JudgesAnswers : Type 0 where
  pub right : AnswersInOrder one_more (entry ∷ []) (ready ∷ back ∷ [])
  pub ready_alone : AnswersInOrder one_more (entry ∷ []) (ready ∷ [])
  pub nothing : AnswersInOrder one_more (entry ∷ []) []
  pub refused : AnswersInOrder one_more (entry ∷ []) (ready ∷ refuse ∷ [])
  pub wrong : AnswersInOrder one_more (entry ∷ []) (ready ∷ false_back ∷ []) → ⊥
  pub unasked : AnswersInOrder one_more [] (ready ∷ back ∷ []) → ⊥
  pub second : AnswersInOrder one_more (entry ∷ []) (ready ∷ back ∷ back ∷ []) → ⊥

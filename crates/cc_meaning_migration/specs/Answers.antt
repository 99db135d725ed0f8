-- The answers that sent calls take from a script.
use Rattle.std.specs.Prelude.{ℕ, suc, ◌+◌, nat_lt, Bool, true, false, cond, List, [], ◌∷◌, length, Option, Some, None, slice_get, slice_set, unwrap_or}
use Rattle.cc_meaning.specs.declared.program.Program.{Program}
use Rattle.cc_meaning.specs.declared.report.Answer.{Answer}
use Rattle.cc_meaning.specs.declared.report.SentCall.{SentCall}
use Rattle.cc_meaning.specs.declared.script.Script.{Script}
use Rattle.cc_meaning.specs.Words.{words_of_call, units_of_answer}
use Rattle.cc_meaning_world.specs.Scripts.{class_asked, has_pinned, NextAnswer, Gives, Ended, Other, next_answer}

unfoldable pub answer_in : NextAnswer → Option Answer
answer_in (Gives a) = Some a
answer_in Ended = None
answer_in (Other found) = None

unfoldable pub cursor_in : List ℕ → ℕ → ℕ
cursor_in cursors class = unwrap_or (slice_get cursors class) 0

unfoldable pub answer_if : Bool → Option Answer → Option Answer
answer_if true a = None
answer_if false a = a

-- what a sent call is answered: nothing where the next answer of its class is for another method, or where the class has a pinned method
unfoldable pub answer_of : Script → Program → (cursors : List ℕ) → SentCall → Option Answer
answer_of script p cursors call =
    answer_if (has_pinned script p (class_asked p call.method)) (answer_in (next_answer script p call.method (cursor_in cursors (class_asked p call.method))))

-- the cursors, when one more answer of a class was taken
unfoldable pub advanced : List ℕ → (class : ℕ) → List ℕ
advanced cursors class = slice_set cursors class (suc (cursor_in cursors class))

unfoldable pub answers_behind : Option Answer → List Answer → List Answer
answers_behind None rest = []
answers_behind (Some a) rest = a ∷ rest

-- the answers of sent calls in turn, up to the first that has none
unfoldable pub answers_of : Script → Program → (cursors : List ℕ) → List SentCall → List Answer
answers_of script p cursors [] = []
answers_of script p cursors (call ∷ rest) = answers_behind (answer_of script p cursors call) (answers_of script p (advanced cursors (class_asked p call.method)) rest)

-- the first of the sent calls that has no answer
unfoldable pub unanswered : Script → Program → (cursors : List ℕ) → List SentCall → Option ℕ
unanswered script p cursors calls = cond (nat_lt (length (answers_of script p cursors calls)) (length calls)) (Some (length (answers_of script p cursors calls))) None

-- the words that the records of sent calls take; where there is no answer, no units of one count
unfoldable pub words_of_sent : List SentCall → List Answer → ℕ
words_of_sent [] answers = 0
words_of_sent (call ∷ rest) [] = words_of_call call.args + words_of_sent rest []
words_of_sent (call ∷ rest) (a ∷ answers) = words_of_call call.args + (units_of_answer a + words_of_sent rest answers)

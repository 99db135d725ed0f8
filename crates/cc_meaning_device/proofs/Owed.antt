-- A clone to which all was sent says more than was got, as long as a frame is missing.
use Rattle.std.proofs.Common.{◌≡◌, ℕ, suc, ◌+◌, ◌≤◌, ◌<◌, List, [], ◌∷◌, ◌++◌, length, map, Result, Ok, refl, sym, ap, ◌∙◌, subst, arith}
use Rattle.std.specs.List.{flat_map, AllByRecursion}
use Rattle.std.proofs.lemmas.List.{append-nil, length-append}
use Rattle.cc_meaning.specs.declared.frame.Frame.{Frame}
use Rattle.cc_meaning.specs.declared.image.RunImage.{RunImage}
use Rattle.cc_meaning_nodes.specs.Frames.{IsFrame, spelling, Frames, with_frames, frames_of}
use Rattle.cc_meaning_nodes.specs.FrameLaws.{IsReadAgain}
use Rattle.cc_meaning_nodes.specs.Talk.{Open, says, IsPrefixOf}
use Rattle.cc_meaning_nodes.specs.Clone.{Waiting}
use Rattle.cc_meaning_plain.specs.declared.plain.Plain.{Plain}
use Rattle.cc_meaning_clone.specs.Functions.{AnsweredIs, RunsHaveParts, BacksAreShort}
use Rattle.cc_meaning_clone.specs.Plain.{plain_clone}
use Rattle.cc_meaning_device.specs.Honest.{requests}
use Rattle.cc_meaning_device.specs.Complete.{ready_frame, back_frame, IsSendable, StreamIsOwed}
use Rattle.cc_meaning_device.proofs.Complete.{all_itself, all_fit, all_answered}
use Rattle.cc_meaning_device.proofs.Exchanges.{nothing_comes, answers, answers_are_frames, says_in_all}

length_map : (f : RunImage → Frame) (images : List RunImage) → length (map f images) ≡ length images
length_map f [] = refl
length_map f (image ∷ images) = ap suc (length_map f images)

-- as many frames are read of a whole spelling as were spelled
read_all : IsReadAgain → (frames : List Frame) → AllByRecursion IsFrame frames → (frames_of (flat_map spelling frames)).frames ≡ frames
read_all again frames are =
    ap (λ (bytes : List ℕ). (frames_of bytes).frames) (sym (append-nil (flat_map spelling frames))) ∙ ap (λ (fs : Frames). fs.frames) (again frames [] are)
    ∙ ap (λ (fs : Frames). frames ++ fs.frames) nothing_comes ∙ append-nil frames

-- a front of a list that isn't all of it is shorter
shorter : (xs ys rest : List ℕ) → xs ++ rest ≡ ys → (xs ≡ ys → ⊥) → length xs < length ys
shorter xs ys [] e other = absurd (other (sym (append-nil xs) ∙ e))
shorter xs ys (x ∷ rest) e other = let sum = length-append xs (x ∷ rest) in let all : length (xs ++ x ∷ rest) ≡ length ys = ap (λ (l : List ℕ). length l) e in omega (arith, sum, all)

pub stream_is_owed : IsReadAgain → RunsHaveParts → AnsweredIs → BacksAreShort → StreamIsOwed
stream_is_owed again parts_of answers_is short file plain hello images got bytes is hello_is_short sendable fewer front =
    let itself = all_itself plain images sendable in
    let are_frames : AllByRecursion IsFrame (ready_frame ∷ answers plain images) =
    (record { low = omega arith; high = omega arith; short = omega arith }, answers_are_frames parts_of answers_is short file plain bytes is images itself) in
    let all = says_in_all again plain hello images hello_is_short (all_fit plain images sendable) in
    let many : length (answers plain images) ≡ length images = ap (λ (frames : List Frame). length frames) (all_answered plain images sendable) ∙ length_map (back_frame plain) images in
    shorter got (says (plain_clone (Ok plain)) (Open Waiting []) (requests hello images)) front.0 front.1 (λ whole.
    let read : (frames_of got).frames ≡ ready_frame ∷ answers plain images = ap (λ (stream : List ℕ). (frames_of stream).frames) (whole ∙ all) ∙ read_all again (ready_frame ∷ answers plain images) are_frames in
    let count : length (frames_of got).frames ≡ suc (length (answers plain images)) = ap (λ (frames : List Frame). length frames) read in
    omega (arith, fewer, many, count))

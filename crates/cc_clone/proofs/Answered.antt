-- The answer to one frame.
use Rattle.std.proofs.Common.{◌≡◌, ℕ, ◌==◌, Bool, List, Option, Some, Result, Err, refl, sym, ap, subst, if◌then◌else◌, eq-eqb}
use Rattle.std.proofs.lemmas.Bool.{ne_eqb}
use Rattle.std.proofs.lemmas.List.{append-nil}
use Rattle.cc_meaning.specs.declared.frame.Frame.{Frame}
use Rattle.cc_meaning.specs.declared.travel.CloneEnd.{CloneEnd}
use Rattle.cc_meaning.specs.declared.travel.CloneEnd.TheVariants.{BadOrder}
use Rattle.cc_meaning_nodes.specs.Clone.{hello_kind, run_kind, clone_answer, to_hello, to_run, closes, CloneReply, Waiting, Serving}
use Rattle.cc_meaning_plain.specs.declared.plain.Plain.{Plain}
use Rattle.cc_meaning_clone.specs.Hello.{IsJudged}
use Rattle.cc_meaning_clone.specs.Served.{served}
use Rattle.cc_clone.specs.Node.{Answers, IsAnswered}

-- the reply to a frame of the awaited kind, or of another
kind_is : (x y : CloneReply Plain) (kind awaited : ℕ) → kind ≡ awaited → (if kind == awaited then x else y) ≡ x
kind_is x y kind awaited e = ap (λ (b : Bool). if b then x else y) (eq-eqb kind awaited e)

kind_is_not : (x y : CloneReply Plain) (kind awaited : ℕ) → (kind ≡ awaited → ⊥) → (if kind == awaited then x else y) ≡ y
kind_is_not x y kind awaited e = ap (λ (b : Bool). if b then x else y) (ne_eqb kind awaited e)

out_of_order : (kind : ℕ) (old : List ℕ) (job : Option Plain) → Answers (closes (BadOrder kind)) old old (Some (BadOrder kind)) job
out_of_order kind old job = (sym (append-nil old), refl)

module _ (old new : List ℕ) (end : Option CloneEnd) (job : Option Plain) where
  answers_as : (x y : CloneReply Plain) → x ≡ y → Answers y old new end job → Answers x old new end job
  answers_as x y e a = subst (λ (reply : CloneReply Plain). Answers reply old new end job) (sym e) a

  pub first_is : (frame : Frame) (verdict : Result Plain ℕ) → frame.kind ≡ hello_kind → IsJudged frame.payload verdict →
      ((other : Result Plain ℕ) → IsJudged frame.payload other → other ≡ verdict) → Answers (to_hello verdict) old new end job → IsAnswered Waiting frame old new end job
  unfolding clone_answer
  first_is frame verdict e is only a = record {
    answers = λ other right.
        let same = only other (right e) in
        answers_as _ _ (kind_is (to_hello other) (closes (BadOrder frame.kind)) frame.kind hello_kind e)
        (subst (λ (v : Result Plain ℕ). Answers (to_hello v) old new end job) (sym same) a);
    verdict = verdict;
    is_right = λ _. is;
  }

  pub run_is : (plain : Plain) (frame : Frame) → frame.kind ≡ run_kind → Answers (to_run (served plain frame.payload)) old new end job → IsAnswered (Serving plain) frame old new end job
  unfolding clone_answer
  run_is plain frame e a = record {
    answers = λ other right. answers_as _ _ (kind_is (to_run (served plain frame.payload)) (closes (BadOrder frame.kind)) frame.kind run_kind e) a;
    verdict = Err 64;
    is_right = tt;
  }

module _ (old : List ℕ) (job : Option Plain) where
  pub first_is_not : (frame : Frame) → (frame.kind ≡ hello_kind → ⊥) → IsAnswered Waiting frame old old (Some (BadOrder frame.kind)) job
  unfolding clone_answer
  first_is_not frame e = record {
    answers = λ other right. answers_as old old (Some (BadOrder frame.kind)) job _ _ (kind_is_not (to_hello other) (closes (BadOrder frame.kind)) frame.kind hello_kind e) (out_of_order frame.kind old job);
    verdict = Err 64;
    is_right = λ is. absurd (e is);
  }

  pub run_is_not : (plain : Plain) (frame : Frame) → (frame.kind ≡ run_kind → ⊥) → IsAnswered (Serving plain) frame old old (Some (BadOrder frame.kind)) job
  unfolding clone_answer
  run_is_not plain frame e = record {
    answers = λ other right. answers_as old old (Some (BadOrder frame.kind)) job _ _ (kind_is_not (to_run (served plain frame.payload)) (closes (BadOrder frame.kind)) frame.kind run_kind e) (out_of_order frame.kind old job);
    verdict = Err 64;
    is_right = tt;
  }

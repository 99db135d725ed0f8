-- What the steps of `offload` come to.
use Rattle.std.proofs.Common.{◌≡◌, ◌≢◌, ℕ, ◌≤◌, List, length, Option, Some, None, Result, Ok, Err, Bool, true, false, sym, ◌∙◌, subst, true≢false}
use Rattle.std.specs.Prelude.{IfOk, MatchOption}
use Rattle.std.specs.Bool.{Decides}
use Rattle.std.specs.declared.alloc.AllocError.{AllocError}
use Rattle.cc_outside.specs.Shelves as shelf
use Rattle.cc_output.specs.declared.plan.Plan.{Plan}
use Rattle.cc_meaning_plain.specs.declared.plain.Plain.{Plain}
use Rattle.cc_meaning_plain.specs.Plain.{IsPlain}
use Rattle.cc_meaning_clone.specs.Hello.{no_script}
use Rattle.cc_cli.specs.Plans.{IsNotPlain, RunPlan}
use Rattle.cc_cli.specs.Runs.{Sources, CallPlan}
use Rattle.cc_cli.specs.Offloading.{LinkTells, Names, ReadPlan, was_read}

-- what holds of a plan that was made holds in other words
pub on_plan : (made : Result Plan AllocError) (P Q : Plan → Type 0) → ((plan : Plan) → P plan → Q plan) → IfOk made P → IfOk made Q
on_plan (Ok plan) P Q f p = f plan p
on_plan (Err end) P Q f p = tt

-- a file was read, and its bytes are lent as these
pub then_read : (known : shelf.Known) (old : shelf.Counts) (name : List ℕ) (limit : ℕ) (new middle : shelf.Counts) (untouched : Type 0) (Then : Plan → List ℕ → shelf.Counts → Type 0)
    (bytes lent : List ℕ) (made : Result Plan AllocError) → lent ≡ bytes → shelf.IsFile known name bytes × (length bytes ≤ limit) → shelf.NeverFall old middle → IfOk made (λ plan. Then plan lent middle)
    → IfOk made (λ plan. ReadPlan known old name limit new untouched plan (Then plan))
then_read known old name limit new middle untouched Then bytes lent made same is falls then =
    on_plan made _ _ (λ plan h. was_read bytes middle is.0 is.1 falls (subst (λ (b : List ℕ). Then plan b middle) same h)) then

-- a script was compared with the one that there is
pub same_script : (r : Bool) (script form : List ℕ) → Decides r (script ≡ form) → form ≡ no_script → r ≡ true → script ≡ no_script
same_script r script form decides is t = decides.0 t ∙ is

pub other_script : (r : Bool) (script form : List ℕ) → Decides r (script ≡ form) → form ≡ no_script → r ≡ false → script ≢ no_script
other_script r script form decides is f e = true≢false (sym (decides.1 (e ∙ sym is)) ∙ f)

-- what is known of the files is what was known before
pub on_known : (before after : shelf.Known) (made : Result Plan AllocError) (P : shelf.Known → Plan → Type 0) → after ≡ before → IfOk made (P after) → IfOk made (P before)
on_known before after made P same h = subst (λ (k : shelf.Known). IfOk made (P k)) same h

-- what was found of bytes that were lent
pub found_plain : (lent file : List ℕ) (found : Option Plain) (plain : Plain) → lent ≡ file → found ≡ Some plain → MatchOption found (IsNotPlain lent) (λ p. IsPlain lent p) → IsPlain file plain
found_plain lent file found plain same is h =
    subst (λ (b : List ℕ). IsPlain b plain) same (subst (λ (o : Option Plain). MatchOption o (IsNotPlain lent) (λ p. IsPlain lent p)) is h)

pub found_none : (lent file : List ℕ) (found : Option Plain) → lent ≡ file → found ≡ None → MatchOption found (IsNotPlain lent) (λ p. IsPlain lent p) → IsNotPlain file
found_none lent file found same is h =
    subst IsNotPlain same (subst (λ (o : Option Plain). MatchOption o (IsNotPlain lent) (λ p. IsPlain lent p)) is h)

-- the words run a file
pub run_call : (words : Option (List ℕ)) (names : Option Names) (old new : Sources) (tells : LinkTells) (name : List ℕ) (made : Result Plan AllocError) → Some name ≡ words → tells.untouched
    → IfOk made (λ plan. RunPlan old.known old.counts name new.counts plan) → IfOk made (λ plan. CallPlan words names old new tells plan)
run_call words names old new tells name made e u p =
    subst (λ (w : Option (List ℕ)). IfOk made (λ plan. CallPlan w names old new tells plan)) e
    (on_plan made (λ plan. RunPlan old.known old.counts name new.counts plan) (λ plan. CallPlan (Some name) names old new tells plan) (λ plan h. (h, u)) p)

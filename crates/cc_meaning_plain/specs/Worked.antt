-- A worked example: 3 and 4 are added, and the sum is printed.
use Rattle.std.specs.Prelude.{◌≡◌, ℕ, List, [], ◌∷◌, Some, pos, codes}
use Rattle.cc_meaning.specs.declared.report.StopCause.TheVariants as cause
use Rattle.cc_meaning.specs.declared.report.Ending.{Ending}
use Rattle.cc_meaning.specs.declared.report.Ending.TheVariants as ending
use Rattle.cc_meaning.specs.declared.report.Report.{Report}
use Rattle.cc_meaning.specs.declared.report.Limits.{Limits}
use Rattle.cc_meaning_run.specs.Local.{local, invocations}
use Rattle.cc_meaning_plain.specs.declared.plain.PlainInsn.TheVariants.{SgetOut, Const4, AddInt2Addr, AddIntLit8, InvokePrintln, CallFunction}
use Rattle.cc_meaning_plain.specs.declared.plain.Last.TheVariants.{ReturnVoid, Return}
use Rattle.cc_meaning_plain.specs.declared.plain.Plain.{Plain}
use Rattle.cc_meaning_plain.specs.Program.{setting_of}
use Rattle.cc_meaning_plain.specs.Staged.{plain_report}

abbrev pub sum_of_two : Plain
sum_of_two = record {
  class = 76 ∷ 65 ∷ 59 ∷ [];
  main = record {
    registers = 4;
    insns = SgetOut 0 ∷ Const4 1 (pos 3) ∷ Const4 2 (pos 4) ∷ AddInt2Addr 1 2 ∷ InvokePrintln 0 1 ∷ [];
    last = ReturnVoid;
  };
  functions = [];
}

abbrev pub limits : ℕ → ℕ → Limits
limits instructions words = record { instructions = instructions; words = words }

abbrev pub report : List ℕ → Ending → ℕ → ℕ → Report
report out ends instructions words = record { out = out; calls = []; ending = ends; instructions = instructions; words = words }

-- it takes six instructions, the last of which returns
pub record TakesSix : Type 0 where
  pub five : local (setting_of sum_of_two) [] (limits 5 100) ≡ Some (report (55 ∷ 10 ∷ []) (ending.Stopped cause.Budget) 5 6)
  pub six : local (setting_of sum_of_two) [] (limits 6 100) ≡ Some (report (55 ∷ 10 ∷ []) ending.Returned 6 6)

-- it takes six words: two for the array of no arguments, and four for the print
pub record TakesSixWords : Type 0 where
  pub five : local (setting_of sum_of_two) [] (limits 100 5) ≡ Some (report [] (ending.Stopped cause.Heap) 5 2)
  pub six : local (setting_of sum_of_two) [] (limits 100 6) ≡ Some (report (55 ∷ 10 ∷ []) ending.Returned 6 6)

-- what its instructions come to says the same; below two words there is no array, and without an instruction only the array is made
pub record ComesToSix : Type 0 where
  pub no_instruction : plain_report sum_of_two (limits 0 100) ≡ report [] (ending.Stopped cause.Budget) 0 2
  pub five_instructions : plain_report sum_of_two (limits 5 100) ≡ report (55 ∷ 10 ∷ []) (ending.Stopped cause.Budget) 5 6
  pub six_instructions : plain_report sum_of_two (limits 6 100) ≡ report (55 ∷ 10 ∷ []) ending.Returned 6 6
  pub one_word : plain_report sum_of_two (limits 100 1) ≡ report [] (ending.Stopped cause.Heap) 0 0
  pub five_words : plain_report sum_of_two (limits 100 5) ≡ report [] (ending.Stopped cause.Heap) 5 2
  pub six_words : plain_report sum_of_two (limits 100 6) ≡ report (55 ∷ 10 ∷ []) ending.Returned 6 6

-- its one invocation is that of main, which records one call of `println`
abbrev pub IsOneInvocation : Type 0
IsOneInvocation = invocations (setting_of sum_of_two) [] (limits 100 100) ≡ record { method = 0; parent = 0; depth = 0; instructions = 6; calls = 8 ∷ [] } ∷ []

-- ---- a function

-- main hands 5 to a function that adds 1, and prints what it gives
abbrev pub one_more : Plain
one_more = record {
  class = 76 ∷ 65 ∷ 59 ∷ [];
  main = record {
    registers = 3;
    insns = Const4 0 (pos 5) ∷ CallFunction 0 0 0 ∷ SgetOut 1 ∷ InvokePrintln 1 0 ∷ [];
    last = ReturnVoid;
  };
  functions = record {
    name = codes "f(I)I";
    code = record { registers = 1; insns = AddIntLit8 0 0 (pos 1) ∷ []; last = Return 0 };
  } ∷ [];
}

-- eight instructions, two of them the function's; it stops where these end, within the function, before its result is taken, and after the print
pub record TakesEight : Type 0 where
  pub three : local (setting_of one_more) [] (limits 3 100) ≡ Some (report [] (ending.Stopped cause.Budget) 3 2)
  pub seven : local (setting_of one_more) [] (limits 7 100) ≡ Some (report (54 ∷ 10 ∷ []) (ending.Stopped cause.Budget) 7 6)
  pub eight : local (setting_of one_more) [] (limits 8 100) ≡ Some (report (54 ∷ 10 ∷ []) ending.Returned 8 6)

pub record FunctionComesToEight : Type 0 where
  pub three : plain_report one_more (limits 3 100) ≡ report [] (ending.Stopped cause.Budget) 3 2
  pub seven : plain_report one_more (limits 7 100) ≡ report (54 ∷ 10 ∷ []) (ending.Stopped cause.Budget) 7 6
  pub eight : plain_report one_more (limits 8 100) ≡ report (54 ∷ 10 ∷ []) ending.Returned 8 6

-- main is the method 1, behind `f`, which is called from it and does two instructions
abbrev pub AreTwoInvocations : Type 0
AreTwoInvocations = invocations (setting_of one_more) [] (limits 100 100)
    ≡ record { method = 1; parent = 0; depth = 0; instructions = 6; calls = 9 ∷ [] } ∷ record { method = 0; parent = 0; depth = 1; instructions = 2; calls = [] } ∷ []

-- The faults, the status of each, and its line.
use Rattle.std.specs.Prelude.{ℕ, List, [], ◌∷◌, ◌++◌, codes}
use Rattle.std.specs.Fmt.{decimal}
use Rattle.cc_meaning.specs.declared.fault.DexFault.{DexFault}
use Rattle.cc_meaning.specs.declared.fault.DexFault.TheVariants as dex
use Rattle.cc_meaning.specs.declared.fault.InsnFault.{InsnFault}
use Rattle.cc_meaning.specs.declared.fault.InsnFault.TheVariants as insn
use Rattle.cc_meaning.specs.declared.fault.ProgramFault.{ProgramFault}
use Rattle.cc_meaning.specs.declared.fault.ProgramFault.TheVariants as program
use Rattle.cc_meaning.specs.declared.fault.VerifyFault.{VerifyFault}
use Rattle.cc_meaning.specs.declared.fault.VerifyFault.TheVariants as verify
use Rattle.cc_output.specs.Lines.{line}
use Rattle.cc_output.specs.Shown.{shown_text, shown_units}
use Rattle.cc_output.specs.declared.plan.Plan.{Plan}
use Rattle.cc_output.specs.declared.fault.Fault.{Fault}
use Rattle.cc_output.specs.declared.fault.Fault.TheVariants as faults

-- ---- fields

-- words with a number behind them, in decimal
abbrev pub with_number : List ℕ → ℕ → List ℕ
with_number words number = words ++ 32 ∷ decimal number

-- words with a name of units behind them
abbrev pub with_name : List ℕ → List ℕ → List ℕ
with_name words name = words ++ 32 ∷ shown_units name

-- words with the name of a method behind them, and an address in it
abbrev pub with_place : List ℕ → List ℕ → ℕ → List ℕ
with_place words method pc = with_number (with_name words method) pc

-- words with the name in a text behind them
abbrev pub with_text : List ℕ → List ℕ → List ℕ
with_text words text = words ++ 32 ∷ shown_text text

-- ---- what a line says, by the kind of the fault

abbrev pub memory_words : List ℕ
memory_words = codes "fault 70 Memory"

-- the bytes are no DEX file
abbrev pub dex_words : DexFault → List ℕ
dex_words dex.NotDex035 = codes "fault 65 D1 NotDex035"
dex_words dex.BadSize = codes "fault 65 D2 BadSize"
dex_words (dex.BadChecksum stated found) = with_number (with_number (codes "fault 65 D3 BadChecksum") stated) found
dex_words dex.BadSignature = codes "fault 65 D4 BadSignature"
dex_words (dex.OutOfFile at) = with_number (codes "fault 65 D5 OutOfFile") at
dex_words (dex.BadIndex table row) = with_number (with_number (codes "fault 65 D6 BadIndex") table) row
dex_words (dex.BadText string) = with_number (codes "fault 65 D7 BadText") string
dex_words dex.TooLarge = codes "fault 65 D8 TooLarge"
dex_words (dex.BadClassData class) = with_number (codes "fault 65 D9 BadClassData") class
dex_words (dex.BadCode method) = with_number (codes "fault 65 D10 BadCode") method
dex_words (dex.BadTry method) = with_number (codes "fault 65 D11 BadTry") method
dex_words (dex.BadValue class) = with_number (codes "fault 65 D12 BadValue") class
dex_words dex.Memory = memory_words

-- the units at this place of a method are no instruction
abbrev pub insn_words : List ℕ → ℕ → InsnFault → List ℕ
insn_words method pc insn.Float = with_place (codes "fault 65 I1 Float") method pc
insn_words method pc insn.Unused = with_place (codes "fault 65 I2 Unused") method pc
insn_words method pc insn.CutOff = with_place (codes "fault 65 I3 CutOff") method pc
insn_words method pc insn.BadPayload = with_place (codes "fault 65 I4 BadPayload") method pc
insn_words method pc insn.Memory = memory_words

-- the classes are no program
abbrev pub program_words : ProgramFault → List ℕ
program_words (program.HierarchyCycle class) = with_name (codes "fault 65 L1 HierarchyCycle") class
program_words (program.NoSuperclass class) = with_name (codes "fault 65 L2 NoSuperclass") class
program_words program.NoMain = codes "fault 65 L3 NoMain"
program_words (program.Duplicate class) = with_name (codes "fault 65 L4 Duplicate") class
program_words (program.FloatMember name) = with_name (codes "fault 65 L5 FloatMember") name
program_words (program.Insn method pc fault) = insn_words method pc fault
program_words (program.BadIndex method pc) = with_place (codes "fault 65 I5 BadIndex") method pc
program_words program.Memory = memory_words

-- the method of this name isn't well typed, or too wide
abbrev pub verify_words : List ℕ → VerifyFault → List ℕ
verify_words name (verify.IllTyped method pc) = with_place (codes "fault 68 V1 IllTyped") name pc
verify_words name (verify.BadTarget method pc) = with_place (codes "fault 68 V2 BadTarget") name pc
verify_words name (verify.FallsOff method) = with_name (codes "fault 68 V3 FallsOff") name
verify_words name (verify.TooWide method) = with_name (codes "fault 68 V4 TooWide") name
verify_words name (verify.UnknownMember method pc) = with_place (codes "fault 68 V5 UnknownMember") name pc
verify_words name verify.Memory = memory_words

-- ---- what a line says

-- the faults of a file that is read or written say its name
abbrev pub words_of : Fault → List ℕ → List ℕ
words_of faults.Usage file = codes "fault 64 Usage"
words_of (faults.Dex fault) file = dex_words fault
words_of (faults.Program fault) file = program_words fault
words_of (faults.Verify name fault) file = verify_words name fault
words_of faults.Memory file = memory_words
words_of faults.ReadFault file = with_text (codes "fault 71 ReadFault") file
words_of faults.WriteFault file = with_text (codes "fault 72 WriteFault") file
words_of faults.Absent file = with_text (codes "fault 73 Absent") file
words_of faults.TooLarge file = with_text (codes "fault 74 TooLarge") file
words_of faults.NotBuilt file = codes "fault 80 NotBuilt"

abbrev pub line_of : Fault → List ℕ → List ℕ
line_of fault file = line (words_of fault file)

-- ---- statuses

-- want of memory alone has another status than the other faults of its kind
abbrev pub dex_status : DexFault → ℕ
dex_status dex.Memory = 70
dex_status _ = 65

abbrev pub insn_status : InsnFault → ℕ
insn_status insn.Memory = 70
insn_status _ = 65

abbrev pub program_status : ProgramFault → ℕ
program_status (program.Insn method pc fault) = insn_status fault
program_status program.Memory = 70
program_status _ = 65

abbrev pub verify_status : VerifyFault → ℕ
verify_status verify.Memory = 70
verify_status _ = 68

abbrev pub status_of : Fault → ℕ
status_of faults.Usage = 64
status_of (faults.Dex fault) = dex_status fault
status_of (faults.Program fault) = program_status fault
status_of (faults.Verify name fault) = verify_status fault
status_of faults.Memory = 70
status_of faults.ReadFault = 71
status_of faults.WriteFault = 72
status_of faults.Absent = 73
status_of faults.TooLarge = 74
status_of faults.NotBuilt = 80

-- a fault writes nothing on out, and its line on notes
abbrev pub fault_plan : Fault → List ℕ → Plan
fault_plan fault file = record { status = status_of fault; out = []; notes = line_of fault file }

-- The methods of a plain file, told one by one.
use Rattle.std.proofs.Common.{◌≡◌, ◌↔◌, inl, inr, ℕ, ◌+◌, ◌*◌, List, [], ◌∷◌, ◌++◌, Option, Some, None, codes, get_or, refl, ap, subst, sym, ◌∙◌, arith}
use Rattle.cc_meaning.specs.Order.{IsRising}
use Rattle.cc_meaning_dex.specs.Numbers.{u16_at, u32_at}
use Rattle.cc_meaning_plain.specs.declared.table.Table.TheVariants.{Methods, Prototypes}
use Rattle.cc_meaning_plain.specs.declared.plain.PlainInsn.{PlainInsn}
use Rattle.cc_meaning_plain.specs.declared.plain.PlainInsn.TheVariants.{SgetOut, Const4, AddInt2Addr, AddIntLit8, InvokePrintln, CallFunction}
use Rattle.cc_meaning_plain.specs.declared.plain.Last.{Last}
use Rattle.cc_meaning_plain.specs.declared.plain.Last.TheVariants.{ReturnVoid, Return}
use Rattle.cc_meaning_plain.specs.declared.plain.Member.{Member}
use Rattle.cc_meaning_plain.specs.declared.plain.PlainCode.{PlainCode}
use Rattle.cc_meaning_plain.specs.declared.plain.PlainFunction.{PlainFunction}
use Rattle.cc_meaning_plain.specs.declared.plain.Plain.{Plain}
use Rattle.cc_meaning_plain.specs.Tables.{row_at}
use Rattle.cc_meaning_plain.specs.Names.{IsFunction}
use Rattle.cc_meaning_plain.specs.Code.{units_of, Scope, IsOfMain, IsOfFunction, SpellsInsn, SpellsInsns, IsPlainCode}
use Rattle.cc_meaning_plain.specs.Plain.{IsFunctionMember, AreFunctions, HasMethods, scope_of}
use Rattle.cc_meaning_plain.specs.Methods.{alone, IsCalledMain, AreMethods, ListsMethods}
use Rattle.cc_meaning_plain.specs.Laws.{TypeOnce, NameOnce, CodeOnce, MainIsNoFunction, MethodsOnce, MethodsAgree}

-- ---- a function, whichever functions there are

scope : List ℕ → List (List ℕ) → Scope
scope class functions = record { class = class; functions = functions }

insn_alone : (file : List ℕ) (s t : Scope) (last : Last) (registers at : ℕ) (insn : PlainInsn) → IsOfFunction last → SpellsInsn file s last registers at insn → SpellsInsn file t last registers at insn
insn_alone file s t ReturnVoid registers at insn of h = absurd of
insn_alone file s t (Return from) registers at (SgetOut to) of h = h
insn_alone file s t (Return from) registers at (Const4 to value) of h = h
insn_alone file s t (Return from) registers at (AddInt2Addr to other) of h = h
insn_alone file s t (Return from) registers at (AddIntLit8 to source literal) of h = h
insn_alone file s t (Return from) registers at (InvokePrintln stream number) of h = h
insn_alone file s t (Return from) registers at (CallFunction function argument to) of h = absurd h.7

insns_alone : (file : List ℕ) (s t : Scope) (last : Last) (registers at count : ℕ) (insns : List PlainInsn) → IsOfFunction last →
    SpellsInsns file s last registers at count insns → SpellsInsns file t last registers at count insns
insns_alone file s t last registers at count [] of h = h
insns_alone file s t last registers at count (insn ∷ rest) of h =
    (h.0, h.1, insn_alone file s t last registers at insn of h.2, insns_alone file s t last registers (at + 2 * units_of insn) h.0 rest of h.3)

code_alone : (file : List ℕ) (s t : Scope) (at : ℕ) (code : PlainCode) → IsOfFunction code.last → IsPlainCode file s at code → IsPlainCode file t at code
code_alone file s t at code of h =
    record {
      some = h.some;
      head = h.head;
      registers_stated = h.registers_stated;
      some_registers = h.some_registers;
      few_registers = h.few_registers;
      one_argument = h.one_argument;
      no_tries = h.no_tries;
      few_units = h.few_units;
      units_stand = h.units_stand;
      units = insns_alone file s t code.last code.registers (at + 16) (u32_at file (at + 12)) code.insns of h.units;
      uses = h.uses;
    }

function_alone : (file : List ℕ) (s t : Scope) (m : Member) (f : PlainFunction) → s.class ≡ t.class → IsFunctionMember file s m f → IsFunctionMember file t m f
function_alone file s t m f e h =
    record {
      static = h.static;
      named = subst (λ class. IsFunction file class m.method f.name) e h.named;
      ordinary = h.ordinary;
      returns = h.returns;
      code = code_alone file s t m.code_at f.code h.returns h.code;
    }

-- ---- both ways of telling

only_functions : (file : List ℕ) (s : Scope) (ms : List Member) (fs : List PlainFunction) → AreFunctions file s ms fs → AreMethods file s.class ms None fs
only_functions file s [] [] h = (refl, refl)
only_functions file s [] (f ∷ fs) h = absurd h
only_functions file s (m ∷ ms) [] h = absurd h
only_functions file s (m ∷ ms) (f ∷ fs) h = inr (f, fs, refl, function_alone file s (alone s.class) m f refl h.0, only_functions file s ms fs h.1)

main_among : (file : List ℕ) (s : Scope) (before : List Member) (main : Member) (after : List Member) (fs : List PlainFunction) →
    IsCalledMain file s.class main → AreFunctions file s (before ++ after) fs → AreMethods file s.class (before ++ main ∷ after) (Some main) fs
main_among file s [] main after fs called h = inl (called, refl, only_functions file s after fs h)
main_among file s (m ∷ ms) main after [] called h = absurd h
main_among file s (m ∷ ms) main after (f ∷ fs) called h = inr (f, fs, refl, function_alone file s (alone s.class) m f refl h.0, main_among file s ms main after fs called h.1)

none_is_main : (file : List ℕ) (s : Scope) (ms : List Member) (main : Option Member) (fs : List PlainFunction) → main ≡ None → AreMethods file s.class ms main fs → AreFunctions file s ms fs
none_is_main file s [] main fs none h = subst (AreFunctions file s []) (sym h.1) tt
none_is_main file s (m ∷ ms) main fs none (inl h) = absurd (let e = h.1 in cc)
none_is_main file s (m ∷ ms) main fs none (inr h) =
    subst (AreFunctions file s (m ∷ ms)) (sym h.2) (function_alone file (alone s.class) s m h.0 refl h.3, none_is_main file s ms main h.1 none h.4)

-- where `main` stands among the methods
pub record MainStands (file : List ℕ) (s : Scope) (ms : List Member) (main : Member) (fs : List PlainFunction) : Type 0 where
  pub before : List Member
  pub after : List Member
  pub listed : ms ≡ before ++ main ∷ after
  pub called : IsCalledMain file s.class main
  pub functions : AreFunctions file s (before ++ after) fs

main_stands : (file : List ℕ) (s : Scope) (ms : List Member) (main : Member) (fs : List PlainFunction) (found : Option Member) → found ≡ Some main → AreMethods file s.class ms found fs → MainStands file s ms main fs
main_stands file s [] main fs found is h = absurd (let e = h.0 in cc)
main_stands file s (m ∷ ms) main fs found is (inl h) =
    let e : m ≡ main = let f = h.1 in cc in
    record {
      before = [];
      after = ms;
      listed = ap (λ x. x ∷ ms) e;
      called = subst (IsCalledMain file s.class) e h.0;
      functions = none_is_main file s ms None fs refl h.2;
    }
main_stands file s (m ∷ ms) main fs found is (inr h) =
    let rest = main_stands file s ms main h.1 found is h.4 in
    record {
      before = m ∷ rest.before;
      after = rest.after;
      listed = ap (λ xs. m ∷ xs) rest.listed;
      called = rest.called;
      functions = subst (AreFunctions file s (m ∷ (rest.before ++ rest.after))) (sym h.2) (function_alone file (alone s.class) s m h.0 refl h.3, rest.functions);
    }

lists_methods : (file : List ℕ) (members : List Member) (plain : Plain) → HasMethods file members plain → ListsMethods file members plain
lists_methods file members plain h =
    let called : IsCalledMain file plain.class h.main = record { static = h.is_main.static; named = h.is_main.named } in
    record {
      main = h.main;
      functions = h.functions;
      methods = subst (λ ms. AreMethods file plain.class ms (Some h.main) h.functions) (sym h.listed) (main_among file (scope_of plain) h.before h.main h.after h.functions called h.are_functions);
      returns = h.is_main.returns;
      code = h.is_main.code;
      same = h.same;
      in_order = h.in_order;
    }

has_methods : (file : List ℕ) (members : List Member) (plain : Plain) → ListsMethods file members plain → HasMethods file members plain
has_methods file members plain h =
    let stands = main_stands file (scope_of plain) members h.main h.functions (Some h.main) refl h.methods in
    record {
      before = stands.before;
      main = h.main;
      after = stands.after;
      functions = h.functions;
      listed = stands.listed;
      is_main = record { static = stands.called.static; named = stands.called.named; returns = h.returns; code = h.code };
      are_functions = stands.functions;
      same = h.same;
      in_order = h.in_order;
    }

pub methods_agree : MethodsAgree
methods_agree file members plain = (lists_methods file members plain, has_methods file members plain)

-- ---- one way at most

other_letters : codes "V" ≡ codes "I" → ⊥
other_letters e = absurd (let first : 86 ≡ 73 = ap (λ units. get_or units 0 0) e in omega (arith, first))

-- their results are `V` and `I`
pub main_is_no_function : TypeOnce → MainIsNoFunction
main_is_no_function types file class row name main function =
    let prototype = row_at file Prototypes (u16_at file (row_at file Methods row + 2)) in
    let e : codes "V" ≡ codes "I" = types file (u32_at file (prototype + 4)) (codes "V") (codes "I") main.prototype.gives function.method.prototype.gives in
    other_letters e

none_rises : IsRising []
none_rises i j d below within = absurd (omega arith)

neither_of_main : (first second : Last) → IsOfFunction first → IsOfFunction second → IsOfMain first ↔ IsOfMain second
neither_of_main ReturnVoid second a b = absurd a
neither_of_main (Return from) ReturnVoid a b = absurd b
neither_of_main (Return from) (Return from') a b = (λ h. h, λ h. h)

function_from : List ℕ → PlainCode → PlainFunction
function_from name code = record { name = name; code = code }

same_function : (first second : PlainFunction) → first.name ≡ second.name → first.code ≡ second.code → first ≡ second
unfolding function_from
same_function first second name code = ap (λ n. function_from n first.code) name ∙ ap (λ c. function_from second.name c) code

function_once : NameOnce → CodeOnce → (file class : List ℕ) (m : Member) (first second : PlainFunction) →
    IsFunctionMember file (alone class) m first → IsFunctionMember file (alone class) m second → first ≡ second
function_once names codes file class m first second a b =
    same_function first second (names file class m.method first.name second.name a.named b.named)
    (codes file (alone class) m.code_at first.code second.code none_rises (neither_of_main first.code.last second.code.last a.returns b.returns) a.code b.code)

pub methods_once : NameOnce → CodeOnce → MainIsNoFunction → MethodsOnce
methods_once names codes other file class [] main1 main2 functions1 functions2 a b = (a.0 ∙ sym b.0, a.1 ∙ sym b.1)
methods_once names codes other file class (m ∷ ms) main1 main2 functions1 functions2 (inl a) (inl b) =
    let rest = methods_once names codes other file class ms None None functions1 functions2 a.2 b.2 in
    (a.1 ∙ sym b.1, rest.1)
methods_once names codes other file class (m ∷ ms) main1 main2 functions1 functions2 (inl a) (inr b) = absurd (other file class m.method b.0.name a.0.named b.3.named)
methods_once names codes other file class (m ∷ ms) main1 main2 functions1 functions2 (inr a) (inl b) = absurd (other file class m.method a.0.name b.0.named a.3.named)
methods_once names codes other file class (m ∷ ms) main1 main2 functions1 functions2 (inr a) (inr b) =
    let rest = methods_once names codes other file class ms main1 main2 a.1 b.1 a.4 b.4 in
    let f = function_once names codes file class m a.0 b.0 a.3 b.3 in
    (rest.0, a.2 ∙ (ap (λ x. x ∷ a.1) f ∙ (ap (λ xs. b.0 ∷ xs) rest.1 ∙ sym b.2)))

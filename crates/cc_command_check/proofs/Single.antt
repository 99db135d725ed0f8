-- At any words a parse of `check` may fail by one kind of error at most.
use Rattle.std.specs.Prelude.{nat_lt, min, ◌==◌, ◌&&◌, ◌||◌, length, drop, encode_utf8, slice_get}
use Rattle.std.specs.Str.{bytes_eq, chars}
use Rattle.std.proofs.Common.{inl, inr, ◌≡◌, ◌+◌, ℕ, zero, suc, Bool, true, false, not, List, [], ◌∷◌, Option, Some, None, is_some, if◌then◌else◌, refl, sym, ap, ap₂, subst, ◌∙◌}
use Rattle.std.specs.Option.{option_map_or}
use Rattle.std.specs.List.{list_any}
use Rattle.clap.specs.Lexer.{long_of, short_of}
use Rattle.clap.specs.Facts.{explicit_source, parser_of_value, unwrap_or_range}
use Rattle.clap.specs.Takes.{is_given}
use Rattle.clap.specs.Values.{refused_kind}
use Rattle.clap.specs.ValueTests.{accepts}
use Rattle.clap.specs.Matches.{count_text}
use Rattle.clap.specs.Kinds.{Kinds, IsAmong, or_else, value_kinds, values_kinds, range_kinds, request_kinds, check_kinds}
use Rattle.clap.specs.Walk.{Held, Row, Rule, Step, next, trailing, subcommand, value, Text, Waiting, idle, option, positional, Walk, subcommand_met, count_of, action_of, arg_by_id, arg_by_index, arg_by_long, arg_by_short, attached_value, finished, has_row, is_empty, is_pending, most_values, nothing_held, reacted, settled, takes_several, takes_values, values_or_missing, walk, walk_from, walked, with_default, word_met}
use Rattle.clap.specs.Faults.{action_fault, set_fault, count_fault, use_fault, settle_fault, react_fault, option_fault, long_fault, short_fault, bundle_step_fault, bundle_fault, flags_fault, flag_word_fault, other_fault, word_fault, positional_fault, stray_fault, step_fault, turn_fault, walk_fault, default_fault, defaults_fault, level_fault, entered_fault, fault_of}
use Rattle.clap.specs.Simple.{Shape, built, entered, argument_words}
use Rattle.clap.specs.declared.builder.action.ArgAction.{ArgAction}
use Rattle.clap.specs.declared.builder.action.ArgAction.TheVariants as actions
use Rattle.clap.specs.declared.builder.value_parser.ValueParser.{ValueParser}
use Rattle.clap.specs.declared.error.kind.ErrorKind.{ErrorKind}
use Rattle.clap.specs.declared.error.kind.ErrorKind.TheVariants as kinds
use Rattle.cc_command_check.specs.Calls.{Call, check, help, version, faulty}
use Rattle.cc_command_check.specs.Ends.{call_at}
use Rattle.cc_command_check.specs.CheckLine.{check_app, RefusedBy, OneCall}

-- no kind, or one
pub data Single : Kinds → Type 0 where
  none : Single []
  one : (kind : ErrorKind) → Single (kind ∷ [])

either : (a b : Kinds) → Single a → Single b → Single (or_else a b)
either a b none t = t
either a b (one kind) t = one kind

choose : (c : Bool) (a b : Kinds) → Single a → Single b → Single (if c then a else b)
choose true a b s t = s
choose false a b s t = t

-- what is said of a thing that may be there
held : {A : Type 0} (f : A → Kinds) (o : Option A) (d : Kinds) → ((x : A) → Single (f x)) → Single d → Single (option_map_or f o d)
held f (Some x) d s t = s x
held f None d s t = t

-- ---- one use of an argument

value_single : (i : Bool) (p : ValueParser) (v : List ℕ) → Single (value_kinds i p v)
value_single i p v = choose (accepts i p v) _ _ none (one (refused_kind p))

values_single : (i : Bool) (p : ValueParser) (vs : List (List ℕ)) → Single (values_kinds i p vs)
values_single i p [] = none
values_single i p (v ∷ vs) = either _ _ (value_single i p v) (values_single i p vs)

range_single : (least most n : ℕ) → Single (range_kinds least most n)
range_single least most n =
    choose (nat_lt 0 least && n == 0) _ _ (one kinds.InvalidValue) (choose (least == most) _ _ (choose (least == n) _ _ none (one kinds.WrongNumberOfValues))
    (choose (nat_lt n least) _ _ (one kinds.TooFewValues) (choose (nat_lt most n) _ _ (one kinds.TooManyValues) none)))

request_single : (action : ArgAction) → Single (request_kinds action)
request_single actions.Set = none
request_single actions.Append = none
request_single actions.SetTrue = none
request_single actions.SetFalse = none
request_single actions.Count = none
request_single actions.Help = one _
request_single actions.HelpShort = one _
request_single actions.HelpLong = one _
request_single actions.Version = one _

set_single : (again : Bool) (a : Rule) (values : List Text) (rows : List Row) → Single (set_fault again a values rows)
set_single again a values rows = either _ _ (choose (has_row a.id rows && not again) _ _ (one kinds.ArgumentConflict) none) (values_single a.ignore_case (parser_of_value a.parser) values)

count_single : (a : Rule) (values : List Text) (rows : List Row) → Single (count_fault a values rows)
count_single a [] rows = value_single a.ignore_case (parser_of_value a.parser) (count_text (min (count_of a.id rows + 1) 255))
count_single a (v ∷ vs) rows = values_single a.ignore_case (parser_of_value a.parser) (v ∷ vs)

action_single : (action : ArgAction) (again : Bool) (a : Rule) (values : List Text) (rows : List Row) → Single (action_fault action again a values rows)
action_single actions.Set again a values rows = set_single again a values rows
action_single actions.SetTrue again a values rows = set_single again a values rows
action_single actions.SetFalse again a values rows = set_single again a values rows
action_single actions.Append again a values rows = values_single a.ignore_case (parser_of_value a.parser) values
action_single actions.Count again a values rows = count_single a values rows
action_single actions.Help again a values rows = one _
action_single actions.HelpShort again a values rows = one _
action_single actions.HelpLong again a values rows = one _
action_single actions.Version again a values rows = one _

use_single : (again : Bool) (a : Rule) (values : List Text) (rows : List Row) → Single (use_fault again a values rows)
use_single again a values rows =
    either _ _ (range_single (unwrap_or_range a.range).start_inclusive (most_values a) (length values)) (action_single (action_of a) again a (values_or_missing a values) rows)

-- ---- the walk over the words

settle_single : (c : List Rule) (again : Bool) (h : Held) → Single (settle_fault c again h)
settle_single c again h =
    held (λ p. option_map_or (λ a. use_fault again a p.1 h.rows) (arg_by_id c p.0) []) h.pending [] (λ p. held (λ a. use_fault again a p.1 h.rows) (arg_by_id c p.0) [] (λ a. use_single again a p.1 h.rows) none) none

react_single : (c : List Rule) (again : Bool) (a : Rule) (values : List Text) (h : Held) → Single (react_fault c again a values h)
react_single c again a values h = either _ _ (settle_single c again h) (use_single again a values (settled c h).rows)

option_single : (c : List Rule) (again : Bool) (a : Rule) (v : Option Text) (h : Held) → Single (option_fault c again a v h)
option_single c again a (Some v) h = react_single c again a (v ∷ []) h
option_single c again a None h = settle_single c again h

long_single : (c : List Rule) (again : Bool) (a : Option Rule) (v : Option Text) (h : Held) → Single (long_fault c again a v h)
long_single c again None v h = one kinds.UnknownArgument
long_single c again (Some a) v h = choose (takes_values a) _ _ (option_single c again a v h) (choose (is_some v) _ _ (one kinds.TooManyValues) (react_single c again a [] h))

short_single : (c : List Rule) (again : Bool) (a : Option Rule) (rest : Text) (h : Held) (more : Held → Kinds) → ((h : Held) → Single (more h)) → Single (short_fault c again a rest h more)
short_single c again None rest h more s = one kinds.UnknownArgument
short_single c again (Some a) rest h more s = choose (takes_values a) _ _ (option_single c again a (attached_value rest) h) (either _ _ (react_single c again a [] h) (s (reacted c a [] h)))

bundle_step_single : (c : List Rule) (again : Bool) (x : Option ℕ) (flags : Text) (skip : ℕ) (h : Held) (more : Text → ℕ → Held → Kinds) →
    ((flags : Text) (skip : ℕ) (h : Held) → Single (more flags skip h)) → Single (bundle_step_fault c again x flags skip h more)
bundle_step_single c again None flags skip h more s = none
bundle_step_single c again (Some x) flags zero h more s =
    let rest = drop (length (encode_utf8 x)) flags in
    short_single c again (arg_by_short c x) rest h (more rest 0) (s rest 0)
bundle_step_single c again (Some x) flags (suc skip) h more s = s (drop (length (encode_utf8 x)) flags) skip h

flags_single : (c : List Rule) (again : Bool) (k : ℕ) (flags : Text) (skip : ℕ) (h : Held) → Single (flags_fault c again k flags skip h)
unfolding flags_fault
flags_single c again zero flags skip h = none
flags_single c again (suc k) flags skip h = bundle_step_single c again (slice_get (chars flags) 0) flags skip h (flags_fault c again k) (flags_single c again k)

flag_word_single : (c : List Rule) (again : Bool) (p : Option (Text × Option Text)) (word : Text) (h : Held) → Single (flag_word_fault c again p word h)
flag_word_single c again (Some p) word h = long_single c again (arg_by_long c p.0) p.1 h
flag_word_single c again None word h =
    held (λ flags. bundle_fault c again flags h) (short_of word) [] (λ flags. flags_single c again (length flags) flags h.skip (record h { skip = 0 })) none

-- a command without subcommands meets none
meets_none : (waiting : Waiting) (word : Text) → subcommand_met [] waiting word ≡ None
meets_none idle word = refl
meets_none (option id) word = refl
meets_none positional word = refl

other_single : (s : Shape) (word : Text) (h : Held) → Single (other_fault s None word h)
other_single s word h = choose (bytes_eq word (45 ∷ 45 ∷ [])) _ _ none (flag_word_single s.rules s.args_override_self (long_of word) word h)

word_single : (s : Shape) (is_trailing : Bool) (waiting : Waiting) (word : Text) (h : Held) → Single (word_fault s [] is_trailing waiting word h)
word_single s is_trailing waiting word h =
    choose is_trailing _ _ none (subst (λ (met : Option Text). Single (other_fault s met word h)) (sym (meets_none waiting word)) (other_single s word h))

positional_single : (c : List Rule) (again : Bool) (a : Rule) (h : Held) → Single (positional_fault c again a h)
positional_single c again a h = choose (is_pending a h.pending && takes_several a) _ _ none (settle_single c again h)

stray_single : (s : Shape) → s.is_leaf ≡ true → Single (stray_fault s)
stray_single s leaf = subst (λ (b : Bool). Single (if b then kinds.UnknownArgument ∷ [] else kinds.UnknownArgument ∷ kinds.InvalidSubcommand ∷ [])) (sym leaf) (one kinds.UnknownArgument)

step_single : (s : Shape) → s.is_leaf ≡ true → (position : ℕ) (h : Held) (step : Step) → Single (step_fault s position h step)
step_single s leaf position h value =
    held (λ a. positional_fault s.rules s.args_override_self a h) (arg_by_index s.rules position) (stray_fault s) (λ a. positional_single s.rules s.args_override_self a h) (stray_single s leaf)
step_single s leaf position h (next waiting) = none
step_single s leaf position h (trailing at) = none
step_single s leaf position h (subcommand name) = none

turn_single : (s : Shape) → s.is_leaf ≡ true → (w : Walk) (word : Text) → Single (turn_fault s [] w word)
turn_single s leaf w word =
    let met = word_met s.rules [] w.is_trailing w.waiting w.position word w.held in
    choose (is_some w.stopped) _ _ none (either _ _ (word_single s w.is_trailing w.waiting word w.held) (step_single s leaf w.position met.0 met.1))

walk_single : (s : Shape) → s.is_leaf ≡ true → (w : Walk) (words : List Text) → Single (walk_fault s [] w words)
unfolding walk_fault
walk_single s leaf w [] = none
walk_single s leaf w (word ∷ rest) = either _ _ (turn_single s leaf w word) (walk_single s leaf (walked s.rules [] w word) rest)

-- ---- after the walk

default_single : (rows : List Row) (a : Rule) → Single (default_fault rows a)
default_single rows a =
    choose (has_row a.id rows || is_empty a.defaults) _ _ none (either _ _ (request_single (action_of a)) (values_single a.ignore_case (parser_of_value a.parser) a.defaults))

defaults_single : (rules : List Rule) (rows : List Row) → Single (defaults_fault rows rules)
unfolding defaults_fault
defaults_single [] rows = none
defaults_single (a ∷ rest) rows = either _ _ (default_single rows a) (defaults_single rest (with_default rows a))

check_single : (asks lacks_command lacks : Bool) → Single (check_kinds asks lacks_command lacks)
check_single asks lacks_command lacks = choose asks _ _ (one kinds.DisplayHelpOnMissingArgumentOrSubcommand) (choose lacks_command _ _ (one kinds.MissingSubcommand) (choose lacks _ _ (one kinds.MissingRequiredArgument) none))

level_single : (s : Shape) → s.is_leaf ≡ true → (h : Held) (words : List Text) (entered : Bool) (below : Kinds) → Single below → Single (level_fault s [] h words entered below)
level_single s leaf h words entered below b =
    let end = (walk s.rules [] h words).held in
    either _ _ (walk_single s leaf (walk_from h) words)
    (either _ _ b (either _ _ (settle_single s.rules s.args_override_self end) (either _ _ (defaults_single s.rules (settled s.rules end).rows)
    (check_single (not entered && (s.arg_required_else_help && not (list_any (λ r. explicit_source r.source) (finished s.rules end)))) (not entered && s.subcommand_required)
    (not (s.subcommand_negates_reqs && entered) && list_any (λ a. a.required && not (is_given a.id (finished s.rules end))) s.rules)))))

pub at_most_one : (words : List Text) → Single (fault_of check_app words)
at_most_one words =
    let app = built check_app in
    let rest = argument_words check_app words in
    let stop = (walk app.top.rules [] nothing_held rest).stopped in
    level_single app.top refl nothing_held rest (is_some (entered app stop)) (entered_fault app stop) (held (λ p. []) stop [] (λ p. none) none)

-- ---- so words call for one thing

same_kind : (ks : Kinds) (one other : ErrorKind) → Single ks → IsAmong one ks → IsAmong other ks → one ≡ other
same_kind ks a b none h k = absurd h
same_kind ks a b (one kind) (inl h) (inl k) = h ∙ sym k
same_kind ks a b (one kind) (inr h) k = absurd h
same_kind ks a b (one kind) (inl h) (inr k) = absurd k

some_same : {A : Type 0} {a b : A} → Some a ≡ Some b → a ≡ b
some_same e = cc

refused_once : (words : List Text) (a b : Call) → RefusedBy words a → RefusedBy words b → a ≡ b
refused_once words a b this that =
    some_same (sym this.comes ∙ ap call_at (same_kind (fault_of check_app words) this.kind that.kind (at_most_one words) this.among that.among) ∙ that.comes)

not_both : (words : List Text) (call : Call) → fault_of check_app words ≡ [] → RefusedBy words call → ⊥
not_both words call clear refused = subst (IsAmong refused.kind) clear refused.among

pub one_call : OneCall
one_call words (check file main) (check file' main') (clear, is, with) (clear', is', with') = ap₂ check (some_same (sym is ∙ is')) (sym with ∙ with')
one_call words (check file main) help a b = absurd (not_both words help a.0 b)
one_call words (check file main) version a b = absurd (not_both words version a.0 b)
one_call words (check file main) faulty a b = absurd (not_both words faulty a.0 b)
one_call words help (check file main) a b = absurd (not_both words help b.0 a)
one_call words version (check file main) a b = absurd (not_both words version b.0 a)
one_call words faulty (check file main) a b = absurd (not_both words faulty b.0 a)
one_call words help help a b = refl
one_call words help version a b = refused_once words help version a b
one_call words help faulty a b = refused_once words help faulty a b
one_call words version help a b = refused_once words version help a b
one_call words version version a b = refl
one_call words version faulty a b = refused_once words version faulty a b
one_call words faulty help a b = refused_once words faulty help a b
one_call words faulty version a b = refused_once words faulty version a b
one_call words faulty faulty a b = refl

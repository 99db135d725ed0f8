-- A payload is a Hello in one way at most.
use Rattle.std.proofs.Common.{◌≡◌, ℕ, ◌<◌, ◌^◌, List, [], ◌++◌, length, take, drop, Ok, Err, refl, sym, ap, subst, ◌∙◌}
use Rattle.std.specs.Int.{w32, to_be_bytes, from_be_bytes}
use Rattle.std.proofs.lemmas.Nat.{from_be_bytes-to_be_bytes_4}
use Rattle.std.proofs.lemmas.List.{append-nil, append_cancel_left}
use Rattle.std.proofs.Math.Seq.{take-append_seam}
use Rattle.cc_meaning_plain.specs.declared.plain.Plain.{Plain}
use Rattle.cc_meaning_plain.specs.Plain.{IsPlain}
use Rattle.cc_meaning_clone.specs.Hello.{with_length, TextOnce, IsHelloOf, IsHello, accepted, malformed, of_another_form, HelloOnce, RefusedOnce, JudgedOnce}

-- a text with its length before it, and what follows it, are read off in one way
text_once : (a b x y : List ℕ) → length a < 2 ^ 32 → length b < 2 ^ 32 → with_length a ++ x ≡ with_length b ++ y → (a ≡ b) × (x ≡ y)
text_once a b x y short other e =
    let numbers : to_be_bytes w32 (length a) ≡ to_be_bytes w32 (length b) = ap (take 4) e in
    let long : length a ≡ length b = sym (from_be_bytes-to_be_bytes_4 (length a) short) ∙ ap (from_be_bytes w32) numbers ∙ from_be_bytes-to_be_bytes_4 (length b) other in
    let behind : a ++ x ≡ b ++ y = ap (drop 4) e in
    let same : a ≡ b = sym (take-append_seam a x) ∙ ap (λ (n : ℕ). take n (a ++ x)) long ∙ ap (take (length b)) behind ∙ take-append_seam b y in
    (same, append_cancel_left b x y (ap (λ (t : List ℕ). t ++ x) (sym same) ∙ behind))

pub begins_once : TextOnce
begins_once bytes a x b y one two = text_once a b x y one.is_short two.is_short (sym one.spelled ∙ two.spelled)

pub hello_once : HelloOnce
hello_once payload main file script other_main other_file other_script first second =
    let all = ap (drop 1) (sym first.spelled ∙ second.spelled) in
    let one = text_once main other_main (with_length file ++ with_length script) (with_length other_file ++ with_length other_script) first.main_is_short second.main_is_short all in
    let two = text_once file other_file (with_length script) (with_length other_script) first.file_is_short second.file_is_short one.1 in
    let three = text_once script other_script [] [] first.script_is_short second.script_is_short (append-nil (with_length script) ∙ two.1 ∙ sym (append-nil (with_length other_script))) in
    (one.0, two.0, three.0)

is_hello : (payload : List ℕ) (plain : Plain) → IsHelloOf payload plain → IsHello payload
is_hello payload plain of = (of.main, of.file, of.script, of.spells)

pub refused_once : RefusedOnce
refused_once payload _ (Ok _) (malformed not) (accepted q two) = absurd (not (is_hello payload q two))
refused_once payload _ (Ok _) (of_another_form is none) (accepted q two) = absurd (none q two)
refused_once payload _ (Err _) (malformed not) (malformed nor) = refl
refused_once payload _ (Err _) (of_another_form is none) (of_another_form was no_other) = refl
refused_once payload _ (Err _) (malformed not) (of_another_form is none) = absurd (not is)
refused_once payload _ (Err _) (of_another_form is none) (malformed not) = absurd (not is)

pub judged_once : JudgedOnce
judged_once plain_once payload (Ok _) (Ok _) (accepted p one) (accepted q two) =
    let same = hello_once payload one.main one.file one.script two.main two.file two.script one.spells two.spells in
    ap Ok (plain_once one.file p q one.is_plain (subst (λ (file : List ℕ). IsPlain file q) (sym same.1) two.is_plain))
judged_once plain_once payload (Ok p) (Err status) one two = refused_once payload status (Ok p) two one
judged_once plain_once payload (Err status) other one two = sym (refused_once payload status other one two)

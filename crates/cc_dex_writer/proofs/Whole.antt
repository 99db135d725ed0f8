-- A body, with its signature and its sum before it, is the whole file.
use Rattle.std.proofs.Common.{◌≡◌, ℕ, ◌+◌, ◌≤◌, List, [], ◌++◌, length, take, drop, true, nat_eq, refl, sym, ap, subst, ◌∙◌, arith}
use Rattle.std.specs.List.{flat_map, starts_with}
use Rattle.std.specs.Cmp.Lexicographic.{pointwise}
use Rattle.std.proofs.lemmas.List.{append_assoc, append-nil, length-append, take_at, drop_at}
use Rattle.sha1.specs.Sha1.{sha1}
use Rattle.cc_meaning.specs.declared.file.Ids.{Ids}
use Rattle.cc_meaning_dex.specs.Adler32.{adler32_of}
use Rattle.cc_meaning_dex.specs.Numbers.{Stands}
use Rattle.cc_meaning_dex.specs.Tables.{magic, usual_order, longest_file, IsHeader, stated_sum, found_sum, stated_signature, found_signature}
use Rattle.cc_meaning_builder.specs.Forms.{u32_form}
use Rattle.cc_meaning_builder.specs.Written.{HasNoSections}
use Rattle.cc_builder_laws.specs.Standing.{StandsBehind}
use Rattle.cc_dex_writer.specs.declared.offsets.Offsets.{Offsets}
use Rattle.cc_dex_writer.specs.Layout.{texts_at, data_start_of, header_numbers}
use Rattle.cc_dex_writer.specs.Laws.{Lower, BuiltIsWhole}
use Rattle.cc_dex_writer.specs.Rows.{tables_form}
use Rattle.cc_dex_writer.specs.Whole.{IsBody, signed_form, file_form}
use Rattle.cc_dex_writer.proofs.Digests.{digest_size, sum_fits}
use Rattle.cc_dex_writer.proofs.Sizes.{little_size, flat_size, tables_size}
use Rattle.cc_dex_writer.proofs.Spelled.{IsLaid, stated, has_tables, tables_spelled}

-- a part stands behind what is in front of it
stands_at : StandsBehind → (file front part rest : List ℕ) (at : ℕ) → file ≡ front ++ (part ++ rest) → length front ≡ at → Stands file at part
stands_at behind file front part rest at is size =
    subst (λ k. Stands file k part) size (subst (λ f. Stands f (length front) part) (sym is) (behind front part rest))

module _ (lower : Lower) (ids : Ids) (offsets : Offsets) (bytes body : List ℕ) (is : IsBody ids offsets bytes body) where
  abbrev file : List ℕ
  file = file_form body

  abbrev sum : ℕ
  sum = adler32_of (signed_form body)

  abbrev tables : List ℕ
  tables = tables_form ids offsets

  abbrev numbers : List ℕ
  numbers = flat_map u32_form is.numbers

  -- what stands before the signature, and with the signature
  abbrev summed : List ℕ
  summed = magic ++ u32_form sum

  abbrev signed : List ℕ
  signed = summed ++ sha1 body

  magic_size : length magic ≡ 8
  magic_size = refl

  summed_size : length summed ≡ 12
  summed_size = omega (arith, length-append magic (u32_form sum), magic_size, little_size sum)

  signed_size : length signed ≡ 32
  signed_size = omega (arith, length-append summed (sha1 body), summed_size, digest_size body)

  behind_sum : file ≡ summed ++ signed_form body
  behind_sum = sym (append_assoc magic (u32_form sum) (signed_form body))

  behind_signature : file ≡ signed ++ body
  behind_signature = behind_sum ∙ sym (append_assoc summed (sha1 body) body)

  parts : file ≡ signed ++ (numbers ++ (tables ++ bytes))
  parts = behind_signature ∙ ap (λ (rest : List ℕ). signed ++ rest) is.form

  numbers_size : length numbers ≡ 80
  numbers_size = omega (arith, flat_size u32_form 4 little_size is.numbers, is.each)

  header_size : length (signed ++ numbers) ≡ texts_at
  header_size = omega (arith, length-append signed numbers, signed_size, numbers_size)

  behind_header : file ≡ (signed ++ numbers) ++ (tables ++ bytes)
  behind_header = parts ∙ sym (append_assoc signed numbers (tables ++ bytes))

  front_size : length ((signed ++ numbers) ++ tables) ≡ data_start_of ids
  front_size = omega (arith, length-append (signed ++ numbers) tables, header_size, tables_size ids offsets)

  behind_tables : file ≡ ((signed ++ numbers) ++ tables) ++ bytes
  behind_tables = behind_header ∙ sym (append_assoc (signed ++ numbers) tables bytes)

  file_size : length file ≡ data_start_of ids + length bytes
  file_size = ap length behind_tables ∙ omega (arith, length-append ((signed ++ numbers) ++ tables) bytes, front_size)

  bytes_stand : Stands file (data_start_of ids) bytes
  bytes_stand =
      let whole : file ≡ ((signed ++ numbers) ++ tables) ++ (bytes ++ []) = behind_tables ∙ ap (λ (rest : List ℕ). ((signed ++ numbers) ++ tables) ++ rest) (sym (append-nil bytes)) in
      stands_at lower.behind file ((signed ++ numbers) ++ tables) bytes [] (data_start_of ids) whole front_size

  laid : length file ≤ longest_file → IsLaid ids offsets (length bytes) file
  laid short =
      let exact = is.exact (omega (arith, short, file_size)) in
      record {
        numbers = subst (λ ns. Stands file 32 (flat_map u32_form ns)) exact (stands_at lower.behind file signed numbers (tables ++ bytes) 32 parts signed_size);
        tables = stands_at lower.behind file (signed ++ numbers) tables bytes texts_at behind_header header_size;
        long = file_size;
        short = short;
      }

  begins : starts_with nat_eq file magic ≡ true
  begins = ap (λ (front : List ℕ). pointwise nat_eq magic front) (take_at magic (u32_form sum ++ signed_form body) (length magic) refl)

  sum_stated : stated_sum file ≡ found_sum file
  sum_stated =
      let stands = stands_at lower.behind file magic (u32_form sum) (signed_form body) 8 refl magic_size in
      (lower.u32 file 8 sum (sum_fits (signed_form body)) stands).1
      ∙ ap adler32_of (sym (ap (drop 12) behind_sum ∙ drop_at summed (signed_form body) 12 summed_size))

  signature_stated : stated_signature file ≡ found_signature file
  signature_stated =
      ap (take 20) (ap (drop 12) behind_sum ∙ drop_at summed (signed_form body) 12 summed_size)
      ∙ take_at (sha1 body) body 20 (digest_size body)
      ∙ ap sha1 (sym (ap (drop 32) behind_signature ∙ drop_at signed body 32 signed_size))

  header : length file ≤ longest_file → IsHeader file
  unfolding header_numbers
  header short =
      let parts_laid = laid short in
      record {
        few = short;
        whole = omega (arith, file_size);
        magic = begins;
        order = stated lower ids offsets (length bytes) file parts_laid 2 usual_order refl (omega arith);
        header_size = stated lower ids offsets (length bytes) file parts_laid 1 112 refl (omega arith);
        file_size = stated lower ids offsets (length bytes) file parts_laid 0 (data_start_of ids + length bytes) refl (omega (arith, file_size, short)) ∙ sym file_size;
        sum = sum_stated;
        signature = signature_stated;
      }

  sections : length file ≤ longest_file → HasNoSections file
  unfolding header_numbers
  sections short =
      let parts_laid = laid short in
      record {
        link_size = stated lower ids offsets (length bytes) file parts_laid 3 0 refl (omega arith);
        link_at = stated lower ids offsets (length bytes) file parts_laid 4 0 refl (omega arith);
        map_at = stated lower ids offsets (length bytes) file parts_laid 5 0 refl (omega arith);
      }

pub built_is_whole : Lower → BuiltIsWhole
built_is_whole lower ids offsets bytes body is = record {
  long = file_size lower ids offsets bytes body is;
  stands = bytes_stand lower ids offsets bytes body is;
  wide = is.wide;
  header = header lower ids offsets bytes body is;
  sections = sections lower ids offsets bytes body is;
  tables = λ short. has_tables lower ids offsets (length bytes) (file_form body) (laid lower ids offsets bytes body is short);
  spelled = λ short. tables_spelled lower ids offsets (length bytes) (file_form body) (laid lower ids offsets bytes body is short);
}

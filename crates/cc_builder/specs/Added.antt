-- What is added to a file in the making, and where.
use Rattle.std.specs.Prelude.{ℕ, List, [], ◌∷◌, ◌++◌, Option, Some, None, slice_get, slice_set}
use Rattle.std.specs.List.{flat_map}
use Rattle.std.specs.Char.Escape.{encode_utf16}
use Rattle.std.specs.Str.{chars}
use Rattle.cc_meaning.specs.declared.listing.ListedValue.{ListedValue}
use Rattle.cc_meaning.specs.declared.listing.Listing.{Listing}
use Rattle.cc_meaning_builder.specs.declared.content.ListedClass.{ListedClass}
use Rattle.cc_meaning_builder.specs.declared.content.ListedField.{ListedField}
use Rattle.cc_meaning_builder.specs.declared.content.ListedMethod.{ListedMethod}

-- ---- texts

-- a text as units of UTF-16
abbrev pub units_of : List ℕ → List ℕ
units_of text = flat_map encode_utf16 (chars text)

-- the class that a text names; the empty text names none
abbrev pub named_class : List ℕ → Option (List ℕ)
named_class [] = None
named_class (byte ∷ bytes) = Some (units_of (byte ∷ bytes))

-- ---- what is added

abbrev pub new_class : (name superclass : List ℕ) → (flags : ℕ) → ListedClass
new_class name superclass flags =
    record { name = units_of name; superclass = named_class superclass; flags = flags; interfaces = []; fields = []; methods = [] }

abbrev pub new_field : (name kind : List ℕ) → (flags : ℕ) → Option ListedValue → ListedField
new_field name kind flags value = record { name = units_of name; kind = units_of kind; flags = flags; value = value }

abbrev pub new_method : (name proto : List ℕ) → (flags : ℕ) → Option Listing → ListedMethod
new_method name proto flags code = record { name = units_of name; proto = units_of proto; flags = flags; code = code }

-- ---- where it is added

-- a class with one thing more, behind those that it had
abbrev pub with_interface : List ℕ → ListedClass → ListedClass
with_interface interface class = record class { interfaces = class.interfaces ++ interface ∷ [] }

abbrev pub with_field : ListedField → ListedClass → ListedClass
with_field field class = record class { fields = class.fields ++ field ∷ [] }

abbrev pub with_method : ListedMethod → ListedClass → ListedClass
with_method method class = record class { methods = class.methods ++ method ∷ [] }

abbrev pub set_where : Option ListedClass → (ListedClass → ListedClass) → ℕ → List ListedClass → List ListedClass
set_where (Some class) change number content = slice_set content number (change class)
set_where None change number content = content

-- the class of this number is changed so, and all else stays
abbrev pub changed : (ListedClass → ListedClass) → ℕ → List ListedClass → List ListedClass
changed change number content = set_where (slice_get content number) change number content

-- What is read of an object that was written of named members: its fields, texts, numbers, objects and arrays.
use Rattle.std.proofs.Common.{◌≡◌, ◌≢◌, ℕ, ◌+◌, ◌<◌, ◌≤◌, ◌^◌, Bool, true, false, cond, List, [], ◌∷◌, get_or, Option, None, Some, option_map, IsUtf8, bytes_eq, codes, inl, inr, refl, sym, ap, ◌∙◌, subst, arith}
use Rattle.std.proofs.lemmas.Bool.{true≢false}
use Rattle.std.proofs.lemmas.Slice.Eq.{bytes_eq-Decides}
use Rattle.std.specs.Char.{is_ascii_digit}
use Rattle.std.specs.Fmt.{decimal}
use Rattle.json.specs.Print.{quoted}
use Rattle.json.proofs.Printed.Utf8.{are_ascii, IsUtf8-are_ascii}
use Rattle.json_scalar.specs.Text.{IsString}
use Rattle.json_span.specs.Members.{AreMembers, IsSomeObject}
use Rattle.json_span.specs.Elements.{IsSomeArray}
use Rattle.json_span.specs.declared.Member.{Member}
use Rattle.json_fields.specs.Fields.{HasField, HasOptional, HasText, HasOptionalText, Holds, IsOptionalText, present, line_depth}
use Rattle.json_fields.specs.Parts.{HasArray, HasCount, HasObject, HasOptionalNumber, IsNumber, IsOptionalNumber}
use Rattle.json_fields.proofs.PartLemmas.{IsFirstOfNumber, number_tells}
use Rattle.json_write.specs.Values.{IsValueWithin, IsOptionalWithin, IsOptionalUtf8}
use Rattle.json_write.specs.Objects.{Part, named, optional, object_text}
use Rattle.json_write.specs.Laws.{AreNamed, AreSound, IsNamedPart, last_of}
use Rattle.json_write.proofs.Names.{names_hold}
use Rattle.json_write.proofs.Numerals.{decimal_literal}
use Rattle.json_write.proofs.Strings.{quoted_string}
use Rattle.json_write.proofs.Trees.{object_of}
use Rattle.json_write.proofs.Values.{within_more}

-- a member with a name, whose value nests at most so deep
pub record IsWritten (limit : ℕ) (part : Part) : Type 0 where
  pub name : IsNamedPart part
  pub value : IsValueWithin limit part.1

abbrev pub AreWritten : ℕ → List Part → Type 0
AreWritten limit [] = Unit {0}
AreWritten limit (part ∷ parts) = IsWritten limit part × AreWritten limit parts

-- a member whose name is ASCII
pub word_part : (limit : ℕ) (name value : List ℕ) → are_ascii name ≡ true → IsValueWithin limit value → IsWritten limit (named name value)
word_part limit name value ascii v = record { name = record { name = name; utf8 = IsUtf8-are_ascii name ascii; key = refl }; value = v }

pub optional_written : (limit : ℕ) (name : List ℕ) (value : Option (List ℕ)) (parts : List Part) → are_ascii name ≡ true → IsOptionalWithin limit value → AreWritten limit parts → AreWritten limit (optional name value parts)
optional_written limit name None parts ascii value s = s
optional_written limit name (Some text) parts ascii value s = (word_part limit name text ascii value, s)

pub are_named : (limit : ℕ) (parts : List Part) → AreWritten limit parts → AreNamed parts
are_named limit [] s = tt
are_named limit (part ∷ parts) s = (s.0.name, are_named limit parts s.1)

pub are_sound : (limit : ℕ) (parts : List Part) → AreWritten limit parts → AreSound limit parts
are_sound limit [] s = tt
are_sound limit (part ∷ parts) s =
    let n = s.0.name in
    (record { name = n.name; key = subst (λ (k : List ℕ). IsString k n.name) (sym n.key) (quoted_string n.name n.utf8); value = s.0.value }, are_sound limit parts s.1)

-- a text that is read back as an object of these members
pub record Reads (limit : ℕ) (text : List ℕ) (parts : List Part) : Type 0 where
  pub value : IsValueWithin limit text
  pub members : List Member
  pub object : AreMembers line_depth text members
  pub holds : (name : List ℕ) → Holds text name members (last_of name parts)

pub reads : (limit : ℕ) (parts : List Part) → AreWritten limit parts → (outer : ℕ) → limit < outer → outer ≤ line_depth → Reads outer (object_text parts) parts
reads limit parts s outer less le =
    let text = object_text parts in
    let o = object_of limit parts (are_sound limit parts s) in
    let within = o.are.within in
    record {
      value = within_more (limit + 1) outer text (omega arith) o.value;
      members = o.members;
      object = record { deep = o.are.deep; within = omega arith; object = o.are.object };
      holds = λ name. names_hold text name o.members parts (are_named limit parts s) o.cut;
    }

module _ (limit : ℕ) (text : List ℕ) (parts : List Part) (r : Reads limit text parts) (name : List ℕ) where
  pub has_field : (held : List ℕ) → last_of name parts ≡ Some held → HasField text name held
  has_field held e = record { members = r.members; object = r.object; holds = subst (λ (f : Option (List ℕ)). Holds text name r.members f) e (r.holds name) }

  pub has_optional : (held : Option (List ℕ)) → last_of name parts ≡ held → held ≡ present held → HasOptional text name held
  has_optional held e shown = record { members = r.members; object = r.object; held = held; holds = subst (λ (f : Option (List ℕ)). Holds text name r.members f) e (r.holds name); is = shown }

  pub has_text : (meaning : List ℕ) → IsUtf8 meaning → last_of name parts ≡ Some (quoted meaning) → HasText text name meaning
  has_text meaning u e = record { held = quoted meaning; field = has_field (quoted meaning) e; string = quoted_string meaning u }

  pub has_optional_text : (meaning : Option (List ℕ)) → IsOptionalUtf8 meaning → last_of name parts ≡ option_map quoted meaning → HasOptionalText text name meaning
  has_optional_text meaning u e = record { held = option_map quoted meaning; optional = has_optional (option_map quoted meaning) e (quoted_shown meaning); string = optional_string meaning u }
    where
      quoted_shown : (meaning : Option (List ℕ)) → option_map quoted meaning ≡ present (option_map quoted meaning)
      quoted_shown None = refl
      quoted_shown (Some meaning) = refl

      optional_string : (meaning : Option (List ℕ)) → IsOptionalUtf8 meaning → IsOptionalText (option_map quoted meaning) meaning
      optional_string None u = refl
      optional_string (Some meaning) u = quoted_string meaning u

  pub has_count : (n : ℕ) → n < 2 ^ 63 → last_of name parts ≡ Some (decimal n) → HasCount text name n
  has_count n small e = record { held = decimal n; field = has_field (decimal n) e; is = record { whole = decimal_literal n (omega arith); small = small } }

  pub has_object : (held : List ℕ) → IsSomeObject held → last_of name parts ≡ Some held → HasObject text name held
  has_object held object e = record { field = has_field held e; object = object }

  pub has_array : (held : List ℕ) → IsSomeArray held → last_of name parts ≡ Some held → HasArray text name held
  has_array held array e = record { field = has_field held e; array = array }

-- a text other than `null` counts as present
pub shown_present : (held : List ℕ) → held ≢ codes "null" → Some held ≡ present (Some held)
shown_present held other = go (bytes_eq held (codes "null")) refl
  where
    go : (null : Bool) → bytes_eq held (codes "null") ≡ null → Some held ≡ cond null None (Some held)
    go true e = absurd (other ((bytes_eq-Decides held (codes "null")).0 e))
    go false e = refl

-- a number is not `null`
number_shown : (held : List ℕ) → IsNumber held → held ≢ codes "null"
number_shown held number e = go (number_tells held number)
  where
    first : get_or held 0 0 ≡ 110
    first = ap (λ (t : List ℕ). get_or t 0 0) e

    go : IsFirstOfNumber (get_or held 0 0) → ⊥
    go (inl minus) = omega (arith, first, minus)
    go (inr digit) = true≢false (sym digit ∙ ap is_ascii_digit first)

pub number_present : (held : Option (List ℕ)) → IsOptionalNumber held → held ≡ present held
number_present None h = refl
number_present (Some held) h = shown_present held (number_shown held h)

pub has_optional_number : (limit : ℕ) (text : List ℕ) (parts : List Part) → Reads limit text parts → (name : List ℕ) (held : Option (List ℕ)) → IsOptionalNumber held → last_of name parts ≡ held → HasOptionalNumber text name held
has_optional_number limit text parts r name held number e = record { optional = has_optional limit text parts r name held e (number_present held number); number = number }

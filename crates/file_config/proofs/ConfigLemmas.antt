-- What the parts of a configuration's text say: each has at most one reading.
use Rattle.std.proofs.Common.{◌≡◌, ◌≢◌, ◌∙◌, inl, inr, ℕ, ◌<◌, ◌≤◌, List, Option, None, Some, Result, Ok, Err, IfOk, IfErr, codes, refl, sym, subst, arith}
use Rattle.std.specs.List.{AllZip}
use Rattle.json_span.specs.Members.{AreMembers, text_at}
use Rattle.json_span.specs.Elements.{AreElements}
use Rattle.json_span.specs.declared.Member.{Member}
use Rattle.json_span.specs.declared.Span.{Span}
use Rattle.json_fields.specs.Answer.{IsAnswer, IsOnly}
use Rattle.json_fields.specs.Fields.{HasField, HasText, IsCut, line_depth}
use Rattle.json_fields.specs.Parts.{HasOptionalNumber, IsCount, IsCutList}
use Rattle.outside.specs.declared.faults.ConfigFault.{ConfigFault}
use Rattle.outside.specs.declared.faults.ConfigFault.TheVariants as fault
use Rattle.file_config.specs.Config.{HasParts, IsEntry, IsEvery, IsInRange, IsObject, IsPart, ReadsConfig, ReadsParts}
use Rattle.file_config.specs.declared.config.TheConstants.{MOST_EVERY, USUAL_EVERY}
use Rattle.file_config.specs.declared.config.EntryPart.{EntryPart}
use Rattle.file_config.specs.declared.config.FileEntry.{FileEntry}
use Rattle.file_config.specs.declared.config.FileConfig.{FileConfig}

abbrev pub IsPartAt : List ℕ → Span → EntryPart → Type 0
IsPartAt list span part = IsPart (text_at list span) part

-- ---- one entry

pub no_object : (text : List ℕ) → ((members : List Member) → ¬ AreMembers line_depth text members) → IsAnswer (IsPart text) None
no_object text none = λ part is. none is.name.field.members is.name.field.object

pub no_name : (text : List ℕ) → IsAnswer (HasText text (codes "name")) None → IsAnswer (IsPart text) None
no_name text none = λ part is. none part.name is.name

pub no_path : (text : List ℕ) → IsAnswer (HasText text (codes "path")) None → IsAnswer (IsPart text) None
no_path text none = λ part is. none part.path is.path

pub no_number : (text : List ℕ) → IsAnswer (HasOptionalNumber text (codes "every")) None → IsAnswer (IsPart text) None
no_number text none = λ part is. none part.every is.every

pub is_part : (text name path : List ℕ) (every : Option (List ℕ)) → IsOnly (HasText text (codes "name")) name → IsOnly (HasText text (codes "path")) path → IsOnly (HasOptionalNumber text (codes "every")) every
    → IsOnly (IsPart text) (record { name = name; path = path; every = every })
is_part text name path every named pathed numbered = record {
  is = record { name = named.is; path = pathed.is; every = numbered.is };
  only = λ other is. λ k. record { name = named.only other.name is.name k; path = pathed.only other.path is.path k; every = numbered.only other.every is.every k };
}

-- ---- its number

pub in_range : (text : List ℕ) (every : ℕ) → IsOnly (IsCount text) every → 1 ≤ every → every ≤ MOST_EVERY → IsOnly (IsInRange text) every
in_range text every count least most = record { is = record { count = count.is; least = least; most = most }; only = λ other is. count.only other is.count }

pub below : (text : List ℕ) (every : ℕ) → IsOnly (IsCount text) every → every < 1 → (other : ℕ) → ¬ IsInRange text other
below text every count less = λ other is. omega (arith, less, is.least, count.only other is.count)

pub above : (text : List ℕ) (every : ℕ) → IsOnly (IsCount text) every → MOST_EVERY < every → (other : ℕ) → ¬ IsInRange text other
above text every count more = λ other is. omega (arith, more, is.most, count.only other is.count)

pub no_count : (text : List ℕ) → IsAnswer (IsCount text) None → IsAnswer (IsInRange text) None
no_count text none = λ other is. none other is.count

pub usual : IsOnly (IsEvery None) USUAL_EVERY
usual = record { is = refl; only = λ other is. is }

pub is_entry : (part : EntryPart) (name path : List ℕ) (every : ℕ) → name ≡ part.name → path ≡ part.path → IsOnly (IsEvery part.every) every → IsOnly (IsEntry part) (record { name = name; path = path; every = every })
is_entry part name path every named pathed numbered = record {
  is = record { name = named; path = pathed; every = numbered.is };
  only = λ other is. λ k. record { name = (is.name ∙ sym named) k; path = (is.path ∙ sym pathed) k; every = numbered.only other.every is.every k };
}

pub no_entry : (part : EntryPart) → IsAnswer (IsEvery part.every) None → IsAnswer (IsEntry part) None
no_entry part none = λ entry is. none entry.every is.every

-- ---- all entries

-- the one list of parts that a text has
pub has_parts : (text list : List ℕ) (spans : List Span) (parts : List EntryPart) → IsOnly (HasField text (codes "files")) list → IsCutList list spans → IsOnly (AllZip (IsPartAt list) spans) parts → IsOnly (HasParts text) parts
has_parts text list spans parts field cut only = record {
  is = record { list = list; field = field.is; spans = spans; elements = cut.are; are = only.is };
  only = λ other is.
      let same_list = field.only is.list is.field in
      let elements = subst (λ (l : List ℕ). AreElements line_depth l is.spans) same_list is.elements in
      let are = subst (λ (l : List ℕ). AllZip (IsPartAt l) is.spans other) same_list is.are in
      only.only other (subst (λ (ss : List Span). AllZip (IsPartAt list) ss other) (cut.only is.spans elements) are);
}

pub no_field : (text : List ℕ) → IsAnswer (HasField text (codes "files")) None → (parts : List EntryPart) → ¬ HasParts text parts
no_field text none = λ parts is. none is.list is.field

pub no_array : (text list : List ℕ) → IsOnly (HasField text (codes "files")) list → ((spans : List Span) → ¬ AreElements line_depth list spans) → (parts : List EntryPart) → ¬ HasParts text parts
no_array text list field none = λ parts is. none is.spans (subst (λ (l : List ℕ). AreElements line_depth l is.spans) (field.only is.list is.field) is.elements)

pub no_parts : (text list : List ℕ) (spans : List Span) → IsOnly (HasField text (codes "files")) list → IsCutList list spans → IsAnswer (AllZip (IsPartAt list) spans) None → (parts : List EntryPart) → ¬ HasParts text parts
no_parts text list spans field cut none = λ parts is.
    let same_list = field.only is.list is.field in
    let elements = subst (λ (l : List ℕ). AreElements line_depth l is.spans) same_list is.elements in
    let are = subst (λ (l : List ℕ). AllZip (IsPartAt l) is.spans parts) same_list is.are in
    none parts (subst (λ (ss : List Span). AllZip (IsPartAt list) ss parts) (cut.only is.spans elements) are)

object_of : (text : List ℕ) (parts : List EntryPart) → HasParts text parts → IsObject text
object_of text parts is = (is.field.members, is.field.object)

-- ---- the configuration

pub not_json : (text : List ℕ) → ((members : List Member) → ¬ AreMembers line_depth text members) → IsOnly (ReadsConfig text) (Err fault.NotJson)
not_json text none = record { is = inl (no, refl); only = λ other reads. by other reads }
  where
    no : ¬ IsObject text
    no object = none object.0 object.1

    by : (other : Result FileConfig ConfigFault) → ReadsConfig text other → other ≡ Err fault.NotJson
    by other (inl is) = is.1
    by other (inr (inl is)) = absurd (no is.0)
    by other (inr (inr is)) = absurd (no (object_of text is.0 is.1))

pub missing : (text : List ℕ) (members : List Member) → IsCut text members → ((parts : List EntryPart) → ¬ HasParts text parts) → IsOnly (ReadsConfig text) (Err fault.Missing)
missing text members cut none = record { is = inr (inl ((members, cut.are), none, refl)); only = λ other reads. by other reads }
  where
    by : (other : Result FileConfig ConfigFault) → ReadsConfig text other → other ≡ Err fault.Missing
    by other (inl is) = absurd (is.0 (members, cut.are))
    by other (inr (inl is)) = is.2
    by other (inr (inr is)) = absurd (none is.0 is.1)

pub bad_number : (text : List ℕ) (parts : List EntryPart) → IsOnly (HasParts text) parts → IsAnswer (AllZip IsEntry parts) None → IsOnly (ReadsConfig text) (Err fault.OutOfRange)
bad_number text parts has none = record { is = inr (inr (parts, has.is, inl (none, refl))); only = λ other reads. by other reads }
  where
    of_parts : (other : Result FileConfig ConfigFault) → ReadsParts parts other → other ≡ Err fault.OutOfRange
    of_parts other (inl is) = is.1
    of_parts other (inr is) = absurd (none is.0 is.1)

    by : (other : Result FileConfig ConfigFault) → ReadsConfig text other → other ≡ Err fault.OutOfRange
    by other (inl is) = absurd (is.0 (object_of text parts has.is))
    by other (inr (inl is)) = absurd (is.1 parts has.is)
    by other (inr (inr is)) = of_parts other (subst (λ (ps : List EntryPart). ReadsParts ps other) (has.only is.0 is.1) is.2)

pub reads : (text : List ℕ) (parts : List EntryPart) (entries : List FileEntry) → IsOnly (HasParts text) parts → IsOnly (AllZip IsEntry parts) entries → IsOnly (ReadsConfig text) (Ok (record { files = entries }))
reads text parts entries has are = record { is = inr (inr (parts, has.is, inr (entries, are.is, refl))); only = λ other found. by other found }
  where
    of_parts : (other : Result FileConfig ConfigFault) → ReadsParts parts other → other ≡ Ok (record { files = entries })
    of_parts other (inl is) = absurd (is.0 entries are.is)
    of_parts other (inr is) = is.2 ∙ (λ k. Ok (record { files = are.only is.0 is.1 k }))

    by : (other : Result FileConfig ConfigFault) → ReadsConfig text other → other ≡ Ok (record { files = entries })
    by other (inl is) = absurd (is.0 (object_of text parts has.is))
    by other (inr (inl is)) = absurd (is.1 parts has.is)
    by other (inr (inr is)) = of_parts other (subst (λ (ps : List EntryPart). ReadsParts ps other) (has.only is.0 is.1) is.2)

-- a reading, by what it answers
pub reading_ok : (text : List ℕ) (reading : Result FileConfig ConfigFault) → IsOnly (ReadsConfig text) reading → IfOk reading (λ read. IsOnly (ReadsConfig text) (Ok read))
reading_ok text (Ok read) only = only
reading_ok text (Err why) only = tt

pub reading_err : (text : List ℕ) (reading : Result FileConfig ConfigFault) → IsOnly (ReadsConfig text) reading → IfErr reading (λ why. why ≢ fault.NoMemory → IsOnly (ReadsConfig text) (Err why))
reading_err text (Ok read) only = tt
reading_err text (Err why) only = λ named. only

pub parts_answer : (text list : List ℕ) (spans : List Span) (found : Option (List EntryPart)) → IsOnly (HasField text (codes "files")) list → IsCutList list spans → IsAnswer (AllZip (IsPartAt list) spans) found → IsAnswer (HasParts text) found
parts_answer text list spans None field cut answer = no_parts text list spans field cut answer
parts_answer text list spans (Some parts) field cut answer = has_parts text list spans parts field cut answer

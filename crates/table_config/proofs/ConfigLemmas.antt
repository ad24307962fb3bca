-- What the parts of a configuration's text say: each has at most one reading.
use Rattle.std.proofs.Common.{◌≡◌, ◌≢◌, ◌∙◌, inl, inr, ℕ, ◌<◌, ◌≤◌, List, Option, None, Result, Ok, Err, IfOk, IfErr, codes, refl, sym, subst, arith}
use Rattle.std.specs.List.{AllZip}
use Rattle.json_span.specs.Members.{AreMembers, text_at}
use Rattle.json_span.specs.Elements.{AreElements}
use Rattle.json_span.specs.declared.Member.{Member}
use Rattle.json_span.specs.declared.Span.{Span}
use Rattle.json_fields.specs.Answer.{IsAnswer, IsOnly}
use Rattle.json_fields.specs.Fields.{HasField, HasOptionalText, HasText, IsCut, line_depth}
use Rattle.json_fields.specs.Parts.{HasOptionalNumber, IsCount, IsCutList}
use Rattle.catalog.specs.Entry.{HasOptionalList, IsPath, PathNames}
use Rattle.outside.specs.declared.faults.ConfigFault.{ConfigFault}
use Rattle.outside.specs.declared.faults.ConfigFault.TheVariants as fault
use Rattle.table_config.specs.Config.{HasParts, HasSchema, IsEntry, IsEvery, IsInRange, IsObject, IsPart, ReadsConfig, ReadsParts}
use Rattle.table_config.specs.Tables.{firsts}
use Rattle.table_config.specs.declared.config.TheConstants.{DEEPEST_SCHEMA, MOST_EVERY}
use Rattle.table_config.specs.declared.config.TableConfig.{TableConfig}
use Rattle.table_config.specs.declared.config.TableEntry.{TableEntry}
use Rattle.table_config.specs.declared.read.ConfigParts.{ConfigParts}
use Rattle.table_config.specs.declared.read.TablePart.{TablePart}

abbrev pub IsPartAt : List ℕ → Span → TablePart → Type 0
IsPartAt list span part = IsPart (text_at list span) part

-- ---- the schema of a table

pub has_schema : (text schema : List ℕ) (members : List Member) → IsOnly (HasField text (codes "schema")) schema → AreMembers DEEPEST_SCHEMA schema members → IsOnly (HasSchema text) schema
has_schema text schema members field object = record {
  is = record { field = field.is; shallow = record { members = members; object = object } };
  only = λ other is. field.only other is.field;
}

pub no_schema : (text : List ℕ) → IsAnswer (HasField text (codes "schema")) None → IsAnswer (HasSchema text) None
no_schema text none = λ schema is. none schema is.field

pub deep_schema : (text held : List ℕ) → IsOnly (HasField text (codes "schema")) held → ((members : List Member) → ¬ AreMembers DEEPEST_SCHEMA held members) → IsAnswer (HasSchema text) None
deep_schema text held field none = λ schema is.
    none is.shallow.members (subst (λ (t : List ℕ). AreMembers DEEPEST_SCHEMA t is.shallow.members) (field.only schema is.field) is.shallow.object)

-- ---- one table

pub no_object : (text : List ℕ) → ((members : List Member) → ¬ AreMembers line_depth text members) → IsAnswer (IsPart text) None
no_object text none = λ part is. none is.name.field.members is.name.field.object

pub no_name : (text : List ℕ) → IsAnswer (HasText text (codes "name")) None → IsAnswer (IsPart text) None
no_name text none = λ part is. none part.name is.name

pub none_of_schema : (text : List ℕ) → IsAnswer (HasSchema text) None → IsAnswer (IsPart text) None
none_of_schema text none = λ part is. none part.schema is.schema

pub no_cursor : (text : List ℕ) → IsAnswer (HasOptionalText text (codes "cursor")) None → IsAnswer (IsPart text) None
no_cursor text none = λ part is. none part.cursor is.cursor

pub no_key : (text : List ℕ) → IsAnswer (HasOptionalList IsPath text (codes "key")) None → IsAnswer (IsPart text) None
no_key text none = λ part is. none part.key is.key

pub no_number : (text : List ℕ) → IsAnswer (HasOptionalNumber text (codes "every")) None → IsAnswer (IsPart text) None
no_number text none = λ part is. none part.every is.every

pub is_part : (text name schema : List ℕ) (cursor : Option (List ℕ)) (key : PathNames) (every : Option (List ℕ)) → IsOnly (HasText text (codes "name")) name → IsOnly (HasSchema text) schema
    → IsOnly (HasOptionalText text (codes "cursor")) cursor → IsOnly (HasOptionalList IsPath text (codes "key")) key → IsOnly (HasOptionalNumber text (codes "every")) every
    → IsOnly (IsPart text) (record { name = name; schema = schema; cursor = cursor; key = key; every = every })
is_part text name schema cursor key every named schemed pointed keyed numbered = record {
  is = record { name = named.is; schema = schemed.is; cursor = pointed.is; key = keyed.is; every = numbered.is };
  only = λ other is. λ k. record {
    name = named.only other.name is.name k;
    schema = schemed.only other.schema is.schema k;
    cursor = pointed.only other.cursor is.cursor k;
    key = keyed.only other.key is.key k;
    every = numbered.only other.every is.every k;
  };
}

-- ---- its number

pub in_range : (text : List ℕ) (every : ℕ) → IsOnly (IsCount text) every → 1 ≤ every → every ≤ MOST_EVERY → IsOnly (IsInRange text) every
in_range text every count least most = record { is = record { count = count.is; least = least; most = most }; only = λ other is. count.only other is.count }

pub below : (text : List ℕ) (every : ℕ) → IsOnly (IsCount text) every → every < 1 → (other : ℕ) → ¬ IsInRange text other
below text every count less = λ other is. omega (arith, less, is.least, count.only other is.count)

pub above : (text : List ℕ) (every : ℕ) → IsOnly (IsCount text) every → MOST_EVERY < every → (other : ℕ) → ¬ IsInRange text other
above text every count more = λ other is. omega (arith, more, is.most, count.only other is.count)

pub no_count : (text : List ℕ) → IsAnswer (IsCount text) None → IsAnswer (IsInRange text) None
no_count text none = λ other is. none other is.count

pub is_entry : (part : TablePart) (name schema : List ℕ) (cursor : Option (List ℕ)) (key : PathNames) (every : ℕ) → name ≡ part.name → schema ≡ part.schema → cursor ≡ part.cursor → key ≡ part.key
    → IsOnly (IsEvery part.every) every → IsOnly (IsEntry part) (record { name = name; schema = schema; cursor = cursor; key = key; every = every })
is_entry part name schema cursor key every named schemed pointed keyed numbered = record {
  is = record { name = named; schema = schemed; cursor = pointed; key = keyed; every = numbered.is };
  only = λ other is. λ k. record {
    name = (is.name ∙ sym named) k;
    schema = (is.schema ∙ sym schemed) k;
    cursor = (is.cursor ∙ sym pointed) k;
    key = (is.key ∙ sym keyed) k;
    every = numbered.only other.every is.every k;
  };
}

pub no_entry : (part : TablePart) → IsAnswer (IsEvery part.every) None → IsAnswer (IsEntry part) None
no_entry part none = λ entry is. none entry.every is.every

-- ---- all tables

-- the one list of parts that a text has
pub has_parts : (text database list : List ℕ) (spans : List Span) (tables : List TablePart) → IsOnly (HasText text (codes "database")) database → IsOnly (HasField text (codes "tables")) list
    → IsCutList list spans → IsOnly (AllZip (IsPartAt list) spans) tables → IsOnly (HasParts text) (record { database = database; tables = tables })
has_parts text database list spans tables named field cut only = record {
  is = record { database = named.is; list = list; field = field.is; spans = spans; elements = cut.are; are = only.is };
  only = λ other is. λ k. record { database = named.only other.database is.database k; tables = same other is k };
}
  where
    same : (other : ConfigParts) → HasParts text other → other.tables ≡ tables
    same other is =
        let same_list = field.only is.list is.field in
        let elements = subst (λ (l : List ℕ). AreElements line_depth l is.spans) same_list is.elements in
        let are = subst (λ (l : List ℕ). AllZip (IsPartAt l) is.spans other.tables) same_list is.are in
        only.only other.tables (subst (λ (ss : List Span). AllZip (IsPartAt list) ss other.tables) (cut.only is.spans elements) are)

pub no_database : (text : List ℕ) → IsAnswer (HasText text (codes "database")) None → (parts : ConfigParts) → ¬ HasParts text parts
no_database text none = λ parts is. none parts.database is.database

pub no_field : (text : List ℕ) → IsAnswer (HasField text (codes "tables")) None → (parts : ConfigParts) → ¬ HasParts text parts
no_field text none = λ parts is. none is.list is.field

pub no_array : (text list : List ℕ) → IsOnly (HasField text (codes "tables")) list → ((spans : List Span) → ¬ AreElements line_depth list spans) → (parts : ConfigParts) → ¬ HasParts text parts
no_array text list field none = λ parts is. none is.spans (subst (λ (l : List ℕ). AreElements line_depth l is.spans) (field.only is.list is.field) is.elements)

pub no_parts : (text list : List ℕ) (spans : List Span) → IsOnly (HasField text (codes "tables")) list → IsCutList list spans → IsAnswer (AllZip (IsPartAt list) spans) None → (parts : ConfigParts) → ¬ HasParts text parts
no_parts text list spans field cut none = λ parts is.
    let same_list = field.only is.list is.field in
    let elements = subst (λ (l : List ℕ). AreElements line_depth l is.spans) same_list is.elements in
    let are = subst (λ (l : List ℕ). AllZip (IsPartAt l) is.spans parts.tables) same_list is.are in
    none parts.tables (subst (λ (ss : List Span). AllZip (IsPartAt list) ss parts.tables) (cut.only is.spans elements) are)

object_of : (text : List ℕ) (parts : ConfigParts) → HasParts text parts → IsObject text
object_of text parts is = (is.field.members, is.field.object)

-- ---- the configuration

pub not_json : (text : List ℕ) → ((members : List Member) → ¬ AreMembers line_depth text members) → IsOnly (ReadsConfig text) (Err fault.NotJson)
not_json text none = record { is = inl (no, refl); only = λ other reads. by other reads }
  where
    no : ¬ IsObject text
    no object = none object.0 object.1

    by : (other : Result TableConfig ConfigFault) → ReadsConfig text other → other ≡ Err fault.NotJson
    by other (inl is) = is.1
    by other (inr (inl is)) = absurd (no is.0)
    by other (inr (inr is)) = absurd (no (object_of text is.0 is.1))

pub missing : (text : List ℕ) (members : List Member) → IsCut text members → ((parts : ConfigParts) → ¬ HasParts text parts) → IsOnly (ReadsConfig text) (Err fault.Missing)
missing text members cut none = record { is = inr (inl ((members, cut.are), none, refl)); only = λ other reads. by other reads }
  where
    by : (other : Result TableConfig ConfigFault) → ReadsConfig text other → other ≡ Err fault.Missing
    by other (inl is) = absurd (is.0 (members, cut.are))
    by other (inr (inl is)) = is.2
    by other (inr (inr is)) = absurd (none is.0 is.1)

pub bad_number : (text : List ℕ) (parts : ConfigParts) → IsOnly (HasParts text) parts → IsAnswer (AllZip IsEntry parts.tables) None → IsOnly (ReadsConfig text) (Err fault.OutOfRange)
bad_number text parts has none = record { is = inr (inr (parts, has.is, inl (none, refl))); only = λ other reads. by other reads }
  where
    of_parts : (other : Result TableConfig ConfigFault) → ReadsParts parts other → other ≡ Err fault.OutOfRange
    of_parts other (inl is) = is.1
    of_parts other (inr is) = absurd (none is.0 is.1)

    by : (other : Result TableConfig ConfigFault) → ReadsConfig text other → other ≡ Err fault.OutOfRange
    by other (inl is) = absurd (is.0 (object_of text parts has.is))
    by other (inr (inl is)) = absurd (is.1 parts has.is)
    by other (inr (inr is)) = of_parts other (subst (λ (ps : ConfigParts). ReadsParts ps other) (has.only is.0 is.1) is.2)

pub reads : (text : List ℕ) (parts : ConfigParts) (entries tables : List TableEntry) → IsOnly (HasParts text) parts → IsOnly (AllZip IsEntry parts.tables) entries → tables ≡ firsts entries
    → IsOnly (ReadsConfig text) (Ok (record { database = parts.database; tables = tables }))
reads text parts entries tables has are tables_are = record { is = inr (inr (parts, has.is, inr (entries, are.is, (λ k. Ok (record { database = parts.database; tables = tables_are k }))))); only = λ other found. by other found }
  where
    of_parts : (other : Result TableConfig ConfigFault) → ReadsParts parts other → other ≡ Ok (record { database = parts.database; tables = tables })
    of_parts other (inl is) = absurd (is.0 entries are.is)
    of_parts other (inr is) = is.2 ∙ (λ k. Ok (record { database = parts.database; tables = firsts (are.only is.0 is.1 k) })) ∙ sym (λ k. Ok (record { database = parts.database; tables = tables_are k }))

    by : (other : Result TableConfig ConfigFault) → ReadsConfig text other → other ≡ Ok (record { database = parts.database; tables = tables })
    by other (inl is) = absurd (is.0 (object_of text parts has.is))
    by other (inr (inl is)) = absurd (is.1 parts has.is)
    by other (inr (inr is)) = of_parts other (subst (λ (ps : ConfigParts). ReadsParts ps other) (has.only is.0 is.1) is.2)

-- a reading, by what it answers
pub reading_ok : (text : List ℕ) (reading : Result TableConfig ConfigFault) → IsOnly (ReadsConfig text) reading → IfOk reading (λ read. IsOnly (ReadsConfig text) (Ok read))
reading_ok text (Ok read) only = only
reading_ok text (Err why) only = tt

pub reading_err : (text : List ℕ) (reading : Result TableConfig ConfigFault) → IsOnly (ReadsConfig text) reading → IfErr reading (λ why. why ≢ fault.NoMemory → IsOnly (ReadsConfig text) (Err why))
reading_err text (Ok read) only = tt
reading_err text (Err why) only = λ named. only

-- What the text of a configuration says: it has at most one reading.
use Rattle.std.proofs.Common.{◌≡◌, ◌∙◌, inl, inr, ℕ, List, Option, None, Some, Result, Ok, Err, codes, refl, subst}
use Rattle.json_span.specs.Members.{AreMembers}
use Rattle.json_span.specs.declared.Member.{Member}
use Rattle.json_fields.specs.Answer.{IsAnswer, IsOnly}
use Rattle.json_fields.specs.Fields.{HasText, IsCut, line_depth}
use Rattle.json_fields.specs.Parts.{HasOptionalNumber, IsCount}
use Rattle.outside.specs.declared.load.Limits.{Limits}
use Rattle.outside.specs.declared.faults.ConfigFault.{ConfigFault}
use Rattle.outside.specs.declared.faults.ConfigFault.TheVariants as fault
use Rattle.dest_config.specs.Config.{Held, HeldLimits, Holds, IsObject, ReadsConfig, ReadsHeld, Says, place_name}
use Rattle.dest_config.specs.declared.config.DestConfig.{DestConfig}
use Rattle.dest_config.specs.declared.config.DestKind.{DestKind}

-- ---- one number

pub usual_says : (usual : ℕ) → IsOnly (Says usual None) usual
usual_says usual = record { is = refl; only = λ other is. is }

pub text_says : (usual : ℕ) (text : List ℕ) (found : Option ℕ) → IsAnswer (IsCount text) found → IsAnswer (Says usual (Some text)) found
text_says usual text None none = none
text_says usual text (Some number) only = only

-- ---- the members

pub no_place : (kind : DestKind) (text : List ℕ) → IsAnswer (HasText text (place_name kind)) None → (held : Held) → ¬ Holds kind text held
no_place kind text none = λ held is. none held.place is.place

pub no_slots_number : (kind : DestKind) (text : List ℕ) → IsAnswer (HasOptionalNumber text (codes "slots")) None → (held : Held) → ¬ Holds kind text held
no_slots_number kind text none = λ held is. none held.slots is.slots

pub no_bytes_number : (kind : DestKind) (text : List ℕ) → IsAnswer (HasOptionalNumber text (codes "bytes")) None → (held : Held) → ¬ Holds kind text held
no_bytes_number kind text none = λ held is. none held.bytes is.bytes

pub no_batch_number : (kind : DestKind) (text : List ℕ) → IsAnswer (HasOptionalNumber text (codes "batch")) None → (held : Held) → ¬ Holds kind text held
no_batch_number kind text none = λ held is. none held.batch is.batch

pub no_workers_number : (kind : DestKind) (text : List ℕ) → IsAnswer (HasOptionalNumber text (codes "workers")) None → (held : Held) → ¬ Holds kind text held
no_workers_number kind text none = λ held is. none held.workers is.workers

pub holds : (kind : DestKind) (text place : List ℕ) (slots bytes batch workers : Option (List ℕ)) → IsOnly (HasText text (place_name kind)) place → IsOnly (HasOptionalNumber text (codes "slots")) slots
    → IsOnly (HasOptionalNumber text (codes "bytes")) bytes → IsOnly (HasOptionalNumber text (codes "batch")) batch → IsOnly (HasOptionalNumber text (codes "workers")) workers
    → IsOnly (Holds kind text) (record { place = place; slots = slots; bytes = bytes; batch = batch; workers = workers })
holds kind text place slots bytes batch workers p s b t w = record {
  is = record { place = p.is; slots = s.is; bytes = b.is; batch = t.is; workers = w.is };
  only = λ other is. λ k. record {
    place = p.only other.place is.place k;
    slots = s.only other.slots is.slots k;
    bytes = b.only other.bytes is.bytes k;
    batch = t.only other.batch is.batch k;
    workers = w.only other.workers is.workers k;
  };
}

-- ---- the configuration

object_of : (kind : DestKind) (text : List ℕ) (held : Held) → Holds kind text held → IsObject text
object_of kind text held is = (is.place.field.members, is.place.field.object)

pub not_json : (kind : DestKind) (text : List ℕ) → ((members : List Member) → ¬ AreMembers line_depth text members) → IsOnly (ReadsConfig kind text) (Err fault.NotJson)
not_json kind text none = record { is = inl (no, refl); only = λ other reads. by other reads }
  where
    no : ¬ IsObject text
    no object = none object.0 object.1

    by : (other : Result DestConfig ConfigFault) → ReadsConfig kind text other → other ≡ Err fault.NotJson
    by other (inl is) = is.1
    by other (inr (inl is)) = absurd (no is.0)
    by other (inr (inr is)) = absurd (no (object_of kind text is.0 is.1))

pub missing : (kind : DestKind) (text : List ℕ) (members : List Member) → IsCut text members → ((held : Held) → ¬ Holds kind text held) → IsOnly (ReadsConfig kind text) (Err fault.Missing)
missing kind text members cut none = record { is = inr (inl ((members, cut.are), none, refl)); only = λ other reads. by other reads }
  where
    by : (other : Result DestConfig ConfigFault) → ReadsConfig kind text other → other ≡ Err fault.Missing
    by other (inl is) = absurd (is.0 (members, cut.are))
    by other (inr (inl is)) = is.2
    by other (inr (inr is)) = absurd (none is.0 is.1)

pub out_of_range : (kind : DestKind) (text : List ℕ) (held : Held) → IsOnly (Holds kind text) held → IsAnswer (HeldLimits held) None → IsOnly (ReadsConfig kind text) (Err fault.OutOfRange)
out_of_range kind text held has none = record { is = inr (inr (held, has.is, inl (none, refl))); only = λ other reads. by other reads }
  where
    of_held : (other : Result DestConfig ConfigFault) → ReadsHeld held other → other ≡ Err fault.OutOfRange
    of_held other (inl is) = is.1
    of_held other (inr is) = absurd (none is.0 is.1)

    by : (other : Result DestConfig ConfigFault) → ReadsConfig kind text other → other ≡ Err fault.OutOfRange
    by other (inl is) = absurd (is.0 (object_of kind text held has.is))
    by other (inr (inl is)) = absurd (is.1 held has.is)
    by other (inr (inr is)) = of_held other (subst (λ (h : Held). ReadsHeld h other) (has.only is.0 is.1) is.2)

pub reads : (kind : DestKind) (text : List ℕ) (held : Held) (limits : Limits) → IsOnly (Holds kind text) held → IsOnly (HeldLimits held) limits → IsOnly (ReadsConfig kind text) (Ok (record { place = held.place; limits = limits }))
reads kind text held limits has are = record { is = inr (inr (held, has.is, inr (limits, are.is, refl))); only = λ other found. by other found }
  where
    of_held : (other : Result DestConfig ConfigFault) → ReadsHeld held other → other ≡ Ok (record { place = held.place; limits = limits })
    of_held other (inl is) = absurd (is.0 limits are.is)
    of_held other (inr is) = is.2 ∙ (λ k. Ok (record { place = held.place; limits = are.only is.0 is.1 k }))

    by : (other : Result DestConfig ConfigFault) → ReadsConfig kind text other → other ≡ Ok (record { place = held.place; limits = limits })
    by other (inl is) = absurd (is.0 (object_of kind text held has.is))
    by other (inr (inl is)) = absurd (is.1 held has.is)
    by other (inr (inr is)) = of_held other (subst (λ (h : Held). ReadsHeld h other) (has.only is.0 is.1) is.2)

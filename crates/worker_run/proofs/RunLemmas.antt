-- What an attempt and a run say, from what their parts said.
use Rattle.std.proofs.Common.{◌≡◌, ◌⊎◌, inl, inr, ℕ, ◌+◌, List, [], ◌∷◌, ◌++◌, length, Bool, true, false, cond, Option, None, Some, IsSome, refl, sym, ◌∙◌, ap, subst, append_assoc, zero-add}
use Rattle.std.proofs.lemmas.List.{append-nil}
use Rattle.basics.specs.Told.{told_more, GrewByFront}
use Rattle.worker_run.specs.declared.end.End.{End}
use Rattle.worker_run.specs.declared.end.End.TheVariants as how
use Rattle.outside.specs.declared.fault.Fault.{Fault}
use Rattle.outside.specs.declared.fault.Fault.TheVariants as fault
use Rattle.outside.specs.Desk.{Texts}
use Rattle.outside.proofs.Says.{told_more-none, told_both, front_second}
use Rattle.outside.specs.declared.status.Status.TheVariants as status
use Rattle.worker_run.specs.Ends.{status_of}
use Rattle.json_fields.specs.Answer.{IsOnly}
use Rattle.worker_run.specs.Words.{TextNames}
use Rattle.worker_run.specs.Catalog.{IsCatalog}
use Rattle.worker_run.specs.TakenLines.{TakenLine, found_in, Counted, none_counted, counted_through, IsUnbuilt}
use Rattle.worker_run.specs.World.{World, begun, first_events, all_taken_events, last_events}
use Rattle.worker_run.specs.Output.{said_lines, row_lines, end_lines, attempt_lines, committed_lines, usage_line, status_line}
use Rattle.worker_run.specs.Reading.{TakesLines, EndsAs, LeavesAs, Reads, ReadsSome, EndsBehind, IsAttempt, Attempted, IsFront, StopsShort, HasTextNamed, ComesTo, WouldSay, IsFrontOfBody, IsFrontOfAll, SaidBody, SaidPart, SaysBody, SaidAll, SaidSome, Says, IsReadFault, IsSayFault, StatusSaid, SaysLast, IsOnlyEnd, EndsWithStatus, NothingUnbuilt, IsOkOrNoMemory, HasNoTextNamed, LacksMessages, WritesOut, EndsWithoutCommand, IsUsageEnd}
use Rattle.worker_run.proofs.OutputLemmas.{committed_append, committed_taken}
use Rattle.worker_run.proofs.OneReading.{SameEnd, one_attempt, some_lines_front, one_outcome}

-- an attempt over a world that has begun

ends_behind : (stream : List ℕ) (through : World) (taken_lines : List TakenLine) (end : End) → through.stream ≡ stream → through.counted ≡ counted_through none_counted taken_lines → through.number ≡ length taken_lines → EndsAs end through → EndsBehind stream taken_lines through.lines end
ends_behind stream through taken_lines how.Ok s c n h = h
ends_behind stream through taken_lines how.Usage s c n h = h
ends_behind stream through taken_lines how.FileFault s c n h = h
ends_behind stream through taken_lines how.SayFault s c n h = h
ends_behind stream through taken_lines (how.Unbuilt line) s c n h = (h.0, h.1, h.2, subst (λ (k : Counted). IsUnbuilt stream k.since h.0) c (subst (λ (t : List ℕ). IsUnbuilt t through.counted.since h.0) s h.3), h.4 ∙ ap (λ (m : ℕ). m + 1) n)
ends_behind stream through taken_lines how.NoMemory s c n h = h

pub attempt_of : (text stream : List ℕ) (old new : World) (end : End) (before now : Option (List (List ℕ))) → old ≡ begun text stream → (reads : Reads old new end before now) → IsAttempt text stream end (attempt_lines stream (found_in reads.says.taken_lines) end)
attempt_of text stream old new end before now begins reads =
    let takes : TakesLines (begun text stream) reads.through reads.says.taken_lines = subst (λ (w : World). TakesLines w reads.through reads.says.taken_lines) begins reads.says.takes in
    record {
      reads = record {
        taken_lines = reads.says.taken_lines;
        rest = reads.through.lines;
        lines = takes.lines;
        fits = takes.fits;
        ends = ends_behind stream reads.through reads.says.taken_lines end takes.stream takes.counted (takes.number ∙ zero-add (length reads.says.taken_lines)) reads.ends;
      };
      says = refl;
    }

-- the end commits nothing
no_rows_behind : (is_over : Bool) → committed_lines (cond is_over [] last_events) ≡ []
no_rows_behind true = refl
no_rows_behind false = refl

rows_left : (through new : World) (end : End) → LeavesAs end through new → committed_lines new.events ≡ committed_lines through.events
rows_left through new how.Ok leaves =
    ap (λ (w : World). committed_lines w.events) leaves ∙ (committed_append through.events (cond through.is_over [] last_events) ∙ (ap (λ (ls : List (List ℕ)). committed_lines through.events ++ ls) (no_rows_behind through.is_over) ∙ append-nil (committed_lines through.events)))
rows_left through new how.Usage leaves = absurd leaves
rows_left through new how.FileFault leaves = absurd leaves
rows_left through new how.SayFault leaves = absurd leaves
rows_left through new (how.Unbuilt line) leaves = ap (λ (w : World). committed_lines w.events) leaves
rows_left through new how.NoMemory leaves = absurd leaves

stream_left : (through new : World) (end : End) → LeavesAs end through new → new.stream ≡ through.stream
stream_left through new how.Ok leaves = ap (λ (w : World). w.stream) leaves
stream_left through new how.Usage leaves = absurd leaves
stream_left through new how.FileFault leaves = absurd leaves
stream_left through new how.SayFault leaves = absurd leaves
stream_left through new (how.Unbuilt line) leaves = ap (λ (w : World). w.stream) leaves
stream_left through new how.NoMemory leaves = absurd leaves

-- the lines at the end of an attempt, by its messages
end_is : (text stream : List ℕ) (old new : World) (end : End) (before mid : Option (List (List ℕ))) → old ≡ begun text stream → (reads : Reads old new end before mid) → end_lines new.stream (committed_lines new.events) end ≡ end_lines stream (row_lines (found_in reads.says.taken_lines)) end
end_is text stream old new end before mid begins reads =
    let takes : TakesLines (begun text stream) reads.through reads.says.taken_lines = subst (λ (w : World). TakesLines w reads.through reads.says.taken_lines) begins reads.says.takes in
    ap (λ (s : List ℕ). end_lines s (committed_lines new.events) end) (stream_left reads.through new end reads.leaves ∙ takes.stream) ∙ ap (λ (rows : List (List ℕ)). end_lines stream rows end) (rows_left reads.through new end reads.leaves ∙ (ap committed_lines takes.events ∙ (committed_append (first_events stream) (all_taken_events stream none_counted reads.says.taken_lines) ∙ committed_taken stream none_counted reads.says.taken_lines takes.fits)))

pub attempted : (text stream : List ℕ) (old new : World) (end : End) (before mid now : Option (List (List ℕ))) → old ≡ begun text stream → Reads old new end before mid → now ≡ told_more (end_lines new.stream (committed_lines new.events) end) mid → Attempted text stream end before now
attempted text stream old new end before mid now begins reads said = record {
  lines = attempt_lines stream (found_in reads.says.taken_lines) end;
  attempt = attempt_of text stream old new end before mid begins reads;
  said = told_both (said_lines (found_in reads.says.taken_lines)) (end_lines stream (row_lines (found_in reads.says.taken_lines)) end) before mid now reads.says.said (said ∙ ap (λ (ls : List (List ℕ)). told_more ls mid) (end_is text stream old new end before mid begins reads));
}

-- an attempt that stops short

pub short_none : (text stream : List ℕ) (before now : Option (List (List ℕ))) → now ≡ before → StopsShort text stream before now
short_none text stream before now same = record { front = []; said = same ∙ sym (told_more-none before); in_front = λ end lines is. record { rest = lines; splits = refl } }

pub short_lines : (text stream : List ℕ) (old : World) (before now : Option (List (List ℕ))) → old ≡ begun text stream → ReadsSome old before now → StopsShort text stream before now
short_lines text stream old before now begins some =
    let takes : TakesLines (begun text stream) some.through some.says.taken_lines = subst (λ (w : World). TakesLines w some.through some.says.taken_lines) begins some.says.takes in
    record {
      front = said_lines (found_in some.says.taken_lines);
      said = some.says.said;
      in_front = some_lines_front text stream some.says.taken_lines some.through.lines takes.fits takes.lines;
    }

pub short_end : (text stream : List ℕ) (old new : World) (end : End) (before mid now : Option (List (List ℕ))) → old ≡ begun text stream → Reads old new end before mid → GrewByFront (end_lines new.stream (committed_lines new.events) end) mid now → StopsShort text stream before now
short_end text stream old new end before mid now begins reads grew = short
  where
    ends : GrewByFront (end_lines stream (row_lines (found_in reads.says.taken_lines)) end) mid now
    ends = subst (λ (ls : List (List ℕ)). GrewByFront ls mid now) (end_is text stream old new end before mid begins reads) grew

    whole : GrewByFront (attempt_lines stream (found_in reads.says.taken_lines) end) before now
    whole = front_second (said_lines (found_in reads.says.taken_lines)) (end_lines stream (row_lines (found_in reads.says.taken_lines)) end) before mid now reads.says.said ends

    short : StopsShort text stream before now
    short = record {
      front = whole.front;
      said = whole.grew;
      in_front = λ other lines is. record { rest = whole.rest; splits = sym (one_attempt text stream end other (attempt_lines stream (found_in reads.says.taken_lines) end) lines (attempt_of text stream old new end before mid begins reads) is).says ∙ whole.splits };
    }

-- the body of a run

pub body_read_fault : (texts : Option Texts) (names : TextNames) (f : Fault) (end : End) (before now : Option (List (List ℕ))) → IsReadFault f end → now ≡ before → SaysBody texts (Some names) end before now
body_read_fault texts names fault.Failed end before now is same = subst (λ (e : End). SaysBody texts (Some names) e before now) (sym is) same
body_read_fault texts names fault.NoMemory end before now is same = subst (λ (e : End). SaysBody texts (Some names) e before now) (sym is) (part_none texts names before now same)
  where
    front_none : (by_name : Option Texts) → IsFrontOfBody by_name (Some names) []
    front_none None = tt
    front_none (Some t) = λ other lines comes. record { rest = lines; splits = refl }

    part_none : (by_name : Option Texts) (ns : TextNames) (old new : Option (List (List ℕ))) → new ≡ old → SaidPart by_name (Some names) old new
    part_none by_name ns old new e = record { front = []; said = e ∙ sym (told_more-none old); in_front = front_none by_name }

pub body_no_memory : (texts : Option Texts) (names : TextNames) (before now : Option (List (List ℕ))) → now ≡ before → SaysBody texts (Some names) how.NoMemory before now
body_no_memory texts names before now same = body_read_fault texts names fault.NoMemory how.NoMemory before now refl same

pub body_refused : (texts : Option Texts) (names : TextNames) (catalog : List ℕ) (before now : Option (List (List ℕ))) → HasTextNamed texts names.catalog catalog → ((stream : List ℕ) → ¬ IsCatalog catalog stream) → now ≡ before → SaysBody texts (Some names) (how.Unbuilt 0) before now
body_refused texts names catalog before now has none same = record {
  lines = [];
  comes = inr (inl (record { catalog = catalog; catalog_is = has; none = none; ends = refl; nothing = refl }));
  said = same ∙ sym (told_more-none before);
}

-- a body that was said whole stands at every end that an attempt may have
body_at : (texts : Option Texts) (names : TextNames) (text stream : List ℕ) (end : End) (lines : List (List ℕ)) (before now : Option (List (List ℕ))) → IsAttempt text stream end lines → SaidBody texts (Some names) end before now → SaysBody texts (Some names) end before now
body_at texts names text stream how.Ok lines before now is said = said
body_at texts names text stream how.Usage lines before now is said = said
body_at texts names text stream how.FileFault lines before now is said = absurd is.reads.ends
body_at texts names text stream how.SayFault lines before now is said = absurd is.reads.ends
body_at texts names text stream (how.Unbuilt line) lines before now is said = said
body_at texts names text stream how.NoMemory lines before now is said = absurd is.reads.ends

pub body_attempt : (texts : Option Texts) (names : TextNames) (catalog messages stream : List ℕ) (end : End) (before mid now : Option (List (List ℕ))) → HasTextNamed texts names.catalog catalog → HasTextNamed texts names.messages messages → IsOnly (IsCatalog catalog) stream → mid ≡ before → Attempted messages stream end mid now → SaysBody texts (Some names) end before now
body_attempt texts names catalog messages stream end before mid now has_catalog has_messages only same done =
    body_at texts names messages stream end done.lines before now done.attempt (record {
      lines = done.lines;
      comes = inr (inr (record { catalog = catalog; catalog_is = has_catalog; stream = stream; stream_is = only; messages = messages; messages_is = has_messages; attempt = done.attempt }));
      said = done.said ∙ ap (λ (t : Option (List (List ℕ))). told_more done.lines t) same;
    })

-- a front of one attempt is a front of whatever the texts come to
same_text : (by_name : Texts) (name a b : List ℕ) → by_name name ≡ Some a → by_name name ≡ Some b → a ≡ b
same_text by_name name a b e f = cc

front_told : (by_name : Texts) (names : TextNames) (catalog messages stream : List ℕ) (front : List (List ℕ)) → by_name names.catalog ≡ Some catalog → by_name names.messages ≡ Some messages → IsOnly (IsCatalog catalog) stream → ((end : End) (lines : List (List ℕ)) → IsAttempt messages stream end lines → IsFront front lines) → (end : End) (lines : List (List ℕ)) → ComesTo (Some by_name) (Some names) end lines → IsFront front lines
front_told by_name names catalog messages stream front has_catalog has_messages only is end lines (inl lacks) = by_missing lacks.missing
  where
    there : (name text : List ℕ) → by_name name ≡ Some text → by_name name ≡ None → ⊥
    there name text e f = cc

    by_missing : HasNoTextNamed (Some by_name) names.catalog ⊎ LacksMessages (Some by_name) names → IsFront front lines
    by_missing (inl none) = absurd (there names.catalog catalog has_catalog none)
    by_missing (inr other) = absurd (there names.messages messages has_messages other.missing)
front_told by_name names catalog messages stream front has_catalog has_messages only is end lines (inr (inl refused)) = absurd (refused.none stream (subst (λ (text : List ℕ). IsCatalog text stream) (same_text by_name names.catalog catalog refused.catalog has_catalog refused.catalog_is) only.is))
front_told by_name names catalog messages stream front has_catalog has_messages only is end lines (inr (inr runs)) =
    is end lines (subst (λ (text : List ℕ). IsAttempt text stream end lines) (same_text by_name names.messages runs.messages messages runs.messages_is has_messages) (subst (λ (s : List ℕ). IsAttempt runs.messages s end lines) (only.only runs.stream (subst (λ (text : List ℕ). IsCatalog text runs.stream) (same_text by_name names.catalog runs.catalog catalog runs.catalog_is has_catalog) runs.stream_is.is)) runs.attempt))

front_of_short : (texts : Option Texts) (names : TextNames) (catalog messages stream : List ℕ) (front : List (List ℕ)) → HasTextNamed texts names.catalog catalog → HasTextNamed texts names.messages messages → IsOnly (IsCatalog catalog) stream → ((end : End) (lines : List (List ℕ)) → IsAttempt messages stream end lines → IsFront front lines) → IsFrontOfBody texts (Some names) front
front_of_short None names catalog messages stream front has_catalog has_messages only is = tt
front_of_short (Some by_name) names catalog messages stream front has_catalog has_messages only is = front_told by_name names catalog messages stream front has_catalog has_messages only is

pub body_short : (texts : Option Texts) (names : TextNames) (catalog messages stream : List ℕ) (f : Fault) (end : End) (before mid now : Option (List (List ℕ))) → HasTextNamed texts names.catalog catalog → HasTextNamed texts names.messages messages → IsOnly (IsCatalog catalog) stream → mid ≡ before → IsSayFault f end → StopsShort messages stream mid now → SaysBody texts (Some names) end before now
body_short texts names catalog messages stream f end before mid now has_catalog has_messages only same is short = at_end f is
  where
    part : SaidPart texts (Some names) before now
    part = record {
      front = short.front;
      said = short.said ∙ ap (λ (t : Option (List (List ℕ))). told_more short.front t) same;
      in_front = front_of_short texts names catalog messages stream short.front has_catalog has_messages only short.in_front;
    }

    at_end : (g : Fault) → IsSayFault g end → SaysBody texts (Some names) end before now
    at_end fault.Failed e = subst (λ (s : End). SaysBody texts (Some names) s before now) (sym e) part
    at_end fault.NoMemory e = subst (λ (s : End). SaysBody texts (Some names) s before now) (sym e) part

-- the usage
pub body_usage : (texts : Option Texts) (asked : Option TextNames) (before now : Option (List (List ℕ))) → asked ≡ None → now ≡ told_more (usage_line ∷ []) before → SaysBody texts asked how.Usage before now
body_usage texts asked before now none said = subst (λ (a : Option TextNames). SaysBody texts a how.Usage before now) (sym none) (record { lines = usage_line ∷ []; comes = (refl, refl); said = said })

pub body_usage_short : (texts : Option Texts) (asked : Option TextNames) (f : Fault) (end : End) (before now : Option (List (List ℕ))) → asked ≡ None → IsSayFault f end → GrewByFront (usage_line ∷ []) before now → SaysBody texts asked end before now
body_usage_short texts asked f end before now none is grew = subst (λ (a : Option TextNames). SaysBody texts a end before now) (sym none) (at_end f is)
  where
    part : SaidPart texts None before now
    part = record { front = grew.front; said = grew.grew; in_front = record { rest = grew.rest; splits = grew.splits } }

    at_end : (g : Fault) → IsSayFault g end → SaysBody texts None end before now
    at_end fault.Failed e = subst (λ (s : End). SaysBody texts None s before now) (sym e) part
    at_end fault.NoMemory e = subst (λ (s : End). SaysBody texts None s before now) (sym e) part

-- the last line

-- what comes of the same words and texts is the same
same_outcome : (by_name : Texts) (asked : Option TextNames) (end end' : End) (lines lines' : List (List ℕ)) → ComesTo (Some by_name) asked end lines → ComesTo (Some by_name) asked end' lines' → SameEnd end end' lines lines'
same_outcome by_name None end end' lines lines' a b = record { ends = a.0 ∙ sym b.0; says = a.1 ∙ sym b.1 }
same_outcome by_name (Some names) end end' lines lines' a b = one_outcome by_name names end end' lines lines' a b

pub same_whole : (by_name : Texts) (asked : Option TextNames) (end end' : End) (lines lines' : List (List ℕ)) → WouldSay (Some by_name) asked end lines → WouldSay (Some by_name) asked end' lines' → SameEnd end end' lines lines'
same_whole by_name asked end end' lines lines' a b =
    let same = same_outcome by_name asked end end' a.body b.body a.comes b.comes in
    record { ends = same.ends; says = a.whole ∙ (ap (λ (ls : List (List ℕ)). ls ++ status_line (status_of end) ∷ []) same.says ∙ (ap (λ (e : End). b.body ++ status_line (status_of e) ∷ []) same.ends ∙ sym b.whole)) }

-- a front of the body is a front of the whole
front_of_body : (texts : Option Texts) (asked : Option TextNames) (front : List (List ℕ)) → IsFrontOfBody texts asked front → IsFrontOfAll texts asked front
front_of_body texts None front is = record { rest = is.rest ++ status_line status.Usage ∷ []; splits = ap (λ (ls : List (List ℕ)). ls ++ status_line status.Usage ∷ []) is.splits ∙ append_assoc front is.rest (status_line status.Usage ∷ []) }
front_of_body None (Some names) front is = tt
front_of_body (Some by_name) (Some names) front is = λ end lines would.
    let body = is end would.body would.comes in
    record { rest = body.rest ++ status_line (status_of end) ∷ []; splits = would.whole ∙ (ap (λ (ls : List (List ℕ)). ls ++ status_line (status_of end) ∷ []) body.splits ∙ append_assoc front body.rest (status_line (status_of end) ∷ [])) }

-- a front of one whole is a front of every whole
front_of_whole : (texts : Option Texts) (asked : Option TextNames) (end : End) (lines front : List (List ℕ)) → WouldSay texts asked end lines → IsFront front lines → IsFrontOfAll texts asked front
front_of_whole texts None end lines front would is = record { rest = is.rest; splits = usage would ∙ is.splits }
  where
    usage : (w : WouldSay texts None end lines) → usage_line ∷ status_line status.Usage ∷ [] ≡ lines
    usage w = sym (w.whole ∙ (ap (λ (ls : List (List ℕ)). ls ++ status_line (status_of end) ∷ []) w.comes.1 ∙ ap (λ (e : End). usage_line ∷ status_line (status_of e) ∷ []) w.comes.0))
front_of_whole None (Some names) end lines front would is = tt
front_of_whole (Some by_name) (Some names) end lines front would is = λ other others other_would. record { rest = is.rest; splits = sym (same_whole by_name (Some names) end other lines others would other_would).says ∙ is.splits }

-- all that was to be said was said, and the last line, or a front of it
whole_of : (texts : Option Texts) (asked : Option TextNames) (end : End) (before mid : Option (List (List ℕ))) (body : SaidBody texts asked end before mid) → WouldSay texts asked end (body.lines ++ status_line (status_of end) ∷ [])
whole_of texts asked end before mid body = record { body = body.lines; comes = body.comes; whole = refl }

said_all : (texts : Option Texts) (asked : Option TextNames) (end : End) (before mid now : Option (List (List ℕ))) → SaidBody texts asked end before mid → now ≡ told_more (status_line (status_of end) ∷ []) mid → SaidAll texts asked end before now
said_all texts asked end before mid now body said = record {
  lines = body.lines ++ status_line (status_of end) ∷ [];
  would = whole_of texts asked end before mid body;
  said = told_both body.lines (status_line (status_of end) ∷ []) before mid now body.said said;
}

said_front : (texts : Option Texts) (asked : Option TextNames) (unread : Type 0) (end : End) (before mid now : Option (List (List ℕ))) → SaidBody texts asked end before mid → GrewByFront (status_line (status_of end) ∷ []) mid now → SaidSome texts asked unread before now
said_front texts asked unread end before mid now body said =
    let grew = front_second body.lines (status_line (status_of end) ∷ []) before mid now body.said said in
    record { front = grew.front; said = grew.grew; in_front = inl (front_of_whole texts asked end (body.lines ++ status_line (status_of end) ∷ []) grew.front (whole_of texts asked end before mid body) (record { rest = grew.rest; splits = grew.splits })) }

-- at a fault of saying or want of memory there is only a front
at_fault : (texts : Option Texts) (asked : Option TextNames) (unread : Type 0) (end : End) (before now : Option (List (List ℕ))) → (end ≡ how.SayFault) ⊎ (end ≡ how.NoMemory) → SaidSome texts asked unread before now → Says texts asked unread end before now
at_fault texts asked unread end before now (inl e) front = subst (λ (s : End). Says texts asked unread s before now) (sym e) front
at_fault texts asked unread end before now (inr e) front = subst (λ (s : End). Says texts asked unread s before now) (sym e) front

with_status : (texts : Option Texts) (asked : Option TextNames) (unread : Type 0) (end result : End) (before mid now : Option (List (List ℕ))) → (SaidAll texts asked end before now → Says texts asked unread end before now) → SaidBody texts asked end before mid → StatusSaid end result mid now → Says texts asked unread result before now
with_status texts asked unread end result before mid now whole body (inl said) = subst (λ (s : End). Says texts asked unread s before now) (sym said.0) (whole (said_all texts asked end before mid now body said.1))
with_status texts asked unread end result before mid now whole body (inr short) = at_fault texts asked unread result before now short.0 (said_front texts asked unread end before mid now body short.1)

with_file_fault : (texts : Option Texts) (asked : Option TextNames) (unread : Type 0) (result : End) (before mid now : Option (List (List ℕ))) → unread → mid ≡ before → StatusSaid how.FileFault result mid now → Says texts asked unread result before now
with_file_fault texts asked unread result before mid now rose same (inl said) = subst (λ (s : End). Says texts asked unread s before now) (sym said.0) (said.1 ∙ ap (λ (t : Option (List (List ℕ))). told_more (status_line status.FileFault ∷ []) t) same)
with_file_fault texts asked unread result before mid now rose same (inr short) =
    let grew = subst (λ (t : Option (List (List ℕ))). GrewByFront (status_line status.FileFault ∷ []) t now) same short.1 in
    at_fault texts asked unread result before now short.0 (record { front = grew.front; said = grew.grew; in_front = inr (rose, record { rest = grew.rest; splits = grew.splits }) })

with_part : (texts : Option Texts) (asked : Option TextNames) (unread : Type 0) (before mid now : Option (List (List ℕ))) → SaidPart texts asked before mid → now ≡ mid → SaidSome texts asked unread before now
with_part texts asked unread before mid now part same = record { front = part.front; said = same ∙ part.said; in_front = inl (front_of_body texts asked part.front part.in_front) }

pub says_last : (texts : Option Texts) (asked : Option TextNames) (unread : Type 0) (end result : End) (before mid now : Option (List (List ℕ))) → (end ≡ how.FileFault → unread) → SaysBody texts asked end before mid → SaysLast end result mid now → Says texts asked unread result before now
says_last texts asked unread how.Ok result before mid now rose body last = with_status texts asked unread how.Ok result before mid now (λ all. all) body last
says_last texts asked unread how.Usage result before mid now rose body last = with_status texts asked unread how.Usage result before mid now (λ all. all) body last
says_last texts asked unread how.FileFault result before mid now rose body last = with_file_fault texts asked unread result before mid now (rose refl) body last
says_last texts asked unread how.SayFault result before mid now rose body last = at_fault texts asked unread result before now (inl last.0) (with_part texts asked unread before mid now body last.1)
says_last texts asked unread (how.Unbuilt line) result before mid now rose body last = with_status texts asked unread (how.Unbuilt line) result before mid now (λ all. all) body last
says_last texts asked unread how.NoMemory result before mid now rose body last = at_fault texts asked unread result before now (inr last.0) (with_part texts asked unread before mid now body last.1)

-- only a run that could not read a text ends with FileFault
pub last_unread : (end last : End) (mid now : Option (List (List ℕ))) → SaysLast end last mid now → last ≡ how.FileFault → end ≡ how.FileFault
last_unread end last mid now says e = by_end end says
  where
    said : (at : End) → StatusSaid at last mid now → at ≡ how.FileFault
    said at (inl s) = sym s.0 ∙ e
    said at (inr (inl f, grew)) = absurd (cc)
    said at (inr (inr f, grew)) = absurd (cc)

    by_end : (at : End) → SaysLast at last mid now → at ≡ how.FileFault
    by_end how.Ok s = said how.Ok s
    by_end how.Usage s = said how.Usage s
    by_end how.FileFault s = refl
    by_end how.SayFault s = absurd (unlike s.0)
      where
        unlike : last ≡ how.SayFault → ⊥
        unlike f = cc
    by_end (how.Unbuilt line) s = said (how.Unbuilt line) s
    by_end how.NoMemory s = absurd (unlike s.0)
      where
        unlike : last ≡ how.NoMemory → ⊥
        unlike f = cc

-- what was said may not be written out

pub says_written : (texts : Option Texts) (asked : Option TextNames) (unread : Type 0) (last result : End) (before now : Option (List (List ℕ))) → (last ≡ how.FileFault → unread) → Says texts asked unread last before now → WritesOut last result → Says texts asked unread result before now
says_written texts asked unread last result before now rose says (inl e) = subst (λ (s : End). Says texts asked unread s before now) (sym e) says
says_written texts asked unread last result before now rose says (inr e) = subst (λ (s : End). Says texts asked unread s before now) (sym e) (some last rose says)
  where
    whole : (end : End) → SaidAll texts asked end before now → SaidSome texts asked unread before now
    whole end all = record { front = all.lines; said = all.said; in_front = inl (front_of_whole texts asked end all.lines all.lines all.would (record { rest = []; splits = sym (append-nil all.lines) })) }

    some : (end : End) → (end ≡ how.FileFault → unread) → Says texts asked unread end before now → SaidSome texts asked unread before now
    some how.Ok r all = whole how.Ok all
    some how.Usage r all = whole how.Usage all
    some how.FileFault r said = record { front = status_line status.FileFault ∷ []; said = said; in_front = inr (r refl, record { rest = []; splits = refl }) }
    some how.SayFault r part = part
    some (how.Unbuilt line) r all = whole (how.Unbuilt line) all
    some how.NoMemory r part = part

-- what follows from all that was said, for the status of the end

pub says_only : (texts : Option Texts) (asked : Option TextNames) (unread : Type 0) (end : End) (before now : Option (List (List ℕ))) → Says texts asked unread end before now → IsOnlyEnd texts asked (status_of end)
says_only None asked unread end before now says = tt
says_only (Some by_name) asked unread how.Ok before now says = λ other lines would. inl (ap status_of (same_whole by_name asked how.Ok other says.lines lines says.would would).ends)
says_only (Some by_name) asked unread how.Usage before now says = λ other lines would. inl (ap status_of (same_whole by_name asked how.Usage other says.lines lines says.would would).ends)
says_only (Some by_name) asked unread how.FileFault before now says = λ other lines would. inr (inl refl)
says_only (Some by_name) asked unread how.SayFault before now says = λ other lines would. inr (inr (inl refl))
says_only (Some by_name) asked unread (how.Unbuilt line) before now says = λ other lines would. inl (ap status_of (same_whole by_name asked (how.Unbuilt line) other says.lines lines says.would would).ends)
says_only (Some by_name) asked unread how.NoMemory before now says = λ other lines would. inr (inr (inr refl))

ends_in_status : (texts : Option Texts) (asked : Option TextNames) (end : End) (before now : Option (List (List ℕ))) → SaidAll texts asked end before now → (body : List (List ℕ)) × (now ≡ told_more (body ++ status_line (status_of end) ∷ []) before)
ends_in_status texts asked end before now all = (all.would.body, all.said ∙ ap (λ (ls : List (List ℕ)). told_more ls before) all.would.whole)

pub says_status : (texts : Option Texts) (asked : Option TextNames) (unread : Type 0) (end : End) (before now : Option (List (List ℕ))) → Says texts asked unread end before now → EndsWithStatus (status_of end) before now
says_status texts asked unread how.Ok before now says = inl (ends_in_status texts asked how.Ok before now says)
says_status texts asked unread how.Usage before now says = inl (ends_in_status texts asked how.Usage before now says)
says_status texts asked unread how.FileFault before now says = inl ([], says)
says_status texts asked unread how.SayFault before now says = inr (inl refl)
says_status texts asked unread (how.Unbuilt line) before now says = inl (ends_in_status texts asked (how.Unbuilt line) before now says)
says_status texts asked unread how.NoMemory before now says = inr (inr refl)

-- a run with a command does not end with Usage
no_usage : (texts : Option Texts) (asked : Option TextNames) (lines : List (List ℕ)) → ComesTo texts asked how.Usage lines → asked ≡ None
no_usage texts None lines comes = refl
no_usage texts (Some names) lines (inl lacks) = absurd (unlike lacks.ends)
  where
    unlike : how.Usage ≡ how.FileFault → ⊥
    unlike e = cc
no_usage texts (Some names) lines (inr (inl refused)) = absurd (unlike refused.ends)
  where
    unlike : how.Usage ≡ how.Unbuilt 0 → ⊥
    unlike e = cc
no_usage texts (Some names) lines (inr (inr runs)) = absurd runs.attempt.reads.ends

pub says_usage : (texts : Option Texts) (asked : Option TextNames) (unread : Type 0) (end : End) (before now : Option (List (List ℕ))) → Says texts asked unread end before now → status_of end ≡ status.Usage → asked ≡ None
says_usage texts asked unread how.Ok before now says e = absurd (cc)
says_usage texts asked unread how.Usage before now says e = no_usage texts asked says.would.body says.would.comes
says_usage texts asked unread how.FileFault before now says e = absurd (cc)
says_usage texts asked unread how.SayFault before now says e = absurd (cc)
says_usage texts asked unread (how.Unbuilt line) before now says e = absurd (cc)
says_usage texts asked unread how.NoMemory before now says e = absurd (cc)

-- one end alone has the status of a fault
pub unread_only : (end : End) → status_of end ≡ status.FileFault → end ≡ how.FileFault
unread_only how.Ok e = absurd (cc)
unread_only how.Usage e = absurd (cc)
unread_only how.FileFault e = refl
unread_only how.SayFault e = absurd (cc)
unread_only (how.Unbuilt line) e = absurd (cc)
unread_only how.NoMemory e = absurd (cc)

pub unsaid_only : (end : End) → status_of end ≡ status.SayFault → end ≡ how.SayFault
unsaid_only how.Ok e = absurd (cc)
unsaid_only how.Usage e = absurd (cc)
unsaid_only how.FileFault e = absurd (cc)
unsaid_only how.SayFault e = refl
unsaid_only (how.Unbuilt line) e = absurd (cc)
unsaid_only how.NoMemory e = absurd (cc)

pub usage_end : (end : End) → EndsWithoutCommand end → IsUsageEnd (status_of end)
usage_end end (inl e) = inl (ap status_of e)
usage_end end (inr (inl e)) = inr (inl (ap status_of e))
usage_end end (inr (inr e)) = inr (inr (ap status_of e))

some_none : {A : Type 0} (a : Option A) → IsSome a → a ≡ None → ⊥
some_none None is e = absurd (cc)
some_none (Some x) is e = cc

pub says_complete : (texts : Option Texts) (asked : Option TextNames) (unread unsaid : Type 0) (end : End) (before now : Option (List (List ℕ))) → Says texts asked unread end before now → (end ≡ how.FileFault → unread) → (end ≡ how.SayFault → unsaid) → IsSome asked → NothingUnbuilt texts asked → ¬ unread → ¬ unsaid → IsOkOrNoMemory (status_of end)
says_complete texts asked unread unsaid how.Ok before now says read_rose say_rose is nothing no_read no_say = inl refl
says_complete texts asked unread unsaid how.Usage before now says read_rose say_rose is nothing no_read no_say = absurd (some_none asked is (no_usage texts asked says.would.body says.would.comes))
says_complete texts asked unread unsaid how.FileFault before now says read_rose say_rose is nothing no_read no_say = absurd (no_read (read_rose refl))
says_complete texts asked unread unsaid how.SayFault before now says read_rose say_rose is nothing no_read no_say = absurd (no_say (say_rose refl))
says_complete texts asked unread unsaid (how.Unbuilt line) before now says read_rose say_rose is nothing no_read no_say = absurd (nothing line says.lines says.would)
says_complete texts asked unread unsaid how.NoMemory before now says read_rose say_rose is nothing no_read no_say = inr refl

-- A text is read to one end, and says one output: two readings of it agree.
use Rattle.std.proofs.Common.{◌≡◌, ◌⊎◌, inl, inr, ℕ, ◌+◌, ◌≤◌, List, [], ◌∷◌, ◌++◌, map, length, Option, None, Some, refl, sym, ◌∙◌, ap, subst, arith, append_assoc}
use Rattle.worker_run.specs.declared.end.End.{End}
use Rattle.worker_run.specs.declared.end.End.TheVariants as how
use Rattle.outside.specs.Desk.{Texts}
use Rattle.json_fields.specs.Answer.{IsAnswer}
use Rattle.text_lines.specs.Lines.{lines_of}
use Rattle.airbyte_message.specs.Messages.{IsMessage}
use Rattle.airbyte_message.specs.declared.message.Message.{Message}
use Rattle.airbyte_message.specs.declared.message.Message.TheVariants as message
use Rattle.worker_run.specs.Catalog.{IsCatalog}
use Rattle.worker_run.specs.Words.{TextNames}
use Rattle.worker_run.specs.TakenLines.{FoundLine, TakenLine, record_line, state_line, other_line, taken_text, taken_message, found_of, found_in, Counted, none_counted, counted_after, counted_through, Fits, AreTaken, IsPassedOver, IsTaken, IsUnbuilt, longest_line}
use Rattle.worker_run.specs.Output.{said_lines, end_lines, row_lines, attempt_lines}
use Rattle.worker_run.proofs.ReadingLemmas.{said_append}
use Rattle.worker_run.specs.Reading.{EndsBehind, IsAttempt, IsFront, HasNoTextNamed, LacksMessages, LacksText, RefusesCatalog, RunsAttempt, ComesTo}

-- a line has one answer
answer_only : (line : List ℕ) (a b : Option Message) → IsAnswer (IsMessage line) a → IsAnswer (IsMessage line) b → a ≡ b
answer_only line None None p q = refl
answer_only line None (Some m) p q = absurd (p m q.is)
answer_only line (Some m) None p q = absurd (q m p.is)
answer_only line (Some m) (Some n) p q = ap (λ (x : Message). Some x) (q.only m p.is)

-- what makes a line fit a taken_line
pub record FitsAs (stream : List ℕ) (counted : Counted) (line : List ℕ) (found : Option Message) : Type 0 where
  pub short : length line ≤ longest_line
  pub answer : IsAnswer (IsMessage line) found
  pub taken : IsTaken stream counted.since found

passed_taken : (stream : List ℕ) (since : ℕ) (found : Option Message) → IsPassedOver found → IsTaken stream since found
passed_taken stream since None passed = tt
passed_taken stream since (Some (message.Rec content)) passed = absurd passed
passed_taken stream since (Some (message.State state)) passed = absurd passed
passed_taken stream since (Some (message.Log log)) passed = tt
passed_taken stream since (Some (message.Spec spec)) passed = tt
passed_taken stream since (Some (message.Connection connection)) passed = tt
passed_taken stream since (Some (message.Catalog catalog)) passed = tt
passed_taken stream since (Some (message.Trace content)) passed = passed
passed_taken stream since (Some (message.Control control)) passed = tt

fits_as : (stream : List ℕ) (counted : Counted) (taken_line : TakenLine) → Fits stream counted taken_line → FitsAs stream counted (taken_text taken_line) (taken_message taken_line)
fits_as stream counted (record_line line content) fits = record { short = fits.short; answer = fits.message; taken = fits.taken }
fits_as stream counted (state_line line state echo) fits = record { short = fits.short; answer = fits.message; taken = fits.taken }
fits_as stream counted (other_line line found) fits = record { short = fits.short; answer = fits.message; taken = passed_taken stream counted.since found fits.passed }

-- a line that fits is taken
pub taken_not_unbuilt : (stream : List ℕ) (counted : Counted) (taken_line : TakenLine) → Fits stream counted taken_line → IsUnbuilt stream counted.since (taken_text taken_line) → ⊥
taken_not_unbuilt stream counted taken_line fits (inl long) = absurd (omega (arith, (fits_as stream counted taken_line fits).short, long))
taken_not_unbuilt stream counted taken_line fits (inr refused) =
    let known = fits_as stream counted taken_line fits in
    refused.refused (subst (λ (f : Option Message). IsTaken stream counted.since f) (answer_only (taken_text taken_line) (taken_message taken_line) refused.found known.answer refused.message) known.taken)

-- what a line counts depends on its message alone
abbrev pub counted_as : Counted → Option Message → Counted
counted_as counted None = counted
counted_as counted (Some (message.Rec content)) = record { records = counted.records + 1; since = counted.since + 1 }
counted_as counted (Some (message.State state)) = record { records = counted.records; since = 0 }
counted_as counted (Some (message.Log log)) = counted
counted_as counted (Some (message.Spec spec)) = counted
counted_as counted (Some (message.Connection connection)) = counted
counted_as counted (Some (message.Catalog catalog)) = counted
counted_as counted (Some (message.Trace content)) = counted
counted_as counted (Some (message.Control control)) = counted

passed_counted : (counted : Counted) (found : Option Message) → IsPassedOver found → counted ≡ counted_as counted found
passed_counted counted None passed = refl
passed_counted counted (Some (message.Rec content)) passed = absurd passed
passed_counted counted (Some (message.State state)) passed = absurd passed
passed_counted counted (Some (message.Log log)) passed = refl
passed_counted counted (Some (message.Spec spec)) passed = refl
passed_counted counted (Some (message.Connection connection)) passed = refl
passed_counted counted (Some (message.Catalog catalog)) passed = refl
passed_counted counted (Some (message.Trace content)) passed = refl
passed_counted counted (Some (message.Control control)) passed = refl

counted_by_found : (stream : List ℕ) (counted : Counted) (taken_line : TakenLine) → Fits stream counted taken_line → counted_after counted taken_line ≡ counted_as counted (taken_message taken_line)
counted_by_found stream counted (record_line line content) fits = refl
counted_by_found stream counted (state_line line state echo) fits = refl
counted_by_found stream counted (other_line line found) fits = passed_counted counted found fits.passed

-- two readings of one line found the same
same_found : (stream : List ℕ) (counted : Counted) (a b : TakenLine) → Fits stream counted a → Fits stream counted b → taken_text a ≡ taken_text b → taken_message a ≡ taken_message b
same_found stream counted a b fits fits' e =
    answer_only (taken_text b) (taken_message a) (taken_message b) (subst (λ (line : List ℕ). IsAnswer (IsMessage line) (taken_message a)) e (fits_as stream counted a fits).answer) (fits_as stream counted b fits').answer

abbrev found_line : List ℕ → Option Message → FoundLine
found_line line found = record { line = line; found = found }

same_line_found : (stream : List ℕ) (counted : Counted) (a b : TakenLine) → Fits stream counted a → Fits stream counted b → taken_text a ≡ taken_text b → found_of a ≡ found_of b
same_line_found stream counted a b fits fits' e = both (taken_text a) (taken_text b) (taken_message a) (taken_message b) e (same_found stream counted a b fits fits' e)
  where
    both : (line line' : List ℕ) (found found' : Option Message) → line ≡ line' → found ≡ found' → found_line line found ≡ found_line line' found'
    both line line' found found' p q = ap (λ (l : List ℕ). found_line l found) p ∙ ap (λ (f : Option Message). found_line line' f) q

same_counted : (stream : List ℕ) (counted : Counted) (a b : TakenLine) → Fits stream counted a → Fits stream counted b → taken_text a ≡ taken_text b → counted_after counted a ≡ counted_after counted b
same_counted stream counted a b fits fits' e =
    counted_by_found stream counted a fits ∙ (ap (λ (f : Option Message). counted_as counted f) (same_found stream counted a b fits fits' e) ∙ sym (counted_by_found stream counted b fits'))

-- what stands behind lines that were taken, where no more is taken: nothing, or a line that is not taken
abbrev pub IsStop : List ℕ → Counted → List (List ℕ) → Type 0
IsStop stream counted rest = (rest ≡ []) ⊎ ((bad : List ℕ) × (others : List (List ℕ)) × (rest ≡ bad ∷ others) × IsUnbuilt stream counted.since bad)

stop_of : (stream : List ℕ) (taken_lines : List TakenLine) (rest : List (List ℕ)) (end : End) → EndsBehind stream taken_lines rest end → IsStop stream (counted_through none_counted taken_lines) rest
stop_of stream taken_lines rest how.Ok ends = inl ends
stop_of stream taken_lines rest how.Usage ends = absurd ends
stop_of stream taken_lines rest how.FileFault ends = absurd ends
stop_of stream taken_lines rest how.SayFault ends = absurd ends
stop_of stream taken_lines rest (how.Unbuilt line) ends = inr (ends.0, ends.1, ends.2, ends.3)
stop_of stream taken_lines rest how.NoMemory ends = absurd ends

-- where no more is taken, no line fits
stop_takes_nothing : (stream : List ℕ) (counted : Counted) (rest others : List (List ℕ)) (taken_line : TakenLine) → IsStop stream counted rest → Fits stream counted taken_line → rest ≡ taken_text taken_line ∷ others → ⊥
stop_takes_nothing stream counted rest others taken_line (inl none) fits e = nil_cons rest others (taken_text taken_line) none e
  where
    nil_cons : (xs ys : List (List ℕ)) (x : List ℕ) → xs ≡ [] → xs ≡ x ∷ ys → ⊥
    nil_cons xs ys x p q = cc
stop_takes_nothing stream counted rest others taken_line (inr bad) fits e =
    taken_not_unbuilt stream counted taken_line fits (subst (λ (line : List ℕ). IsUnbuilt stream counted.since line) (first bad.2 e) bad.3)
  where
    first : rest ≡ bad.0 ∷ bad.1 → rest ≡ taken_text taken_line ∷ others → bad.0 ≡ taken_text taken_line
    first p q = cc

heads : (xs ys : List (List ℕ)) (x y : List ℕ) → x ∷ xs ≡ y ∷ ys → x ≡ y
heads xs ys x y e = cc

tails : (xs ys : List (List ℕ)) (x y : List ℕ) → x ∷ xs ≡ y ∷ ys → xs ≡ ys
tails xs ys x y e = cc

-- what is found in one reading goes on that of another
pub record GoesOn (front whole : List FoundLine) : Type 0 where
  pub more : List FoundLine
  pub is : whole ≡ front ++ more

-- a reading that takes as much as it can goes on any other
pub goes_on : (stream : List ℕ) (counted : Counted) (a b : List TakenLine) (rest rest' : List (List ℕ)) → AreTaken stream counted a → AreTaken stream counted b → map taken_text a ++ rest ≡ map taken_text b ++ rest' → IsStop stream (counted_through counted b) rest' → GoesOn (found_in a) (found_in b)
goes_on stream counted [] b rest rest' fa fb e stop = record { more = found_in b; is = refl }
goes_on stream counted (x ∷ a) [] rest rest' fa fb e stop = absurd (stop_takes_nothing stream counted rest' (map taken_text a ++ rest) x stop fa.0 (sym e))
goes_on stream counted (x ∷ a) (y ∷ b) rest rest' fa fb e stop =
    let line = heads (map taken_text a ++ rest) (map taken_text b ++ rest') (taken_text x) (taken_text y) e in
    let same = same_line_found stream counted x y fa.0 fb.0 line in
    let further = goes_on stream (counted_after counted y) a b rest rest' (subst (λ (c : Counted). AreTaken stream c a) (same_counted stream counted x y fa.0 fb.0 line) fa.1) fb.1 (tails (map taken_text a ++ rest) (map taken_text b ++ rest') (taken_text x) (taken_text y) e) stop in
    record {
      more = further.more;
      is = ap (λ (hs : List FoundLine). found_of y ∷ hs) further.is ∙ ap (λ (h : FoundLine). h ∷ (found_in a ++ further.more)) (sym same);
    }

-- two readings that both take as much as they can are the same
pub record Agrees (a b : List TakenLine) (rest rest' : List (List ℕ)) : Type 0 where
  pub found_lines : found_in a ≡ found_in b
  pub left : rest ≡ rest'

pub agrees : (stream : List ℕ) (counted : Counted) (a b : List TakenLine) (rest rest' : List (List ℕ)) → AreTaken stream counted a → AreTaken stream counted b → map taken_text a ++ rest ≡ map taken_text b ++ rest' → IsStop stream (counted_through counted a) rest → IsStop stream (counted_through counted b) rest' → Agrees a b rest rest'
agrees stream counted [] [] rest rest' fa fb e stop stop' = record { found_lines = refl; left = e }
agrees stream counted [] (y ∷ b) rest rest' fa fb e stop stop' = absurd (stop_takes_nothing stream counted rest (map taken_text b ++ rest') y stop fb.0 e)
agrees stream counted (x ∷ a) [] rest rest' fa fb e stop stop' = absurd (stop_takes_nothing stream counted rest' (map taken_text a ++ rest) x stop' fa.0 (sym e))
agrees stream counted (x ∷ a) (y ∷ b) rest rest' fa fb e stop stop' =
    let line = heads (map taken_text a ++ rest) (map taken_text b ++ rest') (taken_text x) (taken_text y) e in
    let same = same_line_found stream counted x y fa.0 fb.0 line in
    let counts = same_counted stream counted x y fa.0 fb.0 line in
    let further = agrees stream (counted_after counted y) a b rest rest' (subst (λ (c : Counted). AreTaken stream c a) counts fa.1) fb.1 (tails (map taken_text a ++ rest) (map taken_text b ++ rest') (taken_text x) (taken_text y) e) (subst (λ (c : Counted). IsStop stream (counted_through c a) rest) counts stop) stop' in
    record {
      found_lines = ap (λ (h : FoundLine). h ∷ found_in a) same ∙ ap (λ (hs : List FoundLine). found_of y ∷ hs) further.found_lines;
      left = further.left;
    }

-- two attempts over one text end alike and say the same
pub record SameEnd (end end' : End) (lines lines' : List (List ℕ)) : Type 0 where
  pub ends : end ≡ end'
  pub says : lines ≡ lines'

length_of_found : (a : List TakenLine) → length (found_in a) ≡ length a
length_of_found [] = refl
length_of_found (x ∷ a) = let more = length_of_found a in omega (arith, more)

same_end : (stream : List ℕ) (a b : List TakenLine) (rest rest' : List (List ℕ)) (end end' : End) → EndsBehind stream a rest end → EndsBehind stream b rest' end' → Agrees a b rest rest' → end ≡ end'
same_end stream a b rest rest' how.Ok how.Ok ends ends' agree = refl
same_end stream a b rest rest' how.Ok (how.Unbuilt line) ends ends' agree = absurd (nil_cons rest rest' ends'.1 ends'.0 ends agree.left ends'.2)
  where
    nil_cons : (xs xs' ys : List (List ℕ)) (x : List ℕ) → xs ≡ [] → xs ≡ xs' → xs' ≡ x ∷ ys → ⊥
    nil_cons xs xs' ys x p q r = cc
same_end stream a b rest rest' (how.Unbuilt line) how.Ok ends ends' agree = absurd (nil_cons rest rest' ends.1 ends.0 ends' agree.left ends.2)
  where
    nil_cons : (xs xs' ys : List (List ℕ)) (x : List ℕ) → xs' ≡ [] → xs ≡ xs' → xs ≡ x ∷ ys → ⊥
    nil_cons xs xs' ys x p q r = cc
same_end stream a b rest rest' (how.Unbuilt line) (how.Unbuilt line') ends ends' agree = ap (λ (n : ℕ). how.Unbuilt n) numbers
  where
    lengths : length a ≡ length b
    lengths = sym (length_of_found a) ∙ (ap length agree.found_lines ∙ length_of_found b)

    numbers : line ≡ line'
    numbers = ends.4 ∙ (ap (λ (n : ℕ). n + 1) lengths ∙ sym ends'.4)
same_end stream a b rest rest' how.Usage end' ends ends' agree = absurd ends
same_end stream a b rest rest' how.FileFault end' ends ends' agree = absurd ends
same_end stream a b rest rest' how.SayFault end' ends ends' agree = absurd ends
same_end stream a b rest rest' how.NoMemory end' ends ends' agree = absurd ends
same_end stream a b rest rest' end how.Usage ends ends' agree = absurd ends'
same_end stream a b rest rest' end how.FileFault ends ends' agree = absurd ends'
same_end stream a b rest rest' end how.SayFault ends ends' agree = absurd ends'
same_end stream a b rest rest' end how.NoMemory ends ends' agree = absurd ends'

pub one_attempt : (text stream : List ℕ) (end end' : End) (lines lines' : List (List ℕ)) → IsAttempt text stream end lines → IsAttempt text stream end' lines' → SameEnd end end' lines lines'
one_attempt text stream end end' lines lines' is is' = record {
  ends = ends;
  says = is.says ∙ (ap (λ (hs : List FoundLine). attempt_lines stream hs end) agree.found_lines ∙ (ap (λ (e : End). attempt_lines stream (found_in is'.reads.taken_lines) e) ends ∙ sym is'.says));
}
  where
    agree : Agrees is.reads.taken_lines is'.reads.taken_lines is.reads.rest is'.reads.rest
    agree =
        agrees stream none_counted is.reads.taken_lines is'.reads.taken_lines is.reads.rest is'.reads.rest is.reads.fits is'.reads.fits (sym is.reads.lines ∙ is'.reads.lines) (stop_of stream is.reads.taken_lines is.reads.rest end is.reads.ends) (stop_of stream is'.reads.taken_lines is'.reads.rest end' is'.reads.ends)

    ends : end ≡ end'
    ends = same_end stream is.reads.taken_lines is'.reads.taken_lines is.reads.rest is'.reads.rest end end' is.reads.ends is'.reads.ends agree

-- what some lines say is a front of what an attempt says
pub some_lines_front : (text stream : List ℕ) (a : List TakenLine) (rest : List (List ℕ)) → AreTaken stream none_counted a → lines_of text ≡ map taken_text a ++ rest → (end : End) (lines : List (List ℕ)) → IsAttempt text stream end lines → IsFront (said_lines (found_in a)) lines
some_lines_front text stream a rest fits are end lines is = record {
  rest = said_lines further.more ++ end_lines stream (row_lines (found_in is.reads.taken_lines)) end;
  splits = is.says ∙ (ap (λ (ls : List (List ℕ)). ls ++ end_lines stream (row_lines (found_in is.reads.taken_lines)) end) (ap said_lines further.is ∙ said_append (found_in a) further.more) ∙ append_assoc (said_lines (found_in a)) (said_lines further.more) (end_lines stream (row_lines (found_in is.reads.taken_lines)) end));
}
  where
    further : GoesOn (found_in a) (found_in is.reads.taken_lines)
    further = goes_on stream none_counted a is.reads.taken_lines rest is.reads.rest fits is.reads.fits (sym are ∙ is.reads.lines) (stop_of stream is.reads.taken_lines is.reads.rest end is.reads.ends)

-- what the words and the texts come to

same_text : (by_name : Texts) (name a b : List ℕ) → by_name name ≡ Some a → by_name name ≡ Some b → a ≡ b
same_text by_name name a b e f = cc

-- a text that is there is not missing
is_there : (by_name : Texts) (name text : List ℕ) → by_name name ≡ Some text → by_name name ≡ None → ⊥
is_there by_name name text e f = cc

-- where a text is missing, no catalog is refused and no attempt is made
lacks_no_catalog : (by_name : Texts) (names : TextNames) (end end' : End) (lines lines' : List (List ℕ)) → LacksText (Some by_name) names end lines → RefusesCatalog (Some by_name) names end' lines' → ⊥
lacks_no_catalog by_name names end end' lines lines' lacks refuses = by_missing lacks.missing
  where
    by_missing : HasNoTextNamed (Some by_name) names.catalog ⊎ LacksMessages (Some by_name) names → ⊥
    by_missing (inl none) = is_there by_name names.catalog refuses.catalog refuses.catalog_is none
    by_missing (inr other) = refuses.none other.stream (subst (λ (text : List ℕ). IsCatalog text other.stream) (same_text by_name names.catalog other.catalog refuses.catalog other.catalog_is refuses.catalog_is) other.stream_is.is)

lacks_no_attempt : (by_name : Texts) (names : TextNames) (end end' : End) (lines lines' : List (List ℕ)) → LacksText (Some by_name) names end lines → RunsAttempt (Some by_name) names end' lines' → ⊥
lacks_no_attempt by_name names end end' lines lines' lacks runs = by_missing lacks.missing
  where
    by_missing : HasNoTextNamed (Some by_name) names.catalog ⊎ LacksMessages (Some by_name) names → ⊥
    by_missing (inl none) = is_there by_name names.catalog runs.catalog runs.catalog_is none
    by_missing (inr other) = is_there by_name names.messages runs.messages runs.messages_is other.missing

pub one_outcome : (by_name : Texts) (names : TextNames) (end end' : End) (lines lines' : List (List ℕ)) → ComesTo (Some by_name) (Some names) end lines → ComesTo (Some by_name) (Some names) end' lines' → SameEnd end end' lines lines'
one_outcome by_name names end end' lines lines' (inl a) (inl b) = record { ends = a.ends ∙ sym b.ends; says = a.nothing ∙ sym b.nothing }
one_outcome by_name names end end' lines lines' (inl a) (inr (inl b)) = absurd (lacks_no_catalog by_name names end end' lines lines' a b)
one_outcome by_name names end end' lines lines' (inl a) (inr (inr b)) = absurd (lacks_no_attempt by_name names end end' lines lines' a b)
one_outcome by_name names end end' lines lines' (inr (inl a)) (inl b) = absurd (lacks_no_catalog by_name names end' end lines' lines b a)
one_outcome by_name names end end' lines lines' (inr (inr a)) (inl b) = absurd (lacks_no_attempt by_name names end' end lines' lines b a)
one_outcome by_name names end end' lines lines' (inr (inl a)) (inr (inl b)) = record { ends = a.ends ∙ sym b.ends; says = a.nothing ∙ sym b.nothing }
one_outcome by_name names end end' lines lines' (inr (inl a)) (inr (inr b)) = absurd (a.none b.stream (subst (λ (text : List ℕ). IsCatalog text b.stream) (same_text by_name names.catalog b.catalog a.catalog b.catalog_is a.catalog_is) b.stream_is.is))
one_outcome by_name names end end' lines lines' (inr (inr a)) (inr (inl b)) = absurd (b.none a.stream (subst (λ (text : List ℕ). IsCatalog text a.stream) (same_text by_name names.catalog a.catalog b.catalog a.catalog_is b.catalog_is) a.stream_is.is))
one_outcome by_name names end end' lines lines' (inr (inr a)) (inr (inr b)) =
    one_attempt a.messages a.stream end end' lines lines' a.attempt (subst (λ (text : List ℕ). IsAttempt text a.stream end' lines') messages (subst (λ (s : List ℕ). IsAttempt b.messages s end' lines') streams b.attempt))
  where
    messages : b.messages ≡ a.messages
    messages = same_text by_name names.messages b.messages a.messages b.messages_is a.messages_is

    streams : b.stream ≡ a.stream
    streams = a.stream_is.only b.stream (subst (λ (text : List ℕ). IsCatalog text b.stream) (same_text by_name names.catalog b.catalog a.catalog b.catalog_is a.catalog_is) b.stream_is.is)

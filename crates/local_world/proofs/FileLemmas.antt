-- The lines of a text that were passed, one by one.
use Rattle.std.proofs.Common.{◌≡◌, ℕ, zero, suc, ◌+◌, ◌<◌, ◌≤◌, List, [], ◌∷◌, ◌++◌, map, length, drop, All, Option, None, Some, Bool, true, false, cond, refl, sym, ◌∙◌, ap, subst, arith, replicate, append_assoc, length-append}
use Rattle.std.specs.Prelude.{IfOk, OnOk, Result, Ok, Err}
use Rattle.std.specs.List.{AllByRecursion, Any}
use Rattle.std.proofs.lemmas.List.{append-nil, map-append, length-map}
use Rattle.std.proofs.lemmas.List.Elements.{All-push}
use Rattle.text_lines.specs.Lines.{lines_of}
use Rattle.json_fields.specs.Answer.{IsAnswer}
use Rattle.airbyte_message.specs.Messages.{IsMessage}
use Rattle.airbyte_message.specs.State.{State}
use Rattle.airbyte_message.specs.declared.message.Message.{Message}
use Rattle.load_rules.specs.Lines.{Line, Reading, ReadsText, line_read, lines_read}
use Rattle.local_world.specs.Starts.{AreStarts, IsNowhere, ReadsFile, file_lines}
use Rattle.local_world.specs.Left.{left_behind}
use Rattle.local_world.specs.Begun.{AreLeft}
use Rattle.local_world.specs.LeftLines.{IsKeptUnless, IsPlace, line_at, lines_left}
use Rattle.local_world.specs.Awaited.{Awaited, Passes, Stands, count_missing}
use Rattle.local_world.specs.declared.left_lines.Place.{Place}
use Rattle.local_world.proofs.FrontLemmas.{all_left, have_come, one_lacks, stands_first, stands_more}

-- two answers to one question are one
pub same_answer : {A : Type 0} (P : A → Type 0) (a b : Option A) → IsAnswer P a → IsAnswer P b → a ≡ b
same_answer P None None first second = refl
same_answer P None (Some y) first second = absurd (first y second.is)
same_answer P (Some x) None first second = absurd (second x first.is)
same_answer P (Some x) (Some y) first second = ap (λ v. Some v) (second.only x first.is)

-- what was found of a line is what each right reading says
pub read_right : {E : Type 0} (line : List ℕ) (found : Option Message) (number : ℕ) (old now : Awaited) (result : Result Bool E) → IsAnswer (IsMessage line) found → IfOk result (Passes number found old now)
    → IfOk result (λ is_out. (read : Reading) → ReadsText read line → Passes number (read line) old now is_out)
read_right line found number old now (Ok is_out) answer passes = λ read reads. subst (λ (o : Option Message). Passes number o old now is_out) (same_answer (IsMessage line) found (read line) answer reads) passes
read_right line found number old now (Err why) answer passes = tt

pub same_states : {E : Type 0} (found : Option Message) (number : ℕ) (old now : Awaited) (result : Result Bool E) → IfOk result (Passes number found old now) → OnOk result (now.states ≡ old.states)
same_states found number old now (Ok is_out) passes = passes.states
same_states found number old now (Err why) passes = tt

pub none_missing : (b : Bool) (count : ℕ) → (0 < count → b ≡ true) → b ≡ false → count ≡ 0
none_missing b zero some none = refl
none_missing b (suc count) some none = absurd (let e : true ≡ false = sym (some (omega arith)) ∙ none in cc)

all_at : {A : Type 0} (P : A → Type 0) (xs : List A) (y : A) (ys : List A) → AllByRecursion P (xs ++ y ∷ ys) → P y
all_at P [] y ys each = each.0
all_at P (x ∷ xs) y ys each = all_at P xs y ys each.1

texts_of : (read : Reading) (texts : List (List ℕ)) → map (λ line. line.text) (lines_read read texts) ≡ texts
texts_of read [] = refl
texts_of read (text ∷ texts) = ap (λ (ts : List (List ℕ)). text ∷ ts) (texts_of read texts)

-- so many lines of the text were passed, up to a place
pub record HasPassed (text : List ℕ) (states : List State) (awaited : Awaited) (places : List Place) (behind number : ℕ) : Type 0 where
  pub passed : List (List ℕ)
  pub splits : lines_of text ≡ passed ++ lines_of (drop behind text)
  pub counts : number ≡ length passed
  pub within : behind ≤ length text
  pub small : number ≤ behind
  pub inside : All (IsPlace text) places
  pub same : awaited.states ≡ states
  pub stands : (read : Reading) → ReadsFile read text → Stands (lines_read read passed) awaited (map (line_at text) places)

no_places : (text : List ℕ) → All (IsPlace text) []
no_places text k d lt = absurd (omega (arith, lt))

pub passed_first : (text : List ℕ) (states : List State) (awaited : Awaited) (places : List Place) → awaited ≡ record { states = states; reached = replicate (length states) None } → places ≡ [] → HasPassed text states awaited places 0 0
passed_first text states awaited places is none = subst (λ (ps : List Place). HasPassed text states awaited ps 0 0) (sym none) (record {
  passed = [];
  splits = refl;
  counts = refl;
  within = omega arith;
  small = omega arith;
  inside = no_places text;
  same = ap (λ (a : Awaited). a.states) is;
  stands = λ read reads. stands_first states awaited is;
})

places_text : (text : List ℕ) (is_out : Bool) (place : Place) (places now : List Place) → IsKeptUnless is_out place places now → cond is_out (map (line_at text) places) (map (line_at text) places ++ line_at text place ∷ []) ≡ map (line_at text) now
places_text text true place places now is = sym (ap (λ (ps : List Place). map (line_at text) ps) is)
places_text text false place places now is = sym (ap (λ (ps : List Place). map (line_at text) ps) is ∙ map-append (line_at text) places (place ∷ []))

places_in : (text : List ℕ) (is_out : Bool) (place : Place) (places now : List Place) → IsKeptUnless is_out place places now → All (IsPlace text) places → IsPlace text place → All (IsPlace text) now
places_in text true place places now is inside own = subst (λ (ps : List Place). All (IsPlace text) ps) (sym is) inside
places_in text false place places now is inside own = subst (λ (ps : List Place). All (IsPlace text) ps) (sym is) (All-push (IsPlace text) places place inside own)

pub passed_more : (text : List ℕ) (states : List State) (old now : Awaited) (places later : List Place) (behind number : ℕ) (place : Place) (is_out : Bool)
    → HasPassed text states old places behind number → behind ≤ place.start → place.start < place.end → place.end ≤ length text
    → lines_of (drop behind text) ≡ line_at text place ∷ lines_of (drop place.end text) → now.states ≡ old.states
    → ((read : Reading) → ReadsText read (line_at text place) → Passes number (read (line_at text place)) old now is_out) → IsKeptUnless is_out place places later → HasPassed text states now later place.end (number + 1)
passed_more text states old now places later behind number place is_out has low lt within first states_are passes places_are =
    let own = line_at text place in
    let whole : lines_of text ≡ has.passed ++ own ∷ lines_of (drop place.end text) = has.splits ∙ ap (λ (ls : List (List ℕ)). has.passed ++ ls) first in
    let small = has.small in
    record {
      passed = has.passed ++ own ∷ [];
      splits = whole ∙ sym (append_assoc has.passed (own ∷ []) (lines_of (drop place.end text)));
      counts = ap (λ (n : ℕ). n + 1) has.counts ∙ sym (length-append has.passed (own ∷ []));
      within = within;
      small = omega (arith, small, low, lt);
      inside = places_in text is_out place places later places_are has.inside (omega (arith, lt), within);
      same = states_are ∙ has.same;
      stands = λ read reads.
          let reads_own : ReadsText read own = all_at (ReadsText read) has.passed own (lines_of (drop place.end text)) (subst (λ (ls : List (List ℕ)). AllByRecursion (ReadsText read) ls) whole reads) in
          let size : number ≡ length (lines_read read has.passed) = has.counts ∙ sym (length-map has.passed (line_read read)) in
          let passes_own : Passes (length (lines_read read has.passed)) (read own) old now is_out = subst (λ (n : ℕ). Passes n (read own) old now is_out) size (passes read reads_own) in
          let more = stands_more (lines_read read has.passed) (line_read read own) old now (map (line_at text) places) is_out (has.stands read reads) passes_own in
          subst (λ (ls : List Line). Stands ls now (map (line_at text) later)) (sym (map-append (line_read read) has.passed (own ∷ [])))
          (subst (λ (left : List (List ℕ)). Stands (lines_read read has.passed ++ line_read read own ∷ []) now left) (places_text text is_out place places later places_are) more);
    }

-- where all have come, this is left
pub passed_left : (text : List ℕ) (states : List State) (awaited : Awaited) (places : List Place) (behind number : ℕ) → HasPassed text states awaited places behind number → count_missing awaited.reached ≡ 0
    → (read : Reading) → ReadsFile read text → AreLeft read text states (lines_left text places behind)
passed_left text states awaited places behind number has none read reads =
    let passed = lines_read read has.passed in
    let rest = lines_read read (lines_of (drop behind text)) in
    let stands = has.stands read reads in
    let come = have_come passed rest awaited.states awaited.reached stands.come none in
    let whole : file_lines read text ≡ passed ++ rest = ap (λ (ts : List (List ℕ)). lines_read read ts) has.splits ∙ map-append (line_read read) has.passed (lines_of (drop behind text)) in
    subst (λ (ss : List State). AreLeft read text ss (lines_left text places behind)) has.same (record {
      starts = come.starts;
      begins = subst (λ (ls : List Line). AreStarts ls awaited.states come.starts) (sym whole) come.are;
      left = ap (λ (ts : List (List ℕ)). ts ++ lines_of (drop behind text)) (stands.left_is come.starts come.from)
          ∙ (ap (λ (ts : List (List ℕ)). map (λ line. line.text) (left_behind come.starts passed) ++ ts) (sym (texts_of read (lines_of (drop behind text))))
          ∙ (sym (map-append (λ (line : Line). line.text) (left_behind come.starts passed) rest)
          ∙ ap (λ (ls : List Line). map (λ line. line.text) ls) (sym (all_left come.starts passed rest come.low) ∙ ap (λ (ls : List Line). left_behind come.starts ls) (sym whole))));
    })

-- where the text is over and one has not come, it is nowhere
pub passed_lacks : (text : List ℕ) (states : List State) (awaited : Awaited) (places : List Place) (behind number : ℕ) → HasPassed text states awaited places behind number → 0 < count_missing awaited.reached
    → lines_of (drop behind text) ≡ [] → (read : Reading) → ReadsFile read text → Any (IsNowhere (file_lines read text)) states
passed_lacks text states awaited places behind number has some over read reads =
    let whole : file_lines read text ≡ lines_read read has.passed = ap (λ (ts : List (List ℕ)). lines_read read ts) (has.splits ∙ (ap (λ (ts : List (List ℕ)). has.passed ++ ts) over ∙ append-nil has.passed)) in
    subst (λ (ls : List Line). Any (IsNowhere ls) states) (sym whole)
    (subst (λ (ss : List State). Any (IsNowhere (lines_read read has.passed)) ss) has.same (one_lacks (lines_read read has.passed) awaited.states awaited.reached (has.stands read reads).come some))

-- An echo as an object that is written, and that it stands on one line.
use Rattle.std.proofs.Common.{◌≡◌, ◌≢◌, ℕ, ◌+◌, ◌<◌, ◌≤◌, ◌^◌, ◌%◌, ◌-◌, Bool, true, false, cond, eqb, List, [], ◌∷◌, ◌++◌, flat_map, map, drop, codes, refl, sym, ap, ◌∙◌, arith, append_assoc}
use Rattle.std.proofs.lemmas.List.Elements.{All-append, All-cons, All-nil, All-take, All-drop}
use Rattle.std.proofs.lemmas.Bool.{true≢false, eq-eqb}
use Rattle.std.proofs.lemmas.Fmt.{decimal_by_steps}
use Rattle.std.specs.Fmt.{decimal}
use Rattle.json.specs.Print.{quoted, escape_byte}
use Rattle.json_span.specs.Members.{text_at}
use Rattle.json_span.specs.declared.Member.{Member}
use Rattle.json_span.specs.declared.Span.{Span}
use Rattle.json_write.specs.Objects.{Part, named, part_before, parts_text, object_text}
use Rattle.json_write.specs.Laws.{part_at}
use Rattle.airbyte_message.specs.Depths.{IsOneLine}
use Rattle.airbyte_message.specs.Echo.{member_text, echo_text}
use Rattle.airbyte_message.specs.EchoReads.{counted_part}

-- ---- the text

member_before : (key value more tail : List ℕ) → ((key ++ 58 ∷ (value ++ 44 ∷ [])) ++ more) ++ tail ≡ key ++ 58 ∷ (value ++ 44 ∷ (more ++ tail))
member_before key value more tail = simp append_assoc

module _ (object : List ℕ) (part : Part) where
  kept_behind : (kept : List Member) → 44 ∷ (flat_map (member_text object) kept ++ part_before part (125 ∷ [])) ≡ parts_text (map (part_at object) kept ++ part ∷ [])
  kept_behind [] = refl
  kept_behind (m ∷ kept) =
      let key = text_at object m.key in
      let value = text_at object m.value in
      ap (λ (l : List ℕ). 44 ∷ l) (member_before key value (flat_map (member_text object) kept) (part_before part (125 ∷ [])) ∙ ap (λ (l : List ℕ). key ++ 58 ∷ (value ++ l)) (kept_behind kept))

  kept_text : (kept : List Member) → 123 ∷ (flat_map (member_text object) kept ++ part_before part (125 ∷ [])) ≡ object_text (map (part_at object) kept ++ part ∷ [])
  kept_text [] = refl
  kept_text (m ∷ kept) =
      let key = text_at object m.key in
      let value = text_at object m.value in
      ap (λ (l : List ℕ). 123 ∷ l) (member_before key value (flat_map (member_text object) kept) (part_before part (125 ∷ [])) ∙ ap (λ (l : List ℕ). key ++ 58 ∷ (value ++ l)) (kept_behind kept))

three_behind : (d a b c : List ℕ) → ((d ++ a) ++ b) ++ c ≡ d ++ (a ++ (b ++ c))
three_behind d a b c = simp append_assoc

-- the members of an echo's line, where its state's object has this text
abbrev pub line_parts : List ℕ → List Part
line_parts object = named (codes "type") (quoted (codes "STATE")) ∷ named (codes "state") object ∷ []

-- the object of an echo
abbrev pub echoed_object : List ℕ → List Member → ℕ → List ℕ
echoed_object object kept count = object_text (map (part_at object) kept ++ counted_part count ∷ [])

pub echo_written : (object : List ℕ) (kept : List Member) (count : ℕ) → echo_text object kept count ≡ object_text (line_parts (echoed_object object kept count))
unfolding escape_byte
echo_written object kept count =
    let members = flat_map (member_text object) kept in
    let close = 125 ∷ [] in
    let last = part_before (counted_part count) close in
    let front = codes "{\"type\":\"STATE\",\"state\":" in
    let digits = ap (λ (l : List ℕ). codes "\"destinationStats\":{\"recordCount\":" ++ l) (sym (three_behind (decimal count) close close close)) in
    let whole = ap (λ (l : List ℕ). members ++ l) digits ∙ sym (append_assoc members last close) in
    ap (λ (l : List ℕ). front ++ 123 ∷ l) whole ∙ ap (λ (l : List ℕ). front ++ (l ++ close)) (kept_text object (counted_part count) kept)

-- ---- one line

abbrev pub IsNoFeed : ℕ → Type 0
IsNoFeed byte = byte ≢ 10

pub lacks_feed : List ℕ → Bool
lacks_feed [] = true
lacks_feed (byte ∷ text) = cond (eqb byte 10) false (lacks_feed text)

-- a text that is known is looked through
pub one_line_word : (text : List ℕ) → lacks_feed text ≡ true → IsOneLine text
unfolding lacks_feed
one_line_word [] e = All-nil IsNoFeed
one_line_word (byte ∷ text) e = go (eqb byte 10) refl e (one_line_word text)
  where
    go : (feed : Bool) → eqb byte 10 ≡ feed → cond feed false (lacks_feed text) ≡ true → (lacks_feed text ≡ true → IsOneLine text) → IsOneLine (byte ∷ text)
    go true is e more = absurd (true≢false (sym e))
    go false is e more = All-cons IsNoFeed byte text (λ same. true≢false (sym (eq-eqb byte 10 same) ∙ is)) (more e)

one_line_at : (text : List ℕ) (span : Span) → IsOneLine text → IsOneLine (text_at text span)
one_line_at text span line = All-take IsNoFeed (span.end - span.start) (drop span.start text) (All-drop IsNoFeed span.start text line)

pub one_line_decimal : (count : ℕ) → count < 2 ^ 64 → IsOneLine (decimal count)
one_line_decimal count small = decimal_by_steps (λ n text. IsOneLine text) one more count small
  where
    one : (n : ℕ) → n < 10 → IsOneLine ((48 + n) ∷ [])
    one n lt = All-cons IsNoFeed (48 + n) [] (λ same. omega (arith, same)) (All-nil IsNoFeed)

    more : (n : ℕ) (digits : List ℕ) → 10 ≤ n → IsOneLine digits → IsOneLine (digits ++ (48 + n % 10) ∷ [])
    more n digits le line = All-append IsNoFeed digits ((48 + n % 10) ∷ []) line (All-cons IsNoFeed (48 + n % 10) [] (λ same. omega (arith, same)) (All-nil IsNoFeed))

-- members whose keys and values stand on one line
abbrev pub AreOneLine : List Part → Type 0
AreOneLine [] = Unit {0}
AreOneLine (part ∷ parts) = IsOneLine part.0 × IsOneLine part.1 × AreOneLine parts

one_line_byte : (byte : ℕ) (text : List ℕ) → lacks_feed (byte ∷ []) ≡ true → IsOneLine text → IsOneLine (byte ∷ text)
one_line_byte byte text e line = All-append IsNoFeed (byte ∷ []) text (one_line_word (byte ∷ []) e) line

one_line_before : (part : Part) (rest : List ℕ) → IsOneLine part.0 → IsOneLine part.1 → IsOneLine rest → IsOneLine (part_before part rest)
unfolding lacks_feed
one_line_before part rest key value line = All-append IsNoFeed part.0 (58 ∷ (part.1 ++ rest)) key (one_line_byte 58 (part.1 ++ rest) refl (All-append IsNoFeed part.1 rest value line))

one_line_parts : (parts : List Part) → AreOneLine parts → IsOneLine (parts_text parts)
unfolding lacks_feed
one_line_parts [] are = one_line_word (125 ∷ []) refl
one_line_parts (part ∷ parts) are = one_line_byte 44 (part_before part (parts_text parts)) refl (one_line_before part (parts_text parts) are.0 are.1 (one_line_parts parts are.2))

pub one_line_object : (parts : List Part) → AreOneLine parts → IsOneLine (object_text parts)
unfolding lacks_feed
one_line_object [] are = one_line_word (123 ∷ 125 ∷ []) refl
one_line_object (part ∷ parts) are = one_line_byte 123 (part_before part (parts_text parts)) refl (one_line_before part (parts_text parts) are.0 are.1 (one_line_parts parts are.2))

counted_one_line : (count : ℕ) → count < 2 ^ 64 → AreOneLine (counted_part count ∷ [])
unfolding lacks_feed escape_byte
counted_one_line count small = (one_line_word (quoted (codes "destinationStats")) refl, one_line_object (named (codes "recordCount") (decimal count) ∷ []) (one_line_word (quoted (codes "recordCount")) refl, one_line_decimal count small, tt), tt)

pub echoed_one_line : (object : List ℕ) (kept : List Member) (count : ℕ) → IsOneLine object → count < 2 ^ 64 → IsOneLine (echoed_object object kept count)
echoed_one_line object kept count line small = one_line_object (map (part_at object) kept ++ counted_part count ∷ []) (go kept)
  where
    go : (kept : List Member) → AreOneLine (map (part_at object) kept ++ counted_part count ∷ [])
    go [] = counted_one_line count small
    go (m ∷ kept) = (one_line_at object m.key line, one_line_at object m.value line, go kept)

pub line_one_line : (object : List ℕ) → IsOneLine object → IsOneLine (object_text (line_parts object))
unfolding lacks_feed escape_byte
line_one_line object line = one_line_object (line_parts object) (one_line_word (quoted (codes "type")) refl, one_line_word (quoted (codes "STATE")) refl, (one_line_word (quoted (codes "state")) refl, line, tt))

-- Lines that are put bit by bit.
use Rattle.std.proofs.Common.{◌≡◌, ◌∙◌, ℕ, ◌*◌, ◌%◌, List, [], ◌∷◌, ◌++◌, codes, refl, sym, ap, append_assoc}
use Rattle.std.specs.Fmt.{decimal, digits}
use Rattle.json.specs.Print.{escape_byte}
use Rattle.message_writer.specs.Written.{written}
use Rattle.made_input.specs.Made.{complete, item_body, items, record_of, since_state, state_of, visit_body, visits}

-- what stands behind a text
behind : (x inner outer line end : List ℕ) → (((x ++ inner) ++ outer) ++ line) ++ end ≡ x ++ (inner ++ (outer ++ (line ++ end)))
behind x inner outer line end =
    append_assoc ((x ++ inner) ++ outer) line end
    ∙ (append_assoc (x ++ inner) outer (line ++ end)
    ∙ append_assoc x inner (outer ++ (line ++ end)))

-- what stands around two texts of a record, one behind the other
around : (x between y inner outer line end : List ℕ) → (((x ++ (between ++ (y ++ inner))) ++ outer) ++ line) ++ end ≡ x ++ (between ++ (y ++ (inner ++ (outer ++ (line ++ end)))))
around x between y inner outer line end =
    behind x (between ++ (y ++ inner)) outer line end
    ∙ ap (λ (t : List ℕ). x ++ t) (append_assoc between (y ++ inner) (outer ++ (line ++ end)) ∙ ap (λ (t : List ℕ). between ++ t) (append_assoc y inner (outer ++ (line ++ end))))

-- and of a state
in_state : (x inner outer between y count stats line end : List ℕ) → ((((x ++ inner) ++ outer) ++ (between ++ ((y ++ count) ++ stats))) ++ line) ++ end ≡ x ++ ((inner ++ (outer ++ between)) ++ (y ++ (count ++ (stats ++ (line ++ end)))))
in_state x inner outer between y count stats line end =
    behind (x ++ inner) outer (between ++ ((y ++ count) ++ stats)) line end
    ∙ (append_assoc x inner (outer ++ ((between ++ ((y ++ count) ++ stats)) ++ (line ++ end)))
    ∙ ap (λ (t : List ℕ). x ++ t)
    (ap (λ (t : List ℕ). inner ++ (outer ++ t)) (append_assoc between ((y ++ count) ++ stats) (line ++ end) ∙ ap (λ (t : List ℕ). between ++ t) (append_assoc (y ++ count) stats (line ++ end) ∙ append_assoc y count (stats ++ (line ++ end))))
    ∙ (ap (λ (t : List ℕ). inner ++ t) (sym (append_assoc outer between (y ++ (count ++ (stats ++ (line ++ end))))))
    ∙ sym (append_assoc inner (outer ++ between) (y ++ (count ++ (stats ++ (line ++ end))))))))

-- three texts behind one
three : (old a x b y c : List ℕ) → ((old ++ (a ++ x)) ++ (b ++ y)) ++ c ≡ old ++ (a ++ (x ++ (b ++ (y ++ c))))
three old a x b y c =
    append_assoc (old ++ (a ++ x)) (b ++ y) c
    ∙ (append_assoc old (a ++ x) ((b ++ y) ++ c)
    ∙ ap (λ (t : List ℕ). old ++ t) (append_assoc a x ((b ++ y) ++ c) ∙ ap (λ (t : List ℕ). a ++ (x ++ t)) (append_assoc b y c)))

two : (old a x c : List ℕ) → (old ++ (a ++ x)) ++ c ≡ old ++ (a ++ (x ++ c))
two old a x c = append_assoc old (a ++ x) c ∙ ap (λ (t : List ℕ). old ++ t) (append_assoc a x c)

abbrev pub item_front : List ℕ
item_front = codes "{\"type\":\"RECORD\",\"record\":{\"stream\":\"items\",\"data\":{\"id\":"

abbrev pub version_key : List ℕ
version_key = codes ",\"version\":"

abbrev pub record_back : List ℕ
record_back = codes "},\"emitted_at\":0}}\n"

item_line : (row : ℕ) → item_front ++ (decimal (row * 7 % 1000) ++ (version_key ++ (decimal row ++ record_back))) ≡ written (record_of items (item_body row)) ++ 10 ∷ []
unfolding escape_byte digits
item_line row = ap (λ (t : List ℕ). item_front ++ t) (sym (around (decimal (row * 7 % 1000)) version_key (decimal row) (codes "}") (codes ",\"emitted_at\":0}") (codes "}") (codes "\n")))

pub item_put : (old first second new : List ℕ) (row : ℕ) → first ≡ old ++ (item_front ++ decimal (row * 7 % 1000)) → second ≡ first ++ (version_key ++ decimal row) → new ≡ second ++ record_back
    → new ≡ old ++ (written (record_of items (item_body row)) ++ 10 ∷ [])
item_put old first second new row f s n =
    n ∙ (ap (λ (t : List ℕ). t ++ record_back) (s ∙ ap (λ (t : List ℕ). t ++ (version_key ++ decimal row)) f)
    ∙ (three old item_front (decimal (row * 7 % 1000)) version_key (decimal row) record_back
    ∙ ap (λ (t : List ℕ). old ++ t) (item_line row)))

abbrev pub visit_front : List ℕ
visit_front = codes "{\"type\":\"RECORD\",\"record\":{\"stream\":\"visits\",\"data\":{\"version\":"

visit_line : (row : ℕ) → visit_front ++ (decimal row ++ record_back) ≡ written (record_of visits (visit_body row)) ++ 10 ∷ []
unfolding escape_byte digits
visit_line row = ap (λ (t : List ℕ). visit_front ++ t) (sym (behind (decimal row) (codes "}") (codes ",\"emitted_at\":0}") (codes "}") (codes "\n")))

pub visit_put : (old first new : List ℕ) (row : ℕ) → first ≡ old ++ (visit_front ++ decimal row) → new ≡ first ++ record_back → new ≡ old ++ (written (record_of visits (visit_body row)) ++ 10 ∷ [])
visit_put old first new row f n =
    n ∙ (ap (λ (t : List ℕ). t ++ record_back) f
    ∙ (two old visit_front (decimal row) record_back
    ∙ ap (λ (t : List ℕ). old ++ t) (visit_line row)))

abbrev pub stats_front : List ℕ
stats_front = codes "}},\"sourceStats\":{\"recordCount\":"

abbrev pub state_back : List ℕ
state_back = codes "}}}\n"

abbrev pub item_state_front : List ℕ
item_state_front = codes "{\"type\":\"STATE\",\"state\":{\"type\":\"STREAM\",\"stream\":{\"stream_descriptor\":{\"name\":\"items\"},\"stream_state\":{\"row\":"

item_state_line : (row : ℕ) → item_state_front ++ (decimal row ++ (stats_front ++ (decimal (since_state row) ++ state_back))) ≡ written (state_of items row) ++ 10 ∷ []
unfolding escape_byte digits
item_state_line row = ap (λ (t : List ℕ). item_state_front ++ t) (sym (in_state (decimal row) (codes "}") (codes "}") (codes ",\"sourceStats\":{\"recordCount\":") (decimal (since_state row)) (codes "}") (codes "}") (codes "}") (codes "\n")))

pub item_state_put : (old first second new : List ℕ) (row : ℕ) → first ≡ old ++ (item_state_front ++ decimal row) → second ≡ first ++ (stats_front ++ decimal (since_state row)) → new ≡ second ++ state_back
    → new ≡ old ++ (written (state_of items row) ++ 10 ∷ [])
item_state_put old first second new row f s n =
    n ∙ (ap (λ (t : List ℕ). t ++ state_back) (s ∙ ap (λ (t : List ℕ). t ++ (stats_front ++ decimal (since_state row))) f)
    ∙ (three old item_state_front (decimal row) stats_front (decimal (since_state row)) state_back
    ∙ ap (λ (t : List ℕ). old ++ t) (item_state_line row)))

abbrev pub visit_state_front : List ℕ
visit_state_front = codes "{\"type\":\"STATE\",\"state\":{\"type\":\"STREAM\",\"stream\":{\"stream_descriptor\":{\"name\":\"visits\"},\"stream_state\":{\"row\":"

visit_state_line : (row : ℕ) → visit_state_front ++ (decimal row ++ (stats_front ++ (decimal (since_state row) ++ state_back))) ≡ written (state_of visits row) ++ 10 ∷ []
unfolding escape_byte digits
visit_state_line row = ap (λ (t : List ℕ). visit_state_front ++ t) (sym (in_state (decimal row) (codes "}") (codes "}") (codes ",\"sourceStats\":{\"recordCount\":") (decimal (since_state row)) (codes "}") (codes "}") (codes "}") (codes "\n")))

pub visit_state_put : (old first second new : List ℕ) (row : ℕ) → first ≡ old ++ (visit_state_front ++ decimal row) → second ≡ first ++ (stats_front ++ decimal (since_state row)) → new ≡ second ++ state_back
    → new ≡ old ++ (written (state_of visits row) ++ 10 ∷ [])
visit_state_put old first second new row f s n =
    n ∙ (ap (λ (t : List ℕ). t ++ state_back) (s ∙ ap (λ (t : List ℕ). t ++ (stats_front ++ decimal (since_state row))) f)
    ∙ (three old visit_state_front (decimal row) stats_front (decimal (since_state row)) state_back
    ∙ ap (λ (t : List ℕ). old ++ t) (visit_state_line row)))

-- a stream is complete

abbrev pub items_complete : List ℕ
items_complete = codes "{\"type\":\"TRACE\",\"trace\":{\"type\":\"STREAM_STATUS\",\"emitted_at\":0,\"stream_status\":{\"stream_descriptor\":{\"name\":\"items\"},\"status\":\"COMPLETE\"}}}\n"

abbrev pub visits_complete : List ℕ
visits_complete = codes "{\"type\":\"TRACE\",\"trace\":{\"type\":\"STREAM_STATUS\",\"emitted_at\":0,\"stream_status\":{\"stream_descriptor\":{\"name\":\"visits\"},\"status\":\"COMPLETE\"}}}\n"

items_line : items_complete ≡ written (complete items) ++ 10 ∷ []
unfolding escape_byte digits
items_line = refl

visits_line : visits_complete ≡ written (complete visits) ++ 10 ∷ []
unfolding escape_byte digits
visits_line = refl

pub items_put : (old new : List ℕ) → new ≡ old ++ items_complete → new ≡ old ++ (written (complete items) ++ 10 ∷ [])
items_put old new n = n ∙ ap (λ (t : List ℕ). old ++ t) items_line

pub visits_put : (old new : List ℕ) → new ≡ old ++ visits_complete → new ≡ old ++ (written (complete visits) ++ 10 ∷ [])
visits_put old new n = n ∙ ap (λ (t : List ℕ). old ++ t) visits_line

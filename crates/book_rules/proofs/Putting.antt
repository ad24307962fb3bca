-- A batch that is put: one commit of its own rows, and then releases.
use Rattle.std.proofs.Common.{◌≡◌, ◌⊎◌, inl, inr, ℕ, zero, suc, List, [], ◌∷◌, map, Some, Bool, true, false, refl, sym, ◌∙◌, ap, subst}
use Rattle.std.specs.Prelude.{filter, slice_get}
use Rattle.std.specs.List.{AllByRecursion, list_any}
use Rattle.std.proofs.lemmas.Bool.{and_parts, cases_Bool, eq-eqb}
use Rattle.basics.specs.declared.stream.StreamId.{StreamId}
use Rattle.catalog.specs.declared.stream.ConfStream.{ConfStream}
use Rattle.airbyte_message.specs.declared.message.Message.TheVariants as message
use Rattle.airbyte_message.specs.declared.message.RecordMsg.{RecordMsg}
use Rattle.airbyte_message.proofs.OneMessage.{message_only}
use Rattle.batch_prep.specs.Items.{AddsRow, AreRows}
use Rattle.batch_prep.specs.Items as items
use Rattle.batch_prep.specs.declared.item.PrepPlan.{PrepPlan}
use Rattle.column_types.specs.Columns.{AreColumns}
use Rattle.column_types.specs.Rows.{IsRow}
use Rattle.outside.proofs.TableLaws.{id_is}
use Rattle.outside.specs.declared.event.RawRow.{RawRow}
use Rattle.outside.specs.declared.event.StreamPlan.{StreamPlan}
use Rattle.outside.specs.declared.line.SeqLine.{SeqLine}
use Rattle.book_queue.specs.Content.{Held, all_of, batch_of, number_below}
use Rattle.book_queue.specs.Content as queue
use Rattle.load_rules.specs.Engine.{PlansFit}
use Rattle.load_rules.specs.Loads.{Opening}
use Rattle.load_rules.specs.Machine.{Placed, entry_of, have_sequences, is_done, is_in_batch, is_of, is_out}
use Rattle.load_rules.specs.Rows.{IsRowOf}
use Rattle.load_rules.specs.SafeDest.{AreRowsOf}
use Rattle.load_rules.specs.Taken.{Entry}
use Rattle.book_rules.specs.Holds.{AreHeld, IsHeld, still}
use Rattle.book_rules.proofs.Lists.{some_is}

-- Lists

pub none_passes : {A : Type 0} (u : A → Bool) (xs : List A) → filter u xs ≡ [] → list_any u xs ≡ false
none_passes u [] none = refl
none_passes u (x ∷ xs) none = at (cases_Bool (u x)) (none_passes u xs)
  where
    at : (u x ≡ true) ⊎ (u x ≡ false) → (filter u xs ≡ [] → list_any u xs ≡ false) → list_any u (x ∷ xs) ≡ false
    at (inl passes) deeper = absurd (let some = rw passes at none in cc)
    at (inr fails) deeper = rw fails (deeper (rw fails at none))

pub all_filter : {A : Type 0} (P : A → Type 0) (t : A → Bool) (xs : List A) → AllByRecursion P xs → AllByRecursion P (filter t xs)
all_filter P t [] each = tt
all_filter P t (x ∷ xs) each = at (cases_Bool (t x)) (all_filter P t xs each.1)
  where
    at : (t x ≡ true) ⊎ (t x ≡ false) → AllByRecursion P (filter t xs) → AllByRecursion P (filter t (x ∷ xs))
    at (inl passes) rest = rw passes (each.0, rest)
    at (inr fails) rest = rw fails rest

pub nil_map : {A B : Type 0} (f : A → B) (xs : List A) → map f xs ≡ [] → xs ≡ []
nil_map f [] none = refl
nil_map f (x ∷ xs) none = cc

-- Those that pass, in both

module _ (ids_ : List StreamId) (t : Placed → Bool) (u : Held → Bool) (none : (one : Placed) → is_done one.place ≡ true → t one ≡ false) (alike : (placed : Placed) (held : Held) → IsHeld ids_ placed held → t placed ≡ u held) where
  filter_first : (first : Placed) (more : List Placed) (held : List Held) → AreHeld ids_ (first ∷ still more) held → ((rest : List Held) → AreHeld ids_ (still more) rest → AreHeld ids_ (filter t more) (filter u rest)) → AreHeld ids_ (filter t (first ∷ more)) (filter u held)
  filter_first first more [] are deeper = absurd are
  filter_first first more (one ∷ others) are deeper = at (cases_Bool (u one))
    where
      at : (u one ≡ true) ⊎ (u one ≡ false) → AreHeld ids_ (filter t (first ∷ more)) (filter u (one ∷ others))
      at (inl passes) = rw (alike first one are.0, passes) (are.0, deeper others are.1)
      at (inr fails) = rw (alike first one are.0, fails) (deeper others are.1)

  pub filter_held : (placed : List Placed) (held : List Held) → AreHeld ids_ (still placed) held → AreHeld ids_ (filter t placed) (filter u held)
  filter_held [] [] are = tt
  filter_held [] (one ∷ others) are = absurd are
  filter_held (first ∷ more) held are = at (cases_Bool (is_done first.place)) (λ rest. filter_held more rest)
    where
      at : (is_done first.place ≡ true) ⊎ (is_done first.place ≡ false) → ((rest : List Held) → AreHeld ids_ (still more) rest → AreHeld ids_ (filter t more) (filter u rest)) → AreHeld ids_ (filter t (first ∷ more)) (filter u held)
      at (inl done) deeper = rw (none first done) (deeper held (rw done at are))
      at (inr stays) deeper = filter_first first more held (rw stays at are) deeper

pub held_seqs : (ids_ : List StreamId) (placed : List Placed) (held : List Held) → AreHeld ids_ placed held → map (λ (entry : Entry). entry.seq) (map entry_of placed) ≡ map (λ (line : SeqLine). line.seq) (map queue.line_of held)
held_seqs ids_ [] [] are = refl
held_seqs ids_ [] (one ∷ others) are = absurd are
held_seqs ids_ (first ∷ more) [] are = absurd are
held_seqs ids_ (first ∷ more) (one ∷ others) are = rw (are.0.seq, held_seqs ids_ more others are.1) refl

-- what holds of each record in the machine, of each that is held
pub all_held : (ids_ : List StreamId) (P : Placed → Type 0) (Q : Held → Type 0) (placed : List Placed) (held : List Held) → ((one : Placed) (other : Held) → IsHeld ids_ one other → P one → Q other) → AllByRecursion P placed → AreHeld ids_ (still placed) held → AllByRecursion Q held
all_held ids_ P Q [] [] step each are = tt
all_held ids_ P Q [] (one ∷ others) step each are = absurd are
all_held ids_ P Q (first ∷ more) held step each are = at (cases_Bool (is_done first.place)) (λ rest. all_held ids_ P Q more rest step each.1)
  where
    on : (rest : List Held) → AreHeld ids_ (first ∷ still more) rest → ((rest : List Held) → AreHeld ids_ (still more) rest → AllByRecursion Q rest) → AllByRecursion Q rest
    on [] are deeper = absurd are
    on (one ∷ others) are deeper = (step first one are.0 each.0, deeper others are.1)

    at : (is_done first.place ≡ true) ⊎ (is_done first.place ≡ false) → ((rest : List Held) → AreHeld ids_ (still more) rest → AllByRecursion Q rest) → AllByRecursion Q held
    at (inl done) deeper = deeper held (rw done at are)
    at (inr stays) deeper = on held (rw stays at are) deeper

-- Rows

pub all_own : (id : StreamId) (batch : ℕ) (placed : List Placed) → AllByRecursion (λ (one : Placed). one.entry.content.id ≡ id) (filter (is_in_batch id batch) placed)
all_own id batch [] = tt
all_own id batch (first ∷ more) = at (cases_Bool (is_in_batch id batch first)) (all_own id batch more)
  where
    at : (is_in_batch id batch first ≡ true) ⊎ (is_in_batch id batch first ≡ false) → AllByRecursion (λ (one : Placed). one.entry.content.id ≡ id) (filter (is_in_batch id batch) more) → AllByRecursion (λ (one : Placed). one.entry.content.id ≡ id) (filter (is_in_batch id batch) (first ∷ more))
    at (inl within) rest = rw within (sym (id_is id first.entry.content.id (and_parts (is_out batch first.place) (is_of id first) within).1), rest)
    at (inr other) rest = rw other rest

-- a plan for rows is that of the load, of a stream of the catalog
pub record IsOwnPlan (catalog : List ConfStream) (opening : Opening) (number : ℕ) (stream : ConfStream) (opened : StreamPlan) : Type 0 where
  pub configured : slice_get catalog number ≡ Some stream
  pub planned : slice_get opening.plan number ≡ Some opened
  pub same : opened.id ≡ stream.id

pub plans_alike : (catalog : List ConfStream) (plans : List StreamPlan) (number : ℕ) (stream : ConfStream) (opened : StreamPlan) → PlansFit catalog plans → slice_get catalog number ≡ Some stream → slice_get plans number ≡ Some opened → opened.id ≡ stream.id
plans_alike [] [] number stream opened fit first second = cc
plans_alike [] (plan ∷ plans) number stream opened fit first second = absurd fit
plans_alike (one ∷ streams) [] number stream opened fit first second = absurd fit
plans_alike (one ∷ streams) (plan ∷ plans) zero stream opened fit first second = ap (λ (it : StreamPlan). it.id) (sym (some_is plan opened second)) ∙ (fit.0.id ∙ ap (λ (it : ConfStream). it.id) (some_is one stream first))
plans_alike (one ∷ streams) (plan ∷ plans) (suc number) stream opened fit first second = plans_alike streams plans number stream opened fit.1 first second

module _ (ids_ : List StreamId) (catalog : List ConfStream) (opening : Opening) (number : ℕ) (stream : ConfStream) (opened : StreamPlan) (own : IsOwnPlan catalog opening number stream opened) (plan : PrepPlan) (columns_are : AreColumns stream.schema plan.columns) (plan_is : plan ≡ record { stream = number; load = opening.load; moment = opening.moment; generation = opened.generation; columns = plan.columns; key = stream.key; cursor = stream.cursor }) where
  row_of : (entry : Entry) (content : RecordMsg) (row : RawRow) → entry.content ≡ content → entry.content.id ≡ stream.id → IsRow (items.row_parts plan entry.seq content) row → IsRowOf catalog opening number entry row
  row_of entry content row same of is = record {
    stream = stream;
    configured = own.configured;
    own = of;
    plan = opened;
    planned = own.planned;
    same = own.same;
    columns = plan.columns;
    columns_are = columns_are;
    is = subst (λ (it : PrepPlan). IsRow (items.row_parts it entry.seq entry.content) row) plan_is (subst (λ (it : RecordMsg). IsRow (items.row_parts plan entry.seq it) row) (sym same) is);
  }

  pub rows_of : (placed : List Placed) (held : List Held) (rows : List RawRow) → AllByRecursion (λ (one : Placed). one.entry.content.id ≡ stream.id) placed → AreHeld ids_ placed held → AreRows plan (map queue.line_of held) rows → AreRowsOf catalog opening number (map entry_of placed) rows
  rows_of [] [] rows each are made = subst (AreRowsOf catalog opening number []) (sym made) tt
  rows_of [] (one ∷ others) rows each are made = absurd are
  rows_of (first ∷ more) [] rows each are made = absurd are
  rows_of (first ∷ more) (one ∷ others) rows each are made = at made.2 (rows_of more others made.0 each.1 are.1 made.1)
    where
      content_is : (content : RecordMsg) → items.IsRecordLine one.line content → first.entry.content ≡ content
      content_is content is = rec_is first.entry.content content ((message_only one.line (message.Rec content) is).only (message.Rec first.entry.content) are.0.line)
        where
          rec_is : (a b : RecordMsg) → message.Rec a ≡ message.Rec b → a ≡ b
          rec_is a b e = cc

      at : AddsRow plan (queue.line_of one) made.0 rows → AreRowsOf catalog opening number (map entry_of more) made.0 → AreRowsOf catalog opening number (first.entry ∷ map entry_of more) rows
      at (inl adds) rest = subst (AreRowsOf catalog opening number (first.entry ∷ map entry_of more)) (sym adds.2.2) (row_of first.entry adds.0 adds.2.0 (content_is adds.0 adds.1) each.0 (subst (λ n. IsRow (items.row_parts plan n adds.0) adds.2.0) are.0.seq adds.2.1), rest)
      at (inr lacks) rest = absurd (lacks.0 first.entry.content are.0.line)

pub have_is : (catalog : List ConfStream) (opening : Opening) (number : ℕ) (list : List Entry) (rows : List RawRow) → AreRowsOf catalog opening number list rows → have_sequences rows list ≡ true
have_is catalog opening number [] [] are = refl
have_is catalog opening number [] (row ∷ rows) are = absurd are
have_is catalog opening number (entry ∷ more) [] are = absurd are
have_is catalog opening number (entry ∷ more) (row ∷ rows) are = rw (eq-eqb row.seq entry.seq are.0.is.numbers.seq, have_is catalog opening number more rows are.1) refl

-- What is left of a lane's lines behind its start.
use Rattle.std.proofs.Common.{◌≡◌, ℕ, ◌+◌, List, [], ◌∷◌, Option, None, Some, Bool, true, false, cond, not, ◌||◌, ◌&&◌, refl, sym, ◌∙◌, ap, nat_lt}
use Rattle.std.specs.Prelude.{is_some}
use Rattle.airbyte_message.specs.Lanes.{Lane}
use Rattle.airbyte_message.specs.declared.message.Message.{Message}
use Rattle.airbyte_message.specs.declared.message.Message.TheVariants as message
use Rattle.load_rules.specs.Lines.{Line, record_in, state_in}
use Rattle.local_world.specs.Starts.{Start}
use Rattle.local_world.specs.Left.{is_left_out, is_of, left_from}
use Rattle.local_world.specs.Replay.{is_kept_line, others_in}
use Rattle.local_world.specs.Laws.{OthersStay}
use Rattle.local_world.proofs.StartedLemmas.{by_bool, true_false}

-- ---- lines that are neither records nor states

of_kept : (lane : Lane) (found : Option Message) → is_of lane found ≡ true → (is_some (record_in found) || is_some (state_in found)) ≡ true
of_kept lane None is = true_false (sym is)
of_kept lane (Some (message.Rec content)) is = refl
of_kept lane (Some (message.State state)) is = refl
of_kept lane (Some (message.Log content)) is = true_false (sym is)
of_kept lane (Some (message.Spec content)) is = true_false (sym is)
of_kept lane (Some (message.Connection content)) is = true_false (sym is)
of_kept lane (Some (message.Catalog content)) is = true_false (sym is)
of_kept lane (Some (message.Trace content)) is = true_false (sym is)
of_kept lane (Some (message.Control content)) is = true_false (sym is)

and_true : (a b : Bool) → (a && b) ≡ true → b ≡ true
and_true true b e = e
and_true false b e = true_false (sym e)

out_kept : (starts : List Start) (number : ℕ) (line : Line) → is_left_out starts number line ≡ true → is_kept_line line ≡ true
out_kept [] number line out = true_false (sym out)
out_kept (start ∷ starts) number line out = by_bool (nat_lt number start.behind && is_of start.lane line.found)
    (λ here. of_kept start.lane line.found (and_true (nat_lt number start.behind) (is_of start.lane line.found) here))
    (λ other. out_kept starts number line (sym (ap (λ (b : Bool). b || is_left_out starts number line) other) ∙ out))

others_from : (starts : List Start) (number : ℕ) (lines : List Line) → others_in (left_from starts number lines) ≡ others_in lines
others_from starts number [] = refl
others_from starts number (line ∷ lines) = by_bool (is_left_out starts number line)
    (λ out.
    let kept = out_kept starts number line out in
    ap (λ (b : Bool). others_in (cond b (left_from starts (number + 1) lines) (line ∷ left_from starts (number + 1) lines))) out
    ∙ (others_from starts (number + 1) lines ∙ sym (ap (λ (b : Bool). cond (not b) (line ∷ others_in lines) (others_in lines)) kept)))
    (λ stays.
    ap (λ (b : Bool). others_in (cond b (left_from starts (number + 1) lines) (line ∷ left_from starts (number + 1) lines))) stays
    ∙ ap (λ (ls : List Line). cond (not (is_kept_line line)) (line ∷ ls) ls) (others_from starts (number + 1) lines))

pub others_stay : OthersStay
others_stay lines starts = others_from starts 0 lines

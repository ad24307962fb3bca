use Rattle.std.proofs.Common.{ℕ, List, [], Bool, false, Option, None, replicate, ◌∙◌, ap, subst}
use Rattle.airbyte_message.specs.declared.stream_status.StreamStatus.{StreamStatus}
use Rattle.state_gate.specs.Content.{nothing_for}
use Rattle.state_gate.specs.Views.{GateView, Stands}
use Rattle.book_queue.specs.Content.{QueueView}
use Rattle.book_parts.proofs.Planning.{part_whole}
use Rattle.book_parts.proofs.start.room_for.Goals as goal

pub returns-clause-room : goal.returns-clause-room
returns-clause-room c =
    let many = c.len-streams.ensures.len in
    let limits = c.args.limits in
    record {
      catalog_is = c.in_ok-part.ensures ∙ part_whole c.args.configured.now;
      columns_are = c.in_ok-columns_in.ensures;
      gate_is = c.in_ok-new.ensures.view ∙ ap (λ (n : ℕ). let gate : GateView = record { kept = c.in_ok-new.field-0.kept; streams = n; next = 0; states = 0; record_room = 0; state_room = 0 } in gate) many;
      content = subst (λ (n : ℕ). Stands (nothing_for n) c.in_ok-new.field-0) many c.in_ok-new.ensures.content;
      queue_is = c.in_ok-new-2.ensures ∙ ap (λ (n : ℕ). let queue : QueueView = record { held = []; parked = None; streams = n; slots = limits.slots; bytes = limits.bytes; batch = limits.batch; next = 0; next_batch = 0 } in queue) many;
      statuses_are = c.in_ok-no_statuses.ensures ∙ ap (λ (n : ℕ). let statuses : List (Option StreamStatus) = replicate n None in statuses) many;
      shown_are = c.in_ok-none_shown.ensures ∙ ap (λ (n : ℕ). let shown : List Bool = replicate n false in shown) many;
    }

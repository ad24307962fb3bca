use Rattle.std.proofs.Common.{refl, sym, ◌∙◌}
use Rattle.book_parts.proofs.Releasing.{head_kind, stays}
use Rattle.book_parts.proofs.release.release_next.Goals as goal

pub returns-in_default : goal.returns-in_default
returns-in_default g c = record {
  gate = c.take_head.ensures.view;
  content = λ content stands. stays c.args.gate.now c.take_head.new.self content (λ one known. sym c.in_default.is ∙ c.take_head.ensures.head one known) c.take_head.ensures.content stands;
  seen = refl;
  emitted = refl;
  quiet = λ content stands. sym (c.take_head.ensures.head content stands) ∙ c.in_default.is;
}

pub emit_echo-requires : goal.emit_echo-requires
emit_echo-requires g c = head_kind _ _ c.in-Some.pending c.requires c.in-Some.ensures.head

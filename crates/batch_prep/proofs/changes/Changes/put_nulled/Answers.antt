use Rattle.std.proofs.Common.{refl, false, ◌++◌}
use Rattle.batch_prep.proofs.WrittenLemmas.{change_written, mark, open_more}
use Rattle.column_types.specs.Rows.{change_text}
use Rattle.batch_prep.proofs.changes.Changes.put_nulled.Goals as goal

pub returns : goal.returns
returns c = λ items name label opened.
    open_more items (change_text name) c.args.self.now record { text = c.push.new.self; is_first = false } opened
    (change_written (c.args.self.now.text ++ mark c.args.self.now.is_first) c.put_comma.new.text c.put_member.new.text c.put_member-2.new.text c.put_member-3.new.text c.push.new.self name c.args.label.now label
    c.in_ok-put_comma.ensures.ok c.in_ok-put_member.ensures.ok c.in_ok-put_member-2.ensures.ok c.in_ok-put_member-3.ensures.ok c.in_ok-push.ensures.ok) refl

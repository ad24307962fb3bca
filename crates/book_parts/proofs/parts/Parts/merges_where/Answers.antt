use Rattle.std.proofs.Common.{length, true, ◌∙◌, ap}
use Rattle.book_rules.specs.Views.{BookView}
use Rattle.book_rules.proofs.Finishing.{where_stays}
use Rattle.book_parts.proofs.parts.Parts.merges_where.Goals as goal

pub returns-then-dedup-clause-many : goal.returns-then-dedup-clause-many
returns-then-dedup-clause-many g c = (where_stays true c.merge_all.result c.args.stream _ _ _ c.merge_all.ensures).many ∙ ap (λ (book : BookView). length book.seen.face.side_marks) c.self.view_is

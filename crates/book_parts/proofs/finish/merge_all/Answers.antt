use Rattle.std.proofs.Common.{◌<◌, sym, subst}
use Rattle.outside.specs.Dock.{DockSeen}
use Rattle.book_rules.proofs.Finishing.{one_stays}
use Rattle.book_parts.proofs.Ending.{next_merged, one_more_page}
use Rattle.book_parts.proofs.finish.merge_all.Goals as goal

pub pages-preserved : goal.pages-preserved
pages-preserved g c =
    let before : DockSeen = g.D.Dock.seen c.pages.dock in
    let after : DockSeen = g.D.Dock.seen c.merge_next.new.dock in
    let one = next_merged _ c.args.stream c.args.page before after c.in_ok-merge_next.ensures.merges c.if-branch.true in
    record {
      known = subst (λ n. c.args.stream < n) (sym (one_stays _ c.args.stream c.args.page before after one).many) c.pages.invariant.known;
      so_far = one_more_page c.args.stream c.args.page _ before after c.pages.invariant.so_far one;
    }

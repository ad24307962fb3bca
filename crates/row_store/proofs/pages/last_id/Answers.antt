use Rattle.std.proofs.Common.{sym, ◌∙◌, ap}
use Rattle.std.specs.Option.{option_copied}
use Rattle.row_store.proofs.PageLemmas.{last_is}
use Rattle.row_store.proofs.pages.last_id.Goals as goal

pub returns-in-Some : goal.returns-in-Some
returns-in-Some c = last_is c.args.rows.now c.args.before c.in-Some.row.now (sym c.last.ensures.value ∙ ap option_copied c.in-Some.is)

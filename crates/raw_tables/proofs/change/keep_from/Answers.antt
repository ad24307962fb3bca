use Rattle.std.proofs.Common.{rules, ap, ◌∙◌, filter}
use Rattle.std.proofs.lemmas.Fn.{filter_same}
use Rattle.outside.specs.Tables.{is_from}
use Rattle.raw_tables.proofs.change.keep_from.Goals as goal

pub returns : goal.returns
returns c = c.from_vec.ensures ∙ filter_same _ (is_from c.args.floor) _ (λ x b f' k. search rules) _ _ c.retain.ensures.filtered ∙ ap (filter (is_from c.args.floor)) c.into_vec-kept.ensures

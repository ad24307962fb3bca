use Rattle.std.proofs.Common.{◌∙◌, codes}
use Rattle.std.specs.Option.{option_copied}
use Rattle.json.specs.Print.{quoted}
use Rattle.worker_run.specs.Store.{held_text, store_back}
use Rattle.worker_run.proofs.Joins.{five_parts}
use Rattle.worker_run.proofs.store.store_text.Goals as goal

pub returns : goal.returns
returns c =
    c.from_vec.ensures ∙ five_parts (codes "{\"version\":1,\"streams\":[{\"name\":") c.as_slice.result.now (quoted c.args.stream.now) (codes ",\"generation\":0,\"state\":") c.held_or_null.result.now (held_text (option_copied c.args.held)) store_back
    c.new-text.result.items c.extend_from_slice.new.self.items c.extend_from_slice-2.new.self.items c.extend_from_slice-3.new.self.items c.extend_from_slice-4.new.self.items c.extend_from_slice-5.new.self.items
    c.new-text.ensures.items c.in_ok-extend_from_slice.ensures.items c.in_ok-extend_from_slice-2.ensures.items c.in_ok-extend_from_slice-3.ensures.items c.in_ok-extend_from_slice-4.ensures.items c.in_ok-extend_from_slice-5.ensures.items
    (c.as_slice.ensures ∙ c.in_ok-name.ensures.written) c.held_or_null.ensures

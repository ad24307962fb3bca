use Rattle.json_scalar.proofs.Plain.{no_name_at}
use Rattle.json_fields.proofs.lookup.may_be.Goals as goal

pub returns-else-byte-first : goal.returns-else-byte-first
returns-else-byte-first c = no_name_at c.args.key.now c.args.name.now c.in-len2-up.len_at_least c.in-len1-up.len_at_least c.if-byte-first.false

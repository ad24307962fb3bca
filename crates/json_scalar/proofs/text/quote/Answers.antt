use Rattle.json_scalar.proofs.Decoded.{quoted_string}
use Rattle.json_scalar.proofs.text.quote.Goals as goal

pub returns-clause-reads_back : goal.returns-clause-reads_back
returns-clause-reads_back c =
    let written = c.in_ok-to_vec.ensures {u = tt} in
    rw c.from_vec.ensures (quoted_string c.in_ok-from_str.field-0 c.args.text.now c.in_ok-to_vec.field-0.items (c.in_ok-from_str.ensures {u = tt}).ok written.utf8 written.text written.reads_back)

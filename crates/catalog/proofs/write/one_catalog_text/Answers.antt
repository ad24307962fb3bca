use Rattle.catalog.proofs.WriteLemmas.{one_text}
use Rattle.catalog.proofs.write.one_catalog_text.Goals as goal

pub returns : goal.returns
returns c = one_text

use Rattle.table_config.proofs.TableLemmas as tables
use Rattle.table_config.proofs.laws.firsts_count.Goals as goal

pub returns : goal.returns
returns c = tables.firsts_count

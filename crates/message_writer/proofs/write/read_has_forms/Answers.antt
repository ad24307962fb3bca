use Rattle.message_writer.proofs.FormLemmas as lemmas
use Rattle.message_writer.proofs.write.read_has_forms.Goals as goal

pub returns : goal.returns
returns c = lemmas.read_has_forms

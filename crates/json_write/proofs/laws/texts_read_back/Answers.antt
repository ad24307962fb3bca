use Rattle.json_write.proofs.Meanings.{meaning_utf8}
use Rattle.json_write.proofs.Strings.{quoted_string, quoted_only}
use Rattle.json_write.proofs.Values.{text_within}
use Rattle.json_write.proofs.laws.texts_read_back.Goals as goal

pub returns : goal.returns
returns c = record {
  string = λ text u. quoted_string text u;
  only = λ text meaning u s. quoted_only text meaning u s;
  flat = λ text u. text_within 0 text u;
  utf8 = λ string meaning s. meaning_utf8 string meaning s;
}

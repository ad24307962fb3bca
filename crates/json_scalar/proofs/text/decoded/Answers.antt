use Rattle.std.proofs.Common.{sym, ◌∙◌, subst}
use Rattle.std.proofs.lemmas.Bool.{true≢false}
use Rattle.json_scalar.specs.Text.{IsString}
use Rattle.json_scalar.proofs.Contents.{one_meaning}
use Rattle.json_scalar.proofs.Decoded.{string_value, other_value, no_value}
use Rattle.json_scalar.proofs.text.decoded.Goals as goal

pub returns-in-Err-2-clause-none : goal.returns-in-Err-2-clause-none
returns-in-Err-2-clause-none c =
    no_value c.args.string.now ((c.in-Err.ensures {u = tt}).err (λ memory. true≢false (sym (c.is_memory.ensures.1 memory) ∙ c.if-is_memory.false)))

pub returns-in-String-clause-string : goal.returns-in-String-clause-string
returns-in-String-clause-string c =
    subst (IsString c.args.string.now) (sym c.from_string.ensures)
    (string_value c.args.string.now c.in-Ok.value c.in-String.meaning c.utf8.string c.requires (c.in-Ok.ensures {u = tt}).ok c.in-String.is)

pub returns-in-String-clause-only : goal.returns-in-String-clause-only
returns-in-String-clause-only c = λ meaning s.
    one_meaning c.args.string.now meaning _ s (string_value c.args.string.now c.in-Ok.value c.in-String.meaning c.utf8.string c.requires (c.in-Ok.ensures {u = tt}).ok c.in-String.is)
    ∙ sym c.from_string.ensures

pub returns : goal.returns
returns c = record { string = tt; only = tt; none = other_value c.args.string.now c.in-Ok.value c.in_default.not-String (c.in-Ok.ensures {u = tt}).ok }

use Rattle.std.proofs.Common.{List, ℕ, sym, subst, ap, ◌∙◌}
use Rattle.airbyte_message.specs.Messages.{IsMessage}
use Rattle.airbyte_message.specs.Words.{payload_text, type_text}
use Rattle.airbyte_message.proofs.OneMessage.{message_only}
use Rattle.message_writer.specs.Written.{payload_of, type_of}
use Rattle.message_writer.proofs.Payloads.{written_is}
use Rattle.message_writer.proofs.Texts.{line_closes}
use Rattle.message_writer.proofs.write.write_message.Goals as goal

pub returns-clause-written : goal.returns-clause-written
returns-clause-written c =
    let content = c.args.message.now in
    let kind = c.kind_of-kind.ensures in
    line_closes c.in_ok-line.line c.put_string_member.new.text c.put_key.new.text c.put_payload.new.line c.push.new.self
    c.text.result.now c.payload.result.now (payload_text (type_of content)) (type_text (type_of content)) (payload_of content)
    c.in_ok-line.ensures c.in_ok-put_string_member.ensures.ok c.in_ok-put_key.ensures.ok c.in_ok-put_payload.ensures c.in_ok-push.ensures.ok (c.text.ensures ∙ ap type_text kind) (c.payload.ensures.text ∙ ap payload_text kind)

pub returns-clause-reads_back : goal.returns-clause-reads_back
returns-clause-reads_back c =
    let content = c.args.message.now in
    λ forms. subst (λ (line : List ℕ). IsMessage line content) (sym (returns-clause-written c)) (written_is content forms)

pub returns-clause-only : goal.returns-clause-only
returns-clause-only c =
    let content = c.args.message.now in
    λ forms other is. (message_only c.push.new.self content (subst (λ (line : List ℕ). IsMessage line content) (sym (returns-clause-written c)) (written_is content forms))).only other is

use Rattle.std.proofs.Common.{codes, List, ℕ, sym, ◌∙◌, ◌<◌, ◌≤◌, length, subst}
use Rattle.basics.specs.declared.limits.TheConstants.{LONGEST_NAME}
use Rattle.json_fields.specs.Fields.{HasText, HasOptionalText}
use Rattle.json_fields.proofs.AnswerLemmas.{along, true_false}
use Rattle.catalog.proofs.EntryLemmas.{has_id, no_name, no_namespace, long_name, long_namespace}
use Rattle.catalog.proofs.members.stream_id_of.Goals as goal

pub returns-in_default : goal.returns-in_default
returns-in_default c = no_name c.args.stream.now (along (HasText c.args.stream.now (codes "name")) c.in_default.is c.in_ok-name.ensures)

pub returns-in_default-2 : goal.returns-in_default-2
returns-in_default-2 c = no_namespace c.args.stream.now (along (HasOptionalText c.args.stream.now (codes "namespace")) c.in_default-2.is c.in_ok-namespace.ensures)

pub returns-then-as_str-gt-LONGEST_NAME : goal.returns-then-as_str-gt-LONGEST_NAME
returns-then-as_str-gt-LONGEST_NAME c =
    let long : LONGEST_NAME < length c.in-Some.name = subst (λ (n : List ℕ). LONGEST_NAME < length n) c.as_str.ensures c.if-as_str-gt-LONGEST_NAME.true in
    long_name c.args.stream.now c.in-Some.name (along (HasText c.args.stream.now (codes "name")) c.in-Some.is c.in_ok-name.ensures) long

pub returns-then-not-is_short : goal.returns-then-not-is_short
returns-then-not-is_short c =
    long_namespace c.args.stream.now c.in-Some-2.namespace (along (HasOptionalText c.args.stream.now (codes "namespace")) c.in-Some-2.is c.in_ok-namespace.ensures) (λ short. true_false (sym (c.is_short.ensures.1 short) ∙ c.if-not-is_short.true))

pub returns : goal.returns
returns c =
    let short : length c.in-Some.name ≤ LONGEST_NAME = subst (λ (n : List ℕ). length n ≤ LONGEST_NAME) c.as_str.ensures c.if-as_str-gt-LONGEST_NAME.false in
    let also = c.is_short.ensures.0 c.if-not-is_short.false in
    has_id c.args.stream.now c.in-Some.name c.in-Some-2.namespace (along (HasText c.args.stream.now (codes "name")) c.in-Some.is c.in_ok-name.ensures) (along (HasOptionalText c.args.stream.now (codes "namespace")) c.in-Some-2.is c.in_ok-namespace.ensures) short also

use Rattle.std.proofs.Common.{◌≡◌, List, ℕ, Option, sym, ◌∙◌, ap, length, slice_set}
use Rattle.airbyte_message.specs.declared.message.StateKind.{StateKind}
use Rattle.source_lines.specs.Begins.{told_blobs}
use Rattle.source_lines.proofs.BeginLemmas.{place_within, told_absent, told_none, told_set}
use Rattle.source_lines.proofs.begin.put_blob.Goals as goal

pub returns-in_default : goal.returns-in_default
returns-in_default c = told_none c.args.kind.now c.args.streams.now c.args.blobs.now c.requires c.in_default.not-Stream

pub set-requires : goal.set-requires
set-requires c = place_within c.args.streams.now c.in-Some.number c.in-Stream.id (length c.args.blobs.now) c.requires c.in-Some.ensures.is

pub returns-in_ok-copy : goal.returns-in_ok-copy
returns-in_ok-copy c =
    let at = c.in-Some.ensures in
    let copied : c.in_ok-copy.field-0 ≡ c.in-Stream.blob = c.in_ok-copy.ensures.copied in
    c.set.ensures
    ∙ ap (λ (held : Option (List ℕ)). slice_set c.args.blobs.now c.in-Some.number held) copied
    ∙ told_set c.in-Stream.id c.in-Stream.blob c.args.streams.now c.args.blobs.now c.in-Some.number c.requires at.is (λ place is. at.only place is)
    ∙ ap (λ (held : StateKind). told_blobs held c.args.streams.now c.args.blobs.now) (sym c.in-Stream.is)

pub returns-in_default-find : goal.returns-in_default-find
returns-in_default-find c =
    told_absent c.in-Stream.id c.in-Stream.blob c.args.streams.now c.args.blobs.now c.in_default-find.ensures
    ∙ ap (λ (held : StateKind). told_blobs held c.args.streams.now c.args.blobs.now) (sym c.in-Stream.is)

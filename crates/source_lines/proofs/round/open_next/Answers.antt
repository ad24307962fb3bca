use Rattle.std.proofs.Common.{inl, ◌≡◌, ◌+◌, ℕ, List, refl, ap, subst}
use Rattle.outside.specs.declared.status.Status.TheVariants as status
use Rattle.source_lines.specs.Sources.{Listed}
use Rattle.source_lines.specs.Giving.{Round}
use Rattle.source_lines.specs.Rounds.{OpensNext, OpensNotNext}
use Rattle.source_lines.proofs.round.open_next.Goals as goal

pub returns-in-Ok-clause-opened : goal.returns-in-Ok-clause-opened
returns-in-Ok-clause-opened g c = λ met.
    let opens = g.S.StreamSource.Opens c.args.source.now in
    let opened = c.in_ok-opened.opened in
    let listed : Listed = record { every = opened.every; blob = opened.blob; rows = g.S.Rows.ListedRows.rows opened.rows } in
    let held : Round g.row.S-Start.Denot = record { lines = c.args.round.now.lines; next = c.round.inside.next; streams = c.round.inside.streams; starts = c.round.inside.starts } in
    let same : held ≡ c.args.round.now = ap (λ (r : Round g.row.S-Start.Denot). record r { lines = c.args.round.now.lines }) c.round.view_is in
    subst (λ (r : Round g.row.S-Start.Denot). OpensNext opens c.args.moment r (record { lines = c.in-Ok.current; next = c.round.inside.next + 1; streams = c.round.inside.streams; starts = c.round.inside.starts })) same
    (record {
      stream = c.stream-stream.result.now;
      start = c.at.result.now;
      listed = listed;
      at = c.stream-stream.ensures.stream;
      from = c.at.ensures;
      opens = c.in_ok-opened.ensures.opened;
      is = ap (λ (lines : List (List ℕ)). record held { lines = lines; next = c.round.inside.next + 1 }) c.in-Ok.ensures;
    })

pub returns-in-Err-clause-refused : goal.returns-in-Err-clause-refused
returns-in-Err-clause-refused g c =
    let opens = g.S.StreamSource.Opens c.args.source.now in (
      refl,
      subst (λ (r : Round g.row.S-Start.Denot). OpensNotNext opens r status.NoMemory) c.round.view_is (record {
        stream = c.stream-stream.result.now;
        start = c.at.result.now;
        at = c.stream-stream.ensures.stream;
        from = c.at.ensures;
        refused = (λ same. not_ok same, inl refl);
      }),
    )
  where
    not_ok : ¬ (status.NoMemory ≡ status.Ok)
    not_ok same = cc

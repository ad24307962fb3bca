use Rattle.std.proofs.Common.{arith}
use Rattle.std.proofs.lemmas.Simd.{zip2_splat}
use Rattle.json_span.specs.Plain.{is_stop}
use Rattle.json_span.proofs.Lanes.{hit, below, either, masked}
use Rattle.json_span.proofs.skip.stops.Goals as goal

pub returns : goal.returns
returns c =
    let lanes = c.args.lanes in
    let size = c.fits-lanes.0 in
    masked _ is_stop lanes _ (omega arith) c.fits-lanes.1 (either _ _ lanes (either _ _ lanes (zip2_splat hit lanes 16 34 size) (zip2_splat hit lanes 16 92 size)) (zip2_splat below lanes 16 32 size)) tt

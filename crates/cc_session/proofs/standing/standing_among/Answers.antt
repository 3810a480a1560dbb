use Rattle.std.proofs.Common.{[], length, map, refl, ap}
use Rattle.std.specs.Option.{unwrap_or}
use Rattle.std.proofs.lemmas.Option.{slice_get_read}
use Rattle.cc_verdicts.specs.Readings.{imports_of}
use Rattle.cc_verdicts.specs.StandingDefinitions.{standing_or}
use Rattle.cc_module.specs.Findings.{finding_of}
use Rattle.cc_session.proofs.standing.standing_among.Goals as goal

pub returns-in-Ok : goal.returns-in-Ok
returns-in-Ok c =
    let defs = c.args.defs.now in
    let one = c.index-defs-place.result in
    let here = slice_get_read defs (length defs) c.in-Some.place one refl c.in-Some.ensures.0 c.index-defs-place.is in (
      _,
      ap (standing_or (unwrap_or (imports_of c.args.grounds.now.text) []) (map finding_of c.args.grounds.now.findings))
          (c.in-Some.ensures.1 one here),
      c.in-Ok.ensures,
    )

pub returns-in-Err : goal.returns-in-Err
returns-in-Err c =
    let defs = c.args.defs.now in
    let one = c.index-defs-place.result in
    let here = slice_get_read defs (length defs) c.in-Some.place one refl c.in-Some.ensures.0 c.index-defs-place.is in (
      _,
      ap (standing_or (unwrap_or (imports_of c.args.grounds.now.text) []) (map finding_of c.args.grounds.now.findings))
          (c.in-Some.ensures.1 one here),
    )

use Rattle.std.proofs.Common.{codes, arith, ap, ◌++◌, ◌∙◌}
use Rattle.std.specs.Option.{unwrap_or}
use Rattle.std.specs.String.{string_bytes}
use Rattle.cc_labels.proofs.LabelTexts.{local_told, on_ok}
use Rattle.cc_labels.proofs.labels.put_local.Goals as goal

pub returns : goal.returns
returns c =
    let old = string_bytes c.args.out.now in
    let named = string_bytes c.put_name.new.out in
    on_ok c.put.result _ _
    (λ both. local_told (unwrap_or c.args.name.now (codes "_")) c.args.line c.args.col (omega (arith, c.ranges.line.fits)) (omega (arith, c.ranges.col.fits))
    old named (string_bytes c.in_ok-place.place) (string_bytes c.put.new.out) c.in_ok-put_name.ensures c.in_ok-place.ensures.ok
    (both ∙ ap (λ t. named ++ t) c.as_str.ensures.value))
    c.put.ensures

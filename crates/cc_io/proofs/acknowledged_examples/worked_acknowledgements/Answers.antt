use Rattle.std.proofs.Common.{[], ◌++◌, length, length-append, ap, refl, arith}
use Rattle.std.specs.Prelude.{codes}
use Rattle.cc_io.proofs.acknowledged_examples.worked_acknowledgements.Goals as goal

pub returns : goal.returns
returns c = record {
  nothing = (refl, λ is. absurd (omega (arith, ap length is)), λ is. absurd (omega (arith, ap length is)));
  some = (
    (codes "one", codes "one", codes "tw", codes "end", refl, refl, refl),
    (codes "oneend", codes "oneend", [], [], refl, refl, refl),
    (
      codes "onetwend",
      codes "oneend",
      codes "no",
      [],
      refl,
      refl,
      (codes "one", codes "one", codes "tw", codes "end", refl, refl, refl),
    ),
  );
  lacks = λ is. absurd (omega (
    arith,
    ap length is.4,
    ap length is.5,
    ap length is.6,
    length-append is.0 is.2,
    length-append (is.0 ++ is.2) is.3,
    length-append is.1 is.3,
  ));
}

use Rattle.cc_base.specs.NameTexts.{bytes_eq-encodes}
use Rattle.cc_base.proofs.name.NamePartialEq.eq.Goals as goal

pub returns : goal.returns
returns c = let same = bytes_eq-encodes c.args.self.now c.args.other.now in cc

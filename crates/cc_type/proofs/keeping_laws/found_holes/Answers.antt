use Rattle.cc_type.proofs.CheckedHoles.{inference_adds_no_hole, checking_adds_no_hole}
use Rattle.cc_type.proofs.keeping_laws.found_holes.Goals as goal

pub returns : goal.returns
returns c = record { inference = inference_adds_no_hole; checking = checking_adds_no_hole }

use Rattle.cc_capture.specs.Sets.{same_list}
use Rattle.cc_capture.proofs.Membership.{same_members, Member-list}
use Rattle.cc_capture.proofs.set_laws.equality_of_sets.Goals as goal

pub returns : goal.returns
returns c =
    record {
      lists = same_list;
      members = same_members;
      listed = Member-list;
    }

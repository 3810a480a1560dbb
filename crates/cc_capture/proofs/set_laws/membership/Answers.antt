use Rattle.cc_capture.proofs.Membership.{Member-empty, Member-insert, Member-remove, Member-union, Member-from_list}
use Rattle.cc_capture.proofs.Membership.{Member-retain, Member-image, Member-flat_image}
use Rattle.cc_capture.proofs.set_laws.membership.Goals as goal

pub returns : goal.returns
returns c =
    record {
      empty = Member-empty;
      insert = Member-insert;
      remove = Member-remove;
      union = Member-union;
      from_list = Member-from_list;
      retain = Member-retain;
      image = Member-image;
      flat_image = Member-flat_image;
    }

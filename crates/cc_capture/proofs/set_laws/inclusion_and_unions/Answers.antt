use Rattle.cc_capture.proofs.Membership.{is_subset-Member}
use Rattle.cc_capture.proofs.Unions.{union_associative, union_commutative, union_idempotent, empty-union, union-empty}
use Rattle.cc_capture.proofs.set_laws.inclusion_and_unions.Goals as goal

pub returns : goal.returns
returns c =
    record {
      inclusion = is_subset-Member;
      associative = union_associative;
      commutative = union_commutative;
      idempotent = union_idempotent;
      empty = λ a. (empty-union a, union-empty a);
    }

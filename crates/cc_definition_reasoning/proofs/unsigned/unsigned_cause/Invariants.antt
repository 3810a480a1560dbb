use Rattle.std.proofs.Common.{◌≡◌, ◌<◌, ◌≤◌, ◌-◌, length, Some, None}
use Rattle.cc_core.specs.TermViews.{type_of, context_of}
use Rattle.cc_checking.specs.Verdicts.{signature_of}
use Rattle.cc_definition_reasoning.proofs.unsigned.unsigned_cause.Given as goal

-- over the fewer positions there is no signature, and over the more the one that was found
abbrev pub invariant-loop-serves : goal.invariant-loop-serves
invariant-loop-serves l =
    record {
      none : signature_of l.fails (context_of l.ctx) (type_of l.ty) ≡ None;
      some : signature_of l.serves (context_of l.ctx) (type_of l.ty) ≡ Some (type_of l.left);
      apart : l.fails < l.serves;
      within : l.serves ≤ length l.ctx;
    }

abbrev pub decreases-loop-serves : goal.decreases-loop-serves
decreases-loop-serves l = l.serves - l.fails

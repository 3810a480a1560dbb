use Rattle.std.proofs.Common.{refl, Some, ap}
use Rattle.cc_capture.specs.declared.var.Var.TheVariants.{Bound, Free}
use Rattle.cc_capture.specs.declared.var.Elem.TheVariants.{Var as Variable}
use Rattle.cc_core.specs.Terms.{Unboxing}
use Rattle.cc_core.specs.Substitution.{single, moved_element}
use Rattle.cc_core.proofs.Moving.{flat_image-of_single}
use Rattle.cc_machine.specs.Environments.{follow}
use Rattle.cc_machine.specs.ExampleEnvironments.{nodes}
use Rattle.cc_machine.specs.Putting.{put_environment}
use Rattle.cc_machine.proofs.example_environments.worked_environments.Goals as goal

pub returns-clause-shared : goal.returns-clause-shared
returns-clause-shared c = (refl, refl, refl, refl, refl, refl, refl, refl)

pub returns-clause-terms : goal.returns-clause-terms
returns-clause-terms c = (refl, refl, refl)

pub returns-clause-sets : goal.returns-clause-sets
returns-clause-sets c =
    ap (λ set. Unboxing (Some set) (Free 7))
    (flat_image-of_single (λ e. single (moved_element (put_environment (follow nodes 3) 0) e)) (Variable (Bound 0)))

use Rattle.std.proofs.Common.{refl}
use Rattle.cc_capture.specs.declared.var.Var.TheVariants.{Free}
use Rattle.cc_core.proofs.Levels.{free_term-level, free_type-level, freely-still}
use Rattle.cc_core.proofs.Renaming.{IsFree-freely, Sends-freely}
use Rattle.cc_core.specs.Substitution.{freely}
use Rattle.cc_core.proofs.Sorts.{TermSort, TypeSort}
use Rattle.cc_core.proofs.FreeActions.{free-putting, free-putting_shape}
use Rattle.cc_core.proofs.BodyOpenings.{fresh_body, opened_body}
use Rattle.cc_core.proofs.FreshOpenings.{fresh_opening, fresh_shape}
use Rattle.cc_core.proofs.term_laws.actions_on_free_positions.Goals as goal

pub returns : goal.returns
returns c =
    record {
      opening_types = λ to shapes q x closed e. free-putting (freely to shapes) (IsFree-freely to shapes closed) (Free q) (Free (to q)) (Sends-freely to shapes q e) TypeSort 0 x;
      opening_terms = λ to shapes q x closed e. free-putting (freely to shapes) (IsFree-freely to shapes closed) (Free q) (Free (to q)) (Sends-freely to shapes q e) TermSort 0 x;
      putting_shape_types = λ to shapes by x closed. free-putting_shape (freely to shapes) (IsFree-freely to shapes closed) by TypeSort 0 x;
      putting_shape_terms = λ to shapes by x closed. free-putting_shape (freely to shapes) (IsFree-freely to shapes closed) by TermSort 0 x;
      opening_bodies_types = λ to shapes q x closed m. opened_body q to shapes closed TypeSort 0 x m;
      opening_bodies_terms = λ to shapes q x closed m. opened_body q to shapes closed TermSort 0 x m;
      fresh_bodies_types = λ to other shapes others n x closed same same_shapes m. fresh_body n (other n) to other shapes others refl closed same same_shapes TypeSort 0 x m;
      fresh_bodies_terms = λ to other shapes others n x closed same same_shapes m. fresh_body n (other n) to other shapes others refl closed same same_shapes TermSort 0 x m;
      fresh_types = λ to shapes n q x closed m. fresh_opening n q to shapes closed TypeSort 0 x m;
      fresh_terms = λ to shapes n q x closed m. fresh_opening n q to shapes closed TermSort 0 x m;
      fresh_shape_types = λ to other shapes n by x closed same m. fresh_shape n by to other shapes same closed TypeSort 0 x m;
      fresh_shape_terms = λ to other shapes n by x closed same m. fresh_shape n by to other shapes same closed TermSort 0 x m;
      levels_types = λ to shapes d e x closed. free_type-level (freely to shapes) (IsFree-freely to shapes closed) d e x;
      levels_terms = λ to shapes d e x closed. free_term-level (freely to shapes) (IsFree-freely to shapes closed) d e x;
      idle_types = freely-still TypeSort 0;
      idle_terms = freely-still TermSort 0;
    }

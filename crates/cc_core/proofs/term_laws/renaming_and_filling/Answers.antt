use Rattle.cc_capture.specs.declared.var.Var.TheVariants.{Free}
use Rattle.cc_core.proofs.Levels.{free_term-level, free_type-level}
use Rattle.cc_core.proofs.Renaming.{IsFree-filling_in, Sends-filling_in, IsFree-renaming, Sends-renaming, renaming-renaming}
use Rattle.cc_core.specs.Substitution.{filling_in, renaming}
use Rattle.cc_core.proofs.Sorts.{TermSort, TypeSort}
use Rattle.cc_core.proofs.FreeActions.{free-putting, free-putting_shape}
use Rattle.cc_core.proofs.term_laws.renaming_and_filling.Goals as goal

pub returns : goal.returns
returns c =
    record {
      filled_levels_types = λ filling d e x closed. free_type-level (filling_in filling) (IsFree-filling_in filling closed) d e x;
      filled_levels_terms = λ filling d e x closed. free_term-level (filling_in filling) (IsFree-filling_in filling closed) d e x;
      renamed_types = λ f g x. renaming-renaming TypeSort f g 0 x;
      renamed_terms = λ f g x. renaming-renaming TermSort f g 0 x;
      renamed_openings_types = λ to q x. free-putting (renaming to) (IsFree-renaming to) (Free q) (Free (to q)) (Sends-renaming to q) TypeSort 0 x;
      renamed_openings_terms = λ to q x. free-putting (renaming to) (IsFree-renaming to) (Free q) (Free (to q)) (Sends-renaming to q) TermSort 0 x;
      filled_openings_types = λ filling q x closed. free-putting (filling_in filling) (IsFree-filling_in filling closed) (Free q) (Free q) (Sends-filling_in filling (Free q)) TypeSort 0 x;
      filled_openings_terms = λ filling q x closed. free-putting (filling_in filling) (IsFree-filling_in filling closed) (Free q) (Free q) (Sends-filling_in filling (Free q)) TermSort 0 x;
      filled_shapes_types = λ filling by x closed. free-putting_shape (filling_in filling) (IsFree-filling_in filling closed) by TypeSort 0 x;
      filled_shapes_terms = λ filling by x closed. free-putting_shape (filling_in filling) (IsFree-filling_in filling closed) by TermSort 0 x;
    }

use Rattle.cc_core.proofs.Sorts.{TermSort, TypeSort}
use Rattle.cc_core.proofs.WellFormedness.{acted-well_formed, body-bound_within, body-no_outermost_type, body-positions_below, body-under_term_binder, body-under_type_binder, closed-well_formed, filled-well_formed, more-well_formed, opened-well_formed, put-well_formed, put_shape-well_formed, renamed-well_formed, unopened-well_formed, well_formed-bound_within, well_formed-positions_below}
use Rattle.cc_core.proofs.term_laws.well_formedness.Goals as goal

pub returns : goal.returns
returns c =
    record {
      opened_types = opened-well_formed TypeSort;
      opened_terms = opened-well_formed TermSort;
      closed_types = closed-well_formed TypeSort;
      closed_terms = closed-well_formed TermSort;
      unopened_types = unopened-well_formed TypeSort;
      unopened_terms = unopened-well_formed TermSort;
      put_types = put-well_formed TypeSort;
      put_terms = put-well_formed TermSort;
      put_shape_types = put_shape-well_formed TypeSort;
      put_shape_terms = put_shape-well_formed TermSort;
      renamed_types = renamed-well_formed TypeSort;
      renamed_terms = renamed-well_formed TermSort;
      acted_types = acted-well_formed TypeSort;
      acted_terms = acted-well_formed TermSort;
      filled_types = filled-well_formed TypeSort;
      filled_terms = filled-well_formed TermSort;
      more_types = more-well_formed TypeSort;
      more_terms = more-well_formed TermSort;
      positions_types = λ g x h. (well_formed-positions_below TypeSort g x h, well_formed-bound_within TypeSort g x h);
      positions_terms = λ g x h. (well_formed-positions_below TermSort g x h, well_formed-bound_within TermSort g x h);
      bodies_types = λ g k x h. (body-positions_below TypeSort g k x h, body-bound_within TypeSort g k x h);
      bodies_terms = λ g k x h. (body-positions_below TermSort g k x h, body-bound_within TermSort g k x h);
      term_bodies_types = λ g x h. (body-under_term_binder TypeSort g x h, body-no_outermost_type TypeSort g x h);
      term_bodies_terms = λ g x h. (body-under_term_binder TermSort g x h, body-no_outermost_type TermSort g x h);
      type_bodies_types = body-under_type_binder TypeSort;
      type_bodies_terms = body-under_type_binder TermSort;
    }

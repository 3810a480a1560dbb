use Rattle.cc_capture.specs.ElementOrder.{element_order-total, element_order-is_Equal, element_order-Free}
use Rattle.cc_capture.specs.ElementOrder.{element_order-Bound, element_order-Hole, element_order-Free-Bound}
use Rattle.cc_capture.specs.ElementOrder.{element_order-Bound-Cap, element_order-Cap-Hole}
use Rattle.cc_capture.proofs.set_laws.order_of_elements.Goals as goal

pub returns : goal.returns
returns c =
    record {
      total = element_order-total;
      equal = element_order-is_Equal;
      free_variables = element_order-Free;
      bound_variables = element_order-Bound;
      holes = element_order-Hole;
      free_before_bound = element_order-Free-Bound;
      bound_before_cap = element_order-Bound-Cap;
      cap_before_holes = element_order-Cap-Hole;
    }

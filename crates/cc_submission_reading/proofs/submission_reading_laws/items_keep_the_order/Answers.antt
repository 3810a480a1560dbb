use Rattle.cc_submission_reading.proofs.FoundItems.{nothing_in_order, in_order}
use Rattle.cc_submission_reading.proofs.submission_reading_laws.items_keep_the_order.Goals as goal

pub returns : goal.returns
returns c = record { nothing = nothing_in_order; more = in_order }

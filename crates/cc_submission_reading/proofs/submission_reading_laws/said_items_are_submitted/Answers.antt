use Rattle.cc_submission_reading.proofs.SaidItems.{said_items, submitted_items}
use Rattle.cc_submission_reading.proofs.submission_reading_laws.said_items_are_submitted.Goals as goal

pub returns : goal.returns
returns c = record {
  items = said_items;
  said = submitted_items;
}

use Rattle.cc_typing_laws.proofs.TypedTerms.{printer_has_its_set}
use Rattle.cc_typing_laws.proofs.UntypedTerms.{printer_is_not_pure}
use Rattle.cc_typing_laws.proofs.typing_examples.printers_have_their_set.Goals as goal

pub returns : goal.returns
returns c =
    record {
      with_its_set = printer_has_its_set;
      not_pure = printer_is_not_pure;
    }

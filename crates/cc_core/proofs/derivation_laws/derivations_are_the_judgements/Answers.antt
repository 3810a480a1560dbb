use Rattle.cc_core.proofs.DerivationComparisons.{set_derivations, shape_derivations, type_derivations}
use Rattle.cc_core.proofs.DerivationTypings.{typing_derivations, type_has_derivations}
use Rattle.cc_core.proofs.derivation_laws.derivations_are_the_judgements.Goals as goal

pub returns : goal.returns
returns c =
    record {
      subcapturing = set_derivations;
      subtyping = shape_derivations;
      type_subtyping = type_derivations;
      typing = typing_derivations;
      types = type_has_derivations;
    }

use Rattle.std.specs.Prelude.{[]}
use Rattle.cc_core.specs.WellFormed.{kinds_of}
use Rattle.cc_core.proofs.KindFacts.{IsKinded-from, IsKindedType-from}
use Rattle.cc_core.proofs.SubcapturingContexts.{IsKindedEntry-from, IsKindedContext-from}
use Rattle.cc_typing_laws.proofs.ContextMapping.{map_under, mapped_subcaptures, mapped_subtypes}
use Rattle.cc_typing_laws.proofs.ContextMapInstances.{entries_map}
use Rattle.cc_typing_laws.proofs.context_map_laws.maps_keep_subtyping.Goals as goal

pub returns : goal.returns
returns c =
    record {
      subcapturing = mapped_subcaptures;
      subtyping = λ source target to shapes map formed left right l r.
          mapped_subtypes source target to shapes map (IsKindedContext-from source formed) left right (IsKinded-from (kinds_of source) [] left l) (IsKinded-from (kinds_of source) [] right r);
      types = λ source target to shapes map formed left right l r below.
          let kinds = kinds_of source in
          let l' = IsKindedType-from kinds [] left l in
          let r' = IsKindedType-from kinds [] right r in (
            mapped_subcaptures source target to shapes map left.set right.set below.0,
            mapped_subtypes source target to shapes map (IsKindedContext-from source formed) left.shape right.shape l'.0 r'.0 below.1,
          );
      under_binders = λ source target to shapes map entry formed kinded.
          map_under source target to shapes map entry (IsKindedContext-from source formed) (IsKindedEntry-from (kinds_of source) entry kinded);
      entries = λ source target to shapes formed formed'.
          entries_map source target to shapes (IsKindedContext-from source formed) (IsKindedContext-from target formed');
    }

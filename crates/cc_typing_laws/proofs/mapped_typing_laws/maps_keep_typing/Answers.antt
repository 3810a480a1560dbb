use Rattle.cc_typing_laws.proofs.MappedTyping.{typing_along_maps, typing_renames}
use Rattle.cc_typing_laws.proofs.mapped_typing_laws.maps_keep_typing.Goals as goal

pub returns : goal.returns
returns c =
    record {
      maps = typing_along_maps;
      renames = typing_renames;
    }

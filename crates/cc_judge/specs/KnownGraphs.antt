-- The modules that an import graph was made of. It serves the code alone.
use Rattle.std.specs.Prelude.{List, map}
use Rattle.cc_graph.specs.Graph.{ImportMap}
use Rattle.cc_judge.specs.declared.importing.Importing.{Importing}

-- the modules, each with the names of the modules that it imports from
abbrev pub entries_of : List Importing → ImportMap
entries_of modules = map (λ one. (one.name, one.sources.items)) modules

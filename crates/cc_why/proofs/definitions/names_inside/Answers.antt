use Rattle.std.proofs.Common.{List, ◌++◌, map, take, ap, ◌∙◌}
use Rattle.cc_mnf.specs.CoreModules.{definition_of}
use Rattle.cc_mnf.specs.ElaboratedModules.{CoreDefinition, import_names, device_names}
use Rattle.cc_mnf.specs.Scopes.{Name}
use Rattle.cc_parse.specs.Trees.{import_syntax}
use Rattle.cc_why.proofs.InsideNames.{inside_joined}
use Rattle.cc_why.proofs.definitions.names_inside.Goals as goal

pub returns : goal.returns
returns c =
    let imports : List Name = import_names (map import_syntax c.args.imports.now) in
    let front : List Name = map (λ (one : CoreDefinition). one.name) (map definition_of (take c.min-end.result c.args.defs.now)) in
    inside_joined (device_names c.args.devices.now ++ imports) c.put_definitions.new.names.items c.put_own.new.names.items c.args.defs.now c.args.before
    c.min-end.result c.min-end.ensures
    (c.in_ok-put_definitions.ensures
    ∙ ap (λ names. names ++ front)
    (c.in_ok-put_imports.ensures ∙ ap (λ names. names ++ imports) c.in_ok-names.ensures.names))
    c.in_ok-put_own.ensures

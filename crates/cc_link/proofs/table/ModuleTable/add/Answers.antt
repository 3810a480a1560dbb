use Rattle.std.proofs.Common.{Some, ap, ◌∙◌}
use Rattle.std.specs.BTreeMap.{get}
use Rattle.std.specs.Str.{bytes_eq}
use Rattle.cc_base.specs.Names.{compare_names}
use Rattle.cc_module.proofs.PlacedNames.{given_name}
use Rattle.cc_link.specs.Tables.{position_found}
use Rattle.cc_link.proofs.EnteredNames.{found_either}
use Rattle.cc_link.proofs.table.ModuleTable.add.Goals as goal

pub returns : goal.returns
returns c = λ module_name other.
    let old = c.args.self.now.modules in
    ap (λ found. position_found found other)
    (given_name old c.insert.new.self c.in_ok-copy.copy c.args.name.now (Some c.args.definitions) c.in_ok-copy.ensures.cases
    c.in_ok-insert.ensures.updates module_name)
    ∙ found_either (bytes_eq c.args.name.now module_name) c.args.definitions (get compare_names old module_name) other

use Rattle.std.proofs.Common.{Some, ap, ◌∙◌}
use Rattle.std.specs.BTreeMap.{get}
use Rattle.std.specs.Option.{option_map}
use Rattle.std.specs.Str.{bytes_eq}
use Rattle.cc_base.specs.Names.{compare_names}
use Rattle.cc_core.specs.TermViews.{type_of}
use Rattle.cc_module_vouching.proofs.KeptAnswers.{signature_either}
use Rattle.cc_module_vouching.proofs.PlacedNames.{given_name}
use Rattle.cc_module_vouching.proofs.answered.Signatures.put.Goals as goal

pub returns : goal.returns
returns c = λ other.
    let old = c.args.self.now.types in
    ap (option_map type_of)
    (given_name old c.insert.new.self c.in_ok-copy.copy c.args.name.now (Some c.in_ok-ty.ty) c.in_ok-copy.ensures.cases
    c.in_ok-insert.ensures.updates other)
    ∙ signature_either (bytes_eq c.args.name.now other) c.in_ok-ty.ty (type_of c.args.sig.now)
    (get compare_names old other) c.in_ok-ty.ensures

use Rattle.cc_core.specs.TermViews.{type_of}
use Rattle.cc_parse.specs.Trees.{import_syntax}
use Rattle.cc_module_vouching.proofs.KnownBinds.{import_added}
use Rattle.cc_module_vouching.proofs.known.add_import.Goals as goal

pub returns-in_ok-add_bind-in-Ok : goal.returns-in_ok-add_bind-in-Ok
returns-in_ok-add_bind-in-Ok c =
    import_added c.args.modules.now (import_syntax c.args.import.now) c.args.known.now.items c.add_bind.new.known.items
    (type_of c.in-Ok.ty.now) c.in-Ok.ensures.ok c.in_ok-add_bind-in-Ok.ensures

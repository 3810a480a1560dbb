use Rattle.cc_parse.specs.Trees.{defs_syntax}
use Rattle.cc_parse.proofs.ModuleLoops.{defs-empty, defs-left}
use Rattle.cc_parse.proofs.parser.end_of_defs.Goals as goal

pub returns-in-empty : goal.returns-in-empty
returns-in-empty c = defs-empty (defs_syntax c.args.defs) c.args.left.now c.in-empty.len_below

pub returns-in-len1-up : goal.returns-in-len1-up
returns-in-len1-up c = defs-left (defs_syntax c.args.defs) c.args.left.now c.in-len1-up.len_at_least

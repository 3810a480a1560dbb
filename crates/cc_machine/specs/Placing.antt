-- Terms and variables of the program, where they stand for those of a configuration.
use Rattle.std.specs.Prelude.{ℕ}
use Rattle.cc_capture.specs.declared.var.Var.{Var}
use Rattle.cc_core.specs.declared.terms.Node.{Node}
use Rattle.cc_core.specs.Terms.{Term}
use Rattle.cc_core.specs.TermViews.{term_of}
use Rattle.cc_machine.specs.declared.parts.Parts.{Parts}
use Rattle.cc_machine.specs.Environments.{follow}
use Rattle.cc_machine.specs.Putting.{put_all, put_body, resolved}

-- the variable, in an environment of the parts
abbrev pub variable_in : Parts → ℕ → Var → Var
variable_in parts environment variable = resolved (follow parts.links.items environment) variable

-- the term of the node
abbrev pub term_in : Parts → ℕ → Node → Term
term_in parts environment node = put_all (follow parts.links.items environment) (term_of node)

-- the body at the node, whose own binder stays
abbrev pub body_in : Parts → ℕ → Node → Term
body_in parts environment node = put_body (follow parts.links.items environment) (term_of node)

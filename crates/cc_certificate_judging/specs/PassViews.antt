-- What the values of the passes stand for.
use Rattle.std.specs.Prelude.{List}
use Rattle.cc_core.specs.declared.context.Bind.{Bind}
use Rattle.cc_core.specs.TermViews.{context_of}
use Rattle.cc_core.specs.WellFormed.{Kind, TermKind, TypeKind, kinds_of}
use Rattle.cc_derivation.specs.DerivationViews.{rule_of, claim_of}
use Rattle.cc_certificate_judging.specs.Passes.{PlainReadNode}
use Rattle.cc_certificate_judging.specs.declared.passes.ReadNode.{ReadNode}
use Rattle.cc_certificate_judging.specs.declared.places.Binder.{Binder}
use Rattle.cc_certificate_judging.specs.declared.places.Binder.TheVariants as binders

-- the kind of what the binder names
abbrev pub kind_of_binder : Binder → Kind
kind_of_binder binders.Term = TermKind
kind_of_binder binders.«Type» = TypeKind

-- the kinds of the entries in scope
abbrev pub kinds_in : List Bind → List Kind
kinds_in entries = kinds_of (context_of entries)

-- the node
abbrev pub plain_read : ReadNode → PlainReadNode
plain_read node = record { rule = rule_of node.rule; count = node.count; claim = claim_of node.claim }

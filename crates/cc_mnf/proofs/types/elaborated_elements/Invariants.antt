use Rattle.std.proofs.Common.{◌≡◌, drop}
use Rattle.cc_mnf.specs.ElaboratedTypes.{with_elements, elaborated_elements}
use Rattle.cc_mnf.specs.ScopeViews.{scope_of}
use Rattle.cc_mnf.proofs.types.elaborated_elements.Given as goal
use Rattle.cc_parse.specs.Trees.{elements_syntax}

-- the elements that are left, put into the set, are those of the whole
abbrev pub invariant-loop-element : goal.invariant-loop-element
invariant-loop-element l =
    with_elements (scope_of l.scope) l.set (elements_syntax (drop l.element-index l.elements))
    ≡ elaborated_elements (scope_of l.scope) (elements_syntax l.elements)

-- Environments: what the binders around a term stand for.
use Rattle.std.specs.Prelude.{ℕ, zero, suc, List, Option, Some, None, slice_get}
use Rattle.cc_machine.specs.declared.links.Link.{Link}

-- The store position that each index stands for. The innermost binder has the index 0. A binder of types stands for
-- none, and an index past all binders neither.
abbrev pub Environment : Type 0
Environment = ℕ → Option ℕ

-- the environment with one binder more, the innermost
abbrev pub extended : Option ℕ → Environment → Environment
extended position environment zero = position
extended position environment (suc index) = environment index

-- the position of a node, and which environment stands before it; the node that is not there has neither
abbrev pub link_position : Option Link → Option ℕ
link_position (Some link) = link.position
link_position None = None

abbrev pub link_before : Option Link → ℕ
link_before (Some link) = link.before
link_before None = 0

-- The environment of a number, in a list of nodes: 0 is the empty one, and each other number is that of a node, counted
-- from 1, which is the innermost binder. The others are those of the environment before it.
abbrev pub follow : List Link → ℕ → Environment
follow links zero index = None
follow links (suc at) zero = link_position (slice_get links at)
follow links (suc at) (suc index) = follow links (link_before (slice_get links at)) index

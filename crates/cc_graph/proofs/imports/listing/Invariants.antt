use Rattle.std.proofs.Common.{◌≡◌, ℕ, ◌<◌, true, not, length, reverse}
use Rattle.cc_graph.specs.Graph.{are_in_order, is_listed}
use Rattle.cc_graph.specs.Places.{has_bit, width_for, name_at}
use Rattle.cc_graph.proofs.Ranks.{how_many}
use Rattle.cc_graph.proofs.imports.listing.Given as goal

abbrev pub invariant-loop-place : goal.invariant-loop-place
invariant-loop-place l =
    record {
      width : length l.listed ≡ width_for (length l.modules);
      steps : are_in_order l.modules (reverse l.names.items) ≡ true;
      bits : (place : ℕ) → place < length l.modules → has_bit l.listed place ≡ is_listed (reverse l.names.items)
          (name_at l.modules place);
    }

abbrev pub decreases-loop-place : goal.decreases-loop-place
decreases-loop-place l = how_many (λ place. not (has_bit l.listed place)) (length l.modules)

use Rattle.std.proofs.Common.{◌≡◌, ℕ, ◌<◌, nat_eq, true, false, not, ◌||◌, List, [], ◌∷◌, ◌++◌, length, reverse, ap}
use Rattle.std.proofs.Common.{◌∙◌, sym, subst, refl, arith, eq-eqb}
use Rattle.std.proofs.lemmas.Bool.{and_from, or_left, or_parts, not-true, not_from_true, not_from_false}
use Rattle.std.proofs.lemmas.List.{get_or_default, reverse-append}
use Rattle.std.specs.Map.{keys_of}
use Rattle.std.specs.Str.{bytes_eq}
use Rattle.cc_graph.proofs.NameLemmas.{names_apart}
use Rattle.cc_graph.proofs.OrderLemmas.{next_at, whole_at, whole_turned}
use Rattle.cc_graph.proofs.Ranks.{fewer}
use Rattle.cc_graph.specs.Graph.{is_listed, are_in_order}
use Rattle.cc_graph.specs.Places.{has_bit, name_at}
use Rattle.cc_graph.proofs.imports.listing.Goals as goal

pub loop-place-smaller : goal.loop-place-smaller
loop-place-smaller c =
    let found = c.in-Some.ensures in
    fewer (λ k. not (has_bit c.put.new.self k)) (λ k. not (has_bit c.loop-place.listed k))
    (length c.args.modules.now) c.in-Some.place
    (omega (arith, found.0, c.requires.count))
    (not_from_true _ (c.put.ensures.bits c.in-Some.place ∙ or_left _ _ (eq-eqb c.in-Some.place c.in-Some.place refl)))
    (not_from_false _ found.1.0)
    (λ k below still.
    let gone : has_bit c.put.new.self k ≡ false = not-true _ still in
    not_from_false _ (or_parts (nat_eq k c.in-Some.place) (has_bit c.loop-place.listed k) (sym
    (c.put.ensures.bits k) ∙ gone)).1)

pub loop-place-preserved : goal.loop-place-preserved
loop-place-preserved c =
    let found = c.in-Some.ensures in
    let kept = c.loop-place.invariant in
    let place : ℕ = c.in-Some.place in
    let within : place < length c.args.modules.now = omega (arith, found.0, c.requires.count) in
    let is_name : c.in_ok-name.name ≡ name_at c.args.modules.now place =
    c.in_ok-name.ensures.cases ∙ ap (λ m. m.0) (get_or_default c.args.modules.now place c.index-modules-place.result
    ([], []) within) in
    let items : c.push.new.self.items ≡ c.loop-place.names.items ++ c.in_ok-name.name ∷ [] =
    c.in_ok-push.ensures.items in
    let turned : reverse c.push.new.self.items ≡ name_at c.args.modules.now place ∷ reverse c.loop-place.names.items =
    ap reverse items ∙ reverse-append c.loop-place.names.items (c.in_ok-name.name ∷ [])
    ∙ ap (λ name. name ∷ reverse c.loop-place.names.items) is_name in
    let InOrder : List (List ℕ) → Type 0 = λ names. are_in_order c.args.modules.now names ≡ true in
    record {
      width = c.put.ensures.width ∙ kept.width;
      steps =
          subst InOrder (sym turned)
          (and_from _ _
          (next_at c.args.modules.now c.args.held.now c.requires
          (reverse c.loop-place.names.items) c.loop-place.listed kept.bits place within found.1 found.2)
          kept.steps);
      bits = λ k below.
          c.put.ensures.bits k
          ∙ ap (λ b. b || has_bit c.loop-place.listed k) (sym
          (names_apart c.args.modules.now c.requires.map k place below within))
          ∙ ap (λ b. bytes_eq (name_at c.args.modules.now k) (name_at c.args.modules.now place) || b)
          (kept.bits k below)
          ∙ ap (λ names. is_listed names (name_at c.args.modules.now k)) (sym turned);
    }

pub returns : goal.returns
returns c =
    let kept = c.loop-place.invariant in
    record {
      steps = kept.steps;
      whole =
          whole_turned c.loop-place.names.items (keys_of c.args.modules.now)
          (whole_at c.args.modules.now c.args.held.now c.requires
          (reverse c.loop-place.names.items) c.loop-place.listed kept.bits c.in_default.ensures);
    }
